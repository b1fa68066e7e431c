-- Machines whose limits a tape has room for.
use Rattle.std.specs.Prelude.{◌≤◌, IfSome}
use Rattle.apt_machine.specs.declared.machine.Machine.{Machine}
use Rattle.apt_machine.specs.declared.draft.Draft.{Draft}

-- limits of at least one, and at most what a tape has digits for
pub record IsMachine (m : Machine) : Type 0 where
  pub seq : m.seq ≤ 999
  pub feed : m.feedmax ≤ 9999
  pub spindle : m.spinmax ≤ 9999
  pub tool : m.toolmax ≤ 99
  pub least_feed : 1 ≤ m.feedmax
  pub least_spindle : 1 ≤ m.spinmax
  pub least_tool : 1 ≤ m.toolmax

-- what is said so far is within the same limits
pub record IsDraft (d : Draft) : Type 0 where
  pub seq : IfSome d.seq (λ n. n ≤ 999)
  pub feed : IfSome d.feedmax (λ n. n ≤ 9999)
  pub spindle : IfSome d.spinmax (λ n. n ≤ 9999)
  pub tool : IfSome d.toolmax (λ n. n ≤ 99)
  pub least_feed : IfSome d.feedmax (λ n. 1 ≤ n)
  pub least_spindle : IfSome d.spinmax (λ n. 1 ≤ n)
  pub least_tool : IfSome d.toolmax (λ n. 1 ≤ n)
