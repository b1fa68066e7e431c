-- The acts of a tape beside the plan of records on a machine, while the tape is read.
use Rattle.std.specs.Prelude.{◌≡◌, ◌+◌, List, length, None}
use Rattle.apt_circular.specs.declared.ArcAct.{ArcAct}
use Rattle.apt_tape.specs.Tapes.{acts_on}
use Rattle.apt_circular.specs.Plans.{left_of}
use Rattle.apt_tape.specs.Differences.{AreBeside}
use Rattle.apt_tape.specs.declared.comparison.Comparison.{Comparison}

-- acts that are compared with the plan of the records with which a comparison began, and the number of the next act
pub record AreCompared (begun now : Comparison) (acts : List ArcAct) : Type 0 where
  pub same : now.records.now ≡ begun.records.now
  pub still : now.machine.now ≡ begun.machine.now
  pub beside : AreBeside (acts_on begun.machine.now begun.records.now) (left_of now.left) now.first acts
  pub next : now.first ≡ None → now.next ≡ length acts + 1
