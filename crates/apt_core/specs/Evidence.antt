-- What `certify` has read of a machine table, a CL file and a tape.
use Rattle.std.specs.Prelude.{◌≡◌, ℕ, ◌+◌, ◌<◌, ◌^◌, List, length, Option, Result, Ok, Err, IfOk, MatchResult}
use Rattle.std.proofs.Common.{Vec}
use Rattle.apt_records.specs.declared.record.Record.{Record}
use Rattle.apt_cldata.specs.Reading.{read_of}
use Rattle.apt_machine.specs.declared.machine.Machine.{Machine}
use Rattle.apt_machine.specs.Machines.{IsMachine}
use Rattle.apt_machine.specs.Tables.{table_of}
use Rattle.apt_records.specs.Ranges.{AreRecords, vertex_count}
use Rattle.apt_circular.specs.declared.ArcAct.{ArcAct}
use Rattle.apt_tape.specs.Tapes.{acts_on, run_on}
use Rattle.apt_report.specs.declared.status.Status.{Status}
use Rattle.apt_tape.specs.Differences.{IsDifference}
use Rattle.apt_core.specs.Due.{ComesToNone, machine_due, records_due, acts_due}
use Rattle.apt_core.specs.declared.evidence.Evidence.{Evidence}

-- where the acts of a tape first differ from the plan of the records, or the answer to its fault; nothing is said where there is no machine, or no records
abbrev pub DiffersOn : {A : Type 0} → Result Machine Status → Result (Vec Record A) Status → List ℕ → Result (Option ℕ) Status → Type 0
DiffersOn (Ok machine) (Ok records) tape difference =
    MatchResult difference (λ at. (acts : List ArcAct) × IsDifference (acts_on machine records.items) at acts × (run_on machine tape ≡ Ok acts)) (ComesToNone (acts_due machine tape))
DiffersOn (Ok machine) (Err answer) tape difference = Unit {0}
DiffersOn (Err answer) records tape difference = Unit {0}

-- a machine and records that can be judged by
pub record IsInRange (e : Evidence) : Type 0 where
  pub machine : IfOk e.machine IsMachine
  pub records : IfOk e.records (λ r. AreRecords r.items × (vertex_count r.items + length r.items < 2 ^ 62))

-- what came of the bytes of a table, of a CL file and of a tape
pub record IsEvidence (table cl tape : List ℕ) (e : Evidence) : Type 0 where
  pub machine : MatchResult e.machine (λ m. table_of table ≡ Ok m) (λ answer. machine_due table ≡ Err answer)
  pub records : MatchResult e.records (λ r. read_of cl ≡ Ok r.items) (ComesToNone (records_due cl))
  pub difference : DiffersOn e.machine e.records tape e.difference
