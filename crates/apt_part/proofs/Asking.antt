-- On each machine notes and points ask for what they ask for on any, and statements for nothing.
use Rattle.std.proofs.Common.{◌≡◌, ◌∷◌, [], List, ℕ, Bool, true, false, refl, map, if◌then◌else◌}
use Rattle.apt_records.specs.declared.record.Note.{Note}
use Rattle.apt_records.specs.declared.record.Position.{Position}
use Rattle.apt_records.specs.declared.record.Reach.{Reach}
use Rattle.apt_records.specs.declared.record.Record.{Record}
use Rattle.apt_records.specs.declared.record.Record.TheVariants as records
use Rattle.apt_machine.specs.declared.machine.Machine.{Machine}
use Rattle.apt_post.specs.Said.{record_said}
use Rattle.apt_circular.specs.ArcsSaid.{circle_by, arcs_by}
use Rattle.apt_circular.specs.declared.ArcAct.{ArcAct}
use Rattle.apt_circular.specs.declared.ArcAct.TheVariants.{Plain}
use Rattle.apt_pattern.specs.Holes.{AsksPlainly}
use Rattle.apt_circular.specs.Plans.{plainly}
use Rattle.apt_tape.specs.Tapes.{asked_on}

-- a record that is no contour asks for the same on both
asks_alike : (t : Bool) (before : List Record) (r : Record) → arcs_by before r (circle_by before) ≡ plainly (record_said before r)
    → (if t then arcs_by before r (circle_by before) else plainly (record_said before r)) ≡ plainly (record_said before r)
asks_alike true before r same = same
asks_alike false before r same = refl

pub asks_plainly : (m : Machine) → AsksPlainly (asked_on m) Plain
asks_plainly m = record {
  statement = λ before line step. asks_alike m.circles before (records.Statement line step) refl;
  note = λ before note. asks_alike m.circles before (records.Note note) refl;
  point = λ before reach to. asks_alike m.circles before (records.Point reach to) refl;
}
