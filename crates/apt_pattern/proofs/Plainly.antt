-- On a machine without arcs records ask plainly.
use Rattle.std.proofs.Common.{◌≡◌, List, [], ◌∷◌, map, refl, sym, ap}
use Rattle.apt_records.specs.declared.record.Record.TheVariants as records
use Rattle.apt_control.specs.declared.Act.{Act}
use Rattle.apt_post.specs.Said.{record_said}
use Rattle.apt_pattern.specs.Holes.{AsksPlainly}

same_acts : (acts : List Act) → map (λ act. act) acts ≡ acts
same_acts [] = refl
same_acts (act ∷ acts) = ap (λ more. act ∷ more) (same_acts acts)

pub asks_plainly : AsksPlainly record_said (λ act. act)
asks_plainly = record {
  statement = λ before line step. refl;
  note = λ before note. sym (same_acts (record_said before (records.Note note)));
  point = λ before reach to. sym (same_acts (record_said before (records.Point reach to)));
}
