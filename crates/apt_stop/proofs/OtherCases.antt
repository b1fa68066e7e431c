-- A case that no row has is not answered.
use Rattle.std.specs.Prelude.{Option, Some, if◌then◌else◌}
use Rattle.std.proofs.Common.{◌≢◌, Bool, true, false, List, [], ◌∷◌, ◌++◌}
use Rattle.apt_words.specs.declared.Case.{Case}
use Rattle.apt_words.specs.Rows.{Row, first_of}

abbrev pub AreOthers : Case → List Row → Type 0
AreOthers case [] = Unit {0}
AreOthers case (row ∷ rows) = (row.1 ≢ case) × AreOthers case rows

by_row : (b : Bool) (other case : Case) (rest : Option Case) → other ≢ case → rest ≢ Some case → (if b then Some other else rest) ≢ Some case
by_row true other case rest others never e = others cc
by_row false other case rest others never e = never e

pub never_first : (case : Case) (rows : List Row) → AreOthers case rows → first_of rows ≢ Some case
never_first case [] are e = absurd cc
never_first case (row ∷ rows) are e = by_row row.0 row.1 case (first_of rows) are.0 (never_first case rows are.1) e

pub both_others : (case : Case) (rows more : List Row) → AreOthers case rows → AreOthers case more → AreOthers case (rows ++ more)
both_others case [] more are later = later
both_others case (row ∷ rows) more are later = (are.0, both_others case rows more are.1 later)
