-- What refuses a step: an ordered list of conditions, each with its case.
use Rattle.std.specs.Prelude.{◌≡◌, Bool, false, List, [], ◌∷◌, Option, Some, None, Result, Ok, Err, if◌then◌else◌}
use Rattle.apt_words.specs.declared.Case.{Case}

abbrev pub Row : Type 0
Row = Bool × Case

-- the case of the first condition that holds
abbrev pub first_of : List Row → Option Case
first_of [] = None
first_of (row ∷ rows) = if row.0 then Some row.1 else first_of rows

-- no condition holds
abbrev pub NoneHolds : List Row → Type 0
NoneHolds [] = Unit {0}
NoneHolds (row ∷ rows) = (row.0 ≡ false) × NoneHolds rows

abbrev pub unless_case : {A : Type 0} → Option Case → A → Result A Case
unless_case (Some case) x = Err case
unless_case None x = Ok x

-- a value, unless a condition holds
abbrev pub unless : {A : Type 0} → List Row → A → Result A Case
unless rows x = unless_case (first_of rows) x
