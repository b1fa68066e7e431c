-- What takes in a file piece by piece.
use Rattle.std.specs.Prelude.{ℕ, Result, Ok, Err}

-- how many bytes are counted, where nothing was refused
abbrev pub count_in : {A E : Type 0} → (A → ℕ) → Result A E → ℕ
count_in count (Ok x) = count x
count_in count (Err error) = 0
