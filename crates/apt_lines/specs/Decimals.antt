-- Numbers with decimals, and texts right in a number of places.
use Rattle.std.specs.Prelude.{ℕ, suc, ◌-◌, ◌/◌, ◌^◌, ℤ, pos, negsuc, List, ◌++◌, length, replicate, codes}
use Rattle.std.specs.Fmt.{decimal}
use Rattle.apt_block.specs.Block.{digits}

-- a number whose last digits stand behind a point
abbrev pub pointed : ℕ → ℕ → List ℕ
pointed decimals n = decimal (n / 10 ^ decimals) ++ (codes "." ++ digits decimals n)

abbrev pub signed_pointed : ℕ → ℤ → List ℕ
signed_pointed decimals (pos n) = pointed decimals n
signed_pointed decimals (negsuc n) = codes "-" ++ pointed decimals (suc n)

abbrev pub blanks : ℕ → List ℕ
blanks n = replicate n 32

-- a text at the right end of so many places; a longer text has more places
abbrev pub right_in : ℕ → List ℕ → List ℕ
right_in places text = blanks (places - length text) ++ text
