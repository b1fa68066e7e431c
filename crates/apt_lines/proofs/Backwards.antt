-- A line that is written from its last character to its first.
use Rattle.std.proofs.Common.{◌≡◌, ℕ, ◌^◌, ◌≤◌, ◌<◌, List, ◌++◌, length, drop, ap, ◌∙◌, arith}
use Rattle.std.specs.Fmt.{decimal}
use Rattle.std.proofs.lemmas.Fmt.{length-decimal-le}
use Rattle.std.proofs.lemmas.List.{drop_all, append-nil}

-- behind the last character nothing stands
pub none_behind : (text room : List ℕ) → length room ≤ 192 → text ++ drop 192 room ≡ text
none_behind text room h = ap (λ rest. text ++ rest) (drop_all 192 room h) ∙ append-nil text

pub digits_fit : (n : ℕ) → n < 2 ^ 64 → length (decimal n) ≤ 20
digits_fit n h = length-decimal-le 20 n (omega arith) (omega arith) h
