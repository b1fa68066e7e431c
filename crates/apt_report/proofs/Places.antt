-- What is read of a number is what was written.
use Rattle.std.proofs.Common.{◌≡◌, ℕ, zero, suc, ◌+◌, ◌-◌, ◌*◌, ◌/◌, ◌%◌, ◌^◌, ◌≤◌, ◌<◌, Bool, true, false, List, [], ◌∷◌, ◌++◌, length, refl, sym, ap, ◌∙◌, arith, length-append}
use Rattle.std.specs.Prelude.{ℤ, pos, negsuc, unsigned_abs, ◌==◌, cond, codes}
use Rattle.std.specs.Fmt.{decimal}
use Rattle.std.specs.Str.Parse.{AllDigits}
use Rattle.std.proofs.lemmas.List.{length-replicate}
use Rattle.std.proofs.lemmas.Fmt.{decimal_is_IsNumeral, decimal_by_steps, length-decimal-le}
use Rattle.std.proofs.lemmas.Str.Parse.{digit_from_value}
use Rattle.std.proofs.lemmas.Bool.Decides.{nat_tests}
use Rattle.std.proofs.Math.Nat.{div-div-eq-div-mul, div-le_self, pow-suc}
use Rattle.apt_words.specs.declared.Units.{Units}
use Rattle.apt_words.specs.declared.Units.TheVariants as units
use Rattle.apt_block.specs.Block.{digits}
use Rattle.apt_lines.specs.Decimals.{pointed, signed_pointed, blanks, right_in}
use Rattle.apt_report.specs.Listing.{decimals_in}
use Rattle.apt_report.specs.Columns.{is_digit, number_behind, has_minus, decimals_of, grid_units, signed, length_in}

abbrev pub AreDigits : List ℕ → Type 0
AreDigits [] = Unit {0}
AreDigits (c ∷ cs) = (48 ≤ c) × (c ≤ 57) × AreDigits cs

pub decimal_digits : (ds : List ℕ) → AllDigits 10 ds → AreDigits ds
decimal_digits [] d = tt
decimal_digits (c ∷ cs) d = (omega (arith, digit_from_value c d.0), omega (arith, digit_from_value c d.0), decimal_digits cs d.1)

pub last_digits : (k n : ℕ) → AreDigits (digits k n)
last_digits zero n = tt
last_digits (suc k) n = (omega arith, omega arith, last_digits k n)

last_digits_length : (k n : ℕ) → length (digits k n) ≡ k
last_digits_length zero n = refl
last_digits_length (suc k) n = ap suc (last_digits_length k n)

is_one : (c : ℕ) → 48 ≤ c → c ≤ 57 → is_digit c ≡ true
is_one c low high = grind (arith, nat_tests)

no_point : (c : ℕ) → 48 ≤ c → (c == 46) ≡ false
no_point c low = grind (arith, nat_tests)

no_minus : (c : ℕ) → 48 ≤ c → (c == 45) ≡ false
no_minus c low = grind (arith, nat_tests)

-- ---- the number

number-append : (n : ℕ) (a b : List ℕ) → number_behind n (a ++ b) ≡ number_behind (number_behind n a) b
number-append n [] b = refl
number-append n (c ∷ a) b = number-append (cond (is_digit c) (10 * n + (c - 48)) n) a b

number-blanks : (k n : ℕ) → number_behind n (blanks k) ≡ n
number-blanks zero n = refl
number-blanks (suc k) n = number-blanks k n

number-digit : (n d : ℕ) → d < 10 → cond (is_digit (48 + d)) (10 * n + (48 + d - 48)) n ≡ 10 * n + d
number-digit n d h = rw (is_one (48 + d) (omega arith) (omega arith)) (omega arith)

number-decimal : (n : ℕ) → n < 2 ^ 64 → number_behind 0 (decimal n) ≡ n
number-decimal =
    decimal_by_steps (λ m ds. number_behind 0 ds ≡ m)
    (λ m small. number-digit 0 m small ∙ omega arith)
    (λ m ds large before. number-append 0 ds ((48 + m % 10) ∷ []) ∙ number-digit (number_behind 0 ds) (m % 10) (omega arith) ∙ omega (arith, before))

number-last : (k n : ℕ) → number_behind (n / 10 ^ k) (digits k n) ≡ n
number-last zero n = omega arith
number-last (suc k) n =
    let q = n / 10 ^ k in
    let off : n / 10 ^ suc k ≡ q / 10 = ap (λ p. n / p) (pow-suc 10 k) ∙ sym (div-div-eq-div-mul n (10 ^ k) 10) in
    let whole : 10 * (n / 10 ^ suc k) + q % 10 ≡ q = omega (arith, off) in
    ap (λ m. number_behind m (digits k n)) (number-digit (n / 10 ^ suc k) (q % 10) (omega arith) ∙ whole) ∙ number-last k n

number-pointed : (k n : ℕ) → n < 2 ^ 64 → number_behind 0 (pointed k n) ≡ n
number-pointed k n h =
    number-append 0 (decimal (n / 10 ^ k)) (46 ∷ digits k n)
    ∙ ap (λ m. number_behind m (digits k n)) (number-decimal (n / 10 ^ k) (omega (arith, quotient_le n k))) ∙ number-last k n
  where
    quotient_le : (n k : ℕ) → n / 10 ^ k ≤ n
    quotient_le n k = div-le_self n (10 ^ k)

-- ---- the sign

minus-blanks : (k : ℕ) (text : List ℕ) → has_minus (blanks k ++ text) ≡ has_minus text
minus-blanks zero text = refl
minus-blanks (suc k) text = minus-blanks k text

minus-digits : (ds text : List ℕ) → AreDigits ds → has_minus (ds ++ text) ≡ has_minus text
minus-digits [] text are = refl
minus-digits (c ∷ ds) text are = rw (no_minus c are.0) (minus-digits ds text are.2)

minus-none : (ds : List ℕ) → AreDigits ds → has_minus ds ≡ false
minus-none [] are = refl
minus-none (c ∷ ds) are = rw (no_minus c are.0) (minus-none ds are.2)

-- ---- the decimals

decimals-blanks : (k : ℕ) (text : List ℕ) → decimals_of (blanks k ++ text) ≡ decimals_of text
decimals-blanks zero text = refl
decimals-blanks (suc k) text = decimals-blanks k text

decimals-digits : (ds text : List ℕ) → AreDigits ds → decimals_of (ds ++ text) ≡ decimals_of text
decimals-digits [] text are = refl
decimals-digits (c ∷ ds) text are = rw (no_point c are.0) (decimals-digits ds text are.2)

-- ---- lengths

module _ (k n : ℕ) (h : n < 2 ^ 64) where
  whole_digits : AreDigits (decimal (n / 10 ^ k))
  whole_digits = decimal_digits (decimal (n / 10 ^ k)) (decimal_is_IsNumeral (n / 10 ^ k) (omega (arith, div-le_self n (10 ^ k)))).0.1

  minus-pointed : has_minus (pointed k n) ≡ false
  minus-pointed = minus-digits (decimal (n / 10 ^ k)) (46 ∷ digits k n) whole_digits ∙ minus-none (digits k n) (last_digits k n)

  decimals-pointed : decimals_of (pointed k n) ≡ k
  decimals-pointed = decimals-digits (decimal (n / 10 ^ k)) (46 ∷ digits k n) whole_digits ∙ last_digits_length k n

-- a grid unit is a unit of the last decimal
last_decimal : (units : Units) (n : ℕ) → n * grid_units units / 10 ^ decimals_in units ≡ n
last_decimal units.Inch n = omega arith
last_decimal units.Mm n = omega arith

same_length : (units : Units) (text : List ℕ) (n : ℕ) (minus : Bool) → has_minus text ≡ minus → number_behind 0 text ≡ n → decimals_of text ≡ decimals_in units
    → length_in units text ≡ signed minus n
same_length units text n minus is number decimals = rw (is, number, decimals) (ap (signed minus) (last_decimal units n))

pub length_again : (units : Units) (v : ℤ) → unsigned_abs v < 2 ^ 63 → length_in units (right_in 11 (signed_pointed (decimals_in units) v)) ≡ v
length_again units (pos n) h =
    let d = decimals_in units in
    let text = pointed d n in
    let k = 11 - length text in
    same_length units (blanks k ++ text) n false
    (minus-blanks k text ∙ minus-pointed d n (omega arith))
    (number-append 0 (blanks k) text ∙ ap (λ m. number_behind m text) (number-blanks k 0) ∙ number-pointed d n (omega arith))
    (decimals-blanks k text ∙ decimals-pointed d n (omega arith))
length_again units (negsuc n) h =
    let d = decimals_in units in
    let text = codes "-" ++ pointed d (suc n) in
    let k = 11 - length text in
    same_length units (blanks k ++ text) (suc n) true
    (minus-blanks k text)
    (number-append 0 (blanks k) text ∙ ap (λ m. number_behind m text) (number-blanks k 0) ∙ number-pointed d (suc n) (omega arith))
    (decimals-blanks k text ∙ decimals-pointed d (suc n) (omega arith))

pub count_again : (places n : ℕ) → n < 2 ^ 64 → number_behind 0 (right_in places (decimal n)) ≡ n
count_again places n h =
    let k = places - length (decimal n) in
    number-append 0 (blanks k) (decimal n) ∙ ap (λ m. number_behind m (decimal n)) (number-blanks k 0) ∙ number-decimal n h

-- ---- how many places

length-right_in : (places : ℕ) (text : List ℕ) → length text ≤ places → length (right_in places text) ≡ places
length-right_in places text h =
    let blank : ℕ = 32 in
    omega (arith, length-append (blanks (places - length text)) text, length-replicate (places - length text) blank)

length-pointed : (units : Units) (n : ℕ) → n ≤ 50000000 → length (pointed (decimals_in units) n) ≤ 10
length-pointed units.Inch n h =
    omega (arith, length-append (decimal (n / 10 ^ 5)) (46 ∷ digits 5 n), last_digits_length 5 n, length-decimal-le 3 (n / 10 ^ 5) (omega arith) (omega arith) (omega arith))
length-pointed units.Mm n h =
    omega (arith, length-append (decimal (n / 10 ^ 4)) (46 ∷ digits 4 n), last_digits_length 4 n, length-decimal-le 4 (n / 10 ^ 4) (omega arith) (omega arith) (omega arith))

-- a coordinate has just eleven places
pub length-coordinate : (units : Units) (v : ℤ) → unsigned_abs v ≤ 50000000 → length (right_in 11 (signed_pointed (decimals_in units) v)) ≡ 11
length-coordinate units (pos n) h = length-right_in 11 (pointed (decimals_in units) n) (omega (arith, length-pointed units n h))
length-coordinate units (negsuc n) h = length-right_in 11 (codes "-" ++ pointed (decimals_in units) (suc n)) (omega (arith, length-pointed units (suc n) h))

-- the number of a record just eight
pub length-number : (n : ℕ) → n < 10 ^ 8 → length (right_in 8 (decimal n)) ≡ 8
length-number n h = length-right_in 8 (decimal n) (length-decimal-le 8 n (omega arith) h (omega arith))
