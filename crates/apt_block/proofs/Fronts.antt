-- The number of the digits at the front of some bytes, one digit more at a time.
use Rattle.std.proofs.Common.{◌≡◌, ℕ, zero, suc, ◌+◌, ◌-◌, ◌*◌, ◌≤◌, ◌<◌, Bool, true, false, List, [], ◌∷◌, take, length, Option, Some, None, cond, refl, ap, ◌∙◌, sym, arith, get_or}
use Rattle.std.specs.Option.{option_and_then}
use Rattle.std.proofs.lemmas.Option.{same_Some}
use Rattle.apt_block.specs.declared.machine.TheConstants.{NO_DIGIT}
use Rattle.apt_block.specs.Block.{is_digit}
use Rattle.apt_block.specs.Whole.{digit_as, number_from}
use Rattle.apt_block.proofs.Rooms.{digit_size}
use Rattle.apt_block.proofs.Whole.{first}

-- the step of a number over the character of a byte
abbrev step : (ℕ → Option ℕ) → ℕ → List ℕ → Option ℕ → Option ℕ
step character size bytes o = option_and_then (λ ch. cond (is_digit ch) (number_from character (10 * size + (ch - 48)) bytes) None) o

digit_step : (character : ℕ → Option ℕ) (size : ℕ) (bytes : List ℕ) (o : Option ℕ) → digit_as o ≤ 9 → step character size bytes o ≡ number_from character (10 * size + digit_as o) bytes
digit_step character size bytes None h = absurd (omega (arith, h))
digit_step character size bytes (Some ch) h = go (is_digit ch) h
  where
    go : (t : Bool) → cond t (ch - 48) NO_DIGIT ≤ 9 → cond t (number_from character (10 * size + (ch - 48)) bytes) None ≡ number_from character (10 * size + cond t (ch - 48) NO_DIGIT) bytes
    go true h = refl
    go false h = absurd (omega (arith, h))

front_more : (character : ℕ → Option ℕ) (size number n d : ℕ) (bytes : List ℕ) → n < length bytes → number_from character size (take n bytes) ≡ Some number → digit_as (character (get_or bytes n d)) ≤ 9
    → number_from character size (take (suc n) bytes) ≡ Some (10 * number + digit_as (character (get_or bytes n d)))
front_more character size number n d [] h e digit = absurd (omega (arith, h))
front_more character size number zero d (byte ∷ bytes) h e digit =
    digit_step character size [] (character byte) digit ∙ ap (λ m. Some (10 * m + digit_as (character byte))) (same_Some size number e)
front_more character size number (suc n) d (byte ∷ bytes) h e digit =
    let f = first character size byte (take n bytes) number e in
    ap (step character size (take (suc n) bytes)) f.is
    ∙ ap (λ t. cond t (number_from character (10 * size + (f.ch - 48)) (take (suc n) bytes)) None) f.digit
    ∙ front_more character (10 * size + (f.ch - 48)) number n d bytes (omega (arith, h)) f.more digit

-- a byte more that is a digit's
pub number_more : (character : ℕ → Option ℕ) (size n digit : ℕ) (bytes : List ℕ) → n < length bytes → number_from character 0 (take n bytes) ≡ Some size → digit ≡ digit_as (character (get_or bytes n 0)) → digit ≤ 9
    → number_from character 0 (take (n + 1) bytes) ≡ Some (10 * size + digit)
number_more character size n digit bytes h e is small =
    ap (λ m. number_from character 0 (take m bytes)) one_more
    ∙ front_more character 0 size n 0 bytes h e (omega (arith, is, small))
    ∙ ap (λ d. Some (10 * size + d)) (sym is)
  where
    one_more : n + 1 ≡ suc n
    one_more = omega arith

-- what stands for a digit is below ten
pub below_ten : (o : Option ℕ) → (digit_as o ≡ NO_DIGIT → ⊥) → digit_as o ≤ 9
below_ten None h = absurd (h refl)
below_ten (Some ch) h = go (is_digit ch) refl h
  where
    go : (t : Bool) → is_digit ch ≡ t → (cond t (ch - 48) NO_DIGIT ≡ NO_DIGIT → ⊥) → cond t (ch - 48) NO_DIGIT ≤ 9
    go true e h = omega (arith, digit_size ch e)
    go false e h = absurd (h refl)

-- a character for which nothing stands is no digit
pub no_digit : (ch : ℕ) → digit_as (Some ch) ≡ NO_DIGIT → is_digit ch ≡ false
no_digit ch e = go (is_digit ch) refl e
  where
    go : (t : Bool) → is_digit ch ≡ t → cond t (ch - 48) NO_DIGIT ≡ NO_DIGIT → t ≡ false
    go true is e = absurd (omega (arith, digit_size ch is, e))
    go false is e = refl
