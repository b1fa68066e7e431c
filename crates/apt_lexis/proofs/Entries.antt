-- The table of letters and digits says for every byte what the clauses say.
use Rattle.std.proofs.Common.{◌≡◌, ◌≢◌, ℕ, ◌<◌, ◌≤◌, ◌==◌, Bool, true, false, not, sym, ◌∙◌, refl, arith}
use Rattle.std.specs.Prelude.{◌||◌, Some, None, slice_index_or}
use Rattle.std.proofs.lemmas.Bool.{agree_below_at, eqb-true}
use Rattle.std.proofs.lemmas.Bool.Decides.{nat_tests}
use Rattle.apt_words.specs.Options.{only_if}
use Rattle.apt_lexis.specs.Tokens.{capital, is_blank, is_letter, is_letter_or_digit, is_in_run}
use Rattle.apt_lexis.specs.declared.character.TheConstants.{CAPITALS}

abbrev entry : ℕ → ℕ
entry b = slice_index_or CAPITALS b 0

-- an entry that is not 0 is one of a letter or a digit
pub filled : (b : ℕ) → b < 256 → not (entry b == 0) ≡ is_letter_or_digit b
filled b h = agree_below_at (λ b. not (entry b == 0)) is_letter_or_digit 256 b refl h

same_or : (b : ℕ) → b < 256 → (not (is_letter_or_digit b) || entry b == capital b) ≡ true
same_or b h = agree_below_at (λ b. not (is_letter_or_digit b) || entry b == capital b) (λ _. true) 256 b refl h

pub no_capital : (b : ℕ) → b < 256 → entry b ≡ 0 → None ≡ only_if (is_letter_or_digit b) (capital b)
no_capital b h e = rw (sym (filled b h), e) refl

second : (x y : Bool) → (not x || y) ≡ true → x ≡ true → y ≡ true
second true y e f = e
second false y e f = cc

pub capital_of : (b : ℕ) → b < 256 → (entry b == 0) ≡ false → Some (entry b) ≡ only_if (is_letter_or_digit b) (capital b)
capital_of b h e =
    let letter : is_letter_or_digit b ≡ true = sym (filled b h) ∙ rw e refl in
    rw (letter, eqb-true (entry b) (capital b) (second _ _ (same_or b h) letter)) refl

-- ---- what begins with a byte

only_passed : (t : Bool) (x c : ℕ) → Some c ≡ only_if t x → (t ≡ true) × (c ≡ x)
only_passed true x c e = (refl, cc)
only_passed false x c e = cc

only_absent : (t : Bool) (x : ℕ) → None ≡ only_if t x → t ≡ false
only_absent true x e = cc
only_absent false x e = refl

letter_from : (b : ℕ) → is_letter_or_digit b ≡ true → 57 < capital b → is_letter b ≡ true
letter_from b e h = grind (arith, nat_tests)

digit_from : (b : ℕ) → is_letter_or_digit b ≡ true → capital b ≤ 57 → is_letter b ≡ false
digit_from b e h = grind (arith, nat_tests)

pub letter_of : (b c : ℕ) → Some c ≡ only_if (is_letter_or_digit b) (capital b) → 57 < c → is_letter b ≡ true
letter_of b c e h = let passed = only_passed (is_letter_or_digit b) (capital b) c e in letter_from b passed.0 (omega (arith, h, passed.1))

pub digit_of : (b c : ℕ) → Some c ≡ only_if (is_letter_or_digit b) (capital b) → c ≤ 57 → (is_letter b ≡ false) × (is_in_run b ≡ true)
digit_of b c e h =
    let passed = only_passed (is_letter_or_digit b) (capital b) c e in
    (digit_from b passed.0 (omega (arith, h, passed.1)), rw passed.0 refl)

pub other_of : (b : ℕ) → None ≡ only_if (is_letter_or_digit b) (capital b) → b ≢ 46 → b ≢ 32 → b ≢ 9 → (is_in_run b ≡ false) × (is_blank b ≡ false)
other_of b e point blank tab =
    let none = only_absent (is_letter_or_digit b) (capital b) e in
    (rw none (grind (arith, nat_tests)), grind (arith, nat_tests))
