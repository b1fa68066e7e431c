-- The table of rows by letter: the row that it gives is that of the form which a search finds.
use Rattle.std.proofs.Common.{◌≡◌, ℕ, ◌+◌, ◌<◌, ◌≤◌, ◌==◌, ◌&&◌, if◌then◌else◌, nat_lt, Bool, true, false, map, drop, get_or, Option, Some, None, max, ap, ◌∙◌, sym, refl, arith}
use Rattle.std.specs.List.{range_with_len}
use Rattle.std.proofs.lemmas.List.FromFn.{get_or-map-range_with_len}
use Rattle.std.proofs.lemmas.Bool.Decides.{nat_tests}
use Rattle.apt_block.specs.declared.table.TheConstants.{ROWS}
use Rattle.apt_block.specs.declared.table.Form.{Form}
use Rattle.apt_block.specs.Block.{forms, form}
use Rattle.apt_block.specs.Machine.{form_for}

-- the form in a row of the table of words
abbrev pub form_at : ℕ → Form
form_at row = get_or forms row (form 0 0 0 false 0 0)

-- the row from which on a letter is looked for
abbrev pub row_for : ℕ → ℕ → ℕ
row_for used letter = max (get_or ROWS letter 0) used

abbrev in_row : ℕ → ℕ → Option (Form × ℕ)
in_row row letter = if nat_lt row 16 && (form_at row).letter == letter then Some (form_at row, row + 1) else None

-- what is looked up, and what is found by search
looks : ℕ → ℕ → Option (Form × ℕ)
looks used letter = in_row (row_for used letter) letter

finds : ℕ → ℕ → Option (Form × ℕ)
finds used letter = form_for used (drop used forms) letter

-- functions that agree on so many numbers agree at each
same_at : {X : Type 0} (f g : ℕ → X) (n k : ℕ) → map f (range_with_len 0 n) ≡ map g (range_with_len 0 n) → k < n → f k ≡ g k
same_at f g n k same h =
    sym (get_or-map-range_with_len f 0 n k k (f 0) h (omega arith)) ∙ ap (λ xs. get_or xs k (f 0)) same ∙ get_or-map-range_with_len g 0 n k k (f 0) h (omega arith)

-- for each letter, behind each number of forms
all_rows : map (λ used. map (looks used) (range_with_len 0 256)) (range_with_len 0 17) ≡ map (λ used. map (finds used) (range_with_len 0 256)) (range_with_len 0 17)
unfolding looks finds
all_rows = refl

-- so for one letter
found_in_row : (used letter row : ℕ) → used ≤ 16 → letter < 256 → row ≡ row_for used letter → in_row row letter ≡ form_for used (drop used forms) letter
unfolding looks finds
found_in_row used letter row few h is =
    ap (λ n. in_row n letter) is
    ∙ same_at (looks used) (finds used) 256 letter (same_at (λ used. map (looks used) (range_with_len 0 256)) (λ used. map (finds used) (range_with_len 0 256)) 17 used all_rows (omega (arith, few))) h

by_test : (t : Bool) (row letter : ℕ) → (nat_lt row 16 && (form_at row).letter == letter) ≡ t → in_row row letter ≡ (if t then Some (form_at row, row + 1) else None)
by_test t row letter e = ap (λ t. if t then Some (form_at row, row + 1) else None) e

pub row_is : (used letter row : ℕ) → used ≤ 16 → letter < 256 → row ≡ row_for used letter → row < 16 → (form_at row).letter ≡ letter → Some (form_at row, row + 1) ≡ form_for used (drop used forms) letter
row_is used letter row few h is within same = sym (by_test true row letter (grind (arith, nat_tests))) ∙ found_in_row used letter row few h is

pub no_row : (used letter row : ℕ) → used ≤ 16 → letter < 256 → row ≡ row_for used letter → (row < 16 → (form_at row).letter ≡ letter → ⊥) → None ≡ form_for used (drop used forms) letter
no_row used letter row few h is other = sym (by_test false row letter (grind (arith, nat_tests))) ∙ found_in_row used letter row few h is
