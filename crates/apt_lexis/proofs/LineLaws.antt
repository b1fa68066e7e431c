-- The lines of a text, from its first line on.
use Rattle.std.proofs.Common.{◌≡◌, ℕ, ◌-◌, ◌<◌, ◌==◌, List, [], ◌∷◌, length, take, drop, Bool, true, false, ap, ◌∙◌, refl, arith, cond}
use Rattle.std.proofs.Common.{bytes_eq}
use native.Mathlib.Numerals.{unary_clauses}
use Rattle.apt_lexis.specs.Lines.{split, line_feed, carriage_return, as_lines, lines_of, without_return}
use Rattle.apt_lexis.proofs.Splitting.{split_filled}

-- an empty text has no lines
pub no_lines : (text : List ℕ) → length text ≡ 0 → lines_of text ≡ []
no_lines [] e = refl
no_lines (b ∷ bs) e = absurd (omega arith)

-- a part before a line feed is a line
pub line_first : (text front rest : List ℕ) → split line_feed text ≡ front ∷ split line_feed rest → lines_of text ≡ without_return front ∷ lines_of rest
line_first text front rest e =
    let f = split_filled line_feed rest in
    rw e (rw f.2 refl)

last_line : (last : List ℕ) → 0 < length last → as_lines (last ∷ []) ≡ last ∷ []
last_line [] h = absurd (omega arith)
last_line (b ∷ bs) h = refl

-- the last part is a line where it is not empty
pub line_last : (text last : List ℕ) → split line_feed text ≡ last ∷ [] → last ≡ text → 0 < length text → lines_of text ≡ last ∷ []
line_last text last e f h = rw e (last_line last (rw f h))

-- whether the last byte is a carriage return
abbrev ends_in_return : ℕ → List ℕ → Bool
ends_in_return b bs = bytes_eq (drop (length bs) (b ∷ bs)) (carriage_return ∷ [])

in_front_of_either : (b : ℕ) (t : Bool) (xs ys : List ℕ) → b ∷ cond t xs ys ≡ cond t (b ∷ xs) (b ∷ ys)
in_front_of_either b true xs ys = refl
in_front_of_either b false xs ys = refl

last_byte : (b : ℕ) → without_return (b ∷ []) ≡ cond (ends_in_return b []) [] (b ∷ [])
last_byte b = elim (b == carriage_return) as (λ t. (b == carriage_return) ≡ t → without_return (b ∷ []) ≡ cond (ends_in_return b []) [] (b ∷ [])) [
  | true ↦ λ e. rw e refl
  | false ↦ λ e. rw e refl
] refl

without_return_is : (b : ℕ) (bs : List ℕ) → without_return (b ∷ bs) ≡ cond (ends_in_return b bs) (take (length bs) (b ∷ bs)) (b ∷ bs)
without_return_is b [] = last_byte b
without_return_is b (c ∷ bs) = ap (λ line. b ∷ line) (without_return_is c bs) ∙ in_front_of_either b (ends_in_return c bs) (take (length bs) (c ∷ bs)) (c ∷ bs)

-- a line without the return at its end, as a suffix is stripped
pub return_stripped : (part : List ℕ) → without_return part ≡ cond (bytes_eq (drop (length part - 1) part) (carriage_return ∷ [])) (take (length part - 1) part) part
return_stripped [] = refl
return_stripped (b ∷ bs) = simp unary_clauses (without_return_is b bs)
