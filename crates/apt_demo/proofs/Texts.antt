-- The text of the part of `demo` is its lines, each with its line feed.
use Rattle.std.proofs.Common.{◌≡◌, ℕ, zero, suc, ◌+◌, ◌≤◌, ◌&&◌, not, nat_lt, Bool, true, false, List, [], ◌∷◌, ◌++◌, take, length, Option, Some, None, is_some, refl, ap, sym, ◌∙◌, arith}
use Rattle.std.specs.Prelude.{ℤ, codes, if◌then◌else◌}
use Rattle.std.specs.Fmt.{decimal}
use Rattle.std.specs.List.{list_all}
use Rattle.std.proofs.lemmas.List.{append_assoc}
use Rattle.std.proofs.Math.Seq.{take-append_seam, drop-append_seam}
use Rattle.std.proofs.lemmas.Bool.Decides.{nat_tests}
use Rattle.apt_words.specs.declared.body.Body.{Body}
use Rattle.apt_lexis.specs.declared.cause.PartCause.TheVariants as causes
use Rattle.apt_lexis.specs.Lines.{lines_of, line_feed, is_character, line_fault}
use Rattle.apt_lexis.specs.Tokens.{tokens_of}
use Rattle.apt_lexis.specs.Titles.{Title, title_or_labelled}
use Rattle.apt_lexis.specs.Sentences.{said_on, goes_on}
use Rattle.apt_lexis.proofs.PlainLines.{is_plain, plain_characters, first_plain}
use Rattle.apt_demo.specs.Demo.{centre_x, centre_y, radius, clear_x, circle_line, line_line, cut_lines, circle_block, circle_blocks, head, demo_part}
use Rattle.apt_demo.proofs.Readings.{lines_about, circle_lines, lines_from, title_line, inner_lines, last_line, demo_lines, inner_bodies, of_tokens, is_fit, is_usual, read, AreRead, title_fit, inner_read}
use Rattle.apt_words.proofs.Bools.{both}

-- lines, each with its line feed
abbrev text_of : List (List ℕ) → List ℕ
text_of [] = []
text_of (line ∷ lines) = line ++ line_feed ∷ text_of lines

text_both : (ls ms : List (List ℕ)) → text_of (ls ++ ms) ≡ text_of ls ++ text_of ms
text_both [] ms = refl
text_both (l ∷ ls) ms = ap (λ t. l ++ line_feed ∷ t) (text_both ls ms) ∙ sym (append_assoc l (line_feed ∷ text_of ls) (text_of ms))

-- ---- the lines of a circle

block_is : (x y : ℤ) (r : ℕ) (clear : ℤ) (rest : List ℕ)
    → (circle_line x y r ++ (line_line x y ++ cut_lines clear y)) ++ rest ≡ text_of (lines_about x y r clear) ++ rest
block_is x y r clear rest = simp append_assoc refl

circle_is : (k : ℕ) (rest : List ℕ) → circle_block k ++ rest ≡ text_of (circle_lines k) ++ rest
circle_is k rest = block_is (centre_x k) (centre_y k) (radius k) (clear_x k) rest

-- the texts of the first circles, and of so many behind them
blocks_are : (k m : ℕ) (rest : List ℕ) → circle_blocks (k + m) ++ rest ≡ circle_blocks k ++ (text_of (lines_from k m) ++ rest)
blocks_are k zero rest = let e : k + 0 ≡ k = omega arith in ap (λ n. circle_blocks n ++ rest) e
blocks_are k (suc m) rest =
    let e : k + suc m ≡ k + 1 + m = omega arith in
    let f : k + 1 ≡ suc k = omega arith in
    let more = text_of (lines_from (k + 1) m) in
    ap (λ n. circle_blocks n ++ rest) e
    ∙ blocks_are (k + 1) m rest
    ∙ ap (λ n. circle_blocks n ++ (more ++ rest)) f
    ∙ append_assoc (circle_blocks k) (circle_block k) (more ++ rest)
    ∙ ap (λ t. circle_blocks k ++ t) (circle_is k (more ++ rest) ∙ sym (append_assoc (text_of (circle_lines k)) more rest) ∙ ap (λ t. t ++ rest) (sym (text_both (circle_lines k) (lines_from (k + 1) m))))

blocks_then : (n : ℕ) (rest : List ℕ) → circle_blocks n ++ rest ≡ text_of (lines_from 0 n) ++ rest
blocks_then n rest = let e : 0 + n ≡ n = omega arith in ap (λ n. circle_blocks n ++ rest) (sym e) ∙ blocks_are 0 n rest

head_then : (d rest : List ℕ)
    → (codes "PARTNO DEMO " ++ (d ++ codes "\nCUTTER/.5\nFEDRAT/10\nFROM/-450,-450,.5\nTLRGT\n")) ++ rest
    ≡ (codes "PARTNO DEMO " ++ d) ++ (codes "\nCUTTER/.5\nFEDRAT/10\nFROM/-450,-450,.5\nTLRGT\n" ++ rest)
head_then d rest = simp append_assoc refl

-- the text is its lines
demo_text : (n : ℕ) → demo_part n ≡ text_of (demo_lines n)
demo_text n =
    ap (λ t. head n ++ t) (blocks_then n (codes "FINI\n") ∙ sym (text_both (lines_from 0 n) (last_line ∷ [])))
    ∙ head_then (decimal n) (text_of (lines_from 0 n ++ last_line ∷ []))

-- ---- and the lines of the text are those

line_then : (line after : List ℕ) → list_all is_plain line ≡ true → lines_of (line ++ line_feed ∷ after) ≡ line ∷ lines_of after
line_then line after e =
    let at = take-append_seam line (line_feed ∷ after) in
    let plain : list_all is_plain (take (length line) (line ++ line_feed ∷ after)) ≡ true = rw at e in
    first_plain (line ++ line_feed ∷ after) after (length line) plain (drop-append_seam line (line_feed ∷ after)) ∙ ap (λ l. l ∷ lines_of after) at

abbrev ArePlain : List (List ℕ) → Type 0
ArePlain [] = Unit {0}
ArePlain (l ∷ ls) = (list_all is_plain l ≡ true) × ArePlain ls

lines_again : (ls : List (List ℕ)) → ArePlain ls → lines_of (text_of ls) ≡ ls
lines_again [] are = refl
lines_again (l ∷ ls) are = line_then l (text_of ls) are.0 ∙ ap (λ more. l ∷ more) (lines_again ls are.1)

-- ---- what is known of a line that is read

pub record IsReadAs (l : List ℕ) (b : Body) : Type 0 where
  pub fit : is_fit l ≡ true
  pub no_title : title_or_labelled l ≡ None
  pub ends : goes_on l ≡ false
  pub told : of_tokens (tokens_of (said_on l)) ≡ Some b

by_test : (t : Bool) (o : Option Body) (b : Body) → (if t then o else None) ≡ Some b → (t ≡ true) × (o ≡ Some b)
by_test true o b e = (refl, e)
by_test false o b e = cc

none_of : (o : Option Title) → not (is_some o) ≡ true → o ≡ None
none_of None e = refl
none_of (Some t) e = cc

not_so : (t : Bool) → not t ≡ true → t ≡ false
not_so true e = cc
not_so false e = refl

pub read_as : (l : List ℕ) (b : Body) → read l ≡ Some b → IsReadAs l b
read_as l b e =
    let parts = by_test (is_usual l) (of_tokens (tokens_of (said_on l))) b e in
    let usual = both (is_fit l) (not (is_some (title_or_labelled l)) && not (goes_on l)) parts.0 in
    let rest = both (not (is_some (title_or_labelled l))) (not (goes_on l)) usual.1 in
    record { fit = usual.0; no_title = none_of (title_or_labelled l) rest.0; ends = not_so (goes_on l) rest.1; told = parts.1 }

fit_plain : (l : List ℕ) → is_fit l ≡ true → list_all is_plain l ≡ true
fit_plain l e = (both (list_all is_plain l) (not (nat_lt 256 (length l))) e).0

-- a line that is fit has no fault, where it is no line too many
no_fault_by : (n : ℕ) (l : List ℕ) (late long good : Bool) → late ≡ false → long ≡ false → good ≡ true
    → (if late then Some causes.TooManyLines else if long then Some causes.LineTooLong else if not good then Some causes.BadByte else None) ≡ None
no_fault_by n l late long good p q r = rw (p, q, r) refl

pub fit_line : (n : ℕ) (l : List ℕ) → is_fit l ≡ true → n ≤ 50000 → line_fault n l ≡ None
fit_line n l e few =
    let parts = both (list_all is_plain l) (not (nat_lt 256 (length l))) e in
    let late : nat_lt 50000 n ≡ false = grind (arith, nat_tests) in
    no_fault_by n l (nat_lt 50000 n) (nat_lt 256 (length l)) (list_all is_character l) late (not_so (nat_lt 256 (length l)) parts.1) (plain_characters l parts.0)

plain_all : (ls : List (List ℕ)) (bs : List Body) → AreRead ls bs → ArePlain (ls ++ last_line ∷ [])
plain_all [] [] p = (refl, tt)
plain_all [] (b ∷ bs) p = absurd p
plain_all (l ∷ ls) [] p = absurd p
plain_all (l ∷ ls) (b ∷ bs) p = (fit_plain l ((read_as l b p.0).fit), plain_all ls bs p.1)

-- the lines of the text
pub demo_lines_of : (n : ℕ) → 1 ≤ n → n ≤ 800 → lines_of (demo_part n) ≡ demo_lines n
demo_lines_of n low high =
    ap lines_of (demo_text n)
    ∙ lines_again (demo_lines n) (fit_plain (title_line n) (title_fit n low high), plain_all (inner_lines n) (inner_bodies n) (inner_read n high))
