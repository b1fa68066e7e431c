-- Lines without a `$` that a line feed alone ends.
use Rattle.std.proofs.Common.{◌≡◌, ℕ, ◌==◌, List, [], ◌∷◌, ◌++◌, length, take, drop, Bool, true, false, ap, ◌∙◌, sym, subst, refl, arith}
use Rattle.std.specs.Prelude.{◌&&◌}
use Rattle.std.specs.List.{list_all, prefix_len}
use Rattle.std.proofs.lemmas.List.{take-append-drop}
use Rattle.std.proofs.Math.Seq.{take-length, drop-length}
use Rattle.std.proofs.lemmas.Bool.Decides.{nat_tests}
use Rattle.apt_lexis.specs.Lines.{split, in_front, line_feed, carriage_return, is_character, lines_of, without_return}
use Rattle.apt_lexis.specs.Sentences.{is_no_dollar, said_on, goes_on}
pub use Rattle.apt_lexis.specs.Sentences.{is_plain}
use Rattle.apt_lexis.proofs.LineLaws.{line_first}
use Rattle.apt_lexis.proofs.Fronts.{front_passes, passes_other, whole_front}

no_line_feed : (b : ℕ) → is_plain b ≡ true → (b == line_feed) ≡ false
no_line_feed b e = grind (arith, nat_tests)

no_return : (b : ℕ) → is_plain b ≡ true → (b == carriage_return) ≡ false
no_return b e = grind (arith, nat_tests)

character_of_plain : (b : ℕ) → is_plain b ≡ true → is_character b ≡ true
character_of_plain b e = grind (arith, nat_tests)

no_dollar_of_plain : (b : ℕ) → is_plain b ≡ true → is_no_dollar b ≡ true
no_dollar_of_plain b e = grind (arith, nat_tests)

pub front_plain : (text : List ℕ) (n : ℕ) → n ≡ prefix_len is_plain text → list_all is_plain (take n text) ≡ true
front_plain text n e = subst (λ k. list_all is_plain (take k text) ≡ true) (sym e) (front_passes is_plain text)

pub plain_characters : (text : List ℕ) → list_all is_plain text ≡ true → list_all is_character text ≡ true
plain_characters text e = passes_other is_plain is_character character_of_plain text e

no_dollars : (text : List ℕ) → list_all is_plain text ≡ true → prefix_len is_no_dollar text ≡ length text
no_dollars text e = whole_front is_no_dollar text (passes_other is_plain is_no_dollar no_dollar_of_plain text e)

pub plain_said : (text : List ℕ) → list_all is_plain text ≡ true → said_on text ≡ text
plain_said text e = rw (no_dollars text e) (take-length text)

pub plain_ends : (text : List ℕ) → list_all is_plain text ≡ true → goes_on text ≡ false
plain_ends text e = rw (no_dollars text e, drop-length text) refl

first_of : (b : ℕ) (bs : List ℕ) → list_all is_plain (b ∷ bs) ≡ true → is_plain b ≡ true
first_of b bs e = both (is_plain b) (list_all is_plain bs) e
  where
    both : (x y : Bool) → (x && y) ≡ true → x ≡ true
    both true y e = refl
    both false y e = e

rest_of : (b : ℕ) (bs : List ℕ) → list_all is_plain (b ∷ bs) ≡ true → list_all is_plain bs ≡ true
rest_of b bs e = both (is_plain b) (list_all is_plain bs) e
  where
    both : (x y : Bool) → (x && y) ≡ true → y ≡ true
    both true y e = e
    both false y e = cc

kept : (text : List ℕ) → list_all is_plain text ≡ true → without_return text ≡ text
kept [] e = refl
kept (b ∷ []) e = rw (no_return b (first_of b [] e)) refl
kept (b ∷ c ∷ bs) e = ap (λ line. b ∷ line) (kept (c ∷ bs) (rest_of b (c ∷ bs) e))

split_plain : (front after : List ℕ) → list_all is_plain front ≡ true → split line_feed (front ++ line_feed ∷ after) ≡ front ∷ split line_feed after
split_plain [] after e = refl
split_plain (b ∷ bs) after e = rw (no_line_feed b (first_of b bs e)) (ap (in_front b) (split_plain bs after (rest_of b bs e)))

-- the first line where a line feed stands behind plain bytes
pub first_plain : (text after : List ℕ) (n : ℕ) → list_all is_plain (take n text) ≡ true → drop n text ≡ line_feed ∷ after → lines_of text ≡ take n text ∷ lines_of after
first_plain text after n e f =
    let parts : split line_feed text ≡ take n text ∷ split line_feed after = subst (λ t. split line_feed t ≡ take n text ∷ split line_feed after) (ap (λ t. take n text ++ t) (sym f) ∙ take-append-drop n text) (split_plain (take n text) after e) in
    line_first text (take n text) after parts ∙ ap (λ line. line ∷ lines_of after) (kept (take n text) e)
