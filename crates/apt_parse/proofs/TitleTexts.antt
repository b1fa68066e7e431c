-- The text of a title consists of bytes of its line, and is no longer than that.
use Rattle.std.proofs.Common.{ℕ, zero, suc, ◌+◌, ◌≤◌, ◌==◌, Bool, true, false, List, [], ◌∷◌, length, drop, Option, Some, None, refl, arith}
use Rattle.std.specs.Prelude.{IfSome}
use Rattle.std.specs.List.{list_all, prefix_len}
use Rattle.std.proofs.lemmas.Bool.{and_from, and_parts, cond_both}
use Rattle.apt_words.specs.Options.{◌>>=◌, only_if}
use Rattle.apt_words.specs.Symbols.{is_name}
use Rattle.apt_words.specs.declared.word.Word.{Word}
use Rattle.apt_words.specs.Sources.{is_text_byte, IsText, IsTitle}
use Rattle.apt_lexis.specs.declared.token.Token.{Token}
use Rattle.apt_lexis.specs.declared.token.Token.TheVariants as tokens
use Rattle.apt_lexis.specs.Tokens.{is_blank, is_letter_or_digit}
use Rattle.apt_lexis.specs.Titles.{Title, blank, behind, front_word, without_blank, unless_last, without_blanks, title_word, word_with_text, title, close_first, behind_close, with_tokens, labelled, with_label, or_else, title_or_labelled, title_behind}

-- ---- bytes of a line

title_behind_byte : (b : ℕ) (bs : List ℕ) → IsTitle (b ∷ bs) → IsTitle bs
title_behind_byte b bs h = ((and_parts (is_text_byte b) (list_all is_text_byte bs) h.0).1, omega (arith, h.1))

no_title : IsTitle []
no_title = (refl, omega arith)

drop-title : (n : ℕ) (line : List ℕ) → IsTitle line → IsTitle (drop n line)
drop-title zero line h = h
drop-title (suc n) [] h = no_title
drop-title (suc n) (b ∷ bs) h = drop-title n bs (title_behind_byte b bs h)

behind-title : (test : ℕ → Bool) (line : List ℕ) → IsTitle line → IsTitle (behind test line)
behind-title test line h = drop-title (prefix_len test line) line h

without_blank-title : (line : List ℕ) → IsTitle line → IsTitle (without_blank line)
without_blank-title [] h = no_title
without_blank-title (b ∷ bs) h = cond_both (b == blank) bs (b ∷ bs) IsTitle (λ _. title_behind_byte b bs h) (λ _. h)

-- at most as long
unless_last-short : (b : ℕ) (bs : List ℕ) → length (unless_last b bs) ≤ length bs + 1
unless_last-short b [] = cond_both (b == blank) [] (b ∷ []) (λ text. length text ≤ 1) (λ _. omega arith) (λ _. omega arith)
unless_last-short b (c ∷ cs) = omega arith

without_blanks-short : (line : List ℕ) → length (without_blanks line) ≤ length line
without_blanks-short [] = omega arith
without_blanks-short (b ∷ bs) = omega (arith, unless_last-short b (without_blanks bs), without_blanks-short bs)

unless_last-text : (b : ℕ) (bs : List ℕ) → IsText (b ∷ bs) → IsText (unless_last b bs)
unless_last-text b [] h = cond_both (b == blank) [] (b ∷ []) IsText (λ _. refl) (λ _. h)
unless_last-text b (c ∷ cs) h = h

without_blanks-text : (line : List ℕ) → IsText line → IsText (without_blanks line)
without_blanks-text [] h = refl
without_blanks-text (b ∷ bs) h =
    let parts = and_parts (is_text_byte b) (list_all is_text_byte bs) h in
    unless_last-text b (without_blanks bs) (and_from (is_text_byte b) (list_all is_text_byte (without_blanks bs)) parts.0 (without_blanks-text bs parts.1))

without_blanks-title : (line : List ℕ) → IsTitle line → IsTitle (without_blanks line)
without_blanks-title line h = (without_blanks-text line h.0, omega (arith, h.1, without_blanks-short line))

-- ---- titles

pub only_if-holds : {A : Type 0} (P : A → Type 0) (b : Bool) (x : A) → P x → IfSome (only_if b x) P
only_if-holds P true x h = h
only_if-holds P false x h = tt

then_holds : {A B : Type 0} (P : A → Type 0) (Q : B → Type 0) (o : Option A) (f : A → Option B) → IfSome o P
    → ((x : A) → P x → IfSome (f x) Q) → IfSome (o >>= f) Q
then_holds P Q None f h more = tt
then_holds P Q (Some x) f h more = more x h

abbrev pub HasTitle : Title → Type 0
HasTitle t = IsTitle t.1

word_with_text-text : (symbol rest : List ℕ) → IsTitle rest → IfSome (word_with_text symbol rest) HasTitle
word_with_text-text symbol rest h = with_word (title_word symbol)
  where
    with_word : (found : Option Word) → IfSome (found >>= λ w. Some (tokens.Word w ∷ [], without_blanks (without_blank rest))) HasTitle
    with_word None = tt
    with_word (Some w) = without_blanks-title (without_blank rest) (without_blank-title rest h)

title-text : (line : List ℕ) → IsTitle line → IfSome (title line) HasTitle
title-text line h =
    let line' = behind is_blank line in
    word_with_text-text (front_word line') (behind is_letter_or_digit line') (behind-title is_letter_or_digit line' (behind-title is_blank line h))

close_first-text : (line : List ℕ) → IsTitle line → IfSome (close_first line) IsTitle
close_first-text [] h = tt
close_first-text (b ∷ bs) h = only_if-holds IsTitle (b == 41) bs (title_behind_byte b bs h)

behind_close-text : (line : List ℕ) → IsTitle line → IfSome (behind_close line) IsTitle
behind_close-text line h = close_first-text (behind is_blank line) (behind-title is_blank line h)

with_tokens-text : (ts : List Token) (t : Title) → HasTitle t → HasTitle (with_tokens ts t)
with_tokens-text ts (us, text) h = h

-- a title behind what stands before it
with_before-text : (ts : List Token) (line : Option (List ℕ)) → IfSome line IsTitle → IfSome (line >>= title >>= λ t. Some (with_tokens ts t)) HasTitle
with_before-text ts line h =
    then_holds HasTitle HasTitle (line >>= title) _ (then_holds IsTitle HasTitle line title h title-text) (with_tokens-text ts)

labelled-text : (name line : List ℕ) → IsTitle line → IfSome (labelled name line) HasTitle
labelled-text name line h = with_before-text (tokens.Name name ∷ tokens.Close ∷ []) (behind_close line) (behind_close-text line h)

with_label-text : (symbol line : List ℕ) → IsTitle line → IfSome (with_label symbol line) HasTitle
with_label-text symbol line h =
    then_holds (λ _. Unit {0}) HasTitle (only_if (is_name symbol) symbol) (λ name. labelled name line)
    (only_if-holds (λ _. Unit {0}) (is_name symbol) symbol tt) (λ name _. labelled-text name line h)

or_else-text : (t other : Option Title) → IfSome t HasTitle → IfSome other HasTitle → IfSome (or_else t other) HasTitle
or_else-text None other h h' = h'
or_else-text (Some t) other h h' = h

title_or_labelled-text : (line : List ℕ) → IsTitle line → IfSome (title_or_labelled line) HasTitle
title_or_labelled-text line h =
    let line' = behind is_blank line in
    or_else-text (title line) _ (title-text line h)
    (with_label-text (front_word line') (behind is_letter_or_digit line') (behind-title is_letter_or_digit line' (behind-title is_blank line h)))

pub title_behind-text : (ts : List Token) (line : List ℕ) → IsTitle line → IfSome (title_behind ts line) HasTitle
title_behind-text [] line h = title_or_labelled-text line h
title_behind-text (tokens.Name name ∷ []) line h = labelled-text name line h
title_behind-text (tokens.Name name ∷ tokens.Close ∷ []) line h = with_before-text (tokens.Name name ∷ tokens.Close ∷ []) (Some line) h
title_behind-text _ line h = tt
