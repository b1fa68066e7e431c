-- PARTNO and REMARK, the first word of a statement or the first behind its label, take the rest of their line as text.
use Rattle.std.specs.Prelude.{ℕ, ◌==◌, ◌||◌, Bool, true, false, List, [], ◌∷◌, ◌++◌, map, drop, Option, Some, None, if◌then◌else◌}
use Rattle.std.specs.List.{take_while, prefix_len}
use Rattle.apt_words.specs.Options.{◌>>=◌, only_if}
use Rattle.apt_words.specs.Symbols.{is_name}
use Rattle.apt_words.specs.Vocabulary.{word_of}
use Rattle.apt_words.specs.declared.word.Word.{Word}
use Rattle.apt_words.specs.declared.word.Word.TheVariants as words
use Rattle.apt_lexis.specs.declared.token.Token.{Token}
use Rattle.apt_lexis.specs.declared.token.Token.TheVariants as tokens
use Rattle.apt_lexis.specs.Tokens.{is_blank, is_letter_or_digit, capital}

abbrev pub blank : ℕ
blank = 32

-- what stands behind the bytes at the front that pass a test
abbrev pub behind : (ℕ → Bool) → List ℕ → List ℕ
behind test line = drop (prefix_len test line) line

-- the letters and digits at the front of a line, in capitals
abbrev pub front_word : List ℕ → List ℕ
front_word line = map capital (take_while is_letter_or_digit line)

-- one blank at the front is dropped
abbrev pub without_blank : List ℕ → List ℕ
without_blank [] = []
without_blank (b ∷ bs) = if b == blank then bs else b ∷ bs

abbrev pub unless_last : ℕ → List ℕ → List ℕ
unless_last b [] = if b == blank then [] else b ∷ []
unless_last b (c ∷ cs) = b ∷ c ∷ cs

-- blanks at the end are dropped
abbrev pub without_blanks : List ℕ → List ℕ
without_blanks [] = []
without_blanks (b ∷ bs) = unless_last b (without_blanks bs)

abbrev pub takes_text : Word → Bool
takes_text words.Partno = true
takes_text words.Remark = true
takes_text _ = false

-- PARTNO or REMARK
abbrev pub title_word : List ℕ → Option Word
title_word symbol = word_of symbol >>= λ w. only_if (takes_text w) w

-- a word with the text behind it
abbrev pub Title : Type 0
Title = List Token × List ℕ

abbrev pub word_with_text : List ℕ → List ℕ → Option Title
word_with_text symbol rest = title_word symbol >>= λ w. Some (tokens.Word w ∷ [], without_blanks (without_blank rest))

-- PARTNO or REMARK at the front of a line
abbrev pub title : List ℕ → Option Title
title line = let line = behind is_blank line in word_with_text (front_word line) (behind is_letter_or_digit line)

-- the parenthesis that closes a label
abbrev pub close_first : List ℕ → Option (List ℕ)
close_first [] = None
close_first (b ∷ bs) = only_if (b == 41) bs

abbrev pub behind_close : List ℕ → Option (List ℕ)
behind_close line = close_first (behind is_blank line)

abbrev pub with_tokens : List Token → Title → Title
with_tokens ts (words, text) = (ts ++ words, text)

-- behind a label without its parenthesis
abbrev pub labelled : List ℕ → List ℕ → Option Title
labelled name line = behind_close line >>= title >>= λ t. Some (with_tokens (tokens.Name name ∷ tokens.Close ∷ []) t)

abbrev pub with_label : List ℕ → List ℕ → Option Title
with_label symbol line = only_if (is_name symbol) symbol >>= λ name. labelled name line

-- a label, its parenthesis and a title
abbrev pub labelled_title : List ℕ → Option Title
labelled_title line = let line = behind is_blank line in with_label (front_word line) (behind is_letter_or_digit line)

abbrev pub or_else : Option Title → Option Title → Option Title
or_else None other = other
or_else (Some t) other = Some t

-- a line that begins a statement
abbrev pub title_or_labelled : List ℕ → Option Title
title_or_labelled line = or_else (title line) (labelled_title line)

abbrev pub is_title : Token → Bool
is_title (tokens.Word w) = takes_text w
is_title _ = false

abbrev pub closes_first : List Token → Bool
closes_first (tokens.Close ∷ ts) = true
closes_first _ = false

-- the tokens of a line at whose front a title may stand: none at all, a word of titles, or one that a parenthesis closes
abbrev pub may_be_titled : List Token → Bool
may_be_titled [] = true
may_be_titled (t ∷ ts) = is_title t || closes_first ts

-- the tokens and the text of a statement that has these tokens before the line
abbrev pub title_behind : List Token → List ℕ → Option Title
title_behind [] line = title_or_labelled line
title_behind (tokens.Name name ∷ []) line = labelled name line
title_behind (tokens.Name name ∷ tokens.Close ∷ []) line = title line >>= λ t. Some (with_tokens (tokens.Name name ∷ tokens.Close ∷ []) t)
title_behind _ line = None
