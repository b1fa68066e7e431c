-- Each word of the vocabulary is spelled in one way, and no two are spelled alike.
use Rattle.std.specs.Prelude.{◌≡◌, ◌↔◌, ℕ, List, [], ◌∷◌, Option, Some, None, Bool, true, false, cond}
use Rattle.std.specs.List.{find}
use Rattle.std.proofs.Common.{bytes_eq, refl, sym, ap, ◌∙◌}
use Rattle.std.proofs.lemmas.Bool.{true≢false}
use Rattle.std.proofs.lemmas.Slice.Eq.{bytes_eq-Decides}
use Rattle.apt_words.specs.declared.word.Word.{Word}
use Rattle.apt_words.specs.declared.word.Word.TheVariants as words
use Rattle.apt_words.specs.Symbols.{is_symbol}
use Rattle.apt_words.specs.Vocabulary.{spelling, vocabulary, word_of}

-- the spelling of a word spells it
word_of-spelling : (w : Word) → word_of (spelling w) ≡ Some w
unfolding word_of
word_of-spelling words.Partno = refl
word_of-spelling _ = refl

some_same : (v w : Word) → Some v ≡ Some w → v ≡ w
some_same v w e = cc

spelling-first : (text : List ℕ) (v w : Word) (rest : Option Word) (b : Bool) → (b ≡ true → spelling v ≡ text)
    → (rest ≡ Some w → text ≡ spelling w) → cond b (Some v) rest ≡ Some w → text ≡ spelling w
spelling-first text v w rest true same more e = sym (same refl) ∙ ap spelling (some_same v w e)
spelling-first text v w rest false same more e = more e

-- what is found among some words is spelled so
spelling-find : (text : List ℕ) (ws : List Word) (w : Word) → find (λ v. bytes_eq (spelling v) text) ws ≡ Some w → text ≡ spelling w
spelling-find text [] w e = cc
spelling-find text (v ∷ vs) w e =
    spelling-first text v w _ (bytes_eq (spelling v) text) (bytes_eq-Decides (spelling v) text).0 (spelling-find text vs w) e

-- a text spells a word exactly where it is the word's spelling
pub spelled : (text : List ℕ) (w : Word) → (word_of text ≡ Some w) ↔ (text ≡ spelling w)
unfolding word_of
spelled text w = (spelling-find text vocabulary w, λ e. ap word_of e ∙ word_of-spelling w)

-- each word is a symbol
pub spelling_is_symbol : (w : Word) → is_symbol (spelling w) ≡ true
spelling_is_symbol words.Partno = refl
spelling_is_symbol _ = refl

no_word_if : (text : List ℕ) (found : Option Word) → word_of text ≡ found → is_symbol text ≡ false → found ≡ None
no_word_if text None e other = refl
no_word_if text (Some w) e other =
    absurd (true≢false (sym (ap is_symbol ((spelled text w).0 e) ∙ spelling_is_symbol w) ∙ other))

-- what is no symbol spells no word
pub no_word : (text : List ℕ) → is_symbol text ≡ false → word_of text ≡ None
no_word text other = no_word_if text (word_of text) refl other
