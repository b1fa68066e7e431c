-- Titles and the blanks round them.
use Rattle.std.proofs.Common.{◌≡◌, ◌≢◌, ℕ, ◌-◌, ◌==◌, List, [], ◌∷◌, length, map, take, drop, Bool, true, false, Some, None, ap, ◌∙◌, sym, refl, subst}
use Rattle.std.specs.Prelude.{Option, option_map, option_and_then}
use Rattle.std.proofs.Common.{bytes_eq}
use native.Mathlib.Numerals.{unary_clauses}
use Rattle.std.proofs.lemmas.List.{length-map}
use Rattle.std.proofs.lemmas.Slice.Eq.{bytes_eq-Decides}
use Rattle.apt_words.specs.Options.{◌>>=◌, only_if}
use Rattle.apt_words.specs.Symbols.{is_symbol, is_name}
use Rattle.apt_words.specs.Vocabulary.{spelling, word_of}
use Rattle.apt_words.specs.declared.word.Word.{Word}
use Rattle.apt_words.specs.declared.word.Word.TheVariants as words
use Rattle.apt_words.proofs.Words.{spelled, no_word}
use Rattle.apt_lexis.specs.declared.token.Token.TheVariants as tokens
use Rattle.apt_lexis.specs.Tokens.{capital}
use Rattle.apt_lexis.specs.Titles.{Title, without_blanks, unless_last, takes_text, title_word, title, labelled, with_label, title_behind, behind_close, with_tokens}
use Rattle.apt_lexis.proofs.Capitals.{no_both}
use Rattle.apt_words.proofs.Same.{other_length}

-- ---- blanks at the end

stripped : (b : ℕ) (bs : List ℕ) → bytes_eq (drop (length bs) (b ∷ bs)) (32 ∷ []) ≡ true → without_blanks (take (length bs) (b ∷ bs)) ≡ without_blanks (b ∷ bs)
stripped b [] e = subst (λ text. [] ≡ without_blanks text) (sym ((bytes_eq-Decides (b ∷ []) (32 ∷ [])).0 e)) refl
stripped b (c ∷ cs) e = ap (unless_last b) (stripped c cs e)

other_last : (b : ℕ) → bytes_eq (b ∷ []) (32 ∷ []) ≡ false → (b == 32) ≡ false
other_last b e = elim (b == 32) as (λ t. (b == 32) ≡ t → t ≡ false) [
  | true ↦ λ f. let g = rw f at e in (cc)
  | false ↦ λ f. refl
] refl

stays : (b : ℕ) (bs : List ℕ) → bytes_eq (drop (length bs) (b ∷ bs)) (32 ∷ []) ≡ false → without_blanks (b ∷ bs) ≡ b ∷ bs
stays b [] e = rw (other_last b e) refl
stays b (c ∷ cs) e = ap (unless_last b) (stays c cs e)

-- a blank at the end is dropped
pub blank_stripped : (text : List ℕ) → bytes_eq (drop (length text - 1) text) (32 ∷ []) ≡ true → without_blanks (take (length text - 1) text) ≡ without_blanks text
blank_stripped [] e = refl
blank_stripped (b ∷ bs) e = simp unary_clauses (stripped b bs (simp unary_clauses at e))

-- another byte at the end stays
pub last_stays : (text : List ℕ) → bytes_eq (drop (length text - 1) text) (32 ∷ []) ≡ false → without_blanks text ≡ text
last_stays [] e = refl
last_stays (b ∷ bs) e = stays b bs (simp unary_clauses at e)

only_none : {A : Type 0} (b : Bool) (x : A) → only_if b x ≡ None → b ≡ false
only_none true x e = cc
only_none false x e = refl

only_some : {A : Type 0} (b : Bool) (x y : A) → only_if b x ≡ Some y → y ≡ x
only_some true x y e = cc
only_some false x y e = cc

only_false : {A : Type 0} (b : Bool) (x : A) → b ≡ false → only_if b x ≡ None
only_false true x e = cc
only_false false x e = refl

pub symbol_is : (word w : List ℕ) → only_if (is_symbol word) word ≡ Some w → w ≡ word
symbol_is word w e = only_some (is_symbol word) word w e

pub is_symbol_of : (word w : List ℕ) → only_if (is_symbol word) word ≡ Some w → is_symbol word ≡ true
is_symbol_of word w e = passed (is_symbol word) word w e
  where
    passed : (t : Bool) (x y : List ℕ) → only_if t x ≡ Some y → t ≡ true
    passed true x y e = refl
    passed false x y e = cc

-- ---- PARTNO and REMARK

-- what is no symbol is no word of a title
pub no_symbol : (word : List ℕ) → only_if (is_symbol word) word ≡ None → title_word word ≡ None
no_symbol word e = rw (no_word word (only_none (is_symbol word) word e)) refl

same_text : (word : List ℕ) (w : Word) → bytes_eq word (spelling w) ≡ true → word_of word ≡ Some w
same_text word w e = (spelled word w).1 ((bytes_eq-Decides word (spelling w)).0 e)

other_text : (word : List ℕ) (w : Word) → bytes_eq word (spelling w) ≡ false → word_of word ≡ Some w → ⊥
other_text word w other e = no_both (bytes_eq word (spelling w)) ((bytes_eq-Decides word (spelling w)).1 ((spelled word w).0 e)) other

pub is_partno : (word : List ℕ) → bytes_eq word (spelling words.Partno) ≡ true → title_word word ≡ Some words.Partno
is_partno word e = rw (same_text word words.Partno e) refl

pub is_remark : (word : List ℕ) → bytes_eq word (spelling words.Remark) ≡ true → title_word word ≡ Some words.Remark
is_remark word e = rw (same_text word words.Remark e) refl

no_title_in : (word : List ℕ) (found : Option Word) → word_of word ≡ found → bytes_eq word (spelling words.Partno) ≡ false
    → bytes_eq word (spelling words.Remark) ≡ false → (found >>= λ w. only_if (takes_text w) w) ≡ None
no_title_in word None e f g = refl
no_title_in word (Some words.Partno) e f g = absurd (other_text word words.Partno f e)
no_title_in word (Some words.Remark) e f g = absurd (other_text word words.Remark g e)
no_title_in word (Some _) e f g = refl

-- a text that is neither
pub no_title_spelled : (word : List ℕ) → bytes_eq word (spelling words.Partno) ≡ false → bytes_eq word (spelling words.Remark) ≡ false
    → title_word word ≡ None
no_title_spelled word f g = no_title_in word (word_of word) refl f g

-- the words of titles have six letters
pub no_title_of : (text : List ℕ) → length text ≢ 6 → title_word (map capital text) ≡ None
no_title_of text h =
    let other : length (map capital text) ≢ 6 = λ e. h (sym (length-map text capital) ∙ e) in
    no_title_spelled (map capital text) (other_length (map capital text) (spelling words.Partno) other) (other_length (map capital text) (spelling words.Remark) other)

-- ---- labels

pub no_name : (word : List ℕ) → only_if (is_symbol word) word ≡ None → is_name word ≡ false
no_name word e = rw (only_none (is_symbol word) word e) refl

-- behind a label that is not closed
pub not_closed : (name rest : List ℕ) → behind_close rest ≡ None → with_label name rest ≡ None
not_closed name rest e = elim (is_name name) as (λ t. (only_if t name >>= λ n. labelled n rest) ≡ None) [
  | true ↦ rw e refl
  | false ↦ refl
]

-- no title behind a label
pub untitled : (name rest line : List ℕ) → behind_close rest ≡ Some line → title line ≡ None → with_label name rest ≡ None
untitled name rest line e f = elim (is_name name) as (λ t. (only_if t name >>= λ n. labelled n rest) ≡ None) [
  | true ↦ rw (e, f) refl
  | false ↦ refl
]

pub no_label : (name rest : List ℕ) → is_name name ≡ false → with_label name rest ≡ None
no_label name rest e = rw e refl

pub behind_nothing : (t : Option Title) → option_map (with_tokens []) t ≡ t
behind_nothing None = refl
behind_nothing (Some (ts, text)) = refl

add_name : (name : List ℕ) (line : Option (List ℕ))
    → option_map (with_tokens (tokens.Name name ∷ [])) (option_map (with_tokens (tokens.Close ∷ [])) (option_and_then title line)) ≡ (line >>= title >>= λ t. Some (with_tokens (tokens.Name name ∷ tokens.Close ∷ []) t))
add_name name None = refl
add_name name (Some line) = of_title name (title line)
  where
    of_title : (name : List ℕ) (t : Option Title) → option_map (with_tokens (tokens.Name name ∷ [])) (option_map (with_tokens (tokens.Close ∷ [])) t) ≡ (t >>= λ t. Some (with_tokens (tokens.Name name ∷ tokens.Close ∷ []) t))
    of_title name None = refl
    of_title name (Some (ts, text)) = refl

pub behind_name : (name line : List ℕ)
    → option_map (with_tokens (tokens.Name name ∷ [])) (option_map (with_tokens (tokens.Close ∷ [])) (option_and_then title (behind_close line))) ≡ labelled name line
behind_name name line = add_name name (behind_close line)

option_map_is : {A B : Type 0} (f : A → B) (o : Option A) → option_map f o ≡ (o >>= λ u. Some (f u))
option_map_is f None = refl
option_map_is f (Some x) = refl

pub behind_closed : (name line : List ℕ) → option_map (with_tokens (tokens.Name name ∷ tokens.Close ∷ [])) (title line) ≡ title_behind (tokens.Name name ∷ tokens.Close ∷ []) line
behind_closed name line = option_map_is (with_tokens (tokens.Name name ∷ tokens.Close ∷ [])) (title line)
