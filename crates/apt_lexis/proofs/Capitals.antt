-- Words in capitals.
use Rattle.std.proofs.Common.{◌≡◌, ℕ, ◌+◌, ◌<◌, ◌≤◌, List, [], ◌∷◌, ◌++◌, length, map, take, get_or, set, Bool, true, false, inl, inr, sym, ap, ◌∙◌, subst, arith, refl, length-drop}
use Rattle.std.specs.Prelude.{◌&&◌, nat_le}
use Rattle.std.specs.List.{list_all, prefix_len}
use Rattle.std.proofs.lemmas.Grind.{common_steps}
use Rattle.std.proofs.lemmas.Bool.Decides.{nat_tests}
use Rattle.std.proofs.lemmas.Bool.{cases_lt}
use Rattle.std.proofs.lemmas.List.{take_more, take_more_set, map-append, length-map}
use Rattle.std.proofs.lemmas.List.Sums.{prefix_len-le-length, prefix_len_passes, prefix_len_stops}
use Rattle.std.proofs.Math.Seq.{take-length}
use Rattle.apt_words.specs.Symbols.{is_symbol, is_capital, is_capital_or_digit}
use Rattle.apt_lexis.specs.Titles.{behind}
use Rattle.apt_lexis.specs.Tokens.{capital, is_letter, is_letter_or_digit, begins_with_letter}
use Rattle.apt_lexis.proofs.Fronts.{front_length, front_passes, front_short, take_front, prefix_yes, prefix_no, whole_front}

pub no_both : (t : Bool) → t ≡ true → t ≡ false → ⊥
no_both t e f = cc

-- ---- how far letters and digits go

pub front_more : (text : List ℕ) (at : ℕ) → at ≤ prefix_len is_letter_or_digit text → at < length text → is_letter_or_digit (get_or text at 0) ≡ true → at < prefix_len is_letter_or_digit text
front_more text at h k e = elim (cases_lt at (prefix_len is_letter_or_digit text)) [
  | inl below ↦ below
  | inr past ↦
      let same : prefix_len is_letter_or_digit text ≡ at = omega (arith, h, past) in
      let stops = prefix_len_stops is_letter_or_digit text 0 (omega (arith, same, k)) in
      absurd (no_both _ e (subst (λ n. is_letter_or_digit (get_or text n 0) ≡ false) same stops))
]

pub front_ends : (text : List ℕ) (at : ℕ) → at ≤ prefix_len is_letter_or_digit text → is_letter_or_digit (get_or text at 0) ≡ false → prefix_len is_letter_or_digit text ≡ at
front_ends text at h e = elim (cases_lt at (prefix_len is_letter_or_digit text)) [
  | inl below ↦ absurd (no_both _ (prefix_len_passes is_letter_or_digit text at 0 below) e)
  | inr past ↦ omega (arith, h, past)
]

pub front_past : (text : List ℕ) (at : ℕ) → at ≤ prefix_len is_letter_or_digit text → length text ≤ at → prefix_len is_letter_or_digit text ≡ at
front_past text at h k = omega (arith, prefix_len-le-length is_letter_or_digit text, h, k)

-- one letter or digit more
pub capitals_more : (capitals text : List ℕ) (n : ℕ) (b : ℕ) → n < length capitals → n < length text → b ≡ capital (get_or text n 0) → take n capitals ≡ map capital (take n text)
    → take (n + 1) (set capitals n b) ≡ map capital (take (n + 1) text)
capitals_more capitals text n b h k e same =
    take_more_set capitals n b h ∙ ap (λ front. front ++ b ∷ []) same ∙ ap (λ c. map capital (take n text) ++ c ∷ []) e
    ∙ sym (map-append capital (take n text) (get_or text n 0 ∷ [])) ∙ ap (map capital) (sym (take_more text n 0 k))

-- ---- which letters and digits are a symbol

too_long : (n : ℕ) → 5 < n → nat_le n 5 ≡ false
too_long n h = grind (arith, nat_tests)

-- more than six letters and digits are no symbol
long_is_no_symbol : (text : List ℕ) → 6 < length text → is_symbol (map capital text) ≡ false
long_is_no_symbol [] h = absurd (omega arith)
long_is_no_symbol (b ∷ bs) h = rw (too_long (length (map capital bs)) (grind (arith, common_steps))) refl

pub long_front : (text : List ℕ) → 6 < prefix_len is_letter_or_digit text → is_symbol (map capital (take (prefix_len is_letter_or_digit text) text)) ≡ false
long_front text h = long_is_no_symbol (take (prefix_len is_letter_or_digit text) text) (rw (front_length is_letter_or_digit text) h)

digit_is_no_capital : (b : ℕ) → is_letter b ≡ false → is_capital (capital b) ≡ false
digit_is_no_capital b e = grind (arith, nat_tests)

letter_is_capital : (b : ℕ) → is_letter b ≡ true → is_capital (capital b) ≡ true
letter_is_capital b e = grind (arith, nat_tests)

pub letter_or_digit_of_letter : (b : ℕ) → is_letter b ≡ true → is_letter_or_digit b ≡ true
letter_or_digit_of_letter b e = rw e refl

in_capitals : (b : ℕ) → is_letter_or_digit b ≡ true → is_capital_or_digit (capital b) ≡ true
in_capitals b e = grind (arith, nat_tests)

in_capitals_of_capital : (b : ℕ) → is_capital b ≡ true → is_capital_or_digit b ≡ true
in_capitals_of_capital b e = rw e refl

of_capitals : (b : ℕ) → is_capital_or_digit (capital b) ≡ true → is_letter_or_digit b ≡ true
of_capitals b e = grind (arith, nat_tests)

second_false : (a b c : Bool) → b ≡ false → (a && b && c) ≡ false
second_false true b c e = rw e refl
second_false false b c e = refl

no_capital_first : (b : ℕ) (bs : List ℕ) → is_letter b ≡ false → is_symbol (map capital (b ∷ bs)) ≡ false
no_capital_first b bs e = second_false (nat_le (length (map capital bs)) 5) (is_capital (capital b)) (list_all is_capital_or_digit (map capital bs)) (digit_is_no_capital b e)

-- a word begins with a letter
pub other_first : (text : List ℕ) → begins_with_letter text ≡ false → is_symbol (map capital (take (prefix_len is_letter_or_digit text) text)) ≡ false
other_first [] e = refl
other_first (b ∷ bs) e = elim (is_letter_or_digit b) as (λ t. is_letter_or_digit b ≡ t → is_symbol (map capital (take (prefix_len is_letter_or_digit (b ∷ bs)) (b ∷ bs))) ≡ false) [
  | true ↦ λ f. rw (take_front is_letter_or_digit b bs f) (no_capital_first b (take (prefix_len is_letter_or_digit bs) bs) e)
  | false ↦ λ f. rw (prefix_no is_letter_or_digit b bs f) refl
] refl

all_capitals : (text : List ℕ) → list_all is_letter_or_digit text ≡ true → list_all is_capital_or_digit (map capital text) ≡ true
all_capitals [] e = refl
all_capitals (b ∷ bs) e = elim (is_letter_or_digit b) as (λ t. is_letter_or_digit b ≡ t → (t && list_all is_letter_or_digit bs) ≡ true → list_all is_capital_or_digit (map capital (b ∷ bs)) ≡ true) [
  | true ↦ λ f g. rw (in_capitals b f) (all_capitals bs g)
  | false ↦ λ f g. cc
] refl e

all_true : (a b c : Bool) → a ≡ true → b ≡ true → c ≡ true → (a && b && c) ≡ true
all_true a b c e f g = rw (e, f, g) refl

few_enough : (n : ℕ) → 1 + n ≤ 6 → nat_le n 5 ≡ true
few_enough n h = grind (arith, nat_tests)

-- at most six letters and digits from a letter on are a symbol
pub is_symbol_front : (text : List ℕ) → begins_with_letter text ≡ true → prefix_len is_letter_or_digit text ≤ 6 → is_symbol (map capital (take (prefix_len is_letter_or_digit text) text)) ≡ true
is_symbol_front [] e h = cc
is_symbol_front (b ∷ bs) e h =
    let f = letter_or_digit_of_letter b e in
    rw (take_front is_letter_or_digit b bs f)
    (all_true (nat_le (length (map capital (take (prefix_len is_letter_or_digit bs) bs))) 5) (is_capital (capital b)) (list_all is_capital_or_digit (map capital (take (prefix_len is_letter_or_digit bs) bs)))
    (few_enough _ (omega (arith, h, prefix_yes is_letter_or_digit b bs f, length-map (take (prefix_len is_letter_or_digit bs) bs) capital, front_length is_letter_or_digit bs)))
    (letter_is_capital b e)
    (all_capitals (take (prefix_len is_letter_or_digit bs) bs) (front_passes is_letter_or_digit bs)))

-- ---- a text that is to be a symbol as a whole

all_letters : (text : List ℕ) → list_all is_capital_or_digit (map capital text) ≡ true → list_all is_letter_or_digit text ≡ true
all_letters [] e = refl
all_letters (b ∷ bs) e = elim (is_capital_or_digit (capital b)) as (λ t. is_capital_or_digit (capital b) ≡ t → (t && list_all is_capital_or_digit (map capital bs)) ≡ true → list_all is_letter_or_digit (b ∷ bs) ≡ true) [
  | true ↦ λ f g. rw (of_capitals b f) (all_letters bs g)
  | false ↦ λ f g. cc
] refl e

symbol_letters : (text : List ℕ) → is_symbol (map capital text) ≡ true → prefix_len is_letter_or_digit text ≡ length text
symbol_letters text e = whole_front is_letter_or_digit text (all_letters text (capitals_of text e))
  where
    middle_of : (a b c : Bool) → (a && b && c) ≡ true → b ≡ true
    middle_of true true c e = refl
    middle_of true false c e = cc
    middle_of false b c e = cc

    last_of : (a b c : Bool) → (a && b && c) ≡ true → c ≡ true
    last_of true true c e = e
    last_of true false c e = cc
    last_of false b c e = cc

    capitals_of : (text : List ℕ) → is_symbol (map capital text) ≡ true → list_all is_capital_or_digit (map capital text) ≡ true
    capitals_of [] e = refl
    capitals_of (b ∷ bs) e =
        rw (in_capitals_of_capital (capital b) (middle_of (nat_le (length (map capital bs)) 5) (is_capital (capital b)) _ e)) (last_of (nat_le (length (map capital bs)) 5) (is_capital (capital b)) _ e)

-- what is no symbol up to where its letters and digits end is none as a whole
pub no_symbol : (text : List ℕ) → is_symbol (map capital (take (prefix_len is_letter_or_digit text) text)) ≡ false → is_symbol (map capital text) ≡ false
no_symbol text e = elim (is_symbol (map capital text)) as (λ t. is_symbol (map capital text) ≡ t → t ≡ false) [
  | true ↦ λ f.
      let whole : take (prefix_len is_letter_or_digit text) text ≡ text = ap (λ n. take n text) (symbol_letters text f) ∙ take-length text in
      absurd (no_both _ f (subst (λ front. is_symbol (map capital front) ≡ false) whole e))
  | false ↦ λ f. refl
] refl

-- nor is a text with another byte
pub other_behind : (text : List ℕ) → 0 < length (behind is_letter_or_digit text) → is_symbol (map capital text) ≡ false
other_behind text h = elim (is_symbol (map capital text)) as (λ t. is_symbol (map capital text) ≡ t → t ≡ false) [
  | true ↦ λ f. absurd (omega (arith, h, symbol_letters text f, length-drop (prefix_len is_letter_or_digit text) text))
  | false ↦ λ f. refl
] refl

pub whole_word : (text : List ℕ) → length (behind is_letter_or_digit text) ≡ 0 → take (prefix_len is_letter_or_digit text) text ≡ text
whole_word text h =
    let all : prefix_len is_letter_or_digit text ≡ length text = omega (arith, h, length-drop (prefix_len is_letter_or_digit text) text, front_short is_letter_or_digit text) in
    ap (λ n. take n text) all ∙ take-length text
