-- The words of one length that begin with one letter: where they stand, and that a text is looked up among them.
use Rattle.std.proofs.Common.{◌≡◌, ℕ, zero, suc, ◌+◌, ◌-◌, ◌<◌, ◌≤◌, ◌==◌, ◌&&◌, List, [], ◌∷◌, length, Bool, true, false, refl, sym, ap, ◌∙◌, bytes_eq, arith, cond, subst, ⊎_elim, ◌⊎◌}
use Rattle.std.specs.Prelude.{Option, None, take, drop, nat_le, slice_index_or}
use Rattle.std.specs.List.{find, filter}
use Rattle.std.proofs.lemmas.Bool.{cases_lt, eqb-true, true≢false}
use Rattle.std.proofs.lemmas.Bool.Decides.{nat_tests}
use Rattle.apt_words.specs.declared.word.TheConstants.{OF_TWO, OF_THREE, OF_FOUR, OF_FIVE, OF_SIX}
use Rattle.apt_words.specs.declared.word.Word.{Word}
use Rattle.apt_words.specs.declared.word.Word.TheVariants as words
use Rattle.apt_words.specs.Lookup.{begins_with, is_alike, alike, AreStarts}
use Rattle.apt_words.specs.Symbols.{is_symbol, is_capital}
use Rattle.apt_words.specs.Vocabulary.{spelling, vocabulary, word_of}
use Rattle.apt_words.proofs.Same.{other_length}
use Rattle.apt_words.proofs.Texts.{first_of_both, second_of_both}
use Rattle.apt_words.proofs.Words.{spelling_is_symbol}

-- ---- two functions that agree below a number

abbrev values : {A : Type 0} → (ℕ → A) → ℕ → List A
values f zero = []
values f (suc n) = f n ∷ values f n

pub heads : {A : Type 0} (x y : A) (xs ys : List A) → x ∷ xs ≡ y ∷ ys → x ≡ y
heads x y xs ys e = cc

pub tails : {A : Type 0} (x y : A) (xs ys : List A) → x ∷ xs ≡ y ∷ ys → xs ≡ ys
tails x y xs ys e = cc

agree_below : {A : Type 0} (f g : ℕ → A) (n at : ℕ) → values f n ≡ values g n → at < n → f at ≡ g at
agree_below f g zero at e h = absurd (omega (arith, h))
agree_below f g (suc n) at e h = ⊎_elim
    (λ under. agree_below f g n at (tails (f n) (g n) _ _ e) under)
    (λ over. let last : n ≡ at = omega (arith, h, over) in subst (λ k. f k ≡ g k) last (heads (f n) (g n) _ _ e))
    (cases_lt at n)

-- ---- a table of starts

abbrev start : List ℕ → ℕ → ℕ
start starts at = slice_index_or starts at 0

abbrev part : List ℕ → ℕ → List Word
part starts at = take (start starts (at + 1) - start starts at) (drop (start starts at) vocabulary)

in_order : (starts : List ℕ) → values (λ at. nat_le (start starts at) (start starts (at + 1))) 26 ≡ values (λ at. true) 26
    → (at : ℕ) → at < 26 → start starts at ≤ start starts (at + 1)
in_order starts e at h =
    let here : nat_le (start starts at) (start starts (at + 1)) ≡ true = agree_below (λ at. nat_le (start starts at) (start starts (at + 1))) (λ at. true) 26 at e h in
    grind (arith, nat_tests)

within : (starts : List ℕ) → values (λ at. nat_le (start starts at) (length vocabulary)) 27 ≡ values (λ at. true) 27
    → (at : ℕ) → at < 27 → start starts at ≤ length vocabulary
within starts e at h =
    let here : nat_le (start starts at) (length vocabulary) ≡ true = agree_below (λ at. nat_le (start starts at) (length vocabulary)) (λ at. true) 27 at e h in
    grind (arith, nat_tests)

words_of : (n : ℕ) (starts : List ℕ) → values (part starts) 26 ≡ values (λ at. alike n (65 + at)) 26
    → (letter : ℕ) → 65 ≤ letter → letter ≤ 90 → part starts (letter - 65) ≡ alike n letter
words_of n starts same letter h k =
    let e : 65 + (letter - 65) ≡ letter = omega (arith, h) in
    agree_below (part starts) (λ at. alike n (65 + at)) 26 (letter - 65) same (omega (arith, h, k)) ∙ ap (alike n) e

-- a table is one of starts where it is so for each letter
are_starts : (n : ℕ) (starts : List ℕ) → length starts ≡ 27
    → values (λ at. nat_le (start starts at) (start starts (at + 1))) 26 ≡ values (λ at. true) 26
    → values (λ at. nat_le (start starts at) (length vocabulary)) 27 ≡ values (λ at. true) 27
    → values (part starts) 26 ≡ values (λ at. alike n (65 + at)) 26
    → AreStarts n starts
are_starts n starts letters order inside same =
    record {
      letters = letters;
      order = in_order starts order;
      within = within starts inside;
      words = words_of n starts same;
    }

-- ---- the tables of the lookup

pub of_two : AreStarts 2 OF_TWO
of_two = are_starts 2 OF_TWO refl refl refl refl

pub of_three : AreStarts 3 OF_THREE
of_three = are_starts 3 OF_THREE refl refl refl refl

pub of_four : AreStarts 4 OF_FOUR
of_four = are_starts 4 OF_FOUR refl refl refl refl

pub of_five : AreStarts 5 OF_FIVE
of_five = are_starts 5 OF_FIVE refl refl refl refl

pub of_six : AreStarts 6 OF_SIX
of_six = are_starts 6 OF_SIX refl refl refl refl

-- ---- the words that are like a text are enough

other_letter : (letter : ℕ) (more text : List ℕ) → begins_with letter text ≡ false → bytes_eq text (letter ∷ more) ≡ false
other_letter letter more [] e = refl
other_letter letter more (b ∷ bs) e = rw e refl

by_length : (n letter : ℕ) (more text : List ℕ) (b : Bool) → n ≡ length (letter ∷ more) → length text == n ≡ b → (b && begins_with letter text) ≡ false
    → bytes_eq text (letter ∷ more) ≡ false
by_length n letter more text true same e other = other_letter letter more text other
by_length n letter more text false same e other = other_length text (letter ∷ more) (λ as_long. grind (arith, nat_tests))

unlike : (n letter : ℕ) (more text : List ℕ) → n ≡ length (letter ∷ more) → is_alike n letter text ≡ false → bytes_eq text (letter ∷ more) ≡ false
unlike n letter more text same other = by_length n letter more text (length text == n) same refl other

abbrev found : List ℕ → List Word → Option Word
found text ws = find (λ w. bytes_eq (spelling w) text) ws

abbrev alike_in : ℕ → ℕ → List Word → List Word
alike_in n letter ws = filter (λ w. is_alike n letter (spelling w)) ws

found_first : (n letter : ℕ) (more : List ℕ) (w : Word) (ws : List Word) (b : Bool) → n ≡ length (letter ∷ more) → is_alike n letter (spelling w) ≡ b
    → found (letter ∷ more) (alike_in n letter ws) ≡ found (letter ∷ more) ws
    → found (letter ∷ more) (cond b (w ∷ alike_in n letter ws) (alike_in n letter ws)) ≡ found (letter ∷ more) (w ∷ ws)
found_first n letter more w ws true same e rest = rw rest refl
found_first n letter more w ws false same e rest = rw (unlike n letter more (spelling w) same e) rest

found_in : (n letter : ℕ) (more : List ℕ) (ws : List Word) → n ≡ length (letter ∷ more)
    → found (letter ∷ more) (alike_in n letter ws) ≡ found (letter ∷ more) ws
found_in n letter more [] same = refl
found_in n letter more (w ∷ ws) same = found_first n letter more w ws (is_alike n letter (spelling w)) same refl (found_in n letter more ws same)

found_front : (letter : ℕ) (more : List ℕ) → found (letter ∷ more) (alike (length (letter ∷ more)) letter) ≡ word_of (letter ∷ more)
unfolding word_of
found_front letter more = found_in (length (letter ∷ more)) letter more vocabulary refl

pub found_alike : (text : List ℕ) (letter : ℕ) (more : List ℕ) → text ≡ letter ∷ more → find (λ w. bytes_eq (spelling w) text) (alike (length text) letter) ≡ word_of text
found_alike text letter more e = rw e (found_front letter more)

pub empty_spells_none : (text : List ℕ) → length text ≡ 0 → None ≡ word_of text
unfolding word_of
empty_spells_none [] e = refl
empty_spells_none (b ∷ bs) e = absurd (omega (arith, e))

-- ---- no word begins with another byte than a capital, and none is shorter than two letters or longer than six

capital_first : (text : List ℕ) (letter : ℕ) → is_symbol text ≡ true → begins_with letter text ≡ true → is_capital letter ≡ true
capital_first [] letter s e = cc
capital_first (b ∷ bs) letter s e =
    let same : b ≡ letter = eqb-true b letter e in
    subst (λ k. is_capital k ≡ true) same (second_of_both (nat_le (length bs) 5) _ (first_of_both (nat_le (length bs) 5 && is_capital b) _ s))

none_in : (n letter : ℕ) (ws : List Word) → ((w : Word) → is_alike n letter (spelling w) ≡ false) → alike_in n letter ws ≡ []
none_in n letter [] none = refl
none_in n letter (w ∷ ws) none = rw (none w) (none_in n letter ws none)

not_both : (a b : Bool) → (b ≡ true → a ≡ true) → a ≡ false → b ≡ false
not_both a true f e = absurd (true≢false (sym (f refl) ∙ e))
not_both a false f e = refl

pub no_other : (n letter : ℕ) → is_capital letter ≡ false → alike n letter ≡ []
no_other n letter other =
    none_in n letter vocabulary (λ w.
    not_both (is_capital letter) (is_alike n letter (spelling w))
    (λ e. capital_first (spelling w) letter (spelling_is_symbol w) (second_of_both (length (spelling w) == n) _ e)) other)

abbrev is_length : ℕ → Bool
is_length n = nat_le 2 n && nat_le n 6

word_length : (w : Word) → is_length (length (spelling w)) ≡ true
word_length words.Partno = refl
word_length _ = refl

as_long : (n k : ℕ) → k == n ≡ true → is_length k ≡ true → is_length n ≡ true
as_long n k e h = subst (λ m. is_length m ≡ true) (eqb-true k n e) h

no_length : (n : ℕ) → (n < 2) ⊎ (6 < n) → is_length n ≡ false
no_length n h = grind (arith, nat_tests)

pub none_so_long : (n letter : ℕ) → (n < 2) ⊎ (6 < n) → alike n letter ≡ []
none_so_long n letter other =
    none_in n letter vocabulary (λ w.
    not_both (is_length n) (is_alike n letter (spelling w))
    (λ e. as_long n (length (spelling w)) (first_of_both (length (spelling w) == n) _ e) (word_length w)) (no_length n other))
