-- The tokens of a text, one after another.
use Rattle.std.proofs.Common.{◌≡◌, ℕ, ◌+◌, ◌<◌, List, [], ◌∷◌, ◌++◌, length, take, drop, Bool, true, false, ap, ◌∙◌, sym, refl, arith, cond, subst, append_assoc, append-nil}
use Rattle.std.specs.Prelude.{ℤ, ◌||◌, map, Some, None, Ok, Err}
use Rattle.std.specs.List.{prefix_len, take_while, flat_map}
use Rattle.std.proofs.lemmas.Bool.Decides.{nat_tests}
use Rattle.apt_words.specs.Symbols.{is_symbol}
use Rattle.apt_lexis.specs.declared.cause.PartCause.{PartCause}
use Rattle.apt_lexis.specs.declared.cause.PartCause.TheVariants as causes
use Rattle.apt_lexis.specs.declared.token.Token.{Token}
use Rattle.apt_lexis.specs.declared.token.Token.TheVariants as tokens
use Rattle.apt_lexis.specs.Lines.{in_front}
use Rattle.apt_lexis.specs.Tokens.{Read, Tokens, tokens_of, is_blank, is_letter, is_letter_or_digit, is_in_run, capital, runs, tokens_of_run, of_symbol, word, number, number_in, or_bad_number, number_behind, mark, all_good, in_front_of}
use Rattle.apt_lexis.specs.Titles.{behind}
use Rattle.apt_lexis.specs.Sentences.{joined}
use Rattle.apt_lexis.proofs.Fronts.{prefix_yes, prefix_no, take_one_more, drop_one_more, take_front, none_behind, none_first}
use Rattle.apt_lexis.proofs.Capitals.{letter_or_digit_of_letter}

abbrev pub reads_of : List ℕ → List Read
reads_of text = flat_map tokens_of_run (runs text)

-- ---- characters

in_run_of_letter_or_digit : (b : ℕ) → is_letter_or_digit b ≡ true → is_in_run b ≡ true
in_run_of_letter_or_digit b e = rw e refl

in_run_of_letter : (b : ℕ) → is_letter b ≡ true → is_in_run b ≡ true
in_run_of_letter b e = in_run_of_letter_or_digit b (letter_or_digit_of_letter b e)

neither : (x y : Bool) → (x || y) ≡ false → x ≡ false
neither true y e = e
neither false y e = refl

no_letter : (b : ℕ) → is_letter_or_digit b ≡ false → is_letter b ≡ false
no_letter b e = neither (is_letter b) _ e

pub no_run_of_blank : (b : ℕ) → is_blank b ≡ true → is_in_run b ≡ false
no_run_of_blank b e = grind (arith, nat_tests)

-- ---- blanks

pub reads_blank : (b : ℕ) (bs : List ℕ) → is_blank b ≡ true → reads_of (b ∷ bs) ≡ reads_of bs
reads_blank b bs e = rw (no_run_of_blank b e, e) refl

pub reads_behind_blanks : (text : List ℕ) → reads_of (behind is_blank text) ≡ reads_of text
reads_behind_blanks [] = refl
reads_behind_blanks (b ∷ bs) = elim (is_blank b) as (λ t. is_blank b ≡ t → reads_of (drop (cond t (1 + prefix_len is_blank bs) 0) (b ∷ bs)) ≡ reads_of (b ∷ bs)) [
  | true ↦ λ e. rw (drop_one_more (prefix_len is_blank bs) b bs) (reads_behind_blanks bs ∙ sym (reads_blank b bs e))
  | false ↦ λ e. refl
] refl

-- ---- runs

-- a run takes all letters, digits and points that stand together
runs_begun : (b : ℕ) (bs : List ℕ) → is_in_run b ≡ true → runs (b ∷ bs) ≡ take (prefix_len is_in_run (b ∷ bs)) (b ∷ bs) ∷ runs (drop (prefix_len is_in_run (b ∷ bs)) (b ∷ bs))
runs_begun b [] e = rw e refl
runs_begun b (c ∷ cs) e = elim (is_in_run c) as (λ t. is_in_run c ≡ t → runs (b ∷ c ∷ cs) ≡ take (prefix_len is_in_run (b ∷ c ∷ cs)) (b ∷ c ∷ cs) ∷ runs (drop (prefix_len is_in_run (b ∷ c ∷ cs)) (b ∷ c ∷ cs))) [
  | true ↦ λ f.
      rw (prefix_yes is_in_run b (c ∷ cs) e, take_one_more b (prefix_len is_in_run (c ∷ cs)) (c ∷ cs), drop_one_more (prefix_len is_in_run (c ∷ cs)) b (c ∷ cs))
      (runs_longer b c cs e f ∙ ap (in_front b) (runs_begun c cs f))
  | false ↦ λ f. rw (prefix_yes is_in_run b (c ∷ cs) e, prefix_no is_in_run c cs f) (runs_ended b c cs e f)
] refl
  where
    runs_longer : (b c : ℕ) (cs : List ℕ) → is_in_run b ≡ true → is_in_run c ≡ true → runs (b ∷ c ∷ cs) ≡ in_front b (runs (c ∷ cs))
    runs_longer b c cs e f = rw (e, f) refl

    runs_ended : (b c : ℕ) (cs : List ℕ) → is_in_run b ≡ true → is_in_run c ≡ false → runs (b ∷ c ∷ cs) ≡ (b ∷ []) ∷ runs (c ∷ cs)
    runs_ended b c cs e f = rw (e, f) refl

reads_run : (b : ℕ) (bs : List ℕ) → is_in_run b ≡ true → reads_of (b ∷ bs) ≡ tokens_of_run (take (prefix_len is_in_run (b ∷ bs)) (b ∷ bs)) ++ reads_of (drop (prefix_len is_in_run (b ∷ bs)) (b ∷ bs))
reads_run b bs e = ap (flat_map tokens_of_run) (runs_begun b bs e)

-- ---- one of three

choose_first : {A : Type 0} (x : Bool) (a b : A) → x ≡ true → cond x a b ≡ a
choose_first true a b e = refl
choose_first false a b e = cc

choose_second : {A : Type 0} (x y : Bool) (a b c : A) → x ≡ false → y ≡ true → cond x a (cond y b c) ≡ b
choose_second true y a b c e f = cc
choose_second false true a b c e f = refl
choose_second false false a b c e f = cc

choose_third : {A : Type 0} (x y : Bool) (a b c : A) → x ≡ false → y ≡ false → cond x a (cond y b c) ≡ c
choose_third true y a b c e f = cc
choose_third false true a b c e f = cc
choose_third false false a b c e f = refl

-- ---- a mark

pub mark_alone : (b : ℕ) (bs : List ℕ) → is_letter b ≡ false → is_in_run b ≡ false → tokens_of_run (b ∷ bs) ≡ mark b ∷ []
mark_alone b bs e f = choose_third (is_letter b) (is_in_run b) _ _ _ e f

pub mark_run : (b : ℕ) (bs : List ℕ) → is_in_run b ≡ false → is_blank b ≡ false → runs (b ∷ bs) ≡ (b ∷ []) ∷ runs bs
mark_run b bs e f = choose_third (is_in_run b) (is_blank b) _ _ _ e f

no_letter_out : (b : ℕ) → is_in_run b ≡ false → is_letter b ≡ false
no_letter_out b e = no_letter b (neither (is_letter_or_digit b) _ e)

pub reads_mark : (b : ℕ) (bs : List ℕ) → is_in_run b ≡ false → is_blank b ≡ false → reads_of (b ∷ bs) ≡ mark b ∷ reads_of bs
reads_mark b bs e f =
    ap (flat_map tokens_of_run) (mark_run b bs e f) ∙ ap (λ rs. rs ++ reads_of bs) (mark_alone b [] (no_letter_out b e) e)

-- ---- a number

pub number_alone : (b : ℕ) (bs : List ℕ) → is_letter b ≡ false → is_in_run b ≡ true → tokens_of_run (b ∷ bs) ≡ number (b ∷ bs) ∷ []
number_alone b bs e f = choose_second (is_letter b) (is_in_run b) _ _ _ e f

number_run : (b : ℕ) (bs : List ℕ) → is_letter b ≡ false → is_in_run b ≡ true
    → tokens_of_run (take (prefix_len is_in_run (b ∷ bs)) (b ∷ bs)) ≡ number (take (prefix_len is_in_run (b ∷ bs)) (b ∷ bs)) ∷ []
number_run b bs e f = subst (λ run. tokens_of_run run ≡ number run ∷ []) (sym (take_front is_in_run b bs f)) (number_alone b (take (prefix_len is_in_run bs) bs) e f)

pub reads_number : (b : ℕ) (bs : List ℕ) → is_letter b ≡ false → is_in_run b ≡ true
    → reads_of (b ∷ bs) ≡ number (take (prefix_len is_in_run (b ∷ bs)) (b ∷ bs)) ∷ reads_of (drop (prefix_len is_in_run (b ∷ bs)) (b ∷ bs))
reads_number b bs e f = reads_run b bs f ∙ ap (λ rs. rs ++ reads_of (drop (prefix_len is_in_run (b ∷ bs)) (b ∷ bs))) (number_run b bs e f)

-- ---- a word

pub inner_length : (p q : ℕ → Bool) (text : List ℕ) → ((b : ℕ) → p b ≡ true → q b ≡ true) → prefix_len p (take (prefix_len q text) text) ≡ prefix_len p text
inner_length p q [] h = refl
inner_length p q (b ∷ bs) h = elim (p b) as (λ t. p b ≡ t → prefix_len p (take (prefix_len q (b ∷ bs)) (b ∷ bs)) ≡ prefix_len p (b ∷ bs)) [
  | true ↦ λ e. rw (take_front q b bs (h b e)) (prefix_yes p b (take (prefix_len q bs) bs) e ∙ ap (λ n. 1 + n) (inner_length p q bs h) ∙ sym (prefix_yes p b bs e))
  | false ↦ λ e. elim (q b) as (λ t. q b ≡ t → prefix_len p (take (prefix_len q (b ∷ bs)) (b ∷ bs)) ≡ prefix_len p (b ∷ bs)) [
    | true ↦ λ f. rw (take_front q b bs f) (prefix_no p b (take (prefix_len q bs) bs) e ∙ sym (prefix_no p b bs e))
    | false ↦ λ f. rw (prefix_no q b bs f) (sym (prefix_no p b bs e))
  ] refl
] refl

pub inner_front : (p q : ℕ → Bool) (text : List ℕ) → ((b : ℕ) → p b ≡ true → q b ≡ true) → take (prefix_len p text) (take (prefix_len q text) text) ≡ take (prefix_len p text) text
inner_front p q [] h = refl
inner_front p q (b ∷ bs) h = elim (p b) as (λ t. p b ≡ t → take (prefix_len p (b ∷ bs)) (take (prefix_len q (b ∷ bs)) (b ∷ bs)) ≡ take (prefix_len p (b ∷ bs)) (b ∷ bs)) [
  | true ↦ λ e. rw (take_front q b bs (h b e), prefix_yes p b bs e, take_one_more b (prefix_len p bs) (take (prefix_len q bs) bs), take_one_more b (prefix_len p bs) bs) (ap (λ cs. b ∷ cs) (inner_front p q bs h))
  | false ↦ λ e. rw (prefix_no p b bs e) refl
] refl

pub inner_rest : (p q : ℕ → Bool) (text : List ℕ) → ((b : ℕ) → p b ≡ true → q b ≡ true)
    → drop (prefix_len p text) (take (prefix_len q text) text) ≡ take (prefix_len q (drop (prefix_len p text) text)) (drop (prefix_len p text) text)
inner_rest p q [] h = refl
inner_rest p q (b ∷ bs) h = elim (p b) as (λ t. p b ≡ t → drop (prefix_len p (b ∷ bs)) (take (prefix_len q (b ∷ bs)) (b ∷ bs)) ≡ take (prefix_len q (drop (prefix_len p (b ∷ bs)) (b ∷ bs))) (drop (prefix_len p (b ∷ bs)) (b ∷ bs))) [
  | true ↦ λ e. rw (take_front q b bs (h b e), prefix_yes p b bs e, drop_one_more (prefix_len p bs) b (take (prefix_len q bs) bs), drop_one_more (prefix_len p bs) b bs) (inner_rest p q bs h)
  | false ↦ λ e. rw (prefix_no p b bs e) refl
] refl

pub outer_rest : (p q : ℕ → Bool) (text : List ℕ) → ((b : ℕ) → p b ≡ true → q b ≡ true)
    → drop (prefix_len q text) text ≡ drop (prefix_len q (drop (prefix_len p text) text)) (drop (prefix_len p text) text)
outer_rest p q [] h = refl
outer_rest p q (b ∷ bs) h = elim (p b) as (λ t. p b ≡ t → drop (prefix_len q (b ∷ bs)) (b ∷ bs) ≡ drop (prefix_len q (drop (prefix_len p (b ∷ bs)) (b ∷ bs))) (drop (prefix_len p (b ∷ bs)) (b ∷ bs))) [
  | true ↦ λ e. rw (prefix_yes p b bs e, prefix_yes q b bs (h b e), drop_one_more (prefix_len p bs) b bs, drop_one_more (prefix_len q bs) b bs) (outer_rest p q bs h)
  | false ↦ λ e. rw (prefix_no p b bs e) refl
] refl

-- a number that stands directly behind a word is read as the next token
number_then : (text : List ℕ) → prefix_len is_letter_or_digit text ≡ 0
    → number_behind (take (prefix_len is_in_run text) text) ++ reads_of (drop (prefix_len is_in_run text) text) ≡ reads_of text
number_then [] h = refl
number_then (b ∷ bs) h = elim (is_in_run b) as (λ t. is_in_run b ≡ t → number_behind (take (prefix_len is_in_run (b ∷ bs)) (b ∷ bs)) ++ reads_of (drop (prefix_len is_in_run (b ∷ bs)) (b ∷ bs)) ≡ reads_of (b ∷ bs)) [
  | true ↦ λ e.
      ap (λ rs. rs ++ reads_of (drop (prefix_len is_in_run (b ∷ bs)) (b ∷ bs))) (behind_number b bs e)
      ∙ sym (reads_number b bs (no_letter b (none_first is_letter_or_digit b bs h)) e)
  | false ↦ λ e. rw (prefix_no is_in_run b bs e) refl
] refl
  where
    behind_number : (b : ℕ) (bs : List ℕ) → is_in_run b ≡ true → number_behind (take (prefix_len is_in_run (b ∷ bs)) (b ∷ bs)) ≡ number (take (prefix_len is_in_run (b ∷ bs)) (b ∷ bs)) ∷ []
    behind_number b bs e = subst (λ run. number_behind run ≡ number run ∷ []) (sym (take_front is_in_run b bs e)) refl

pub word_alone : (b : ℕ) (bs : List ℕ) → is_letter b ≡ true
    → tokens_of_run (b ∷ bs) ≡ word (take (prefix_len is_letter_or_digit (b ∷ bs)) (b ∷ bs)) ∷ number_behind (drop (prefix_len is_letter_or_digit (b ∷ bs)) (b ∷ bs))
word_alone b bs e = choose_first (is_letter b) _ _ e

word_run : (b : ℕ) (bs : List ℕ) → is_letter b ≡ true
    → tokens_of_run (take (prefix_len is_in_run (b ∷ bs)) (b ∷ bs))
    ≡ word (take (prefix_len is_letter_or_digit (take (prefix_len is_in_run (b ∷ bs)) (b ∷ bs))) (take (prefix_len is_in_run (b ∷ bs)) (b ∷ bs)))
    ∷ number_behind (drop (prefix_len is_letter_or_digit (take (prefix_len is_in_run (b ∷ bs)) (b ∷ bs))) (take (prefix_len is_in_run (b ∷ bs)) (b ∷ bs)))
word_run b bs e =
    subst (λ run. tokens_of_run run ≡ word (take (prefix_len is_letter_or_digit run) run) ∷ number_behind (drop (prefix_len is_letter_or_digit run) run))
    (sym (take_front is_in_run b bs (in_run_of_letter b e))) (word_alone b (take (prefix_len is_in_run bs) bs) e)

word_then : (text : List ℕ)
    → (word (take (prefix_len is_letter_or_digit (take (prefix_len is_in_run text) text)) (take (prefix_len is_in_run text) text))
    ∷ number_behind (drop (prefix_len is_letter_or_digit (take (prefix_len is_in_run text) text)) (take (prefix_len is_in_run text) text))) ++ reads_of (drop (prefix_len is_in_run text) text)
    ≡ word (take (prefix_len is_letter_or_digit text) text) ∷ reads_of (drop (prefix_len is_letter_or_digit text) text)
word_then text =
    rw (inner_length is_letter_or_digit is_in_run text in_run_of_letter_or_digit, inner_front is_letter_or_digit is_in_run text in_run_of_letter_or_digit, inner_rest is_letter_or_digit is_in_run text in_run_of_letter_or_digit, outer_rest is_letter_or_digit is_in_run text in_run_of_letter_or_digit)
    (ap (λ rs. word (take (prefix_len is_letter_or_digit text) text) ∷ rs) (number_then (drop (prefix_len is_letter_or_digit text) text) (none_behind is_letter_or_digit text)))

pub reads_word : (b : ℕ) (bs : List ℕ) → is_letter b ≡ true
    → reads_of (b ∷ bs) ≡ word (take (prefix_len is_letter_or_digit (b ∷ bs)) (b ∷ bs)) ∷ reads_of (drop (prefix_len is_letter_or_digit (b ∷ bs)) (b ∷ bs))
reads_word b bs e =
    reads_run b bs (in_run_of_letter b e)
    ∙ ap (λ rs. rs ++ reads_of (drop (prefix_len is_in_run (b ∷ bs)) (b ∷ bs))) (word_run b bs e)
    ∙ word_then (b ∷ bs)

-- ---- the first token and those behind it

tokens_behind_blanks : (text : List ℕ) → tokens_of text ≡ tokens_of (behind is_blank text)
tokens_behind_blanks text = ap all_good (sym (reads_behind_blanks text))

pub no_tokens : (text : List ℕ) → length (behind is_blank text) ≡ 0 → tokens_of text ≡ Ok []
no_tokens text h = tokens_behind_blanks text ∙ none (behind is_blank text) h
  where
    none : (text : List ℕ) → length text ≡ 0 → tokens_of text ≡ Ok []
    none [] h = refl
    none (b ∷ bs) h = absurd (omega arith)

first_word : (text : List ℕ) (b : ℕ) (bs : List ℕ) → behind is_blank text ≡ b ∷ bs → is_letter b ≡ true
    → tokens_of text ≡ in_front_of (word (take_while is_letter_or_digit (b ∷ bs))) (tokens_of (behind is_letter_or_digit (b ∷ bs)))
first_word text b bs e f = tokens_behind_blanks text ∙ ap tokens_of e ∙ ap all_good (reads_word b bs f)

first_number : (text : List ℕ) (b : ℕ) (bs : List ℕ) → behind is_blank text ≡ b ∷ bs → is_letter b ≡ false → is_in_run b ≡ true
    → tokens_of text ≡ in_front_of (number (take_while is_in_run (b ∷ bs))) (tokens_of (behind is_in_run (b ∷ bs)))
first_number text b bs e f g = tokens_behind_blanks text ∙ ap tokens_of e ∙ ap all_good (reads_number b bs f g)

first_mark : (text : List ℕ) (b : ℕ) (bs : List ℕ) → behind is_blank text ≡ b ∷ bs → is_in_run b ≡ false
    → tokens_of text ≡ in_front_of (mark b) (tokens_of bs)
first_mark text b bs e f =
    let clear : prefix_len is_blank (b ∷ bs) ≡ 0 = subst (λ (t : List ℕ). prefix_len is_blank t ≡ 0) e (none_behind is_blank text) in
    tokens_behind_blanks text ∙ ap tokens_of e ∙ ap all_good (reads_mark b bs f (none_first is_blank b bs clear))

abbrev HasFirst : Tokens → Type 0
HasFirst ts = (first : Read) × (more : Tokens) × (ts ≡ in_front_of first more)

-- a text that is not all blanks has a token, or a bad one
pub some_token : (text : List ℕ) → 0 < length (behind is_blank text) → HasFirst (tokens_of text)
some_token text h = of_first text (behind is_blank text) refl h
  where
    of_first : (text rest : List ℕ) → behind is_blank text ≡ rest → 0 < length rest → HasFirst (tokens_of text)
    of_first text [] e h = absurd (omega arith)
    of_first text (b ∷ bs) e h = elim (is_letter b) as (λ t. is_letter b ≡ t → HasFirst (tokens_of text)) [
      | true ↦ λ f. (_, _, first_word text b bs e f)
      | false ↦ λ f. elim (is_in_run b) as (λ t. is_in_run b ≡ t → HasFirst (tokens_of text)) [
        | true ↦ λ g. (_, _, first_number text b bs e f g)
        | false ↦ λ g. (_, _, first_mark text b bs e g)
      ] refl
    ] refl

-- ---- all tokens

pub joined_none : (ts : List Token) → joined (Ok ts) (Ok []) ≡ Ok ts
joined_none ts = ap (λ (us : List Token). Ok us) (append-nil ts)

joined_one_more : (ts : List Token) (t : Token) (more : Tokens) → joined (Ok ts) (in_front_of (Ok t) more) ≡ joined (Ok (ts ++ t ∷ [])) more
joined_one_more ts t (Err cause) = refl
joined_one_more ts t (Ok more) = ap (λ (us : List Token). Ok us) (sym (append_assoc ts (t ∷ []) more))

-- ---- one token more

-- a blank is skipped
pub blank_skipped : (ts : List Token) (rest : List ℕ) (b : ℕ) (bs : List ℕ) (all : Tokens) → rest ≡ b ∷ bs → is_blank b ≡ true → joined (Ok ts) (tokens_of rest) ≡ all → joined (Ok ts) (tokens_of bs) ≡ all
blank_skipped ts rest b bs all e f h = ap (λ reads. joined (Ok ts) (all_good reads)) (sym (reads_blank b bs f)) ∙ ap (λ text. joined (Ok ts) (tokens_of text)) (sym e) ∙ h

one_more : (ts : List Token) (t : Token) (rest more : List ℕ) (all : Tokens) → tokens_of rest ≡ in_front_of (Ok t) (tokens_of more) → joined (Ok ts) (tokens_of rest) ≡ all → joined (Ok (ts ++ t ∷ [])) (tokens_of more) ≡ all
one_more ts t rest more all e h = sym (joined_one_more ts t (tokens_of more)) ∙ ap (joined (Ok ts)) (sym e) ∙ h

bad_one : (ts : List Token) (cause : PartCause) (rest : List ℕ) (more all : Tokens) → tokens_of rest ≡ in_front_of (Err cause) more → joined (Ok ts) (tokens_of rest) ≡ all → Err cause ≡ all
bad_one ts cause rest more all e h = ap (joined (Ok ts)) (sym e) ∙ h

word_at : (rest : List ℕ) (b : ℕ) (bs : List ℕ) → rest ≡ b ∷ bs → is_letter b ≡ true → tokens_of rest ≡ in_front_of (word (take_while is_letter_or_digit rest)) (tokens_of (behind is_letter_or_digit rest))
word_at rest b bs e f = subst (λ text. tokens_of text ≡ in_front_of (word (take_while is_letter_or_digit text)) (tokens_of (behind is_letter_or_digit text))) (sym e) (ap all_good (reads_word b bs f))

number_at : (rest : List ℕ) (b : ℕ) (bs : List ℕ) → rest ≡ b ∷ bs → is_letter b ≡ false → is_in_run b ≡ true → tokens_of rest ≡ in_front_of (number (take_while is_in_run rest)) (tokens_of (behind is_in_run rest))
number_at rest b bs e f g = subst (λ text. tokens_of text ≡ in_front_of (number (take_while is_in_run text)) (tokens_of (behind is_in_run text))) (sym e) (ap all_good (reads_number b bs f g))

mark_at : (rest : List ℕ) (b : ℕ) (bs : List ℕ) → rest ≡ b ∷ bs → is_in_run b ≡ false → is_blank b ≡ false → tokens_of rest ≡ in_front_of (mark b) (tokens_of bs)
mark_at rest b bs e f g = ap tokens_of e ∙ ap all_good (reads_mark b bs f g)

pub word_more : (ts : List Token) (rest : List ℕ) (b : ℕ) (bs w more : List ℕ) (all : Tokens) → rest ≡ b ∷ bs → is_letter b ≡ true
    → is_symbol (map capital (take_while is_letter_or_digit rest)) ≡ true → w ≡ map capital (take_while is_letter_or_digit rest) → more ≡ behind is_letter_or_digit rest
    → joined (Ok ts) (tokens_of rest) ≡ all → joined (Ok (ts ++ of_symbol w ∷ [])) (tokens_of more) ≡ all
word_more ts rest b bs w more all e f s same on h =
    one_more ts (of_symbol w) rest more all
    (word_at rest b bs e f ∙ ap (λ r. in_front_of r (tokens_of (behind is_letter_or_digit rest))) (good_word (take_while is_letter_or_digit rest) w s same) ∙ ap (λ text. in_front_of (Ok (of_symbol w)) (tokens_of text)) (sym on)) h
  where
    good_word : (text w : List ℕ) → is_symbol (map capital text) ≡ true → w ≡ map capital text → word text ≡ Ok (of_symbol w)
    good_word text w s same = rw s (ap (λ v. Ok (of_symbol v)) (sym same))

pub word_bad : (ts : List Token) (rest : List ℕ) (b : ℕ) (bs : List ℕ) (all : Tokens) → rest ≡ b ∷ bs → is_letter b ≡ true
    → is_symbol (map capital (take_while is_letter_or_digit rest)) ≡ false → joined (Ok ts) (tokens_of rest) ≡ all → Err causes.BadWord ≡ all
word_bad ts rest b bs all e f s h =
    bad_one ts causes.BadWord rest (tokens_of (behind is_letter_or_digit rest)) all
    (word_at rest b bs e f ∙ ap (λ r. in_front_of r (tokens_of (behind is_letter_or_digit rest))) (bad_word (take_while is_letter_or_digit rest) s)) h
  where
    bad_word : (text : List ℕ) → is_symbol (map capital text) ≡ false → word text ≡ Err causes.BadWord
    bad_word text s = rw s refl

pub number_more : (ts : List Token) (rest : List ℕ) (b : ℕ) (bs more : List ℕ) (v : ℤ) (all : Tokens) → rest ≡ b ∷ bs → is_letter b ≡ false → is_in_run b ≡ true
    → number_in (take_while is_in_run rest) ≡ Some v → more ≡ behind is_in_run rest
    → joined (Ok ts) (tokens_of rest) ≡ all → joined (Ok (ts ++ tokens.Number v ∷ [])) (tokens_of more) ≡ all
number_more ts rest b bs more v all e f g s on h =
    one_more ts (tokens.Number v) rest more all
    (number_at rest b bs e f g ∙ ap (λ r. in_front_of (or_bad_number r) (tokens_of (behind is_in_run rest))) s ∙ ap (λ text. in_front_of (Ok (tokens.Number v)) (tokens_of text)) (sym on)) h

pub number_bad : (ts : List Token) (rest : List ℕ) (b : ℕ) (bs : List ℕ) (all : Tokens) → rest ≡ b ∷ bs → is_letter b ≡ false → is_in_run b ≡ true
    → number_in (take_while is_in_run rest) ≡ None → joined (Ok ts) (tokens_of rest) ≡ all → Err causes.BadNumber ≡ all
number_bad ts rest b bs all e f g s h =
    bad_one ts causes.BadNumber rest (tokens_of (behind is_in_run rest)) all
    (number_at rest b bs e f g ∙ ap (λ r. in_front_of (or_bad_number r) (tokens_of (behind is_in_run rest))) s) h

pub mark_more : (ts : List Token) (t : Token) (rest : List ℕ) (b : ℕ) (bs : List ℕ) (all : Tokens) → rest ≡ b ∷ bs → is_in_run b ≡ false → is_blank b ≡ false
    → mark b ≡ Ok t → joined (Ok ts) (tokens_of rest) ≡ all → joined (Ok (ts ++ t ∷ [])) (tokens_of bs) ≡ all
mark_more ts t rest b bs all e f g s h = one_more ts t rest bs all (mark_at rest b bs e f g ∙ ap (λ r. in_front_of r (tokens_of bs)) s) h
