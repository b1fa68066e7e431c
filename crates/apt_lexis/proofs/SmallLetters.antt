-- Small letters in capitals change no token.
use Rattle.std.proofs.Common.{◌≡◌, ℕ, zero, suc, List, [], ◌∷◌, ◌++◌, map, take, drop, Bool, true, false, Option, Some, None, Ok, Err, ap, ◌∙◌, sym, refl, arith, cond}
use Rattle.std.specs.Prelude.{IsSome}
use Rattle.std.specs.List.{list_all, prefix_len, take_while, flat_map}
use Rattle.std.proofs.lemmas.Bool.{and_parts}
use Rattle.std.proofs.lemmas.Bool.Decides.{nat_tests}
use Rattle.apt_words.specs.Symbols.{is_symbol}
use Rattle.apt_lexis.specs.declared.cause.PartCause.TheVariants as causes
use Rattle.apt_lexis.specs.Lines.{in_front}
use Rattle.apt_lexis.specs.Tokens.{Read, capital, is_blank, is_letter, is_letter_or_digit, is_in_run, begins_in_run, runs, number_in, or_bad_number, number, of_symbol, word, mark, number_behind, tokens_of_run}
use Rattle.apt_lexis.specs.Sentences.{is_no_dollar, is_single, said_on, goes_on}
use Rattle.apt_lexis.proofs.Capitals.{no_both}
use Rattle.apt_lexis.proofs.OneByOne.{reads_of, word_alone, number_alone, mark_alone, mark_run}
use Rattle.apt_lexis.proofs.PartedRuns.{by_cases, runs_longer, runs_ended, runs_blank}
use Rattle.apt_lexis.proofs.Zeros.{is_digit_or_point, number_characters}

-- ---- a test that small letters and capitals pass alike

abbrev pub IsAlike : (ℕ → Bool) → Type 0
IsAlike test = (b : ℕ) → test (capital b) ≡ test b

same_bool : (s t : Bool) → (t ≡ true → s ≡ true) → (t ≡ false → s ≡ false) → s ≡ t
same_bool s true h g = h refl
same_bool s false h g = g refl

in_run-alike : IsAlike is_in_run
in_run-alike b = same_bool (is_in_run (capital b)) (is_in_run b) (passes b) (fails b)
  where
    passes : (b : ℕ) → is_in_run b ≡ true → is_in_run (capital b) ≡ true
    passes b e = grind (arith, nat_tests)

    fails : (b : ℕ) → is_in_run b ≡ false → is_in_run (capital b) ≡ false
    fails b e = grind (arith, nat_tests)

pub blank-alike : IsAlike is_blank
blank-alike b = same_bool (is_blank (capital b)) (is_blank b) (passes b) (fails b)
  where
    passes : (b : ℕ) → is_blank b ≡ true → is_blank (capital b) ≡ true
    passes b e = grind (arith, nat_tests)

    fails : (b : ℕ) → is_blank b ≡ false → is_blank (capital b) ≡ false
    fails b e = grind (arith, nat_tests)

letter-alike : IsAlike is_letter
letter-alike b = same_bool (is_letter (capital b)) (is_letter b) (passes b) (fails b)
  where
    passes : (b : ℕ) → is_letter b ≡ true → is_letter (capital b) ≡ true
    passes b e = grind (arith, nat_tests)

    fails : (b : ℕ) → is_letter b ≡ false → is_letter (capital b) ≡ false
    fails b e = grind (arith, nat_tests)

pub letter_or_digit-alike : IsAlike is_letter_or_digit
letter_or_digit-alike b = same_bool (is_letter_or_digit (capital b)) (is_letter_or_digit b) (passes b) (fails b)
  where
    passes : (b : ℕ) → is_letter_or_digit b ≡ true → is_letter_or_digit (capital b) ≡ true
    passes b e = grind (arith, nat_tests)

    fails : (b : ℕ) → is_letter_or_digit b ≡ false → is_letter_or_digit (capital b) ≡ false
    fails b e = grind (arith, nat_tests)

digit_or_point-alike : IsAlike is_digit_or_point
digit_or_point-alike b = same_bool (is_digit_or_point (capital b)) (is_digit_or_point b) (passes b) (fails b)
  where
    passes : (b : ℕ) → is_digit_or_point b ≡ true → is_digit_or_point (capital b) ≡ true
    passes b e = grind (arith, nat_tests)

    fails : (b : ℕ) → is_digit_or_point b ≡ false → is_digit_or_point (capital b) ≡ false
    fails b e = grind (arith, nat_tests)

no_dollar-alike : IsAlike is_no_dollar
no_dollar-alike b = same_bool (is_no_dollar (capital b)) (is_no_dollar b) (passes b) (fails b)
  where
    passes : (b : ℕ) → is_no_dollar b ≡ true → is_no_dollar (capital b) ≡ true
    passes b e = grind (arith, nat_tests)

    fails : (b : ℕ) → is_no_dollar b ≡ false → is_no_dollar (capital b) ≡ false
    fails b e = grind (arith, nat_tests)

-- ---- bytes that stay

digit_or_point-stays : (b : ℕ) → is_digit_or_point b ≡ true → capital b ≡ b
digit_or_point-stays b e = grind (arith, nat_tests)

other-stays : (b : ℕ) → is_in_run b ≡ false → capital b ≡ b
other-stays b e = grind (arith, nat_tests)

capital_again : (b : ℕ) → capital (capital b) ≡ capital b
capital_again b = grind (arith, nat_tests)

capitals_again : (text : List ℕ) → map capital (map capital text) ≡ map capital text
capitals_again [] = refl
capitals_again (b ∷ bs) = rw (capital_again b, capitals_again bs) refl

-- ---- fronts

pub prefix_len-alike : (test : ℕ → Bool) → IsAlike test → (text : List ℕ) → prefix_len test (map capital text) ≡ prefix_len test text
prefix_len-alike test alike [] = refl
prefix_len-alike test alike (b ∷ bs) = rw (alike b, prefix_len-alike test alike bs) refl

take_capitals : (n : ℕ) (text : List ℕ) → take n (map capital text) ≡ map capital (take n text)
take_capitals zero text = refl
take_capitals (suc n) [] = refl
take_capitals (suc n) (b ∷ bs) = ap (λ cs. capital b ∷ cs) (take_capitals n bs)

drop_capitals : (n : ℕ) (text : List ℕ) → drop n (map capital text) ≡ map capital (drop n text)
drop_capitals zero text = refl
drop_capitals (suc n) [] = refl
drop_capitals (suc n) (b ∷ bs) = drop_capitals n bs

pub front_capitals : (test : ℕ → Bool) → IsAlike test → (text : List ℕ) → take_while test (map capital text) ≡ map capital (take_while test text)
front_capitals test alike text = ap (λ n. take n (map capital text)) (prefix_len-alike test alike text) ∙ take_capitals (prefix_len test text) text

pub behind_capitals : (test : ℕ → Bool) → IsAlike test → (text : List ℕ) → drop (prefix_len test (map capital text)) (map capital text) ≡ map capital (drop (prefix_len test text) text)
behind_capitals test alike text = ap (λ n. drop n (map capital text)) (prefix_len-alike test alike text) ∙ drop_capitals (prefix_len test text) text

all-alike : (test : ℕ → Bool) → IsAlike test → (text : List ℕ) → list_all test (map capital text) ≡ list_all test text
all-alike test alike [] = refl
all-alike test alike (b ∷ bs) = rw (alike b, all-alike test alike bs) refl

-- ---- numbers and words

all-stay : (run : List ℕ) → list_all is_digit_or_point run ≡ true → map capital run ≡ run
all-stay [] e = refl
all-stay (b ∷ bs) e =
    let both = and_parts (is_digit_or_point b) (list_all is_digit_or_point bs) e in
    rw (digit_or_point-stays b both.0, all-stay bs both.1) refl

none_of : {A : Type 0} (o : Option A) → (IsSome o → ⊥) → o ≡ None
none_of None h = refl
none_of (Some x) h = absurd (h refl)

no_number : (run : List ℕ) → list_all is_digit_or_point run ≡ false → number_in run ≡ None
no_number run e = none_of (number_in run) (λ h. no_both (list_all is_digit_or_point run) (number_characters run h) e)

-- no number has a letter
number_in-capitals : (run : List ℕ) → number_in (map capital run) ≡ number_in run
number_in-capitals run =
    by_cases (list_all is_digit_or_point run)
    (λ e. ap number_in (all-stay run e))
    (λ e. no_number (map capital run) (all-alike is_digit_or_point digit_or_point-alike run ∙ e) ∙ sym (no_number run e))

number-capitals : (run : List ℕ) → number (map capital run) ≡ number run
number-capitals run = ap or_bad_number (number_in-capitals run)

number_behind-capitals : (run : List ℕ) → number_behind (map capital run) ≡ number_behind run
number_behind-capitals [] = refl
number_behind-capitals (b ∷ bs) = ap (λ read. read ∷ []) (number-capitals (b ∷ bs))

abbrev read_of_capitals : List ℕ → Read
read_of_capitals text = cond (is_symbol text) (Ok (of_symbol text)) (Err causes.BadWord)

word-capitals : (text : List ℕ) → word (map capital text) ≡ word text
word-capitals text = ap read_of_capitals (capitals_again text)

-- ---- runs

letter_run : (b : ℕ) (bs : List ℕ) → is_letter b ≡ true → tokens_of_run (map capital (b ∷ bs)) ≡ tokens_of_run (b ∷ bs)
letter_run b bs e =
    let run : List ℕ = b ∷ bs in
    word_alone (capital b) (map capital bs) (letter-alike b ∙ e)
    ∙ ap (λ text. word text ∷ number_behind (drop (prefix_len is_letter_or_digit (map capital run)) (map capital run))) (front_capitals is_letter_or_digit letter_or_digit-alike run)
    ∙ ap (λ text. word (map capital (take_while is_letter_or_digit run)) ∷ number_behind text) (behind_capitals is_letter_or_digit letter_or_digit-alike run)
    ∙ ap (λ read. read ∷ number_behind (map capital (drop (prefix_len is_letter_or_digit run) run))) (word-capitals (take_while is_letter_or_digit run))
    ∙ ap (λ reads. word (take_while is_letter_or_digit run) ∷ reads) (number_behind-capitals (drop (prefix_len is_letter_or_digit run) run))
    ∙ sym (word_alone b bs e)

other_run : (b : ℕ) (bs : List ℕ) → is_letter b ≡ false → tokens_of_run (map capital (b ∷ bs)) ≡ tokens_of_run (b ∷ bs)
other_run b bs e =
    by_cases (is_in_run b)
    (λ f.
    number_alone (capital b) (map capital bs) (letter-alike b ∙ e) (in_run-alike b ∙ f) ∙ ap (λ read. read ∷ []) (number-capitals (b ∷ bs))
    ∙ sym (number_alone b bs e f))
    (λ f.
    mark_alone (capital b) (map capital bs) (letter-alike b ∙ e) (in_run-alike b ∙ f) ∙ ap (λ c. mark c ∷ []) (other-stays b f)
    ∙ sym (mark_alone b bs e f))

run-capitals : (run : List ℕ) → tokens_of_run (map capital run) ≡ tokens_of_run run
run-capitals [] = refl
run-capitals (b ∷ bs) = by_cases (is_letter b) (letter_run b bs) (other_run b bs)

begins-alike : (text : List ℕ) → begins_in_run (map capital text) ≡ begins_in_run text
begins-alike [] = refl
begins-alike (b ∷ bs) = in_run-alike b

in_front-capitals : (b : ℕ) (parts : List (List ℕ)) → in_front (capital b) (map (map capital) parts) ≡ map (map capital) (in_front b parts)
in_front-capitals b [] = refl
in_front-capitals b (part ∷ parts) = refl

abbrev AreRunsAlike : List ℕ → Type 0
AreRunsAlike text = runs (map capital text) ≡ map (map capital) (runs text)

alike_alone : (b : ℕ) (bs : List ℕ) → AreRunsAlike bs → runs (map capital (b ∷ bs)) ≡ (capital b ∷ []) ∷ runs (map capital bs) → runs (b ∷ bs) ≡ (b ∷ []) ∷ runs bs → AreRunsAlike (b ∷ bs)
alike_alone b bs is e f = e ∙ ap (λ rs. (capital b ∷ []) ∷ rs) is ∙ ap (map (map capital)) (sym f)

alike_behind_run : (b : ℕ) (bs : List ℕ) → AreRunsAlike bs → is_in_run b ≡ true → AreRunsAlike (b ∷ bs)
alike_behind_run b bs is e =
    let e' = in_run-alike b ∙ e in
    by_cases (begins_in_run bs)
    (λ f.
    runs_longer (capital b) (map capital bs) e' (begins-alike bs ∙ f) ∙ ap (in_front (capital b)) is ∙ in_front-capitals b (runs bs)
    ∙ ap (map (map capital)) (sym (runs_longer b bs e f)))
    (λ f. alike_alone b bs is (runs_ended (capital b) (map capital bs) e' (begins-alike bs ∙ f)) (runs_ended b bs e f))

alike_behind_other : (b : ℕ) (bs : List ℕ) → AreRunsAlike bs → is_in_run b ≡ false → AreRunsAlike (b ∷ bs)
alike_behind_other b bs is e =
    let e' = in_run-alike b ∙ e in
    by_cases (is_blank b)
    (λ f. runs_blank (capital b) (map capital bs) e' (blank-alike b ∙ f) ∙ is ∙ ap (map (map capital)) (sym (runs_blank b bs e f)))
    (λ f. alike_alone b bs is (mark_run (capital b) (map capital bs) e' (blank-alike b ∙ f)) (mark_run b bs e f))

runs-capitals : (text : List ℕ) → AreRunsAlike text
runs-capitals [] = refl
runs-capitals (b ∷ bs) = by_cases (is_in_run b) (alike_behind_run b bs (runs-capitals bs)) (alike_behind_other b bs (runs-capitals bs))

reads_of_runs : (rs : List (List ℕ)) → flat_map tokens_of_run (map (map capital) rs) ≡ flat_map tokens_of_run rs
reads_of_runs [] = refl
reads_of_runs (run ∷ rs) = ap (λ reads. reads ++ flat_map tokens_of_run (map (map capital) rs)) (run-capitals run) ∙ ap (λ reads. tokens_of_run run ++ reads) (reads_of_runs rs)

-- capitals change no token
pub reads-capitals : (text : List ℕ) → reads_of (map capital text) ≡ reads_of text
reads-capitals text = ap (flat_map tokens_of_run) (runs-capitals text) ∙ reads_of_runs (runs text)

-- ---- what is said on a line

pub said_on-capitals : (line : List ℕ) → said_on (map capital line) ≡ map capital (said_on line)
said_on-capitals line = front_capitals is_no_dollar no_dollar-alike line

is_single-capitals : (text : List ℕ) → is_single (map capital text) ≡ is_single text
is_single-capitals [] = refl
is_single-capitals (b ∷ []) = refl
is_single-capitals (b ∷ c ∷ bs) = no_dollar-alike c

pub goes_on-capitals : (line : List ℕ) → goes_on (map capital line) ≡ goes_on line
goes_on-capitals line = ap is_single (behind_capitals is_no_dollar no_dollar-alike line) ∙ is_single-capitals (drop (prefix_len is_no_dollar line) line)
