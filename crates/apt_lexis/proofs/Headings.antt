-- Whether a line takes a text is told by what is read at its front.
use Rattle.std.proofs.Common.{◌≡◌, ℕ, ◌==◌, List, [], ◌∷◌, map, take, drop, Bool, true, false, Option, Some, None, Ok, Err, ap, ◌∙◌, sym, refl, arith, subst, cond}
use Rattle.std.specs.Prelude.{ℤ, ◌&&◌, ◌||◌, not, is_some, codes}
use Rattle.std.specs.List.{prefix_len, take_while}
use Rattle.std.proofs.lemmas.Bool.{cond_both, eqb-true}
use Rattle.std.proofs.lemmas.Bool.Decides.{nat_tests}
use Rattle.apt_words.specs.Options.{◌>>=◌, only_if}
use Rattle.apt_words.specs.Symbols.{is_symbol, is_name}
use Rattle.apt_words.specs.Vocabulary.{word_of}
use Rattle.apt_words.specs.declared.word.Word.{Word}
use Rattle.apt_lexis.specs.declared.cause.PartCause.TheVariants as causes
use Rattle.apt_lexis.specs.declared.token.Token.{Token}
use Rattle.apt_lexis.specs.declared.token.Token.TheVariants as tokens
use Rattle.apt_lexis.specs.Tokens.{Read, capital, is_blank, is_letter, is_letter_or_digit, is_in_run, Tokens, tokens_of, all_good, in_front_of, or_bad_number, number_in, word_or_name, of_symbol, word, mark}
use Rattle.apt_lexis.specs.Titles.{Title, behind, front_word, takes_text, title_word, title, close_first, behind_close, with_tokens, labelled, with_label, labelled_title, or_else, title_or_labelled, is_title, closes_first, may_be_titled, title_behind}
use Rattle.apt_lexis.specs.Sentences.{is_no_dollar, said_on}
use Rattle.apt_lexis.specs.Spellings.{TakesNoText}
use Rattle.apt_lexis.proofs.Fronts.{prefix_no, take_front, none_behind, none_first}
use Rattle.apt_lexis.proofs.Capitals.{no_both, other_first}
use Rattle.apt_words.proofs.Words.{no_word}
use Rattle.apt_lexis.proofs.OneByOne.{inner_length, inner_front, inner_rest, reads_of, reads_behind_blanks, reads_word, reads_number, reads_mark}
use Rattle.apt_lexis.proofs.PartedRuns.{by_cases}
use Rattle.apt_words.proofs.Bools.{neither}

-- ---- what is read at the front of a title

abbrev pub titled : List Read → Bool
titled (Ok (tokens.Word w) ∷ reads) = takes_text w
titled _ = false

-- behind the name of a label
abbrev pub closed : List Read → Bool
closed (Ok tokens.Close ∷ reads) = titled reads
closed _ = false

abbrev pub labelled_in : List Read → Bool
labelled_in (Ok (tokens.Name name) ∷ reads) = closed reads
labelled_in _ = false

-- nothing that is read takes a text
pub record AreUntitled (reads : List Read) : Type 0 where
  pub untitled : titled reads ≡ false
  pub unclosed : closed reads ≡ false
  pub unlabelled : labelled_in reads ≡ false

-- ---- the same tests of a text

abbrev is_titled : List ℕ → Bool
is_titled text = is_some (title text)

abbrev is_closed : List ℕ → Bool
is_closed text = is_some (behind_close text >>= title)

abbrev is_labelled : List ℕ → Bool
is_labelled text = is_some (labelled_title text)

some_if : {A : Type 0} (b : Bool) (x : A) → is_some (only_if b x) ≡ b
some_if true x = refl
some_if false x = refl

is_none : {A : Type 0} (o : Option A) → is_some o ≡ false → o ≡ None
is_none None e = refl
is_none (Some x) e = cc

some_mapped : {A B : Type 0} (o : Option A) (f : A → B) → is_some (o >>= λ x. Some (f x)) ≡ is_some o
some_mapped None f = refl
some_mapped (Some x) f = refl

some_labelled : (name text : List ℕ) → is_some (labelled name text) ≡ is_closed text
some_labelled name text = some_mapped (behind_close text >>= title) (with_tokens (tokens.Name name ∷ tokens.Close ∷ []))

some_with_label : (name text : List ℕ) → is_some (with_label name text) ≡ (is_name name && is_closed text)
some_with_label name text = named (is_name name)
  where
    named : (t : Bool) → is_some (only_if t name >>= λ n. labelled n text) ≡ (t && is_closed text)
    named true = some_labelled name text
    named false = refl

some_either : (t other : Option Title) → is_some (or_else t other) ≡ (is_some t || is_some other)
some_either None other = refl
some_either (Some t) other = refl

-- ---- which texts take no text

record IsUntitled (text : List ℕ) : Type 0 where
  untitled : is_titled text ≡ false
  unclosed : is_closed text ≡ false
  unlabelled : is_labelled text ≡ false

untitled_of : (text : List ℕ) → TakesNoText text → IsUntitled text
untitled_of text none =
    let heading = neither (is_titled text) (is_labelled text) (sym (some_either (title text) (labelled_title text)) ∙ ap is_some (none [])) in
    record {
      untitled = heading.0;
      unclosed = sym (some_labelled (codes "A") text) ∙ ap is_some (none (tokens.Name (codes "A") ∷ []));
      unlabelled = heading.1;
    }

no_title_behind : (text : List ℕ) → IsUntitled text → (ts : List Token) → is_some (title_behind ts text) ≡ false
no_title_behind text is [] = some_either (title text) (labelled_title text) ∙ both (is_titled text) (is_labelled text) is.untitled is.unlabelled
  where
    both : (s t : Bool) → s ≡ false → t ≡ false → (s || t) ≡ false
    both s t e f = rw (e, f) refl
no_title_behind text is (tokens.Name name ∷ []) = some_labelled name text ∙ is.unclosed
no_title_behind text is (tokens.Name name ∷ tokens.Close ∷ []) = some_mapped (title text) (with_tokens (tokens.Name name ∷ tokens.Close ∷ [])) ∙ is.untitled
no_title_behind text is _ = refl

takes_no_text : (text : List ℕ) → IsUntitled text → TakesNoText text
takes_no_text text is ts = is_none (title_behind ts text) (no_title_behind text is ts)

-- ---- the tests of a text by what is read

clear_front : (text : List ℕ) (b : ℕ) (bs : List ℕ) → behind is_blank text ≡ b ∷ bs → is_blank b ≡ false
clear_front text b bs e = none_first is_blank b bs (subst (λ (t : List ℕ). prefix_len is_blank t ≡ 0) e (none_behind is_blank text))

-- a read that is no word and does not close
abbrev IsOther : Read → Type 0
IsOther read = (reads : List Read) → (titled (read ∷ reads) ≡ false) × (labelled_in (read ∷ reads) ≡ false)

number_other : (v : Option ℤ) → IsOther (or_bad_number v)
number_other None reads = (refl, refl)
number_other (Some v) reads = (refl, refl)

number_open : (v : Option ℤ) (reads : List Read) → closed (or_bad_number v ∷ reads) ≡ false
number_open None reads = refl
number_open (Some v) reads = refl

word_or_name_open : (symbol : List ℕ) (found : Option Word) (reads : List Read) → closed (Ok (word_or_name symbol found) ∷ reads) ≡ false
word_or_name_open symbol None reads = refl
word_or_name_open symbol (Some w) reads = refl

word_open : (text : List ℕ) (reads : List Read) → closed (word text ∷ reads) ≡ false
word_open text reads =
    cond_both (is_symbol (map capital text)) (Ok (of_symbol (map capital text))) (Err causes.BadWord) (λ read. closed (read ∷ reads) ≡ false)
    (λ _. word_or_name_open (map capital text) (word_of (map capital text)) reads) (λ _. refl)

-- one of the marks
of_mark : (P : Read → Type 0) (b : ℕ) → P (Ok tokens.Equals) → P (Ok tokens.Slash) → P (Ok tokens.Comma) → P (Ok tokens.Open) → ((b == 41) ≡ true → P (Ok tokens.Close)) → P (Ok tokens.Plus) → P (Ok tokens.Minus)
    → P (Ok tokens.Star) → P (Err causes.BadWord) → P (mark b)
of_mark P b equals slash comma opens close plus minus star bad =
    cond_both (b == 61) _ _ P (λ _. equals) (λ _.
    cond_both (b == 47) _ _ P (λ _. slash) (λ _.
    cond_both (b == 44) _ _ P (λ _. comma) (λ _.
    cond_both (b == 40) _ _ P (λ _. opens) (λ _.
    cond_both (b == 41) _ _ P close (λ _.
    cond_both (b == 43) _ _ P (λ _. plus) (λ _.
    cond_both (b == 45) _ _ P (λ _. minus) (λ _.
    cond_both (b == 42) _ _ P (λ _. star) (λ _. bad))))))))

mark_other : (b : ℕ) → IsOther (mark b)
mark_other b reads =
    of_mark (λ read. (titled (read ∷ reads) ≡ false) × (labelled_in (read ∷ reads) ≡ false)) b (refl, refl) (refl, refl) (refl, refl) (refl, refl) (λ _. (refl, refl)) (refl, refl) (refl, refl) (refl, refl) (refl, refl)

mark_open : (b : ℕ) (reads : List Read) → (b == 41) ≡ false → closed (mark b ∷ reads) ≡ false
mark_open b reads e = of_mark (λ read. closed (read ∷ reads) ≡ false) b refl refl refl refl (λ f. absurd (no_both (b == 41) f e)) refl refl refl refl

no_name : (word : List ℕ) (t : Bool) → is_symbol word ≡ false → (is_name word && t) ≡ false
no_name word t e = rw e refl

-- no letter at the front
other_front : (b : ℕ) (bs : List ℕ) → is_blank b ≡ false → is_letter b ≡ false → (titled (reads_of (b ∷ bs)) ≡ false) × (labelled_in (reads_of (b ∷ bs)) ≡ false)
other_front b bs clear e =
    by_cases (is_in_run b)
    (λ f. subst (λ reads. (titled reads ≡ false) × (labelled_in reads ≡ false)) (sym (reads_number b bs e f)) (number_other (number_in (take_while is_in_run (b ∷ bs))) _))
    (λ f. subst (λ reads. (titled reads ≡ false) × (labelled_in reads ≡ false)) (sym (reads_mark b bs f clear)) (mark_other b _))

open_front : (b : ℕ) (bs : List ℕ) → is_blank b ≡ false → (b == 41) ≡ false → closed (reads_of (b ∷ bs)) ≡ false
open_front b bs clear e =
    by_cases (is_letter b)
    (λ f. ap closed (reads_word b bs f) ∙ word_open (take_while is_letter_or_digit (b ∷ bs)) _)
    (λ f. by_cases (is_in_run b)
    (λ g. ap closed (reads_number b bs f g) ∙ number_open (number_in (take_while is_in_run (b ∷ bs))) _)
    (λ g. ap closed (reads_mark b bs g clear) ∙ mark_open b _ e))

no_title_word : (b : ℕ) (bs : List ℕ) → is_letter b ≡ false → is_symbol (front_word (b ∷ bs)) ≡ false
no_title_word b bs e = other_first (b ∷ bs) e

abbrev symbol_read : Bool → List ℕ → Read
symbol_read t text = cond t (Ok (of_symbol (map capital text))) (Err causes.BadWord)

abbrev is_title_word : List ℕ → Bool
is_title_word symbol = is_some (title_word symbol)

found_titled : (symbol : List ℕ) (found : Option Word) (reads : List Read)
    → titled (Ok (word_or_name symbol found) ∷ reads) ≡ is_some (found >>= λ w. only_if (takes_text w) w)
found_titled symbol None reads = refl
found_titled symbol (Some w) reads = sym (some_if (takes_text w) w)

no_title_symbol : (symbol : List ℕ) → is_symbol symbol ≡ false → is_title_word symbol ≡ false
no_title_symbol symbol e = rw (no_word symbol e) refl

word_titled : (text : List ℕ) (reads : List Read) → titled (word text ∷ reads) ≡ is_title_word (map capital text)
word_titled text reads =
    by_cases (is_symbol (map capital text))
    (λ e. ap (λ t. titled (symbol_read t text ∷ reads)) e ∙ found_titled (map capital text) (word_of (map capital text)) reads)
    (λ e. ap (λ t. titled (symbol_read t text ∷ reads)) e ∙ sym (no_title_symbol (map capital text) e))

found_labelled : (symbol : List ℕ) (found : Option Word) (reads : List Read)
    → labelled_in (Ok (word_or_name symbol found) ∷ reads) ≡ (not (is_some found) && closed reads)
found_labelled symbol None reads = refl
found_labelled symbol (Some w) reads = refl

name_of_symbol : (s t u : Bool) → s ≡ true → (t && u) ≡ ((s && t) && u)
name_of_symbol s t u e = rw e refl

word_labelled : (text : List ℕ) (reads : List Read) → labelled_in (word text ∷ reads) ≡ (is_name (map capital text) && closed reads)
word_labelled text reads =
    by_cases (is_symbol (map capital text))
    (λ e. ap (λ t. labelled_in (symbol_read t text ∷ reads)) e
    ∙ found_labelled (map capital text) (word_of (map capital text)) reads
    ∙ name_of_symbol (is_symbol (map capital text)) (not (is_some (word_of (map capital text)))) (closed reads) e)
    (λ e. ap (λ t. labelled_in (symbol_read t text ∷ reads)) e ∙ sym (no_name (map capital text) (closed reads) e))

titled_at : (text rest : List ℕ) → behind is_blank text ≡ rest → titled (reads_of rest) ≡ is_title_word (front_word rest)
titled_at text [] e = sym (no_title_symbol [] refl)
titled_at text (b ∷ bs) e =
    by_cases (is_letter b)
    (λ f. ap titled (reads_word b bs f) ∙ word_titled (take_while is_letter_or_digit (b ∷ bs)) _)
    (λ f. (other_front b bs (clear_front text b bs e) f).0 ∙ sym (no_title_symbol (front_word (b ∷ bs)) (no_title_word b bs f)))

is_titled_front : (text : List ℕ) → is_titled text ≡ is_title_word (front_word (behind is_blank text))
is_titled_front text = some_mapped (title_word (front_word (behind is_blank text))) _

titled_read : (text : List ℕ) → titled (reads_of text) ≡ is_titled text
titled_read text = ap titled (sym (reads_behind_blanks text)) ∙ titled_at text (behind is_blank text) refl ∙ sym (is_titled_front text)

abbrev closes : List ℕ → Bool
closes rest = is_some (close_first rest >>= title)

not_closed : (b : ℕ) (bs : List ℕ) → (b == 41) ≡ false → closes (b ∷ bs) ≡ false
not_closed b bs e = rw e refl

closed_at : (text rest : List ℕ) → behind is_blank text ≡ rest → closed (reads_of rest) ≡ closes rest
closed_at text [] e = refl
closed_at text (b ∷ bs) e =
    by_cases (b == 41)
    (λ f. subst (λ c. closed (reads_of (c ∷ bs)) ≡ closes (c ∷ bs)) (sym (eqb-true b 41 f)) (titled_read bs))
    (λ f. open_front b bs (clear_front text b bs e) f ∙ sym (not_closed b bs f))

closed_read : (text : List ℕ) → closed (reads_of text) ≡ is_closed text
closed_read text = ap closed (sym (reads_behind_blanks text)) ∙ closed_at text (behind is_blank text) refl

abbrev is_label : List ℕ → Bool
is_label rest = is_name (front_word rest) && is_closed (behind is_letter_or_digit rest)

labelled_at : (text rest : List ℕ) → behind is_blank text ≡ rest → labelled_in (reads_of rest) ≡ is_label rest
labelled_at text [] e = refl
labelled_at text (b ∷ bs) e =
    by_cases (is_letter b)
    (λ f.
    ap labelled_in (reads_word b bs f) ∙ word_labelled (take_while is_letter_or_digit (b ∷ bs)) _
    ∙ ap (λ t. is_name (front_word (b ∷ bs)) && t) (closed_read (behind is_letter_or_digit (b ∷ bs))))
    (λ f. (other_front b bs (clear_front text b bs e) f).1 ∙ sym (no_name (front_word (b ∷ bs)) _ (no_title_word b bs f)))

is_labelled_front : (text : List ℕ) → is_labelled text ≡ is_label (behind is_blank text)
is_labelled_front text = some_with_label (front_word (behind is_blank text)) (behind is_letter_or_digit (behind is_blank text))

labelled_read : (text : List ℕ) → labelled_in (reads_of text) ≡ is_labelled text
labelled_read text = ap labelled_in (sym (reads_behind_blanks text)) ∙ labelled_at text (behind is_blank text) refl ∙ sym (is_labelled_front text)

-- ---- up to the first `$`

-- a test that no `$` passes
abbrev Stops : (ℕ → Bool) → Type 0
Stops test = (b : ℕ) → test b ≡ true → is_no_dollar b ≡ true

blank-stops : Stops is_blank
blank-stops b e = grind (arith, nat_tests)

letter_or_digit-stops : Stops is_letter_or_digit
letter_or_digit-stops b e = grind (arith, nat_tests)

behind_said : (test : ℕ → Bool) → Stops test → (text : List ℕ) → behind test (said_on text) ≡ said_on (behind test text)
behind_said test stops text = ap (λ n. drop n (said_on text)) (inner_length test is_no_dollar text stops) ∙ inner_rest test is_no_dollar text stops

front_said : (text : List ℕ) → front_word (said_on text) ≡ front_word text
front_said text =
    ap (map capital) (ap (λ n. take n (said_on text)) (inner_length is_letter_or_digit is_no_dollar text letter_or_digit-stops) ∙ inner_front is_letter_or_digit is_no_dollar text letter_or_digit-stops)

titled_said : (text : List ℕ) → is_titled (said_on text) ≡ is_titled text
titled_said text =
    is_titled_front (said_on text) ∙ ap (λ t. is_title_word (front_word t)) (behind_said is_blank blank-stops text)
    ∙ ap is_title_word (front_said (behind is_blank text)) ∙ sym (is_titled_front text)

said_first : (b : ℕ) (bs : List ℕ) → is_no_dollar b ≡ true → said_on (b ∷ bs) ≡ b ∷ said_on bs
said_first b bs e = take_front is_no_dollar b bs e

closes_said : (rest : List ℕ) → closes (said_on rest) ≡ closes rest
closes_said [] = refl
closes_said (b ∷ bs) =
    by_cases (b == 41)
    (λ e. subst (λ c. closes (said_on (c ∷ bs)) ≡ closes (c ∷ bs)) (sym (eqb-true b 41 e)) (ap closes (said_first 41 bs refl) ∙ titled_said bs))
    (λ e. by_cases (is_no_dollar b)
    (λ f. ap closes (said_first b bs f) ∙ not_closed b (said_on bs) e ∙ sym (not_closed b bs e))
    (λ f. ap (λ n. closes (take n (b ∷ bs))) (prefix_no is_no_dollar b bs f) ∙ sym (not_closed b bs e)))

closed_said : (text : List ℕ) → is_closed (said_on text) ≡ is_closed text
closed_said text = ap closes (behind_said is_blank blank-stops text) ∙ closes_said (behind is_blank text)

labelled_said : (text : List ℕ) → is_labelled (said_on text) ≡ is_labelled text
labelled_said text =
    let rest = behind is_blank text in
    is_labelled_front (said_on text) ∙ ap is_label (behind_said is_blank blank-stops text)
    ∙ ap (λ w. is_name w && is_closed (behind is_letter_or_digit (said_on rest))) (front_said rest)
    ∙ ap (λ t. is_name (front_word rest) && is_closed t) (behind_said is_letter_or_digit letter_or_digit-stops rest)
    ∙ ap (λ t. is_name (front_word rest) && t) (closed_said (behind is_letter_or_digit rest)) ∙ sym (is_labelled_front text)

-- ---- a line takes a text by what is read up to its `$`

untitled_reads : (line : List ℕ) → TakesNoText line → AreUntitled (reads_of (said_on line))
untitled_reads line none =
    let is = untitled_of line none in
    record {
      untitled = titled_read (said_on line) ∙ titled_said line ∙ is.untitled;
      unclosed = closed_read (said_on line) ∙ closed_said line ∙ is.unclosed;
      unlabelled = labelled_read (said_on line) ∙ labelled_said line ∙ is.unlabelled;
    }

pub untitled_line : (line : List ℕ) → AreUntitled (reads_of (said_on line)) → TakesNoText line
untitled_line line are = takes_no_text line (record {
  untitled = sym (titled_said line) ∙ sym (titled_read (said_on line)) ∙ are.untitled;
  unclosed = sym (closed_said line) ∙ sym (closed_read (said_on line)) ∙ are.unclosed;
  unlabelled = sym (labelled_said line) ∙ sym (labelled_read (said_on line)) ∙ are.unlabelled;
})

of_ok : (us ts : List Token) (read : Tokens) → read ≡ Ok us → read ≡ Ok ts → us ≡ ts
of_ok us ts read e f = cc

-- tokens that are read well
abbrev good_ones : List Token → List Read
good_ones [] = []
good_ones (t ∷ ts) = Ok t ∷ good_ones ts

good_first : (t : Token) (reads : List Read) (ts : List Token) (more : Tokens) → all_good reads ≡ more → in_front_of (Ok t) more ≡ Ok ts
    → ((us : List Token) → all_good reads ≡ Ok us → reads ≡ good_ones us) → Ok t ∷ reads ≡ good_ones ts
good_first t reads ts (Err cause) f e again = cc
good_first t reads ts (Ok us) f e again = subst (λ (vs : List Token). Ok t ∷ reads ≡ good_ones vs) (of_ok (t ∷ us) ts (in_front_of (Ok t) (Ok us)) refl e) (ap (λ rs. Ok t ∷ rs) (again us f))

good_reads : (reads : List Read) (ts : List Token) → all_good reads ≡ Ok ts → reads ≡ good_ones ts
good_reads [] ts e = subst (λ (us : List Token). [] ≡ good_ones us) (of_ok [] ts (all_good []) refl e) refl
good_reads (Err cause ∷ reads) ts e = cc
good_reads (Ok t ∷ reads) ts e = good_first t reads ts (all_good reads) refl e (λ us f. good_reads reads us f)

unclosed_tokens : (ts : List Token) → closes_first ts ≡ false → closed (good_ones ts) ≡ false
unclosed_tokens [] e = refl
unclosed_tokens (tokens.Close ∷ ts) e = cc
unclosed_tokens (_ ∷ ts) e = refl

unlabelled_tokens : (t : Token) (ts : List Token) → closes_first ts ≡ false → labelled_in (Ok t ∷ good_ones ts) ≡ false
unlabelled_tokens (tokens.Name name) ts e = unclosed_tokens ts e
unlabelled_tokens _ ts e = refl

no_title_token : (t : Token) (reads : List Read) → is_title t ≡ false → titled (Ok t ∷ reads) ≡ false
no_title_token (tokens.Word w) reads e = e
no_title_token _ reads e = refl

untitled_front : (ts : List Token) → may_be_titled ts ≡ false → (titled (good_ones ts) ≡ false) × (labelled_in (good_ones ts) ≡ false)
untitled_front [] e = cc
untitled_front (t ∷ ts) e = let no = neither (is_title t) (closes_first ts) e in (no_title_token t (good_ones ts) no.0, unlabelled_tokens t ts no.1)

-- no title stands at the front of a line that begins a statement, where its tokens tell so
pub untitled_tokens : (line : List ℕ) (ts : List Token) → tokens_of (said_on line) ≡ Ok ts → may_be_titled ts ≡ false → title_or_labelled line ≡ None
untitled_tokens line ts e f =
    let reads = good_reads (reads_of (said_on line)) ts e in
    let none = untitled_front ts f in
    let word : is_titled line ≡ false = sym (titled_said line) ∙ sym (titled_read (said_on line)) ∙ ap titled reads ∙ none.0 in
    let label : is_labelled line ≡ false = sym (labelled_said line) ∙ sym (labelled_read (said_on line)) ∙ ap labelled_in reads ∙ none.1 in
    is_none (title_or_labelled line) (some_either (title line) (labelled_title line) ∙ both_false (is_titled line) (is_labelled line) word label)
  where
    both_false : (s t : Bool) → s ≡ false → t ≡ false → (s || t) ≡ false
    both_false s t e f = rw (e, f) refl

-- a line on which the same is read takes no text where the other takes none
pub same_reads_no_text : (line other : List ℕ) → reads_of (said_on line) ≡ reads_of (said_on other) → TakesNoText line → TakesNoText other
same_reads_no_text line other same none = untitled_line other (subst AreUntitled same (untitled_reads line none))
