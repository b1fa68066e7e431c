-- Lines and texts that are spelled in another way say the same.
use Rattle.std.proofs.Common.{◌≡◌, ℕ, ◌+◌, List, [], ◌∷◌, ◌++◌, length, map, take, drop, Bool, true, false, Option, None, Ok, Err, ap, ◌∙◌, sym, refl, arith, append-nil, append_assoc}
use Rattle.std.specs.Prelude.{◌&&◌, IsSome, is_some}
use Rattle.std.specs.List.{list_all, prefix_len, flat_map}
use Rattle.std.proofs.lemmas.Bool.{and_parts, and_from}
use Rattle.std.proofs.lemmas.Bool.Decides.{nat_tests}
use Rattle.std.proofs.lemmas.List.{length-append}
use Rattle.apt_lexis.specs.Lines.{lines_of, line_fault}
use Rattle.apt_lexis.specs.Tokens.{Tokens, point, capital, is_blank, is_letter, is_letter_or_digit, begins_with_letter, is_in_run, begins_in_run, number_in, or_bad_number, number, word, tokens_of_run, all_good, tokens_of}
use Rattle.apt_lexis.specs.Phrase.{Phrase}
use Rattle.apt_lexis.specs.Sentences.{dollar, is_no_dollar, is_single, said_on, goes_on, tokens_before, behind_tokens, title_in, behind_line, with_first, unless_fault, said_from, said_in}
use Rattle.apt_lexis.specs.Spellings.{has_no_dollar, ends_in_run, IsRespelled, InCapitals, WithBlank, WithNumberApart, WithComment, WithWords, WithNumber, TakesNoText, AreRespelled}
use Rattle.apt_lexis.proofs.Fronts.{prefix_yes, prefix_no, drop_one_more, take_front, passes_other}
use Rattle.apt_lexis.proofs.OneByOne.{reads_of, reads_blank, reads_word, number_alone}
use Rattle.apt_lexis.proofs.SentenceLaws.{by_tokens}
use Rattle.apt_lexis.proofs.PartedRuns.{by_cases, reads_parted, run_alone, runs_with_blank}
use Rattle.apt_lexis.proofs.Zeros.{is_digit_or_point, number_characters, same_number}
use Rattle.apt_lexis.proofs.Headings.{same_reads_no_text}
use Rattle.apt_lexis.proofs.SmallLetters.{reads-capitals, said_on-capitals, goes_on-capitals}

-- the same is read on both, and both go on or neither
record SaysTheSame (line other : List ℕ) : Type 0 where
  pub reads : reads_of (said_on line) ≡ reads_of (said_on other)
  pub on : goes_on line ≡ goes_on other

-- ---- up to the first `$`

said_behind : (front rest : List ℕ) → has_no_dollar front ≡ true → said_on (front ++ rest) ≡ front ++ said_on rest
said_behind [] rest e = refl
said_behind (b ∷ bs) rest e =
    let both = and_parts (is_no_dollar b) (has_no_dollar bs) e in
    take_front is_no_dollar b (bs ++ rest) both.0 ∙ ap (λ text. b ∷ text) (said_behind bs rest both.1)

on_behind : (front rest : List ℕ) → has_no_dollar front ≡ true → goes_on (front ++ rest) ≡ goes_on rest
on_behind [] rest e = refl
on_behind (b ∷ bs) rest e =
    let both = and_parts (is_no_dollar b) (has_no_dollar bs) e in
    ap is_single (further b (bs ++ rest) both.0) ∙ on_behind bs rest both.1
  where
    further : (b : ℕ) (bs : List ℕ) → is_no_dollar b ≡ true → drop (prefix_len is_no_dollar (b ∷ bs)) (b ∷ bs) ≡ drop (prefix_len is_no_dollar bs) bs
    further b bs e = rw (prefix_yes is_no_dollar b bs e) (drop_one_more (prefix_len is_no_dollar bs) b bs)

begins_as_said : (text : List ℕ) → begins_in_run (said_on text) ≡ begins_in_run text
begins_as_said [] = refl
begins_as_said (b ∷ bs) =
    by_cases (is_no_dollar b)
    (λ e. ap begins_in_run (take_front is_no_dollar b bs e))
    (λ e. rw (prefix_no is_no_dollar b bs e) (sym (no_run b e)))
  where
    no_run : (b : ℕ) → is_no_dollar b ≡ false → is_in_run b ≡ false
    no_run b e = grind (arith, nat_tests)

-- ---- capitals

capitals_say : (line : List ℕ) → SaysTheSame line (map capital line)
capitals_say line = record {
  reads = sym (ap reads_of (said_on-capitals line) ∙ reads-capitals (said_on line));
  on = sym (goes_on-capitals line);
}

-- ---- a blank more

no_dollar_of_blank : (b : ℕ) → is_blank b ≡ true → is_no_dollar b ≡ true
no_dollar_of_blank b e = grind (arith, nat_tests)

said_behind_blank : (b : ℕ) (back : List ℕ) → is_blank b ≡ true → said_on (b ∷ back) ≡ b ∷ said_on back
said_behind_blank b back e = take_front is_no_dollar b back (no_dollar_of_blank b e)

on_behind_blank : (b : ℕ) (back : List ℕ) → is_blank b ≡ true → goes_on (b ∷ back) ≡ goes_on back
on_behind_blank b back e = on_behind (b ∷ []) back (and_from (is_no_dollar b) true (no_dollar_of_blank b e) refl)

blank_says : (front : List ℕ) (b : ℕ) (back : List ℕ) → is_blank b ≡ true → (ends_in_run front && begins_in_run back) ≡ false → has_no_dollar front ≡ true
    → SaysTheSame (front ++ back) (front ++ b ∷ back)
blank_says front b back blank apart e = record {
  reads =
      ap reads_of (said_behind front back e)
      ∙ ap (flat_map tokens_of_run) (sym (runs_with_blank front b (said_on back) blank (ap (λ t. ends_in_run front && t) (begins_as_said back) ∙ apart)))
      ∙ ap reads_of (sym (said_behind front (b ∷ back) e ∙ ap (λ text. front ++ text) (said_behind_blank b back blank)));
  on = on_behind front back e ∙ sym (on_behind front (b ∷ back) e ∙ on_behind_blank b back blank);
}

-- ---- a blank behind a word

front_all : (test : ℕ → Bool) (text rest : List ℕ) → list_all test text ≡ true → prefix_len test rest ≡ 0 → take (prefix_len test (text ++ rest)) (text ++ rest) ≡ text
front_all test [] rest e f = rw f refl
front_all test (b ∷ bs) rest e f =
    let both = and_parts (test b) (list_all test bs) e in
    take_front test b (bs ++ rest) both.0 ∙ ap (λ t. b ∷ t) (front_all test bs rest both.1 f)

behind_all : (test : ℕ → Bool) (text rest : List ℕ) → list_all test text ≡ true → prefix_len test rest ≡ 0 → drop (prefix_len test (text ++ rest)) (text ++ rest) ≡ rest
behind_all test [] rest e f = rw f refl
behind_all test (b ∷ bs) rest e f =
    let both = and_parts (test b) (list_all test bs) e in
    ap (λ n. drop n (b ∷ (bs ++ rest))) (prefix_yes test b (bs ++ rest) both.0) ∙ drop_one_more (prefix_len test (bs ++ rest)) b (bs ++ rest) ∙ behind_all test bs rest both.1 f

-- what is read of a word and of what stands behind it
reads_of_word : (text rest : List ℕ) → begins_with_letter text ≡ true → list_all is_letter_or_digit text ≡ true → prefix_len is_letter_or_digit rest ≡ 0 → reads_of (text ++ rest) ≡ word text ∷ reads_of rest
reads_of_word [] rest e f g = cc
reads_of_word (b ∷ bs) rest e f g =
    reads_word b (bs ++ rest) e ∙ ap (λ t. word t ∷ reads_of (drop (prefix_len is_letter_or_digit (b ∷ (bs ++ rest))) (b ∷ (bs ++ rest)))) (front_all is_letter_or_digit (b ∷ bs) rest f g)
    ∙ ap (λ t. word (b ∷ bs) ∷ reads_of t) (behind_all is_letter_or_digit (b ∷ bs) rest f g)

-- a part of a line, a word, and the rest
record IsWordAt (front text : List ℕ) : Type 0 where
  begins : ends_in_run front ≡ false
  letter : begins_with_letter text ≡ true
  letters : list_all is_letter_or_digit text ≡ true
  read : has_no_dollar front ≡ true

no_dollar_of_letter_or_digit : (b : ℕ) → is_letter_or_digit b ≡ true → is_no_dollar b ≡ true
no_dollar_of_letter_or_digit b e = grind (arith, nat_tests)

no_dollar_in_word : (text : List ℕ) → list_all is_letter_or_digit text ≡ true → has_no_dollar text ≡ true
no_dollar_in_word text e = passes_other is_letter_or_digit is_no_dollar no_dollar_of_letter_or_digit text e

said_behind_word : (front text rest : List ℕ) → IsWordAt front text → said_on (front ++ (text ++ rest)) ≡ front ++ (text ++ said_on rest)
said_behind_word front text rest is = said_behind front (text ++ rest) is.read ∙ ap (λ t. front ++ t) (said_behind text rest (no_dollar_in_word text is.letters))

on_behind_word : (front text rest : List ℕ) → IsWordAt front text → goes_on (front ++ (text ++ rest)) ≡ goes_on rest
on_behind_word front text rest is = on_behind front (text ++ rest) is.read ∙ on_behind text rest (no_dollar_in_word text is.letters)

first_false : (s t : Bool) → s ≡ false → (s && t) ≡ false
first_false true t e = cc
first_false false t e = refl

reads_behind_word : (front text rest : List ℕ) → IsWordAt front text → prefix_len is_letter_or_digit rest ≡ 0 → reads_of (front ++ (text ++ rest)) ≡ reads_of front ++ word text ∷ reads_of rest
reads_behind_word front text rest is e =
    reads_parted front (text ++ rest) (first_false (ends_in_run front) (begins_in_run (text ++ rest)) is.begins)
    ∙ ap (λ reads. reads_of front ++ reads) (reads_of_word text rest is.letter is.letters e)

no_letter_of_blank : (b : ℕ) → is_blank b ≡ true → is_letter_or_digit b ≡ false
no_letter_of_blank b e = grind (arith, nat_tests)

said_behind_point : (back : List ℕ) → said_on (point ∷ back) ≡ point ∷ said_on back
said_behind_point back = said_behind (point ∷ []) back refl

apart_says : (front text : List ℕ) (b : ℕ) (back : List ℕ) → is_blank b ≡ true → IsWordAt front text → SaysTheSame (front ++ (text ++ point ∷ back)) (front ++ (text ++ b ∷ point ∷ back))
apart_says front text b back blank is = record {
  reads =
      ap reads_of (said_behind_word front text (point ∷ back) is ∙ ap (λ t. front ++ (text ++ t)) (said_behind_point back))
      ∙ reads_behind_word front text (point ∷ said_on back) is refl
      ∙ ap (λ reads. reads_of front ++ word text ∷ reads) (sym (reads_blank b (point ∷ said_on back) blank))
      ∙ sym (reads_behind_word front text (b ∷ point ∷ said_on back) is (prefix_no is_letter_or_digit b (point ∷ said_on back) (no_letter_of_blank b blank)))
      ∙ ap reads_of (sym (said_behind_word front text (b ∷ point ∷ back) is ∙ ap (λ t. front ++ (text ++ t)) (said_behind_blank b (point ∷ back) blank ∙ ap (λ t. b ∷ t) (said_behind_point back))));
  on = on_behind_word front text (point ∷ back) is ∙ sym (on_behind_word front text (b ∷ point ∷ back) is ∙ on_behind_blank b (point ∷ back) blank);
}

-- ---- a comment more

comment_says : (line comment : List ℕ) → has_no_dollar line ≡ true → SaysTheSame line (line ++ dollar ∷ dollar ∷ comment)
comment_says line comment e = record {
  reads = ap reads_of (ap said_on (sym (append-nil line)) ∙ said_behind line [] e ∙ sym (said_behind line (dollar ∷ dollar ∷ comment) e));
  on = ap goes_on (sym (append-nil line)) ∙ on_behind line [] e ∙ sym (on_behind line (dollar ∷ dollar ∷ comment) e);
}

-- ---- words behind a `$`

words_say : (front words : List ℕ) → is_single (dollar ∷ words) ≡ true → has_no_dollar front ≡ true → SaysTheSame (front ++ dollar ∷ []) (front ++ dollar ∷ words)
words_say front words single e = record {
  reads = ap reads_of (said_behind front (dollar ∷ []) e ∙ sym (said_behind front (dollar ∷ words) e));
  on = on_behind front (dollar ∷ []) e ∙ sym single ∙ sym (on_behind front (dollar ∷ words) e);
}

-- ---- a longer number

letter_of_digit_or_point : (b : ℕ) → is_digit_or_point b ≡ true → is_letter b ≡ false
letter_of_digit_or_point b e = grind (arith, nat_tests)

run_of_digit_or_point : (b : ℕ) → is_digit_or_point b ≡ true → is_in_run b ≡ true
run_of_digit_or_point b e = grind (arith, nat_tests)

no_dollar_of_digit_or_point : (b : ℕ) → is_digit_or_point b ≡ true → is_no_dollar b ≡ true
no_dollar_of_digit_or_point b e = grind (arith, nat_tests)

reads_number : (run : List ℕ) → IsSome (number_in run) → reads_of run ≡ number run ∷ []
reads_number [] h = cc
reads_number (b ∷ bs) h =
    let characters = number_characters (b ∷ bs) h in
    let first = (and_parts (is_digit_or_point b) (list_all is_digit_or_point bs) characters).0 in
    ap (flat_map tokens_of_run) (run_alone b bs (passes_other is_digit_or_point is_in_run run_of_digit_or_point (b ∷ bs) characters))
    ∙ ap (λ reads. reads ++ []) (number_alone b bs (letter_of_digit_or_point b first) (run_of_digit_or_point b first))

-- a number that stands by itself is one token
reads_around : (front run back : List ℕ) → IsSome (number_in run) → ends_in_run front ≡ false → begins_in_run back ≡ false
    → reads_of (front ++ (run ++ back)) ≡ reads_of front ++ or_bad_number (number_in run) ∷ reads_of back
reads_around front run back h begins ends =
    reads_parted front (run ++ back) (first_false (ends_in_run front) (begins_in_run (run ++ back)) begins)
    ∙ ap (λ reads. reads_of front ++ reads) (reads_parted run back (or_other_false (ends_in_run run) (begins_in_run back) ends) ∙ ap (λ reads. reads ++ reads_of back) (reads_number run h))
  where
    or_other_false : (s t : Bool) → t ≡ false → (s && t) ≡ false
    or_other_false true t e = e
    or_other_false false t e = refl

said_around : (front run back : List ℕ) → IsSome (number_in run) → has_no_dollar front ≡ true → said_on (front ++ (run ++ back)) ≡ front ++ (run ++ said_on back)
said_around front run back h e =
    said_behind front (run ++ back) e
    ∙ ap (λ text. front ++ text) (said_behind run back (passes_other is_digit_or_point is_no_dollar no_dollar_of_digit_or_point run (number_characters run h)))

on_around : (front run back : List ℕ) → IsSome (number_in run) → has_no_dollar front ≡ true → goes_on (front ++ (run ++ back)) ≡ goes_on back
on_around front run back h e =
    on_behind front (run ++ back) e
    ∙ on_behind run back (passes_other is_digit_or_point is_no_dollar no_dollar_of_digit_or_point run (number_characters run h))

reads_said_around : (front run back : List ℕ) → IsSome (number_in run) → ends_in_run front ≡ false → begins_in_run back ≡ false → has_no_dollar front ≡ true
    → reads_of (said_on (front ++ (run ++ back))) ≡ reads_of front ++ or_bad_number (number_in run) ∷ reads_of (said_on back)
reads_said_around front run back h begins ends e =
    ap reads_of (said_around front run back h e) ∙ reads_around front run (said_on back) h begins (begins_as_said back ∙ ends)

number_says : (front run longer back : List ℕ) → IsSome (number_in run) → number_in longer ≡ number_in run → ends_in_run front ≡ false → begins_in_run back ≡ false → has_no_dollar front ≡ true
    → SaysTheSame (front ++ (run ++ back)) (front ++ (longer ++ back))
number_says front run longer back h same begins ends e =
    let h' : IsSome (number_in longer) = ap is_some same ∙ h in
    record {
      reads =
          reads_said_around front run back h begins ends e
          ∙ ap (λ v. reads_of front ++ or_bad_number v ∷ reads_of (said_on back)) (sym same)
          ∙ sym (reads_said_around front longer back h' begins ends e);
      on = on_around front run back h e ∙ sym (on_around front longer back h' e);
    }

-- ---- each of them

says_of : {line other line' other' : List ℕ} → line ≡ line' → other ≡ other' → SaysTheSame line' other' → SaysTheSame line other
says_of e f says = record {
  reads = ap (λ text. reads_of (said_on text)) e ∙ says.reads ∙ sym (ap (λ text. reads_of (said_on text)) f);
  on = ap goes_on e ∙ says.on ∙ sym (ap goes_on f);
}

says_the_same : (line other : List ℕ) → IsRespelled line other → SaysTheSame line other
says_the_same line other (InCapitals e) = says_of refl e (capitals_say line)
says_the_same line other (WithBlank m) = says_of m.before m.after (blank_says m.front m.more m.back m.blank m.apart m.read)
says_the_same line other (WithNumberApart m) =
    says_of (m.before ∙ append_assoc m.front m.word (point ∷ m.back)) (m.after ∙ append_assoc m.front m.word (m.more ∷ point ∷ m.back))
    (apart_says m.front m.word m.more m.back m.blank (record { begins = m.begins; letter = m.letter; letters = m.letters; read = m.read }))
says_the_same line other (WithComment m) = says_of refl m.after (comment_says line m.comment m.read)
says_the_same line other (WithWords m) = says_of m.before m.after (words_say m.front m.words m.single m.read)
says_the_same line other (WithNumber m) =
    says_of (m.before ∙ append_assoc m.front m.run m.back) (m.after ∙ append_assoc m.front m.longer m.back)
    (number_says m.front m.run m.longer m.back m.number (same_number m.run m.longer m.number m.same) m.begins m.ends m.read)

-- another spelling of a line has the same tokens
pub respelled_tokens : (line other : List ℕ) → IsRespelled line other → tokens_of (said_on line) ≡ tokens_of (said_on other)
respelled_tokens line other is = ap all_good (says_the_same line other is).reads

-- and goes on with the next line where the line does
pub respelled_goes_on : (line other : List ℕ) → IsRespelled line other → goes_on line ≡ goes_on other
respelled_goes_on line other is = (says_the_same line other is).on

-- a line takes no text where another spelling of it takes none
pub respelled_no_text : (line other : List ℕ) → IsRespelled line other → TakesNoText line → TakesNoText other
respelled_no_text line other is none = same_reads_no_text line other (says_the_same line other is).reads none

-- ---- texts

no_title : (before : Tokens) (line : List ℕ) → TakesNoText line → title_in before line ≡ None
no_title (Err cause) line none = refl
no_title (Ok ts) line none = none ts

same_behind : (begun : Option Phrase) (n : ℕ) (line other : List ℕ) → IsRespelled line other → TakesNoText line → behind_line begun n line ≡ behind_line begun n other
same_behind begun n line other is none =
    by_tokens begun n line (no_title (tokens_before begun) line none)
    ∙ ap (λ ts. behind_tokens begun n ts (goes_on line)) (respelled_tokens line other is)
    ∙ ap (behind_tokens begun n (tokens_of (said_on other))) (respelled_goes_on line other is)
    ∙ sym (by_tokens begun n other (no_title (tokens_before begun) other (respelled_no_text line other is none)))

said_behind_lines : (begun : Option Phrase) (n : ℕ) (front : List (List ℕ)) (line other : List ℕ) (back : List (List ℕ))
    → ((begun : Option Phrase) (n : ℕ) → behind_line begun n line ≡ behind_line begun n other) → ((n : ℕ) → line_fault n line ≡ line_fault n other)
    → said_from begun n (front ++ line ∷ back) ≡ said_from begun n (front ++ other ∷ back)
said_behind_lines begun n [] line other back same faults =
    ap (λ fault. unless_fault n fault (with_first (behind_line begun n line).said (said_from (behind_line begun n line).begun (n + 1) back))) (faults n)
    ∙ ap (λ behind. unless_fault n (line_fault n other) (with_first behind.said (said_from behind.begun (n + 1) back))) (same begun n)
said_behind_lines begun n (first ∷ front) line other back same faults =
    let behind = behind_line begun n first in
    ap (λ said. unless_fault n (line_fault n first) (with_first behind.said said)) (said_behind_lines behind.begun (n + 1) front line other back same faults)

-- a text with another spelling of one of its lines says the same
pub respelled_said : (text other : List ℕ) → AreRespelled text other → said_in text ≡ said_in other
respelled_said text other are =
    ap (said_from None 1) are.before
    ∙ said_behind_lines None 1 are.front are.line are.spelling are.back (λ begun n. same_behind begun n are.line are.spelling are.respelled are.no_text) are.faults
    ∙ sym (ap (said_from None 1) are.after)

-- and has as many lines
pub respelled_lines : (text other : List ℕ) → AreRespelled text other → length (lines_of text) ≡ length (lines_of other)
respelled_lines text other are =
    ap length are.before ∙ length-append are.front (are.line ∷ are.back) ∙ sym (length-append are.front (are.spelling ∷ are.back)) ∙ sym (ap length are.after)
