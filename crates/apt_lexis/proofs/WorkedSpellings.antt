-- Lines that are spelled in another way, and some that are not, which the checker reads.
use Rattle.std.specs.Prelude.{◌≡◌, ℕ, false, List, [], ◌∷◌, ◌++◌, None, IsSome, codes}
use Rattle.std.proofs.Common.{refl, sym, ◌∙◌, arith}
use Rattle.apt_words.specs.Vocabulary.{word_of}
use Rattle.apt_lexis.specs.Lines.{tab, lines_of, line_fault}
use Rattle.apt_lexis.specs.Tokens.{Read, number_in, tokens_of}
use Rattle.apt_lexis.specs.Sentences.{said_on}
use Rattle.apt_lexis.specs.Titles.{blank, title_behind}
use Rattle.apt_lexis.specs.Spellings.{IsRespelled, AreRespelled, TakesNoText, SayTheSame, Itself, Onward, IsLonger, InCapitals, WithBlank, WithNumberApart, WithComment, WithWords, WithNumber, ZeroInFront, ZeroBehind, PointBehind}
use Rattle.apt_lexis.proofs.OneByOne.{reads_of}
use Rattle.apt_lexis.proofs.Headings.{titled, closed, labelled_in, AreUntitled, untitled_line}
use Rattle.apt_lexis.proofs.Respelled.{respelled_tokens}

small_letters : IsRespelled (codes "Goto/1.5, x $ on") (codes "GOTO/1.5, X $ ON")
small_letters = InCapitals refl

a_blank : IsRespelled (codes "L1=LINE/1,2") (codes "L1 =LINE/1,2")
a_blank = WithBlank (record { front = codes "L1"; more = blank; back = codes "=LINE/1,2"; before = refl; after = refl; blank = refl; apart = refl; read = refl })

a_tab : IsRespelled (codes "STOP") (tab ∷ codes "STOP")
a_tab = WithBlank (record { front = []; more = tab; back = codes "STOP"; before = refl; after = refl; blank = refl; apart = refl; read = refl })

a_blank_behind_a_word : IsRespelled (codes "X=A.5") (codes "X=A .5")
a_blank_behind_a_word = WithNumberApart (record {
  front = codes "X=";
  word = codes "A";
  more = blank;
  back = codes "5";
  before = refl;
  after = refl;
  blank = refl;
  begins = refl;
  letter = refl;
  letters = refl;
  read = refl;
})

a_comment : IsRespelled (codes "STOP ") (codes "STOP $$ look")
a_comment = WithComment (record { comment = codes " look"; after = refl; read = refl })

words_behind : IsRespelled (codes "GOTO/1,$") (codes "GOTO/1,$ and 2")
words_behind = WithWords (record { front = codes "GOTO/1,"; words = codes " and 2"; before = refl; after = refl; single = refl; read = refl })

zero_at_the_front : IsRespelled (codes "GODLTA/0,-7.5") (codes "GODLTA/0,-07.5")
zero_at_the_front = WithNumber (record {
  front = codes "GODLTA/0,-";
  run = codes "7.5";
  longer = codes "07.5";
  back = [];
  before = refl;
  after = refl;
  number = refl;
  same = ZeroInFront (omega arith) refl;
  begins = refl;
  ends = refl;
  read = refl;
})

zero_at_the_end : IsRespelled (codes "X=(.5)") (codes "X=(.50)")
zero_at_the_end = WithNumber (record {
  front = codes "X=(";
  run = codes ".5";
  longer = codes ".50";
  back = codes ")";
  before = refl;
  after = refl;
  number = refl;
  same = ZeroBehind (omega arith) refl;
  begins = refl;
  ends = refl;
  read = refl;
})

point_at_the_end : IsRespelled (codes "Y=12") (codes "Y=12.")
point_at_the_end = WithNumber (record {
  front = codes "Y=";
  run = codes "12";
  longer = codes "12.";
  back = [];
  before = refl;
  after = refl;
  number = refl;
  same = PointBehind tt refl;
  begins = refl;
  ends = refl;
  read = refl;
})

-- a blank within a word makes two of it
blank_within : IsRespelled (codes "STOP") (codes "ST OP") → ⊥
blank_within is = words_differ (respelled_tokens (codes "STOP") (codes "ST OP") is)
  where
    words_differ : tokens_of (said_on (codes "STOP")) ≡ tokens_of (said_on (codes "ST OP")) → ⊥
    words_differ e = cc

-- a zero behind a word is part of it
zero_behind_a_word : IsRespelled (codes "A.5") (codes "A0.5") → ⊥
unfolding word_of
zero_behind_a_word is = names_differ (respelled_tokens (codes "A.5") (codes "A0.5") is)
  where
    names_differ : tokens_of (said_on (codes "A.5")) ≡ tokens_of (said_on (codes "A0.5")) → ⊥
    names_differ e = cc

-- ---- texts

a_text : AreRespelled (codes "PARTNO a\nla) stop\nFINI") (codes "PARTNO a\nLA) STOP\nFINI")
unfolding word_of
a_text = record {
  front = codes "PARTNO a" ∷ [];
  line = codes "la) stop";
  spelling = codes "LA) STOP";
  back = codes "FINI" ∷ [];
  before = refl;
  after = refl;
  respelled = InCapitals refl;
  faults = λ n. refl;
  no_text = untitled_line (codes "la) stop") (record { untitled = refl; unclosed = refl; unlabelled = refl });
}

-- X is set to a number
abbrev set_to : List ℕ → List ℕ
set_to run = codes "X=" ++ run ++ []

-- it is a text of one line, with no fault and no title
record IsGoodLine (run : List ℕ) : Type 0 where
  one : lines_of (set_to run) ≡ set_to run ∷ []
  good : (n : ℕ) → line_fault n (set_to run) ≡ line_fault n []
  untitled : AreUntitled (reads_of (said_on (set_to run)))

longer_number : (run longer : List ℕ) → IsSome (number_in run) → IsLonger run longer → IsGoodLine run → IsGoodLine longer → AreRespelled (set_to run) (set_to longer)
longer_number run longer number same is is' = record {
  front = [];
  line = set_to run;
  spelling = set_to longer;
  back = [];
  before = is.one;
  after = is'.one;
  respelled = WithNumber (record {
    front = codes "X=";
    run = run;
    longer = longer;
    back = [];
    before = refl;
    after = refl;
    number = number;
    same = same;
    begins = refl;
    ends = refl;
    read = refl;
  });
  faults = λ n. is.good n ∙ sym (is'.good n);
  no_text = untitled_line (set_to run) is.untitled;
}

none_titled : {reads : List Read} → titled reads ≡ false → closed reads ≡ false → labelled_in reads ≡ false → AreUntitled reads
none_titled e f g = record { untitled = e; unclosed = f; unlabelled = g }

zeros_all_round : SayTheSame (codes "X=7.5") (codes "X=007.500")
unfolding word_of
zeros_all_round =
    let a : IsGoodLine (codes "7.5") = record { one = refl; good = λ n. refl; untitled = none_titled refl refl refl } in
    let b : IsGoodLine (codes "07.5") = record { one = refl; good = λ n. refl; untitled = none_titled refl refl refl } in
    let c : IsGoodLine (codes "007.5") = record { one = refl; good = λ n. refl; untitled = none_titled refl refl refl } in
    let d : IsGoodLine (codes "007.50") = record { one = refl; good = λ n. refl; untitled = none_titled refl refl refl } in
    let e : IsGoodLine (codes "007.500") = record { one = refl; good = λ n. refl; untitled = none_titled refl refl refl } in
    Onward (set_to (codes "7.5")) (set_to (codes "07.5")) _ (longer_number (codes "7.5") (codes "07.5") refl (ZeroInFront (omega arith) refl) a b)
    (Onward (set_to (codes "07.5")) (set_to (codes "007.5")) _ (longer_number (codes "07.5") (codes "007.5") refl (ZeroInFront (omega arith) refl) b c)
    (Onward (set_to (codes "007.5")) (set_to (codes "007.50")) _ (longer_number (codes "007.5") (codes "007.50") refl (ZeroBehind (omega arith) refl) c d)
    (Onward (set_to (codes "007.50")) (set_to (codes "007.500")) _ (longer_number (codes "007.50") (codes "007.500") refl (ZeroBehind (omega arith) refl) d e)
    (Itself (codes "X=007.500")))))

-- the text of a title keeps its spelling
a_title : TakesNoText (codes "la) partno a") → ⊥
unfolding word_of
a_title none = takes_one (none [])
  where
    takes_one : title_behind [] (codes "la) partno a") ≡ None → ⊥
    takes_one e = cc
