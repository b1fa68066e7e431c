-- Texts that say the same: in capitals or small letters, with more blanks or fewer, with a comment or none, with numbers that are written longer.
use Rattle.std.specs.Prelude.{◌≡◌, ℕ, ◌<◌, ◌&&◌, Bool, true, false, List, [], ◌∷◌, ◌++◌, length, map, None, IsSome}
use Rattle.std.specs.List.{list_all}
use Rattle.apt_lexis.specs.declared.token.Token.{Token}
use Rattle.apt_lexis.specs.Lines.{split, lines_of, line_fault}
use Rattle.apt_lexis.specs.Tokens.{point, capital, is_blank, is_letter_or_digit, begins_with_letter, is_in_run, begins_in_run, number_in}
use Rattle.apt_lexis.specs.Titles.{title_behind}
use Rattle.apt_lexis.specs.Sentences.{dollar, is_no_dollar, is_single}

-- ---- numbers

abbrev pub zero_digit : ℕ
zero_digit = 48

-- fewer than 12 digits stand in front of the point
abbrev pub HasRoomInFront : List (List ℕ) → Type 0
HasRoomInFront [] = ⊥
HasRoomInFront (whole ∷ more) = length whole < 12

-- there is a point, and fewer than 12 digits stand behind it
abbrev pub HasRoomBehind : List (List ℕ) → Type 0
HasRoomBehind (whole ∷ places ∷ []) = length places < 12
HasRoomBehind _ = ⊥

-- there is no point
abbrev pub IsWhole : List (List ℕ) → Type 0
IsWhole (whole ∷ []) = Unit {0}
IsWhole _ = ⊥

-- a number is written with a zero more in front, with a zero more behind its point, or with a point behind a whole number
pub data IsLonger (run longer : List ℕ) : Type 0 where
  ZeroInFront : HasRoomInFront (split point run) → longer ≡ zero_digit ∷ run → IsLonger run longer
  ZeroBehind : HasRoomBehind (split point run) → longer ≡ run ++ zero_digit ∷ [] → IsLonger run longer
  PointBehind : IsWhole (split point run) → longer ≡ run ++ point ∷ [] → IsLonger run longer

-- ---- lines

-- a run may go on behind this part of a line
abbrev pub ends_in_run : List ℕ → Bool
ends_in_run [] = false
ends_in_run (b ∷ []) = is_in_run b
ends_in_run (b ∷ c ∷ bs) = ends_in_run (c ∷ bs)

-- what stands behind a `$` is not read
abbrev pub has_no_dollar : List ℕ → Bool
has_no_dollar text = list_all is_no_dollar text

-- a blank more, which parts no run
pub record HasBlankMore (line other : List ℕ) : Type 0 where
  pub front : List ℕ
  pub more : ℕ
  pub back : List ℕ
  pub before : line ≡ front ++ back
  pub after : other ≡ front ++ more ∷ back
  pub blank : is_blank more ≡ true
  pub apart : (ends_in_run front && begins_in_run back) ≡ false
  pub read : has_no_dollar front ≡ true

-- a blank more, between a word and the number that stands directly behind it
pub record HasNumberApart (line other : List ℕ) : Type 0 where
  pub front : List ℕ
  pub word : List ℕ
  pub more : ℕ
  pub back : List ℕ
  pub before : line ≡ front ++ word ++ point ∷ back
  pub after : other ≡ front ++ word ++ more ∷ point ∷ back
  pub blank : is_blank more ≡ true
  pub begins : ends_in_run front ≡ false
  pub letter : begins_with_letter word ≡ true
  pub letters : list_all is_letter_or_digit word ≡ true
  pub read : has_no_dollar front ≡ true

-- a comment behind a line that has none, and does not go on
pub record HasCommentMore (line other : List ℕ) : Type 0 where
  pub comment : List ℕ
  pub after : other ≡ line ++ dollar ∷ dollar ∷ comment
  pub read : has_no_dollar line ≡ true

-- words behind the `$` with which a line goes on
pub record HasWordsMore (line other : List ℕ) : Type 0 where
  pub front : List ℕ
  pub words : List ℕ
  pub before : line ≡ front ++ dollar ∷ []
  pub after : other ≡ front ++ dollar ∷ words
  pub single : is_single (dollar ∷ words) ≡ true
  pub read : has_no_dollar front ≡ true

-- a number that stands by itself is written longer
pub record HasLongerNumber (line other : List ℕ) : Type 0 where
  pub front : List ℕ
  pub run : List ℕ
  pub longer : List ℕ
  pub back : List ℕ
  pub before : line ≡ front ++ run ++ back
  pub after : other ≡ front ++ longer ++ back
  pub number : IsSome (number_in run)
  pub same : IsLonger run longer
  pub begins : ends_in_run front ≡ false
  pub ends : begins_in_run back ≡ false
  pub read : has_no_dollar front ≡ true

-- another spelling of a line
pub data IsRespelled (line other : List ℕ) : Type 0 where
  InCapitals : other ≡ map capital line → IsRespelled line other
  WithBlank : HasBlankMore line other → IsRespelled line other
  WithNumberApart : HasNumberApart line other → IsRespelled line other
  WithComment : HasCommentMore line other → IsRespelled line other
  WithWords : HasWordsMore line other → IsRespelled line other
  WithNumber : HasLongerNumber line other → IsRespelled line other

-- ---- texts

-- no line of PARTNO or REMARK, whose text keeps its spelling
abbrev pub TakesNoText : List ℕ → Type 0
TakesNoText line = (ts : List Token) → title_behind ts line ≡ None

-- a text with another spelling of one of its lines, which has the same fault or none
pub record AreRespelled (text other : List ℕ) : Type 0 where
  pub front : List (List ℕ)
  pub line : List ℕ
  pub spelling : List ℕ
  pub back : List (List ℕ)
  pub before : lines_of text ≡ front ++ line ∷ back
  pub after : lines_of other ≡ front ++ spelling ∷ back
  pub respelled : IsRespelled line spelling
  pub faults : (n : ℕ) → line_fault n line ≡ line_fault n spelling
  pub no_text : TakesNoText line

-- texts between which such changes lead, each onward or back
pub data SayTheSame : List ℕ → List ℕ → Type 0 where
  Itself : (text : List ℕ) → SayTheSame text text
  Onward : (text next other : List ℕ) → AreRespelled text next → SayTheSame next other → SayTheSame text other
  Backward : (text next other : List ℕ) → AreRespelled next text → SayTheSame next other → SayTheSame text other
