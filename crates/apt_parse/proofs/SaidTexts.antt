-- The lines of statements, and their texts.
use Rattle.std.proofs.Common.{◌≡◌, ℕ, ◌+◌, ◌≤◌, Bool, true, false, List, [], ◌∷◌, length, Option, Some, None, Ok, Err, refl, arith}
use Rattle.std.specs.Prelude.{IfSome, not, nat_lt, if◌then◌else◌}
use Rattle.std.specs.List.{list_all}
use Rattle.std.proofs.lemmas.Bool.Decides.{nat_tests}
use Rattle.apt_words.specs.Sources.{IsCount, IsTitle}
use Rattle.apt_lexis.specs.declared.cause.PartCause.{PartCause}
use Rattle.apt_lexis.specs.declared.cause.PartCause.TheVariants as causes
use Rattle.apt_lexis.specs.Lines.{lines_of, line_fault, most_lines, most_bytes, is_character}
use Rattle.apt_lexis.specs.Tokens.{Tokens, tokens_of}
use Rattle.apt_lexis.specs.Titles.{Title}
use Rattle.apt_lexis.specs.Phrase.{Phrase}
use Rattle.apt_lexis.specs.Sentences.{Behind, Said, said_on, goes_on, first_line, tokens_before, behind_tokens, title_in, by_title, behind_line, all_of, with_first, unless_fault, said_from, said_in}
use Rattle.apt_parse.proofs.TitleTexts.{HasTitle, title_behind-text}

pub record IsSaid (p : Phrase) : Type 0 where
  pub line : IsCount p.line
  pub text : IfSome p.text IsTitle

abbrev pub AreSaid : List Phrase → Type 0
AreSaid [] = Unit {0}
AreSaid (p ∷ ps) = IsSaid p × AreSaid ps

record IsBehind (b : Behind) : Type 0 where
  begun : IfSome b.begun IsSaid
  said : IfSome b.said IsSaid

-- ---- one line

first_line-count : (begun : Option Phrase) (n : ℕ) → IfSome begun IsSaid → IsCount n → IsCount (first_line begun n)
first_line-count None n is h = h
first_line-count (Some p) n is h = is.line

spoken : (p : Phrase) (on : Bool) → IsSaid p → IsBehind (if on then record { begun = Some p; said = None } else record { begun = None; said = Some p })
spoken p true is = record { begun = is; said = tt }
spoken p false is = record { begun = tt; said = is }

behind_tokens-said : (begun : Option Phrase) (n : ℕ) (ts : Tokens) (on : Bool) → IfSome begun IsSaid → IsCount n → IsBehind (behind_tokens begun n ts on)
behind_tokens-said begun n (Ok []) on is h = record { begun = is; said = tt }
behind_tokens-said begun n (Ok (t ∷ ts)) on is h = spoken _ on (record { line = first_line-count begun n is h; text = tt })
behind_tokens-said begun n (Err cause) on is h = spoken _ on (record { line = first_line-count begun n is h; text = tt })

title_in-text : (before : Tokens) (line : List ℕ) → IsTitle line → IfSome (title_in before line) HasTitle
title_in-text (Err cause) line h = tt
title_in-text (Ok ts) line h = title_behind-text ts line h

by_title-said : (begun : Option Phrase) (n : ℕ) (line : List ℕ) (t : Option Title) → IfSome begun IsSaid → IsCount n → IfSome t HasTitle → IsBehind (by_title begun n line t)
by_title-said begun n line (Some (ts, text)) is h is_text = record { begun = tt; said = record { line = first_line-count begun n is h; text = is_text } }
by_title-said begun n line None is h is_text = behind_tokens-said begun n (tokens_of (said_on line)) (goes_on line) is h

behind_line-said : (begun : Option Phrase) (n : ℕ) (line : List ℕ) → IfSome begun IsSaid → IsCount n → IsTitle line → IsBehind (behind_line begun n line)
behind_line-said begun n line is h is_text =
    by_title-said begun n line (title_in (tokens_before begun) line) is h (title_in-text (tokens_before begun) line is_text)

-- ---- all lines

-- a line without fault
abbrev IsLine : ℕ → List ℕ → Type 0
IsLine n line = (n ≤ 50000) × IsTitle line

without_fault : (late long good : Bool)
    → (if late then Some causes.TooManyLines else if long then Some causes.LineTooLong else if not good then Some causes.BadByte else None) ≡ None
    → (late ≡ false) × (long ≡ false) × (good ≡ true)
without_fault true long good e = cc
without_fault false true good e = cc
without_fault false false true e = (refl, refl, refl)
without_fault false false false e = cc

at_most : (limit n : ℕ) → nat_lt limit n ≡ false → n ≤ limit
at_most limit n e = grind (arith, nat_tests)

line_is : (n : ℕ) (line : List ℕ) → line_fault n line ≡ None → IsLine n line
line_is n line e =
    let r = without_fault (nat_lt most_lines n) (nat_lt most_bytes (length line)) (list_all is_character line) e in (at_most most_lines n r.0, (r.2, at_most most_bytes (length line) r.1))

all_of-said : (first : Option Phrase) (said : Said) → IfSome first IsSaid → AreSaid said.phrases → AreSaid (with_first first said).phrases
all_of-said None said is are = are
all_of-said (Some p) said is are = (is, are)

unless_fault-said : (n : ℕ) (fault : Option PartCause) (said : Said) → (fault ≡ None → AreSaid said.phrases) → AreSaid (unless_fault n fault said).phrases
unless_fault-said n (Some cause) said h = tt
unless_fault-said n None said h = h refl

end-said : (begun : Option Phrase) → IfSome begun IsSaid → AreSaid (all_of begun)
end-said None is = tt
end-said (Some p) is = (is, tt)

good_line-said : (begun : Option Phrase) (n : ℕ) (line : List ℕ) → IfSome begun IsSaid → 1 ≤ n → IsLine n line → IsBehind (behind_line begun n line)
good_line-said begun n line is h good = behind_line-said begun n line is (h, omega (arith, good.0)) good.1

said_from-said : (begun : Option Phrase) (n : ℕ) (lines : List (List ℕ)) → IfSome begun IsSaid → 1 ≤ n → AreSaid (said_from begun n lines).phrases
said_from-said begun n [] is h = end-said begun is
said_from-said begun n (line ∷ lines) is h =
    let b = behind_line begun n line in
    unless_fault-said n (line_fault n line) (with_first b.said (said_from b.begun (n + 1) lines))
    (λ e. let behind = good_line-said begun n line is h (line_is n line e) in
    all_of-said b.said (said_from b.begun (n + 1) lines) behind.said (said_from-said b.begun (n + 1) lines behind.begun (omega arith)))

pub said_in-said : (text : List ℕ) → AreSaid (said_in text).phrases
said_in-said text = said_from-said None 1 (lines_of text) tt (omega arith)
