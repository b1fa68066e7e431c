-- The statements of a text, each on one line or on several that a `$` joins.
use Rattle.std.specs.Prelude.{◌≡◌, ℕ, ◌+◌, ◌==◌, ◌&&◌, not, Bool, true, false, List, [], ◌∷◌, ◌++◌, drop, Option, Some, None, Result, Ok, Err, if◌then◌else◌}
use Rattle.std.specs.List.{take_while, prefix_len}
use Rattle.apt_words.specs.Answers.{Comes}
use Rattle.apt_lexis.specs.declared.cause.PartCause.{PartCause}
use Rattle.apt_lexis.specs.declared.error.ParseError.{ParseError}
use Rattle.apt_lexis.specs.declared.error.ParseError.TheVariants as errors
use Rattle.apt_lexis.specs.Lines.{is_character, lines_of, line_fault}
use Rattle.apt_lexis.specs.Tokens.{Tokens, tokens_of}
use Rattle.apt_lexis.specs.Titles.{Title, title_behind}
use Rattle.apt_lexis.specs.Phrase.{Phrase}

-- ---- comments and continuation

abbrev pub dollar : ℕ
dollar = 36

abbrev pub is_no_dollar : ℕ → Bool
is_no_dollar b = not (b == dollar)

-- a character that is no `$`
abbrev pub is_plain : ℕ → Bool
is_plain b = is_character b && is_no_dollar b

-- a line up to its first `$`
abbrev pub said_on : List ℕ → List ℕ
said_on line = take_while is_no_dollar line

-- a `$` that is not followed by another: `$$` begins a comment
abbrev pub is_single : List ℕ → Bool
is_single [] = false
is_single (b ∷ []) = true
is_single (b ∷ c ∷ bs) = not (c == dollar)

-- the statement goes on with the next line
abbrev pub goes_on : List ℕ → Bool
goes_on line = is_single (drop (prefix_len is_no_dollar line) line)

-- ---- one line

-- the statement that is begun behind a line, and the one that the line completes
pub record Behind : Type 0 where
  pub begun : Option Phrase
  pub said : Option Phrase

abbrev pub first_line : Option Phrase → ℕ → ℕ
first_line None n = n
first_line (Some p) n = p.line

abbrev pub tokens_before : Option Phrase → Tokens
tokens_before None = Ok []
tokens_before (Some p) = p.tokens

-- the tokens of two parts of a statement, or the cause of the first that is bad
abbrev pub joined : Tokens → Tokens → Tokens
joined (Err cause) more = Err cause
joined (Ok before) (Err cause) = Err cause
joined (Ok before) (Ok more) = Ok (before ++ more)

-- a line without tokens leaves all as it is
abbrev pub behind_tokens : Option Phrase → ℕ → Tokens → Bool → Behind
behind_tokens begun n (Ok []) on = record { begun = begun; said = None }
behind_tokens begun n ts on =
    let phrase : Phrase = record { line = first_line begun n; tokens = joined (tokens_before begun) ts; text = None } in
    if on then record { begun = Some phrase; said = None } else record { begun = None; said = Some phrase }

-- a statement with a text ends with its line
abbrev pub behind_title : Option Phrase → ℕ → Title → Behind
behind_title begun n (ts, text) = record { begun = None; said = Some (record { line = first_line begun n; tokens = Ok ts; text = Some text }) }

-- no statement with a bad token takes a text
abbrev pub title_in : Tokens → List ℕ → Option Title
title_in (Err cause) line = None
title_in (Ok ts) line = title_behind ts line

abbrev pub by_title : Option Phrase → ℕ → List ℕ → Option Title → Behind
by_title begun n line (Some t) = behind_title begun n t
by_title begun n line None = behind_tokens begun n (tokens_of (said_on line)) (goes_on line)

abbrev pub behind_line : Option Phrase → ℕ → List ℕ → Behind
behind_line begun n line = by_title begun n line (title_in (tokens_before begun) line)

-- ---- all lines

-- the statements of a text in order, up to the first line with a fault, and that fault
pub record Said : Type 0 where
  pub phrases : List Phrase
  pub fault : Option (ℕ × PartCause)

abbrev pub all_of : Option Phrase → List Phrase
all_of None = []
all_of (Some p) = p ∷ []

abbrev pub with_first : Option Phrase → Said → Said
with_first first said = record { phrases = all_of first ++ said.phrases; fault = said.fault }

-- nothing is read past a line with a fault
abbrev pub unless_fault : ℕ → Option PartCause → Said → Said
unless_fault n (Some cause) said = record { phrases = []; fault = Some (n, cause) }
unless_fault n None said = said

-- the lines from the n-th on; the end of the text completes a statement that is begun
abbrev pub said_from : Option Phrase → ℕ → List (List ℕ) → Said
said_from begun n [] = record { phrases = all_of begun; fault = None }
said_from begun n (line ∷ lines) =
    let behind = behind_line begun n line in
    unless_fault n (line_fault n line) (with_first behind.said (said_from behind.begun (n + 1) lines))

abbrev pub said_in : List ℕ → Said
said_in text = said_from None 1 (lines_of text)

-- ---- a reader of statements

-- the lines that are left, and the number of the first of them
pub record Unread : Type 0 where
  pub line : ℕ
  pub lines : List (List ℕ)

-- what is said from here on, where no statement is begun
abbrev pub said_by : Unread → Said
said_by u = said_from None u.line u.lines

-- nothing but the fault of a line
abbrev pub only_fault : ℕ → PartCause → Said
only_fault line cause = record { phrases = []; fault = Some (line, cause) }

-- the fault that an error tells, with its line
abbrev pub fault_in : ParseError → Option (ℕ × PartCause)
fault_in (errors.Bad line cause) = Some (line, cause)
fault_in errors.NoMemory = None

-- the next statement, or none at the end of the lines
abbrev pub GoesOn : Unread → Unread → Option Phrase → Type 0
GoesOn before now (Some p) = said_by before ≡ with_first (Some p) (said_by now)
GoesOn before now None = (said_by before ≡ record { phrases = []; fault = None }) × (now.lines ≡ [])

-- a reader gives the next statement; none at the end of its lines; the first fault of a line, at which it then stands
abbrev pub Gives : Unread → Unread → Result (Option Phrase) ParseError → Type 0
Gives before now =
    Comes fault_in (GoesOn before now) (λ fault. (said_by before ≡ only_fault fault.0 fault.1) × (now.line ≡ fault.0) × (said_by now ≡ only_fault fault.0 fault.1))
