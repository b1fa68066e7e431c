-- The program of a text, or its first fault.
use Rattle.std.specs.Prelude.{ℕ, not, Bool, true, false, List, [], ◌∷◌, ◌++◌, length, Option, Some, None, Result, Ok, Err, max}
use Rattle.std.specs.List.{list_all, find}
use Rattle.apt_words.specs.Composition.{flow_of, is_fini}
use Rattle.apt_words.specs.Flow.{Flow, Onward, MacroBegins, MacroEnds, Calls, LoopBegins, LoopEnds, Jumps, Branches, ProgramEnds}
use Rattle.apt_words.specs.declared.body.Stmt.{Stmt}
use Rattle.apt_lexis.specs.declared.cause.PartCause.{PartCause}
use Rattle.apt_lexis.specs.declared.cause.PartCause.TheVariants as causes
use Rattle.apt_lexis.specs.Lines.{lines_of}
use Rattle.apt_lexis.specs.Phrase.{Phrase}
use Rattle.apt_lexis.specs.Sentences.{said_in}
use Rattle.apt_parse.specs.Statements.{statement, open_loop, is_label}

-- a fault: its line and its cause
abbrev pub TextFault : Type 0
TextFault = ℕ × PartCause

-- ---- the end of a program

-- the labels to which a statement jumps
abbrev pub jumps : Flow → List (List ℕ)
jumps (Jumps l) = l ∷ []
jumps (Branches e a b c) = a ∷ b ∷ c ∷ []
jumps _ = []

-- the labels of the program have each label to which the statement jumps
abbrev pub has_labels : List Stmt → Stmt → Bool
has_labels sts st = list_all (is_label sts) (jumps (flow_of st.body))

abbrev pub line_of : Option Stmt → Option ℕ
line_of None = None
line_of (Some st) = Some st.line

-- the line of the first statement with a jump to a label that is missing
abbrev pub missing : List Stmt → Option ℕ
missing sts = line_of (find (λ st. not (has_labels sts st)) sts)

abbrev pub unless_missing : List Stmt → Option ℕ → Result (List Stmt) TextFault
unless_missing sts (Some line) = Err (line, causes.LabelMissing)
unless_missing sts None = Ok sts

abbrev pub unless_open : List Stmt → Option ℕ → Result (List Stmt) TextFault
unless_open sts (Some line) = Err (line, causes.LoopOpen)
unless_open sts None = unless_missing sts (missing sts)

-- the statements up to FINI: every loop is closed, and every label of a jump is there
abbrev pub whole : List Stmt → Result (List Stmt) TextFault
whole sts = unless_open sts (open_loop sts)

-- ---- statements in order

-- the text ends before FINI
abbrev pub without_fini : ℕ → Option TextFault → Result (List Stmt) TextFault
without_fini last (Some fault) = Err fault
without_fini last None = Err (last, causes.NoFini)

abbrev pub ends_with : Bool → List Stmt → Result (List Stmt) TextFault → Result (List Stmt) TextFault
ends_with true sts more = whole sts
ends_with false sts more = more

abbrev pub or_fault : List Stmt → ℕ → Result Stmt PartCause → (Stmt → Result (List Stmt) TextFault) → Result (List Stmt) TextFault
or_fault before line (Err cause) more = Err (line, cause)
or_fault before line (Ok st) more = ends_with (is_fini st.body) (before ++ st ∷ []) (more st)

-- the statements behind others: the first fault, or all up to FINI, behind which nothing is read
abbrev pub program_from : List Stmt → ℕ → Option TextFault → List Phrase → Result (List Stmt) TextFault
program_from before last fault [] = without_fini last fault
program_from before last fault (p ∷ ps) =
    or_fault before p.line (statement before p) (λ st. program_from (before ++ st ∷ []) last fault ps)

-- the number of the last line, 1 for an empty text
abbrev pub last_line : List (List ℕ) → ℕ
last_line lines = max 1 (length lines)

abbrev pub program_of : List ℕ → Result (List Stmt) TextFault
program_of text = program_from [] (last_line (lines_of text)) (said_in text).fault (said_in text).phrases
