-- A fact that goes on from statement to statement holds of every program.
use Rattle.std.proofs.Common.{◌≡◌, ℕ, Bool, true, false, List, [], ◌∷◌, ◌++◌, Option, Some, None, Result, Ok, Err, refl}
use Rattle.std.specs.Prelude.{IfOk, IfSome}
use Rattle.std.proofs.lemmas.Result.{IfOk-at_ok}
use Rattle.apt_words.specs.Sources.{IsCount, IsTitle, IsStmt}
use Rattle.apt_words.specs.Composition.{is_fini}
use Rattle.apt_words.specs.declared.body.Stmt.{Stmt}
use Rattle.apt_words.specs.declared.body.Program.{Program}
use Rattle.apt_lexis.specs.declared.cause.PartCause.{PartCause}
use Rattle.apt_lexis.specs.declared.error.ParseError.{ParseError}
use Rattle.apt_lexis.specs.Lines.{lines_of}
use Rattle.apt_lexis.specs.Phrase.{Phrase}
use Rattle.apt_lexis.specs.Tokens.{Tokens}
use Rattle.apt_lexis.specs.Sentences.{said_in}
use Rattle.apt_shapes.specs.declared.table.Labelled.{Labelled}
use Rattle.apt_shapes.specs.Shapes.{shape}
use Rattle.apt_parse.specs.Statements.{statement, of_tokens, of_shape, unless_fault, first_fault, open_loop}
use Rattle.apt_words.specs.Answers.{IsDue}
use Rattle.apt_lexis.specs.Sentences.{fault_in}
use Rattle.apt_parse.specs.Programs.{TextFault, missing, unless_missing, unless_open, without_fini, ends_with, or_fault, program_from, last_line, program_of}
use Rattle.apt_parse.proofs.SaidTexts.{AreSaid, said_in-said}
use Rattle.apt_parse.proofs.ShapeTexts.{HasTextSaid, shape-fits}

-- ---- one statement

-- a statement that may come next: it has a line and a text, and no fault refuses it
pub record IsNext (before : List Stmt) (st : Stmt) : Type 0 where
  pub stated : IsStmt st
  pub good : first_fault before st.label st.body ≡ None

unless_fault-next : (before : List Stmt) (line : ℕ) (s : Labelled) (fault : Option PartCause) → first_fault before s.label s.body ≡ fault → IsCount line → HasTextSaid s
    → IfOk (unless_fault line s fault) (IsNext before)
unless_fault-next before line s (Some cause) e count text = tt
unless_fault-next before line s None e count text = record { stated = record { line = count; text = text }; good = e }

of_shape-next : (before : List Stmt) (line : ℕ) (s : Option Labelled) → IsCount line → IfSome s HasTextSaid → IfOk (of_shape before line s) (IsNext before)
of_shape-next before line None count text = tt
of_shape-next before line (Some s) count text = unless_fault-next before line s (first_fault before s.label s.body) refl count text

of_tokens-next : (before : List Stmt) (line : ℕ) (text : Option (List ℕ)) (ts : Tokens) → IsCount line → IfSome text IsTitle → IfOk (of_tokens before line text ts) (IsNext before)
of_tokens-next before line text (Err cause) count is = tt
of_tokens-next before line text (Ok ts) count is = of_shape-next before line (shape ts text) count (shape-fits ts text is)

-- ---- statements in order

-- a fact of statements, by whether FINI is the last of them: if it holds before a statement, it holds with it
abbrev pub GoesOn : (Bool → List Stmt → Type 0) → Type 0
GoesOn P = (before : List Stmt) (st : Stmt) → IsNext before st → P false before → P (is_fini st.body) (before ++ st ∷ [])

unless_missing-holds : (P : List Stmt → Type 0) (sts : List Stmt) (line : Option ℕ) → P sts → IfOk (unless_missing sts line) P
unless_missing-holds P sts (Some line) holds = tt
unless_missing-holds P sts None holds = holds

unless_open-holds : (P : List Stmt → Type 0) (sts : List Stmt) (line : Option ℕ) → P sts → IfOk (unless_open sts line) P
unless_open-holds P sts (Some line) holds = tt
unless_open-holds P sts None holds = unless_missing-holds P sts (missing sts) holds

without_fini-holds : (P : List Stmt → Type 0) (last : ℕ) (fault : Option TextFault) → IfOk (without_fini last fault) P
without_fini-holds P last (Some fault) = tt
without_fini-holds P last None = tt

ends_with-holds : (P : Bool → List Stmt → Type 0) (last : Bool) (sts : List Stmt) (more : Result (List Stmt) TextFault) → P last sts → (P false sts → IfOk more (P true))
    → IfOk (ends_with last sts more) (P true)
ends_with-holds P true sts more holds rest = unless_open-holds (P true) sts (open_loop sts) holds
ends_with-holds P false sts more holds rest = rest holds

or_fault-holds : (P : Bool → List Stmt → Type 0) (before : List Stmt) (line : ℕ) (read : Result Stmt PartCause) (more : Stmt → Result (List Stmt) TextFault) → GoesOn P
    → P false before → IfOk read (IsNext before) → ((st : Stmt) → P false (before ++ st ∷ []) → IfOk (more st) (P true))
    → IfOk (or_fault before line read more) (P true)
or_fault-holds P before line (Err cause) more on holds next rest = tt
or_fault-holds P before line (Ok st) more on holds next rest = ends_with-holds P (is_fini st.body) (before ++ st ∷ []) (more st) (on before st next holds) (rest st)

program_from-holds : (P : Bool → List Stmt → Type 0) (before : List Stmt) (last : ℕ) (fault : Option TextFault) (ps : List Phrase) → GoesOn P
    → P false before → AreSaid ps → IfOk (program_from before last fault ps) (P true)
program_from-holds P before last fault [] on holds said = without_fini-holds (P true) last fault
program_from-holds P before last fault (p ∷ ps) on holds said =
    or_fault-holds P before p.line (statement before p) _ on holds (of_tokens-next before p.line p.text p.tokens said.0.line said.0.text)
    (λ st holds. program_from-holds P (before ++ st ∷ []) last fault ps on holds said.1)

pub program_of-holds : (P : Bool → List Stmt → Type 0) → GoesOn P → P false [] → (text : List ℕ) → IfOk (program_of text) (P true)
program_of-holds P on none text = program_from-holds P [] (last_line (lines_of text)) (said_in text).fault (said_in text).phrases on none (said_in-said text)

pub parsed_holds : (P : List Stmt → Type 0) (text : List ℕ) (read : Result Program ParseError) → IfOk (program_of text) P → IsDue fault_in (program_of text) read → IfOk read (λ p. P p)
parsed_holds P text (Ok p) holds is = IfOk-at_ok P is holds
parsed_holds P text (Err e) holds is = tt
