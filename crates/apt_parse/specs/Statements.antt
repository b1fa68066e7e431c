-- A statement behind others: what refuses it, in order.
use Rattle.std.specs.Prelude.{ℕ, ◌&&◌, ◌||◌, not, Bool, true, false, List, [], ◌∷◌, ◌++◌, Option, Some, None, Result, Ok, Err, is_some, if◌then◌else◌}
use Rattle.std.specs.List.{list_any}
use Rattle.std.proofs.Common.{bytes_eq}
use Rattle.apt_words.specs.declared.body.Body.{Body}
use Rattle.apt_words.specs.declared.body.Body.TheVariants as bodies
use Rattle.apt_words.specs.declared.body.Stmt.{Stmt}
use Rattle.apt_words.specs.Composition.{flow_of}
use Rattle.apt_words.specs.Flow.{Flow, Onward, MacroBegins, MacroEnds, Calls, LoopBegins, LoopEnds, Jumps, Branches, ProgramEnds, macro_name}
use Rattle.apt_lexis.specs.declared.cause.PartCause.{PartCause}
use Rattle.apt_lexis.specs.declared.cause.PartCause.TheVariants as causes
use Rattle.apt_lexis.specs.Tokens.{Tokens}
use Rattle.apt_lexis.specs.Phrase.{Phrase}
use Rattle.apt_shapes.specs.declared.table.Labelled.{Labelled}
use Rattle.apt_shapes.specs.Shapes.{shape}

-- ---- what the statements before have opened and named

-- the line of the macro that is open behind a statement
abbrev pub macro_behind : Option ℕ → ℕ → Flow → Option ℕ
macro_behind before line (MacroBegins m ps) = Some line
macro_behind before line MacroEnds = None
macro_behind before line _ = before

-- the line of the loop that is open behind a statement
abbrev pub loop_behind : Option ℕ → ℕ → Flow → Option ℕ
loop_behind before line LoopBegins = Some line
loop_behind before line LoopEnds = None
loop_behind before line _ = before

abbrev pub macro_from : Option ℕ → List Stmt → Option ℕ
macro_from before [] = before
macro_from before (st ∷ sts) = macro_from (macro_behind before st.line (flow_of st.body)) sts

abbrev pub loop_from : Option ℕ → List Stmt → Option ℕ
loop_from before [] = before
loop_from before (st ∷ sts) = loop_from (loop_behind before st.line (flow_of st.body)) sts

abbrev pub open_macro : List Stmt → Option ℕ
open_macro sts = macro_from None sts

abbrev pub open_loop : List Stmt → Option ℕ
open_loop sts = loop_from None sts

abbrev pub or_none : Option (List ℕ) → List (List ℕ)
or_none None = []
or_none (Some n) = n ∷ []

-- the labels of statements
abbrev pub labels_of : List Stmt → List (List ℕ)
labels_of [] = []
labels_of (st ∷ sts) = or_none st.label ++ labels_of sts

-- the names of the macros among statements
abbrev pub macros_of : List Stmt → List (List ℕ)
macros_of [] = []
macros_of (st ∷ sts) = or_none (macro_name (flow_of st.body)) ++ macros_of sts

abbrev pub is_among : List (List ℕ) → List ℕ → Bool
is_among names n = list_any (bytes_eq n) names

abbrev pub is_label : List Stmt → List ℕ → Bool
is_label sts l = is_among (labels_of sts) l

abbrev pub is_macro : List Stmt → List ℕ → Bool
is_macro sts m = is_among (macros_of sts) m

-- ---- where statements can stand

abbrev pub is_partno : Body → Bool
is_partno (bodies.Partno text) = true
is_partno _ = false

-- UNITS stands directly behind PARTNO
abbrev pub is_only_partno : List Stmt → Bool
is_only_partno (st ∷ []) = is_partno st.body
is_only_partno _ = false

abbrev pub is_empty : List Stmt → Bool
is_empty [] = true
is_empty _ = false

-- PARTNO that is not first, and UNITS that is not directly behind it
abbrev pub is_misplaced_heading : List Stmt → Body → Bool
is_misplaced_heading before (bodies.Partno text) = not (is_empty before)
is_misplaced_heading before (bodies.Units units) = not (is_only_partno before)
is_misplaced_heading before _ = false

-- TERMAC outside of a macro; FINI, LOOPST and LOOPND inside of one
abbrev pub is_out_of_place : Bool → Flow → Bool
is_out_of_place within MacroEnds = not within
is_out_of_place within LoopBegins = within
is_out_of_place within LoopEnds = within
is_out_of_place within ProgramEnds = within
is_out_of_place within _ = false

abbrev pub is_misplaced : List Stmt → Body → Bool
is_misplaced before body = is_misplaced_heading before body || is_out_of_place (is_some (open_macro before)) (flow_of body)

-- the first statement is PARTNO
abbrev pub lacks_partno : List Stmt → Body → Bool
lacks_partno before body = is_empty before && not (is_partno body)

abbrev pub is_label_again : List Stmt → Option (List ℕ) → Bool
is_label_again before None = false
is_label_again before (Some l) = is_label before l

-- a macro with the name of another
abbrev pub is_macro_again : List Stmt → Flow → Bool
is_macro_again before (MacroBegins m ps) = is_macro before m
is_macro_again before _ = false

-- a macro within a macro
abbrev pub is_in_macro : Bool → Flow → Bool
is_in_macro within (MacroBegins m ps) = within
is_in_macro within _ = false

-- a loop within a loop, or the end of none
abbrev pub is_out_of_loop : Bool → Flow → Bool
is_out_of_loop within LoopBegins = within
is_out_of_loop within LoopEnds = not within
is_out_of_loop within _ = false

-- ---- the first fault of a statement

abbrev pub first_fault : List Stmt → Option (List ℕ) → Body → Option PartCause
first_fault before label body =
    if is_misplaced before body then Some causes.BadShape
    else if lacks_partno before body then Some causes.NoPartno
    else if is_label_again before label then Some causes.LabelTwice
    else if is_macro_again before (flow_of body) then Some causes.MacroTwice
    else if is_in_macro (is_some (open_macro before)) (flow_of body) then Some causes.MacroOpen
    else if is_out_of_loop (is_some (open_loop before)) (flow_of body) then Some causes.LoopOpen
    else None

abbrev pub unless_fault : ℕ → Labelled → Option PartCause → Result Stmt PartCause
unless_fault line s (Some cause) = Err cause
unless_fault line s None = Ok (record { line = line; label = s.label; body = s.body })

abbrev pub of_shape : List Stmt → ℕ → Option Labelled → Result Stmt PartCause
of_shape before line None = Err causes.BadShape
of_shape before line (Some s) = unless_fault line s (first_fault before s.label s.body)

abbrev pub of_tokens : List Stmt → ℕ → Option (List ℕ) → Tokens → Result Stmt PartCause
of_tokens before line text (Err cause) = Err cause
of_tokens before line text (Ok ts) = of_shape before line (shape ts text)

-- a statement behind others, or its first fault
abbrev pub statement : List Stmt → Phrase → Result Stmt PartCause
statement before p = of_tokens before p.line p.text p.tokens
