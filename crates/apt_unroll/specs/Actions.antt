-- What the statement of a stage does there, and where the run goes on.
use Rattle.std.specs.Prelude.{◌≡◌, ℕ, ◌+◌, ℤ, pos, int_lt, nat_lt, ◌==◌, ◌&&◌, not, List, [], ◌∷◌, length, slice_get, Option, Some, None, Result, Ok, Err, if◌then◌else◌}
use Rattle.std.specs.Ordering.{int_eq}
use Rattle.apt_words.specs.Chains.{◌>>=◌}
use Rattle.apt_words.specs.Composition.{flow_of, is_fini}
use Rattle.apt_words.specs.Flow.{Flow, Onward, MacroBegins, MacroEnds, Calls, LoopBegins, LoopEnds, Jumps, Branches, ProgramEnds}
use Rattle.apt_words.specs.ProgramEnds.{is_ended}
use Rattle.apt_words.specs.declared.Case.{Case}
use Rattle.apt_words.specs.declared.Case.TheVariants as cases
use Rattle.apt_words.specs.declared.body.Body.{Body}
use Rattle.apt_words.specs.declared.body.Stmt.{Stmt}
use Rattle.apt_words.specs.declared.deed.Deed.{Deed}
use Rattle.apt_words.specs.declared.deed.Deed.TheVariants as deeds
use Rattle.apt_scalar.specs.Meanings.{Parameters}
use Rattle.apt_scalar.specs.Evaluation.{value_of}
use Rattle.apt_unroll.specs.declared.numbers.Naming.TheVariants as namings
use Rattle.apt_deeds.specs.Deeds.{deed_of, names_behind}
use Rattle.apt_unroll.specs.Places.{place_of, target}
use Rattle.apt_unroll.specs.Calls.{Formal, Actual, bindings}
use Rattle.apt_unroll.specs.Stages.{Call, Stage, parameters}

-- a step's deed with the stage behind it, none behind FINI; or the case that refuses the step
abbrev pub Action : Type 0
Action = Result (Deed × Option Stage) Case

-- ---- the following statement

abbrev pub go_on : ℕ → Stage → Deed → Action
go_on i s deed = Ok (deed, Some (record { at = i + 1; ended = is_ended s.ended deed; names = names_behind s.names deed; calls = s.calls }))

-- what a statement does behind which the following one is executed
abbrev pub onward : Stage → ℕ → Body → Action
onward s i body = deed_of s.names (parameters s.calls) body >>= go_on i s

-- ---- a label

abbrev pub jump_to : Stage → Deed → Option ℕ → Action
jump_to s deed None = Err cases.JumpOutside
jump_to s deed (Some j) = Ok (deed, Some (record s { at = j }))

-- the first label for a value below zero, the second for zero, the third above
abbrev pub label_by : ℤ → List ℕ → List ℕ → List ℕ → List ℕ
label_by v below zero above = if int_lt v (pos 0) then below else if int_eq v (pos 0) then zero else above

-- ---- a macro's body

abbrev pub most_calls : ℕ
most_calls = 8

abbrev pub enter : Stage → ℕ → ℕ → Parameters → Action
enter s back first bound = Ok (deeds.Call, Some (record s { at = first; calls = record { back = back; bound = bound } ∷ s.calls }))

abbrev pub parameters_at : Flow → Formal
parameters_at (MacroBegins m ps) = ps
parameters_at _ = []

abbrev pub formal_of : Option Stmt → Formal
formal_of None = []
formal_of (Some st) = parameters_at (flow_of st.body)

-- NoSuchMacro, then Depth at the ninth open call, then BadArgs and the values of the arguments
abbrev pub call : List Stmt → Stage → ℕ → Actual → Option ℕ → Action
call sts s i actual None = Err cases.NoSuchMacro
call sts s i actual (Some k) =
    if length s.calls == most_calls then Err cases.Depth
    else bindings s.names (parameters s.calls) (formal_of (slice_get sts k)) actual >>= enter s (i + 1) (k + 1)

-- ---- a return

-- a run comes to TERMAC in a call alone, so that one without a call can't come
abbrev pub return : Stage → List Call → Action
return s [] = Err cases.JumpOutside
return s (c ∷ more) = Ok (deeds.Termac, Some (record s { at = c.back; calls = more }))

-- ---- the statement of a stage

-- the i-th statement, by what it is to the flow; a MACRO is passed over, so that it can't come
unfoldable pub action : List Stmt → Stage → ℕ → Body → Flow → Action
action sts s i body Onward = deed_of s.names (parameters s.calls) body >>= go_on i s
action sts s i body (MacroBegins m ps) = Err cases.JumpOutside
action sts s i body MacroEnds = return s s.calls
action sts s i body (Calls m actual) = call sts s i actual (place_of namings.Macros sts m)
action sts s i body LoopBegins = go_on i s deeds.Loopst
action sts s i body LoopEnds = go_on i s deeds.Loopnd
action sts s i body (Jumps l) = jump_to s deeds.Jumpto (target sts i l)
action sts s i body (Branches e a b c) = value_of s.names (parameters s.calls) e >>= λ v. jump_to s deeds.If (target sts i (label_by v a b c))
action sts s i body ProgramEnds = Ok (deeds.Fini, None)

-- a program has at most 200,000 steps
abbrev pub most_steps : ℕ
most_steps = 200000

-- an action as it is done: the deed, and the stage behind it where there is one; or the case
abbrev pub IsActed : Action → Result Deed Case → Stage → Type 0
IsActed (Ok (deed, Some next)) (Ok d) now = (d ≡ deed) × (now ≡ next)
IsActed (Ok (deed, None)) (Ok d) now = d ≡ deed
IsActed (Err case) (Err c) now = c ≡ case
IsActed (Ok action) (Err c) now = ⊥
IsActed (Err case) (Ok d) now = ⊥

-- the n-th step: too many steps come first, then a statement but FINI behind END, then the refusals of the statement
abbrev pub step_of : List Stmt → ℕ → Stage → ℕ → Stmt → Action
step_of sts n s i st =
    if nat_lt most_steps n then Err cases.Budget
    else if s.ended && not (is_fini st.body) then Err cases.AfterEnd
    else action sts s i st.body (flow_of st.body)
