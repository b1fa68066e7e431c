-- The one trace of a program: its stages, each the next of the one before, with the steps that are executed there.
use Rattle.std.specs.Prelude.{◌≡◌, ℕ, zero, suc, ◌+◌, List, [], ◌∷◌, ◌++◌, slice_get, Option, Some, None, Ok, Err}
use Rattle.apt_words.specs.declared.Case.{Case}
use Rattle.apt_words.specs.declared.Refusal.{Refusal}
use Rattle.apt_words.specs.declared.body.Stmt.{Stmt}
use Rattle.apt_words.specs.declared.deed.Deed.{Deed}
use Rattle.apt_words.specs.declared.deed.Step.{Step}
use Rattle.apt_unroll.specs.declared.trace.Next.{Next}
use Rattle.apt_unroll.specs.declared.trace.Next.TheVariants as nexts
use Rattle.apt_unroll.specs.Places.{executed_from}
use Rattle.apt_unroll.specs.Stages.{Stage, first_stage}
use Rattle.apt_unroll.specs.Actions.{Action, most_steps, step_of}

-- all steps before the first that is refused, and that refusal
pub record Trace : Type 0 where
  pub steps : List Step
  pub fault : Option Refusal

-- ---- a trace is a list of stages

abbrev pub with_number : ℕ → Option Stmt → Option (ℕ × Stmt)
with_number i None = None
with_number i (Some st) = Some (i, st)

-- the statement about to run, with its number; none where no statement is left
abbrev pub about_to_run : List Stmt → Stage → Option (ℕ × Stmt)
about_to_run sts s = with_number (executed_from sts s.at) (slice_get sts (executed_from sts s.at))

abbrev pub moment_of : List Stmt → ℕ → Stage → Option (ℕ × Stmt) → Option (ℕ × Action)
moment_of sts n s None = None
moment_of sts n s (Some (i, st)) = Some (st.line, step_of sts n s i st)

-- the line of the statement about to run, and what it does as the n-th step
abbrev pub moment : List Stmt → ℕ → Stage → Option (ℕ × Action)
moment sts n s = moment_of sts n s (about_to_run sts s)

-- the n-th step is executed, and the run goes on with the next stage, or ends
abbrev pub IsDone : List Stmt → ℕ → Stage → Step → Option Stage → Type 0
IsDone sts n s step next = (step.step ≡ n) × (moment sts n s ≡ Some (step.line, Ok (step.deed, next)))

-- the n-th step is refused
abbrev pub IsRefused : List Stmt → ℕ → Stage → Refusal → Type 0
IsRefused sts n s refusal = (refusal.step ≡ n) × (moment sts n s ≡ Some (refusal.line, Err refusal.case))

-- stages from the n-th step on, each the next of the one before, with their steps, up to FINI or a refusal
abbrev pub AreRun : List Stmt → ℕ → List Stage → List Step → Option Refusal → Type 0
AreRun sts n (s ∷ []) [] (Some refusal) = IsRefused sts n s refusal
AreRun sts n (s ∷ []) (step ∷ []) None = IsDone sts n s step None
AreRun sts n (s ∷ next ∷ more) (step ∷ steps) fault = IsDone sts n s step (Some next) × AreRun sts (n + 1) (next ∷ more) steps fault
AreRun sts n stages steps fault = ⊥

pub record IsTrace (sts : List Stmt) (trace : Trace) : Type 0 where
  pub behind : List Stage
  pub run : AreRun sts 1 (first_stage ∷ behind) trace.steps trace.fault

-- ---- the trace, step by step

abbrev pub empty_trace : Trace
empty_trace = record { steps = []; fault = None }

abbrev pub refused : ℕ → ℕ → Case → Trace
refused line n case = record { steps = []; fault = Some (record { line = line; step = n; case = case }) }

abbrev pub with_step : ℕ → ℕ → Deed → Trace → Trace
with_step line n deed more = record { steps = record { line = line; step = n; deed = deed } ∷ more.steps; fault = more.fault }

abbrev pub or_end : Option Stage → (Stage → Trace) → Trace
or_end None more = empty_trace
or_end (Some next) more = more next

abbrev pub with_moment : ℕ → Option (ℕ × Action) → (Stage → Trace) → Trace
with_moment n None more = empty_trace
with_moment n (Some (line, Err case)) more = refused line n case
with_moment n (Some (line, Ok (deed, next))) more = with_step line n deed (or_end next more)

-- from the n-th step on, as many steps as are left
unfoldable pub trace_from : ℕ → ℕ → List Stmt → Stage → Trace
trace_from zero n sts s = empty_trace
trace_from (suc left) n sts s = with_moment n (moment sts n s) (trace_from left (n + 1) sts)

-- from a stage on, with the first step; the one behind the last is refused at least
abbrev pub all_from : List Stmt → Stage → Trace
all_from sts s = trace_from (most_steps + 1) 1 sts s

-- from the first stage on
abbrev pub trace_of : List Stmt → Trace
trace_of sts = all_from sts first_stage

-- ---- steps that are done

abbrev pub with_fault : List Step → Option Refusal → Trace
with_fault steps fault = record { steps = steps; fault = fault }

-- steps in front of a trace
abbrev pub behind : List Step → Trace → Trace
behind before more = with_fault (before ++ more.steps) more.fault

-- ---- one step as it is done

-- the step that is done, with the stage behind it; or its refusal; or that no statement is left; or memory is lacking
abbrev pub IsNext : Option (ℕ × Action) → ℕ → Next → Stage → Type 0
IsNext due n nexts.Out now = due ≡ None
IsNext due n (nexts.Refused refusal) now = (due ≡ Some (refusal.line, Err refusal.case)) × (refusal.step ≡ n)
IsNext due n (nexts.Last step) now = (due ≡ Some (step.line, Ok (step.deed, None))) × (step.step ≡ n)
IsNext due n (nexts.On step) now = (due ≡ Some (step.line, Ok (step.deed, Some now))) × (step.step ≡ n)
IsNext due n nexts.NoMemory now = Unit {0}
