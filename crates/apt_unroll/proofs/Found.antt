-- A program has one trace at most, and what its steps are.
use Rattle.std.proofs.Common.{◌≡◌, ℕ, ◌+◌, ◌-◌, ◌≤◌, ◌<◌, List, [], ◌∷◌, length, Option, Some, None, refl, sym, ◌∙◌, subst, arith}
use Rattle.apt_words.specs.declared.Refusal.{Refusal}
use Rattle.apt_words.specs.declared.body.Stmt.{Stmt}
use Rattle.apt_words.specs.declared.deed.Step.{Step}
use Rattle.apt_unroll.specs.Stages.{Stage, first_stage}
use Rattle.apt_unroll.specs.Actions.{Action, most_steps}
use Rattle.apt_unroll.specs.Trace.{Trace, moment_of, about_to_run, moment, IsDone, AreRun, IsTrace, trace_from, trace_of}
use Rattle.apt_unroll.proofs.Prefixes.{next_of}
use Rattle.apt_unroll.proofs.Going.{InTime, step_in_time}

-- ---- a step that is done is in time

abbrev IsTimed : ℕ → Option (ℕ × Action) → Type 0
IsTimed n None = Unit {0}
IsTimed n (Some (line, a)) = InTime n a

moment_timed : (sts : List Stmt) (n : ℕ) (s : Stage) → IsTimed n (moment sts n s)
moment_timed sts n s = by (about_to_run sts s)
  where
    by : (o : Option (ℕ × Stmt)) → IsTimed n (moment_of sts n s o)
    by None = tt
    by (Some (i, st)) = step_in_time sts n s i st

pub few : (sts : List Stmt) (n : ℕ) (s : Stage) (step : Step) (next : Option Stage) → IsDone sts n s step next → n ≤ 200000
few sts n s step next done = subst (IsTimed n) done.1 (moment_timed sts n s)

-- ---- the trace is found

found : (left n : ℕ) (sts : List Stmt) (s : Stage) (behind : List Stage) (steps : List Step) (fault : Option Refusal) → n + left ≡ 200002 → n ≤ 200001
    → AreRun sts n (s ∷ behind) steps fault → trace_from left n sts s ≡ record { steps = steps; fault = fault }
found left n sts s [] [] None count early run = absurd run
found left n sts s [] [] (Some refusal) count early run =
    let some : 0 < left = omega (arith, count, early) in
    rw (next_of left n sts s some, run.1, sym run.0) refl
found left n sts s [] (step ∷ []) None count early run =
    let some : 0 < left = omega (arith, count, early) in
    rw (next_of left n sts s some, run.1, sym run.0) refl
found left n sts s [] (step ∷ []) (Some refusal) count early run = absurd run
found left n sts s [] (step ∷ next ∷ more) fault count early run = absurd run
found left n sts s (next ∷ behind) [] fault count early run = absurd run
found left n sts s (next ∷ behind) (step ∷ steps) fault count early run =
    let some : 0 < left = omega (arith, count, early) in
    let in_time = few sts n s step (Some next) run.0 in
    let rest = found (left - 1) (n + 1) sts next behind steps fault (omega (arith, count, some)) (omega (arith, in_time)) run.1 in
    rw (next_of left n sts s some, run.0.1, rest, sym run.0.0) refl

pub trace_found : (sts : List Stmt) (t : Trace) → IsTrace sts t → t ≡ trace_of sts
trace_found sts t is = sym (found (most_steps + 1) 1 sts first_stage is.behind t.steps t.fault refl (omega arith) is.run)

pub one_trace : (sts : List Stmt) (t other : Trace) → t ≡ trace_of sts → IsTrace sts other → other ≡ t
one_trace sts t other e is = trace_found sts other is ∙ sym e

-- ---- how many steps

run_short : (n : ℕ) (sts : List Stmt) (s : Stage) (behind : List Stage) (steps : List Step) (fault : Option Refusal) → n ≤ 200001
    → AreRun sts n (s ∷ behind) steps fault → length steps + n ≤ 200001
run_short n sts s [] [] None early run = absurd run
run_short n sts s [] [] (Some refusal) early run = omega (arith, early)
run_short n sts s [] (step ∷ []) None early run = omega (arith, few sts n s step None run)
run_short n sts s [] (step ∷ []) (Some refusal) early run = absurd run
run_short n sts s [] (step ∷ next ∷ more) fault early run = absurd run
run_short n sts s (next ∷ behind) [] fault early run = absurd run
run_short n sts s (next ∷ behind) (step ∷ steps) fault early run =
    let in_time = few sts n s step (Some next) run.0 in
    omega (arith, run_short (n + 1) sts next behind steps fault (omega (arith, in_time)) run.1)

pub few_steps : (sts : List Stmt) (t : Trace) → IsTrace sts t → length t.steps ≤ 200000
few_steps sts t is = omega (arith, run_short 1 sts first_stage is.behind t.steps t.fault (omega arith) is.run)
