-- A nested program has a trace: each of its stages can go on.
use Rattle.std.proofs.Common.{◌≡◌, ℕ, zero, suc, ◌+◌, ◌≤◌, nat_lt, Bool, true, false, List, [], ◌∷◌, drop, Option, Some, None, Ok, Err, refl, sym, subst, arith}
use Rattle.std.proofs.lemmas.Bool.Decides.{nat_tests}
use Rattle.apt_words.specs.Composition.{flow_of}
use Rattle.apt_words.specs.Flow.{Flow, Onward, MacroBegins, MacroEnds, Calls, LoopBegins, LoopEnds, Jumps, Branches, ProgramEnds}
use Rattle.apt_words.specs.Nesting.{Stands, AreNested}
use Rattle.apt_words.specs.declared.body.Body.{Body}
use Rattle.apt_words.specs.declared.body.Stmt.{Stmt}
use Rattle.apt_words.specs.declared.deed.Deed.TheVariants as deeds
use Rattle.apt_scalar.specs.Evaluation.{value_of}
use Rattle.apt_scalar.specs.Scalars.{IsScalar}
use Rattle.apt_scalar.proofs.Ranges.{value_of-scalar}
use Rattle.apt_unroll.specs.declared.numbers.Naming.TheVariants as namings
use Rattle.apt_deeds.specs.Deeds.{deed_of}
use Rattle.apt_unroll.specs.Places.{executed_from, place_of, target}
use Rattle.apt_unroll.specs.Stages.{Call, Stage, first_stage, parameters}
use Rattle.apt_unroll.specs.Actions.{Action, go_on, label_by, action, most_steps, step_of}
use Rattle.apt_unroll.specs.Trace.{Trace, moment, AreRun, IsTrace, with_moment, trace_from, trace_of}
use Rattle.apt_deeds.proofs.Suits.{Suits, deed_of-suits}
use Rattle.apt_unroll.proofs.Acts.{by_result, by_target, by_call, by_macro, by_tests}
use Rattle.apt_unroll.proofs.Nesting.{there_is, stands_at, executed_stands, target_stands, body_stands}

-- ---- where a run can go on

abbrev is_called : List Call → Bool
is_called [] = false
is_called (c ∷ more) = true

-- from the i-th statement up to the end of the macro that was called last, from there back behind each call, and at last up to FINI
abbrev CanGoOn : List Stmt → ℕ → List Call → Type 0
CanGoOn sts i [] = AreNested false (drop i sts)
CanGoOn sts i (c ∷ more) = AreNested true (drop i sts) × CanGoOn sts c.back more

here : (sts : List Stmt) (i : ℕ) (calls : List Call) → CanGoOn sts i calls → AreNested (is_called calls) (drop i sts)
here sts i [] can = can
here sts i (c ∷ more) can = can.0

elsewhere : (sts : List Stmt) (i j : ℕ) (calls : List Call) → CanGoOn sts i calls → AreNested (is_called calls) (drop j sts) → CanGoOn sts j calls
elsewhere sts i j [] can nested = nested
elsewhere sts i j (c ∷ more) can nested = (nested, can.1)

-- an action leads to where the run can go on
abbrev Goes : List Stmt → Action → Type 0
Goes sts (Err case) = Unit {0}
Goes sts (Ok (deed, None)) = Unit {0}
Goes sts (Ok (deed, Some next)) = CanGoOn sts next.at next.calls

goes : (sts : List Stmt) (s : Stage) (i : ℕ) (body : Body) (flow : Flow) → AreNested false sts → CanGoOn sts i s.calls
    → Stands flow (is_called s.calls) (drop (i + 1) sts) (λ now. AreNested now (drop (i + 1) sts)) → Goes sts (action sts s i body flow)
unfolding action
goes sts s i body Onward nested can stands =
    by_result (Goes sts) (Suits body) (deed_of s.names (parameters s.calls) body) (go_on i s) (deed_of-suits s.names (parameters s.calls) body) (λ _. tt)
    (λ deed suits. elsewhere sts i (i + 1) s.calls can stands)
goes sts s i body (MacroBegins m ps) nested can stands = tt
goes sts s i body MacroEnds nested can stands =
    by_call (Goes sts) s s.calls (λ _. tt) (λ c more is. (subst (CanGoOn sts i) is can).1)
goes sts s i body (Calls m actual) nested can stands =
    by_macro (Goes sts) sts s i actual (place_of namings.Macros sts m) (λ _. tt)
    (λ k bound is. (body_stands sts m k nested is, elsewhere sts i (i + 1) s.calls can stands))
goes sts s i body LoopBegins nested can stands = elsewhere sts i (i + 1) s.calls can stands
goes sts s i body LoopEnds nested can stands = elsewhere sts i (i + 1) s.calls can stands
goes sts s i body (Jumps l) nested can stands =
    by_target (Goes sts) s deeds.Jumpto (target sts i l) (λ _. tt)
    (λ j is. elsewhere sts i j s.calls can (target_stands sts i l j (is_called s.calls) nested (here sts i s.calls can) is))
goes sts s i body (Branches v a b c) nested can stands =
    by_result (Goes sts) IsScalar (value_of s.names (parameters s.calls) v) _ (value_of-scalar s.names (parameters s.calls) v) (λ _. tt)
    (λ v h. by_target (Goes sts) s deeds.If (target sts i (label_by v a b c)) (λ _. tt)
    (λ j is. elsewhere sts i j s.calls can (target_stands sts i (label_by v a b c) j (is_called s.calls) nested (here sts i s.calls can) is)))
goes sts s i body ProgramEnds nested can stands = tt

-- ---- a step

-- a step is executed in time
abbrev pub InTime : ℕ → Action → Type 0
InTime n (Err case) = Unit {0}
InTime n (Ok done) = n ≤ 200000

not_late : (n : ℕ) → nat_lt most_steps n ≡ false → n ≤ 200000
not_late n e = grind (arith, nat_tests)

in_time : (n : ℕ) (a : Action) → nat_lt most_steps n ≡ false → InTime n a
in_time n (Err case) e = tt
in_time n (Ok done) e = not_late n e

pub step_in_time : (sts : List Stmt) (n : ℕ) (s : Stage) (i : ℕ) (st : Stmt) → InTime n (step_of sts n s i st)
step_in_time sts n s i st = by_tests (InTime n) sts n s i st (λ _. tt) (λ early _. in_time n (action sts s i st.body (flow_of st.body)) early)

abbrev IsSound : List Stmt → ℕ → Option (ℕ × Action) → Type 0
IsSound sts n None = ⊥
IsSound sts n (Some (line, a)) = Goes sts a × InTime n a

sound : (sts : List Stmt) (n : ℕ) (s : Stage) → AreNested false sts → CanGoOn sts s.at s.calls → IsSound sts n (moment sts n s)
sound sts n s nested can =
    let i = executed_from sts s.at in
    let within = executed_stands sts s.at (is_called s.calls) (here sts s.at s.calls can) in
    let st = there_is sts i (is_called s.calls) within in
    let stands = stands_at sts i (is_called s.calls) st.0 within st.1 in
    let now = elsewhere sts s.at i s.calls can within in
    rw st.1 (
      by_tests (Goes sts) sts n s i st.0 (λ _. tt) (λ _ _. goes sts s i st.0.body (flow_of st.0.body) nested now stands),
      step_in_time sts n s i st.0,
    )

-- ---- all steps

abbrev Runs : List Stmt → ℕ → Stage → Trace → Type 0
Runs sts n s t = (behind : List Stage) × AreRun sts n (s ∷ behind) t.steps t.fault

with_moment-runs : (sts : List Stmt) (n : ℕ) (s : Stage) (m : Option (ℕ × Action)) (more : Stage → Trace) → moment sts n s ≡ m → IsSound sts n m
    → ((next : Stage) → CanGoOn sts next.at next.calls → n ≤ 200000 → Runs sts (n + 1) next (more next)) → Runs sts n s (with_moment n m more)
with_moment-runs sts n s None more is sound rest = absurd sound
with_moment-runs sts n s (Some (line, Err case)) more is sound rest = ([], (refl, is))
with_moment-runs sts n s (Some (line, Ok (deed, None))) more is sound rest = ([], (refl, is))
with_moment-runs sts n s (Some (line, Ok (deed, Some next))) more is sound rest =
    let r = rest next sound.0 sound.1 in
    (next ∷ r.0, ((refl, is), r.1))

runs : (left n : ℕ) (sts : List Stmt) (s : Stage) → AreNested false sts → n + left ≡ 200002 → n ≤ 200001 → CanGoOn sts s.at s.calls → Runs sts n s (trace_from left n sts s)
unfolding trace_from
runs zero n sts s nested count early can = absurd (omega (arith, count, early))
runs (suc left) n sts s nested count early can =
    with_moment-runs sts n s (moment sts n s) (trace_from left (n + 1) sts) refl (sound sts n s nested can)
    (λ next can few. runs left (n + 1) sts next nested (omega (arith, count)) (omega (arith, few)) can)

pub has_trace : (sts : List Stmt) (t : Trace) → AreNested false sts → t ≡ trace_of sts → IsTrace sts t
has_trace sts t nested is =
    let r = runs (most_steps + 1) 1 sts first_stage nested refl (omega arith) nested in
    subst (IsTrace sts) (sym is) (record { behind = r.0; run = r.1 })
