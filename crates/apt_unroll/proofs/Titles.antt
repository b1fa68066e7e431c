-- No step but the first is PARTNO: a run never comes back to the first statement.
use Rattle.std.proofs.Common.{◌≡◌, ◌⊎◌, inl, inr, ℕ, zero, suc, ◌+◌, ◌≤◌, Bool, true, false, List, [], ◌∷◌, slice_get, Option, Some, None, Ok, Err, refl, ap, ◌∙◌, subst, arith}
use Rattle.apt_words.specs.Composition.{flow_of}
use Rattle.apt_words.specs.Flow.{Flow, Onward, MacroBegins, MacroEnds, Calls, LoopBegins, LoopEnds, Jumps, Branches, ProgramEnds}
use Rattle.apt_words.specs.Options.{◌>>=◌, only_if}
use Rattle.apt_words.specs.declared.Refusal.{Refusal}
use Rattle.apt_words.specs.declared.body.Body.{Body}
use Rattle.apt_words.specs.declared.body.Body.TheVariants as bodies
use Rattle.apt_words.specs.declared.body.Stmt.{Stmt}
use Rattle.apt_words.specs.declared.deed.Deed.TheVariants as deeds
use Rattle.apt_words.specs.declared.deed.Step.{Step}
use Rattle.apt_words.proofs.Titles.{IsTitled, IsUntitled, AreUntitled, HasTitle, DeedIsUntitled, StepsAreUntitled, StepsHaveTitle}
use Rattle.apt_scalar.specs.Evaluation.{value_of}
use Rattle.apt_unroll.specs.declared.numbers.Naming.TheVariants as namings
use Rattle.apt_unroll.specs.declared.places.Region.{Region}
use Rattle.apt_unroll.specs.declared.places.Region.TheVariants as regions
use Rattle.apt_deeds.specs.Deeds.{deed_of}
use Rattle.apt_unroll.specs.Places.{place_of, none_open, region, regions_of, are_one_region, are_together, target}
use Rattle.apt_unroll.specs.Stages.{Call, Stage, first_stage, parameters}
use Rattle.apt_unroll.specs.Actions.{Action, go_on, label_by, action, step_of}
use Rattle.apt_unroll.specs.Trace.{Trace, IsDone, AreRun, IsTrace}
use Rattle.apt_deeds.proofs.Suits.{Any, any}
use Rattle.apt_unroll.proofs.Acts.{Acts, by_result, by_target, by_call, by_macro, by_tests, step_acts}
use Rattle.apt_unroll.proofs.Steps.{is_at, suits}

-- ---- no label leads to the first statement

onward_titled : (body : Body) → IsTitled body → flow_of body ≡ Onward
onward_titled (bodies.Partno text) h = refl
onward_titled _ h = absurd h

title_outside : (sts : List Stmt) → HasTitle sts → slice_get (regions_of sts) 0 ≡ None ⊎ (slice_get (regions_of sts) 0 ≡ Some regions.Outside)
title_outside [] titled = inl refl
title_outside (st ∷ sts) titled = inr (ap (λ flow. Some (region 0 flow none_open)) (onward_titled st.body titled.0))

alone_outside : (r : Option Region) → are_one_region r (Some regions.Outside) ≡ false
alone_outside None = refl
alone_outside (Some regions.Outside) = refl
alone_outside (Some (regions.Loop l)) = refl
alone_outside (Some (regions.Macro m)) = refl

alone_nowhere : (r : Option Region) → are_one_region r None ≡ false
alone_nowhere None = refl
alone_nowhere (Some r) = refl

apart : (sts : List Stmt) (i : ℕ) → HasTitle sts → are_together sts i 0 ≡ false
apart sts i titled = by (title_outside sts titled)
  where
    by : slice_get (regions_of sts) 0 ≡ None ⊎ (slice_get (regions_of sts) 0 ≡ Some regions.Outside) → are_together sts i 0 ≡ false
    by (inl e) = ap (are_one_region (slice_get (regions_of sts) i)) e ∙ alone_nowhere (slice_get (regions_of sts) i)
    by (inr e) = ap (are_one_region (slice_get (regions_of sts) i)) e ∙ alone_outside (slice_get (regions_of sts) i)

only_behind : (sts : List Stmt) (i k j : ℕ) → HasTitle sts → only_if (are_together sts i k) k ≡ Some j → 1 ≤ j
only_behind sts i zero j titled h = let away = apart sts i titled in absurd (cc)
only_behind sts i (suc k) j titled h = by (are_together sts i (suc k)) h
  where
    by : (b : Bool) → only_if b (suc k) ≡ Some j → 1 ≤ j
    by true h = let same : suc k ≡ j = cc in omega (arith, same)
    by false h = absurd (cc)

target_behind : (sts : List Stmt) (i : ℕ) (name : List ℕ) (j : ℕ) → HasTitle sts → target sts i name ≡ Some j → 1 ≤ j
target_behind sts i name j titled h = by (place_of namings.Labels sts name) h
  where
    by : (o : Option ℕ) → (o >>= λ j. only_if (are_together sts i j) j) ≡ Some j → 1 ≤ j
    by None h = absurd (cc)
    by (Some k) h = only_behind sts i k j titled h

-- ---- an action leads behind the first statement

abbrev AreBehind : List Call → Type 0
AreBehind [] = Unit {0}
AreBehind (c ∷ more) = (1 ≤ c.back) × AreBehind more

abbrev IsBehind : Stage → Type 0
IsBehind s = (1 ≤ s.at) × AreBehind s.calls

abbrev Leads : Action → Type 0
Leads (Err case) = Unit {0}
Leads (Ok (deed, None)) = Unit {0}
Leads (Ok (deed, Some next)) = IsBehind next

leads : (sts : List Stmt) (s : Stage) (i : ℕ) (body : Body) (flow : Flow) → HasTitle sts → AreBehind s.calls → Leads (action sts s i body flow)
unfolding action
leads sts s i body Onward titled behind =
    by_result Leads Any (deed_of s.names (parameters s.calls) body) (go_on i s) (any (deed_of s.names (parameters s.calls) body)) (λ case. tt) (λ deed _. (omega arith, behind))
leads sts s i body (MacroBegins m ps) titled behind = tt
leads sts s i body MacroEnds titled behind = by_call Leads s s.calls (λ case. tt) (λ c more is. subst AreBehind is behind)
leads sts s i body (Calls m actual) titled behind =
    by_macro Leads sts s i actual (place_of namings.Macros sts m) (λ case. tt) (λ k bound is. (omega arith, (omega arith, behind)))
leads sts s i body LoopBegins titled behind = (omega arith, behind)
leads sts s i body LoopEnds titled behind = (omega arith, behind)
leads sts s i body (Jumps l) titled behind =
    by_target Leads s deeds.Jumpto (target sts i l) (λ case. tt) (λ j is. (target_behind sts i l j titled is, behind))
leads sts s i body (Branches v a b c) titled behind =
    by_result Leads Any (value_of s.names (parameters s.calls) v) _ (any (value_of s.names (parameters s.calls) v)) (λ case. tt)
    (λ v _. by_target Leads s deeds.If (target sts i (label_by v a b c)) (λ case. tt) (λ j is. (target_behind sts i (label_by v a b c) j titled is, behind)))
leads sts s i body ProgramEnds titled behind = tt

step_leads : (sts : List Stmt) (n : ℕ) (s : Stage) (i : ℕ) (st : Stmt) → HasTitle sts → AreBehind s.calls → Leads (step_of sts n s i st)
step_leads sts n s i st titled behind = by_tests Leads sts n s i st (λ case. tt) (λ _ _. leads sts s i st.body (flow_of st.body) titled behind)

-- ---- the steps of a run

untitled_in : (sts : List Stmt) (i : ℕ) (st : Stmt) → AreUntitled sts → slice_get sts i ≡ Some st → IsUntitled st.body
untitled_in [] i st are h = absurd (cc)
untitled_in (x ∷ sts) zero st are h = let same : x ≡ st = cc in subst (λ (st : Stmt). IsUntitled st.body) same are.0
untitled_in (x ∷ sts) (suc i) st are h = untitled_in sts i st are.1 h

untitled_at : (sts : List Stmt) (i : ℕ) (st : Stmt) → HasTitle sts → 1 ≤ i → slice_get sts i ≡ Some st → IsUntitled st.body
untitled_at [] i st titled late h = absurd (cc)
untitled_at (x ∷ sts) zero st titled late h = absurd (omega (arith, late))
untitled_at (x ∷ sts) (suc i) st titled late h = untitled_in sts i st titled.1 h

step_untitled : (sts : List Stmt) (n : ℕ) (s : Stage) (step : Step) (next : Option Stage) → HasTitle sts → 1 ≤ s.at → IsDone sts n s step next → DeedIsUntitled step.deed
step_untitled sts n s step next titled late done =
    let m = is_at sts n s step.line (Ok (step.deed, next)) done.1 in
    let good = suits s.ended m.st.body step.deed next (subst (Acts s.ended m.st.body) m.does (step_acts sts n s m.i m.st)) in
    good.untitled (untitled_at sts m.i m.st titled (omega (arith, late, m.from)) m.there)

next_behind : (sts : List Stmt) (n : ℕ) (s : Stage) (step : Step) (next : Stage) → HasTitle sts → AreBehind s.calls → IsDone sts n s step (Some next) → IsBehind next
next_behind sts n s step next titled behind done =
    let m = is_at sts n s step.line (Ok (step.deed, Some next)) done.1 in
    subst Leads m.does (step_leads sts n s m.i m.st titled behind)

untitled_run : (n : ℕ) (sts : List Stmt) (s : Stage) (behind : List Stage) (steps : List Step) (fault : Option Refusal) → HasTitle sts → IsBehind s
    → AreRun sts n (s ∷ behind) steps fault → StepsAreUntitled steps
untitled_run n sts s [] [] fault titled late run = tt
untitled_run n sts s [] (step ∷ []) None titled late run = (step_untitled sts n s step None titled late.0 run, tt)
untitled_run n sts s [] (step ∷ []) (Some refusal) titled late run = absurd run
untitled_run n sts s [] (step ∷ next ∷ more) fault titled late run = absurd run
untitled_run n sts s (next ∷ behind) [] fault titled late run = absurd run
untitled_run n sts s (next ∷ behind) (step ∷ steps) fault titled late run = (
  step_untitled sts n s step (Some next) titled late.0 run.0,
  untitled_run (n + 1) sts next behind steps fault titled (next_behind sts n s step next titled late.1 run.0) run.1,
)

titled_run : (sts : List Stmt) (behind : List Stage) (steps : List Step) (fault : Option Refusal) → HasTitle sts → AreRun sts 1 (first_stage ∷ behind) steps fault → StepsHaveTitle steps
titled_run sts [] [] fault titled run = tt
titled_run sts [] (step ∷ []) fault titled run = tt
titled_run sts [] (step ∷ next ∷ more) fault titled run = absurd run
titled_run sts (next ∷ behind) [] fault titled run = absurd run
titled_run sts (next ∷ behind) (step ∷ steps) fault titled run =
    untitled_run 2 sts next behind steps fault titled (next_behind sts 1 first_stage step next titled tt run.0) run.1

pub steps_titled : (sts : List Stmt) (t : Trace) → HasTitle sts → IsTrace sts t → StepsHaveTitle t.steps
steps_titled sts t titled is = titled_run sts is.behind t.steps t.fault titled is.run
