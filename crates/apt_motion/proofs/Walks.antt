-- The walk of the compiling pass over steps, and what its records are.
use Rattle.std.proofs.Common.{◌≡◌, ◌∙◌, ◌≤◌, List, ◌∷◌, Vec, Option, Some, None, Result, Ok, Err, IfOk, refl, sym, ap, subst, arith}
use Rattle.apt_words.specs.declared.Case.{Case}
use Rattle.apt_words.specs.declared.Refusal.{Refusal}
use Rattle.apt_words.specs.declared.deed.Deed.{Deed}
use Rattle.apt_words.specs.declared.deed.Step.{Step}
use Rattle.apt_words.specs.Sources.{DeedHasText, AreExecuted}
use Rattle.apt_scalar.specs.StepScalars.{HasScalars, AreScalars}
use Rattle.apt_records.specs.declared.record.Record.{Record}
use Rattle.apt_records.specs.Ranges.{AreRecords, vertex_count}
use Rattle.apt_meaning.specs.declared.situation.Situation.{Situation}
use Rattle.apt_meaning.specs.declared.effect.Effect.{Effect}
use Rattle.apt_meaning.specs.Effects.{effect_of}
use Rattle.apt_meaning.specs.Refusals.{refusal_of}
use Rattle.apt_meaning.specs.Situations.{first_situation}
use Rattle.apt_meaning.specs.Paths.{EveryContour, IsLegalCut, contours_of}
use Rattle.apt_meaning.specs.Records.{Follows, after}
use Rattle.apt_meaning.specs.Cuts.{IsOwnCut}
use Rattle.apt_meaning.proofs.Asked.{CutsLegally}
use Rattle.apt_meaning.proofs.Walks.Alone.{follows, legal_contours, own_contours}
use Rattle.apt_meaning.specs.Compiled.{ends_of, points_of, most_points, asked, or_first, first_refused, compilation}
use Rattle.apt_meaning.specs.Ranges.{IsSituation}
use Rattle.apt_meaning.proofs.Asked.{answered}
use Rattle.apt_meaning.proofs.Walks.Kept.{kept, first_situation-IsSituation}
use Rattle.apt_meaning.proofs.Walks.Compiled.{fit as fit_of, after_points, compiled_follows}
use Rattle.apt_meaning.proofs.Walks.Files.{compiled_fit}
use Rattle.apt_motion.specs.declared.runs.RunError.{RunError}
use Rattle.apt_words.specs.Answers.{IsDueAs}
use Rattle.apt_motion.specs.Ends.{refusal_in}

-- one more step that passes
pub passes_on : (here : Situation) (step : Step) (steps : List Step) (e : Effect) (total : Option Refusal) → asked (refusal_of here step.deed) (effect_of here step.deed) ≡ Ok e
    → first_refused here (step ∷ steps) ≡ total → first_refused (after here e (ends_of e)) steps ≡ total
passes_on here step steps e total does so_far =
    sym (ap (λ (a : Result Effect Case). or_first step a (λ e. first_refused (after here e (ends_of e)) steps)) does) ∙ so_far

-- ---- what holds behind a step is in range

same_ok : (d e : Effect) → ◌≡◌ {A = Result Effect Case} (Ok d) (Ok e) → d ≡ e
same_ok d e h = cc

no_ok : (case : Case) (e : Effect) → ◌≡◌ {A = Result Effect Case} (Err case) (Ok e) → ⊥
no_ok case e h = cc

asked_fine : (f : Option Case) (o : Option Effect) (e : Effect) → asked f o ≡ Ok e → (f ≡ None) × (o ≡ Some e)
asked_fine None None e h = absurd (no_ok _ e h)
asked_fine None (Some d) e h = (refl, ap Some (same_ok d e h))
asked_fine (Some case) o e h = absurd (no_ok case e h)

pub fit : (here : Situation) (deed : Deed) (e : Effect) → IsSituation here → HasScalars deed → DeedHasText deed
    → asked (refusal_of here deed) (effect_of here deed) ≡ Ok e → IsSituation (after here e (ends_of e))
fit here deed e is scalars worded does =
    let h = asked_fine (refusal_of here deed) (effect_of here deed) e does in
    let ok = fit_of (effect_of here deed) e h.1 (answered here deed is scalars worded h.0) in
    subst IsSituation (sym (after_points here e ok.ends)) (kept here e (points_of e) is ok.good ok.within)

-- ---- runs

pub run_follows : {A : Type 0} (steps : List Step) (result : Result (Vec Record A) RunError) → AreScalars steps → AreExecuted steps → IsDueAs (λ records. records.items) refusal_in (compilation first_situation steps) result
    → IfOk result (λ records. Follows steps records.items)
run_follows steps (Ok records) scalars sources is =
    let a = compiled_follows 0 first_situation steps records.items first_situation-IsSituation scalars sources is in
    follows CutsLegally steps records.items a.behind a.follows
run_follows steps (Err e) scalars sources is = tt

pub run_legal : {A : Type 0} (steps : List Step) (result : Result (Vec Record A) RunError) → AreScalars steps → AreExecuted steps → IsDueAs (λ records. records.items) refusal_in (compilation first_situation steps) result
    → IfOk result (λ records. EveryContour IsLegalCut (contours_of records.items))
run_legal steps (Ok records) scalars sources is =
    let a = compiled_follows 0 first_situation steps records.items first_situation-IsSituation scalars sources is in
    legal_contours steps records.items a.behind a.follows
run_legal steps (Err e) scalars sources is = tt

pub run_own : {A : Type 0} (steps : List Step) (result : Result (Vec Record A) RunError) → AreScalars steps → AreExecuted steps → IsDueAs (λ records. records.items) refusal_in (compilation first_situation steps) result
    → IfOk result (λ records. EveryContour IsOwnCut (contours_of records.items))
run_own steps (Ok records) scalars sources is =
    let a = compiled_follows 0 first_situation steps records.items first_situation-IsSituation scalars sources is in
    own_contours steps records.items a.behind a.own
run_own steps (Err e) scalars sources is = tt

pub run_in_range : {A : Type 0} (steps : List Step) (result : Result (Vec Record A) RunError) → AreScalars steps → AreExecuted steps → IsDueAs (λ records. records.items) refusal_in (compilation first_situation steps) result
    → IfOk result (λ records. AreRecords records.items)
run_in_range steps (Ok records) scalars sources is = (compiled_follows 0 first_situation steps records.items first_situation-IsSituation scalars sources is).records
run_in_range steps (Err e) scalars sources is = tt

pub run_fits : {A : Type 0} (steps : List Step) (result : Result (Vec Record A) RunError) → AreExecuted steps → IsDueAs (λ records. records.items) refusal_in (compilation first_situation steps) result
    → IfOk result (λ records. vertex_count records.items ≤ most_points)
run_fits steps (Ok records) sources is = omega (arith, (compiled_fit 0 first_situation steps records.items (omega arith) sources is).vertices)
run_fits steps (Err e) sources is = tt
