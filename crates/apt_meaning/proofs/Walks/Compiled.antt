-- The compiler's records follow its steps, and its contours are legal.
use Rattle.std.proofs.Common.{◌≡◌, ◌∙◌, ℕ, ◌+◌, ◌≤◌, Bool, true, false, List, [], ◌∷◌, ◌++◌, Option, Some, None, Result, Ok, Err, refl, sym, ap, subst}
use Rattle.std.specs.Prelude.{nat_lt, if◌then◌else◌}
use Rattle.std.proofs.lemmas.Bool.{ltb-false}
use Rattle.std.proofs.lemmas.Option.{same_Some}
use Rattle.apt_words.specs.declared.Case.{Case}
use Rattle.apt_words.specs.declared.Case.TheVariants as cases
use Rattle.apt_words.specs.declared.Refusal.{Refusal}
use Rattle.apt_words.specs.declared.deed.Step.{Step}
use Rattle.apt_records.specs.declared.record.Record.{Record}
use Rattle.apt_records.specs.Ranges.{AreRecords}
use Rattle.apt_meaning.specs.declared.situation.Situation.{Situation}
use Rattle.apt_meaning.specs.declared.effect.Effect.{Effect}
use Rattle.apt_meaning.specs.declared.effect.Effect.TheVariants as effects
use Rattle.apt_meaning.specs.Effects.{effect_of}
use Rattle.apt_meaning.specs.Refusals.{refusal_of}
use Rattle.apt_meaning.specs.Records.{Begins, FollowsAs, records_of, cut_at, after}
use Rattle.apt_meaning.specs.Compiled.{ends_of, points_of, point_number, most_points, asked_within, with_front, asked, or_first, first_refused, or_refused, compilation_behind}
use Rattle.apt_meaning.specs.Ranges.{IsSituation}
use Rattle.apt_words.specs.Sources.{AreExecuted}
use Rattle.apt_scalar.specs.StepScalars.{AreScalars}
use Rattle.apt_meaning.proofs.Asked.{CutsLegally, CutsOwn, EndsThere, IsFit, Asks, answered}
use Rattle.apt_meaning.proofs.Walks.Kept.{kept, records_in, records-append}

-- ---- a step that is done, and the records of those behind it

pub record Done (so_far : ℕ) (refusal : Option Case) (effect : Option Effect) (more : Effect → Result (List Record) Refusal) (written : List Record) : Type 0 where
  pub e : Effect
  pub fine : refusal ≡ None
  pub asked : effect ≡ Some e
  pub few : so_far + point_number e ≤ most_points
  pub rest : more e ≡ Ok written

no_ok : (refusal : Refusal) (written : List Record) → Err refusal ≡ Ok written → ⊥
no_ok refusal written e = cc

done_within : (so_far : ℕ) (step : Step) (e : Effect) (more : Effect → Result (List Record) Refusal) (written : List Record) (many : Bool)
    → nat_lt most_points (so_far + point_number e) ≡ many → or_refused step (if many then Err cases.TooManyPoints else Ok e) more ≡ Ok written → Done so_far None (Some e) more written
done_within so_far step e more written true tells h = absurd (no_ok _ written h)
done_within so_far step e more written false tells h = record { e = e; fine = refl; asked = refl; few = ltb-false most_points (so_far + point_number e) tells; rest = h }

pub done : (so_far : ℕ) (step : Step) (refusal : Option Case) (effect : Option Effect) (more : Effect → Result (List Record) Refusal) (written : List Record)
    → or_refused step (asked_within so_far (asked refusal effect)) more ≡ Ok written → Done so_far refusal effect more written
done so_far step (Some case) effect more written h = absurd (no_ok _ written h)
done so_far step None None more written h = absurd (no_ok _ written h)
done so_far step None (Some e) more written h = done_within so_far step e more written (nat_lt most_points (so_far + point_number e)) refl h

-- a step that is done, where only the first refusal is asked for
pub record Passed (refusal : Option Case) (effect : Option Effect) (more : Effect → Option Refusal) : Type 0 where
  pub e : Effect
  pub fine : refusal ≡ None
  pub asked : effect ≡ Some e
  pub rest : more e ≡ None

no_refusal : (refusal : Refusal) → ◌≡◌ {A = Option Refusal} (Some refusal) None → ⊥
no_refusal refusal e = cc

pub passed : (step : Step) (refusal : Option Case) (effect : Option Effect) (more : Effect → Option Refusal) → or_first step (asked refusal effect) more ≡ None
    → Passed refusal effect more
passed step (Some case) effect more h = absurd (no_refusal _ h)
passed step None None more h = absurd (no_refusal _ h)
passed step None (Some e) more h = record { e = e; fine = refl; asked = refl; rest = h }

pub front_ok : (front : List Record) (r : Result (List Record) Refusal) (written : List Record) → with_front front r ≡ Ok written
    → (rest : List Record) × (r ≡ Ok rest) × (written ≡ front ++ rest)
front_ok front (Ok rest) written h = (rest, refl, cc)
front_ok front (Err refusal) written h = absurd (no_ok refusal written h)

pub nothing_left : (written : List Record) → ◌≡◌ {A = Result (List Record) Refusal} (Ok []) (Ok written) → written ≡ []
nothing_left written h = cc

-- an effect that is asked for, where no case refuses its step
pub fit : (o : Option Effect) (e : Effect) → o ≡ Some e → Asks o → IsFit e
fit o e h asks = subst IsFit (same_Some asks.e e (sym asks.asked ∙ h)) asks.fit

-- ---- the walk

-- behind its own vertices a contour leaves the tool at its contact
pub after_points : (here : Situation) (e : Effect) → EndsThere e → after here e (ends_of e) ≡ after here e (points_of e)
after_points here (effects.Defines n f) ends = refl
after_points here (effects.Sets change) ends = refl
after_points here (effects.Moves reach to) ends = refl
after_points here (effects.Cuts m n) ends = ap (cut_at here m) (sym ends)

-- records follow steps legally and with the compiler's own vertices, and all that they lead to is in range
pub record Arrives (here : Situation) (steps : List Step) (written : List Record) : Type 0 where
  pub behind : Situation
  pub follows : FollowsAs CutsLegally here steps written behind
  pub own : FollowsAs CutsOwn here steps written behind
  pub situation : IsSituation behind
  pub records : AreRecords written

-- what is done behind a step, after so many vertices
abbrev pub behind_step : ℕ → Situation → Step → List Step → Effect → Result (List Record) Refusal
behind_step so_far here step steps e = with_front (records_of step e (points_of e)) (compilation_behind (so_far + point_number e) (after here e (ends_of e)) steps)

-- steps that have records pass
pub compiled_passes : (so_far : ℕ) (here : Situation) (steps : List Step) (written : List Record) → compilation_behind so_far here steps ≡ Ok written → first_refused here steps ≡ None
compiled_passes so_far here [] written h = refl
compiled_passes so_far here (step ∷ steps) written h =
    let d = done so_far step (refusal_of here step.deed) (effect_of here step.deed) (behind_step so_far here step steps) written h in
    let n = so_far + point_number d.e in
    let f = front_ok (records_of step d.e (points_of d.e)) (compilation_behind n (after here d.e (ends_of d.e)) steps) written d.rest in
    rw (d.fine, d.asked) (compiled_passes n (after here d.e (ends_of d.e)) steps f.0 f.1)

pub compiled_follows : (so_far : ℕ) (here : Situation) (steps : List Step) (written : List Record) → IsSituation here → AreScalars steps → AreExecuted steps
    → compilation_behind so_far here steps ≡ Ok written → Arrives here steps written
compiled_follows so_far here [] written is numbers sources h =
    let none = nothing_left written h in
    record { behind = here; follows = (none, refl); own = (none, refl); situation = is; records = rw none tt }
compiled_follows so_far here (step ∷ steps) written is numbers sources h =
    let d = done so_far step (refusal_of here step.deed) (effect_of here step.deed) (behind_step so_far here step steps) written h in
    let e = d.e in
    let n = so_far + point_number e in
    let ok = fit (effect_of here step.deed) e d.asked (answered here step.deed is numbers.0 sources.0.text d.fine) in
    let f = front_ok (records_of step e (points_of e)) (compilation_behind n (after here e (ends_of e)) steps) written d.rest in
    let same = after_points here e ok.ends in
    let there = kept here e (points_of e) is ok.good ok.within in
    let more = subst (λ (x : Situation). Arrives x steps f.0) same
    (compiled_follows n (after here e (ends_of e)) steps f.0 (subst IsSituation (sym same) there) numbers.1 sources.1 f.1) in
    let begins : Begins here step written e (points_of e) f.0 = record { asked = d.asked; front = f.2; may = ok.may } in record {
      behind = more.behind;
      follows = (e, points_of e, f.0, begins, ok.legal, more.follows);
      own = (e, points_of e, f.0, begins, ok.own, more.own);
      situation = more.situation;
      records = rw f.2 (records-append (records_of step e (points_of e)) f.0 (records_in step e (points_of e) sources.0 ok.good ok.within) more.records);
    }
