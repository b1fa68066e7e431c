-- A situation that agrees with the compiler's at the same step, and is left in range by records in range.
use Rattle.std.proofs.Common.{◌≡◌, ◌≤◌, ℤ, arith, List, [], ◌∷◌, ◌++◌, length, map, Some, None, sym, subst}
use Rattle.apt_words.specs.Sources.{DeedHasText}
use Rattle.apt_words.specs.declared.deed.Step.{Step}
use Rattle.apt_scalar.specs.StepScalars.{HasScalars}
use Rattle.apt_plane.specs.declared.figures.Pt.{Pt}
use Rattle.apt_certify.specs.Jobs.{ArePoints}
use Rattle.apt_records.specs.Ranges.{IsPosition, ArePositions, AreRecords}
use Rattle.apt_records.specs.declared.record.Record.{Record}
use Rattle.apt_defs.specs.Figures.{IsFigure}
use Rattle.apt_meaning.specs.declared.situation.Situation.{Situation}
use Rattle.apt_meaning.specs.declared.effect.Change.TheVariants as changes
use Rattle.apt_meaning.specs.declared.effect.Effect.{Effect}
use Rattle.apt_meaning.specs.declared.effect.Effect.TheVariants as effects
use Rattle.apt_meaning.specs.Situations.{first_situation}
use Rattle.apt_records.specs.Vertices.{at_height}
use Rattle.apt_meaning.specs.Effects.{effect_of}
use Rattle.apt_meaning.specs.Refusals.{refusal_of}
use Rattle.apt_meaning.specs.Records.{cut_record, records_of, after}
use Rattle.apt_meaning.specs.Compiled.{ends_of, points_of, first_refused}
use Rattle.apt_meaning.specs.Ranges.{IsChange, IsSituation, IsEffect, HasMotion}
use Rattle.apt_meaning.specs.Vertices.{AreCuts, HasIn}
use Rattle.apt_meaning.proofs.Walks.Agree.{Agrees, AreLike, alike, agrees_behind, agrees_first}
use Rattle.apt_meaning.proofs.Asked.{answered}
use Rattle.apt_meaning.proofs.Walks.Kept.{kept, first_situation-IsSituation}
use Rattle.apt_meaning.proofs.Said.{of_some}
use Rattle.apt_meaning.proofs.Contours.Ranges.{made}
use Rattle.apt_meaning.proofs.Walks.Compiled.{fit, passed, after_points}

-- ---- what records in range say of their effect

-- a move leads to a position
abbrev LeadsIn : Effect → Type 0
LeadsIn (effects.Defines n f) = Unit {0}
LeadsIn (effects.Sets change) = Unit {0}
LeadsIn (effects.Moves reach to) = IsPosition to
LeadsIn (effects.Cuts m n) = Unit {0}

points_in : (z : ℤ) (vertices : List Pt) → ArePositions (map (at_height z) vertices) → ArePoints vertices
points_in z [] are = tt
points_in z (v ∷ vs) are = (are.0.xy, points_in z vs are.1)

some_points : (z : ℤ) (vertices : List Pt) → 1 ≤ length (map (at_height z) vertices) → 1 ≤ length vertices
some_points z [] some = some
some_points z (v ∷ vs) some = omega arith

cuts_in : (z : ℤ) (cuts : List (List Pt)) (rest : List Record) → AreRecords (map (cut_record z) cuts ++ rest) → AreCuts cuts × AreRecords rest
cuts_in z [] rest are = (tt, are)
cuts_in z (vertices ∷ cuts) rest are =
    let more = cuts_in z cuts rest are.1 in
    (((some_points z vertices are.0.0, points_in z vertices are.0.1), more.0), more.1)

pub record SaysIn (e : Effect) (cuts : List (List Pt)) (rest : List Record) : Type 0 where
  pub leads : LeadsIn e
  pub within : HasIn e cuts
  pub later : AreRecords rest

says_in : (step : Step) (e : Effect) (cuts : List (List Pt)) (rest : List Record) → AreRecords (records_of step e cuts ++ rest) → SaysIn e cuts rest
says_in step (effects.Defines n f) cuts rest are = record { leads = tt; within = tt; later = are }
says_in step (effects.Sets (changes.Said note)) cuts rest are = record { leads = tt; within = tt; later = are.1.1 }
says_in step (effects.Sets (changes.Side side)) cuts rest are = record { leads = tt; within = tt; later = are }
says_in step (effects.Sets changes.Nothing) cuts rest are = record { leads = tt; within = tt; later = are }
says_in step (effects.Moves reach to) cuts rest are = record { leads = are.1.0; within = tt; later = are.1.1 }
says_in step (effects.Cuts m n) cuts rest are =
    let parts = cuts_in m.start.z cuts rest are.1.1.1 in
    record { leads = tt; within = parts.0; later = parts.1 }

-- an effect like one in range
effect_in : (e d : Effect) → AreLike e d → IsEffect e → HasMotion d → LeadsIn d → IsEffect d
effect_in (effects.Defines n f) (effects.Defines m g) same good motion leads = subst IsFigure same.1 good
effect_in (effects.Defines n f) (effects.Sets other) same good motion leads = absurd same
effect_in (effects.Defines n f) (effects.Moves reach to) same good motion leads = absurd same
effect_in (effects.Defines n f) (effects.Cuts o l) same good motion leads = absurd same
effect_in (effects.Sets change) (effects.Defines m g) same good motion leads = absurd same
effect_in (effects.Sets change) (effects.Sets other) same good motion leads = subst IsChange same good
effect_in (effects.Sets change) (effects.Moves reach to) same good motion leads = absurd same
effect_in (effects.Sets change) (effects.Cuts o l) same good motion leads = absurd same
effect_in (effects.Moves how from) (effects.Defines m g) same good motion leads = absurd same
effect_in (effects.Moves how from) (effects.Sets other) same good motion leads = absurd same
effect_in (effects.Moves how from) (effects.Moves reach to) same good motion leads = leads
effect_in (effects.Moves how from) (effects.Cuts o l) same good motion leads = absurd same
effect_in (effects.Cuts m k) (effects.Defines n g) same good motion leads = absurd same
effect_in (effects.Cuts m k) (effects.Sets other) same good motion leads = absurd same
effect_in (effects.Cuts m k) (effects.Moves reach to) same good motion leads = absurd same
effect_in (effects.Cuts m k) (effects.Cuts o l) same good motion leads = motion

-- ---- the walk beside the compiler's

-- the compiler's situation at the same step, from which no step is refused
pub record IsBeside (here : Situation) (steps : List Step) : Type 0 where
  pub c : Situation
  pub passes : first_refused c steps ≡ None
  pub situation : IsSituation c
  pub agrees : Agrees c here

-- a situation in range beside the compiler's
pub record KeepsUp (here : Situation) (steps : List Step) : Type 0 where
  pub situation : IsSituation here
  pub beside : IsBeside here steps

pub keeps_up_first : (steps : List Step) → first_refused first_situation steps ≡ None → KeepsUp first_situation steps
keeps_up_first steps passes = record {
  situation = first_situation-IsSituation;
  beside = record { c = first_situation; passes = passes; situation = first_situation-IsSituation; agrees = agrees_first first_situation };
}

-- a step whose effect, with these vertices, is in range, and what holds behind it
pub record StepsOn (here : Situation) (steps : List Step) (e : Effect) (cuts : List (List Pt)) (rest : List Record) : Type 0 where
  pub good : IsEffect e
  pub motion : HasMotion e
  pub within : HasIn e cuts
  pub behind : KeepsUp (after here e cuts) steps
  pub later : AreRecords rest

pub steps_on : (here : Situation) (step : Step) (steps : List Step) (written : List Record) (d : Effect) (us : List (List Pt)) (rest : List Record)
    → KeepsUp here (step ∷ steps) → HasScalars step.deed → DeedHasText step.deed → AreRecords written
    → effect_of here step.deed ≡ Some d → written ≡ records_of step d us ++ rest → StepsOn here steps d us rest
steps_on here step steps written d us rest keeps numbers worded are asked front =
    let beside = keeps.beside in
    let c = beside.c in
    let does = passed step (refusal_of c step.deed) (effect_of c step.deed) (λ e. first_refused (after c e (ends_of e)) steps) beside.passes in
    let e = does.e in
    let fits = fit (effect_of c step.deed) e does.asked (answered c step.deed beside.situation numbers worded does.fine) in
    let motion = of_some HasMotion (effect_of here step.deed) d asked (made here step.deed keeps.situation) in
    let says = says_in step d us rest (subst AreRecords front are) in
    let good = effect_in e d (alike c here step.deed e d beside.agrees does.asked asked) fits.good motion says.leads in
    record {
      good = good;
      motion = motion;
      within = says.within;
      behind = record {
        situation = kept here d us keeps.situation good says.within;
        beside = record {
          c = after c e (ends_of e);
          passes = does.rest;
          situation = subst IsSituation (sym (after_points c e fits.ends)) (kept c e (points_of e) beside.situation fits.good fits.within);
          agrees = agrees_behind c here step.deed e d (ends_of e) us beside.agrees does.asked asked;
        };
      };
      later = says.later;
    }
