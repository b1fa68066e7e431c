-- Where the legs of a contour end, and what it writes.
use Rattle.std.proofs.Common.{◌≡◌, ◌∙◌, ℕ, ℤ, Bool, true, false, List, ◌∷◌, Option, Some, None, Result, Ok, Err, refl, sym, ap, subst}
use Rattle.std.specs.Prelude.{not, ◌&&◌}
use Rattle.apt_words.specs.declared.Case.{Case}
use Rattle.apt_words.specs.declared.Case.TheVariants as cases
use Rattle.apt_words.specs.Asks as asking
use Rattle.apt_words.specs.Asks.{Ask, ask_of}
use Rattle.apt_words.specs.declared.contour.Contouring.{Contouring}
use Rattle.apt_words.specs.declared.deed.Deed.{Deed}
use Rattle.apt_words.specs.declared.deed.Step.{Step}
use Rattle.apt_words.specs.Rows.{Row, first_of, unless, unless_case}
use Rattle.apt_offset.specs.Targets.{lacks_room}
use Rattle.apt_stop.specs.Nearness.{is_near, off_track}
use Rattle.apt_stop.specs.declared.course.Course.{Course}
use Rattle.apt_stop.specs.declared.legs.Legs.{Legs}
use Rattle.apt_stop.specs.declared.legs.Legs.TheVariants as legs
use Rattle.apt_stop.specs.declared.legs.Ends.{Ends}
use Rattle.apt_stop.specs.Legs.{leg_cases, ends_of as ends_at, last_end, AreEnds}
use Rattle.apt_meaning.specs.declared.motion.Motion.{Motion}
use Rattle.apt_meaning.specs.declared.situation.Situation.{Situation}
use Rattle.apt_meaning.specs.declared.effect.Effect.TheVariants as effects
use Rattle.apt_meaning.specs.Motions.{track_of, stop_of, starts_on_check, course_of}
use Rattle.apt_meaning.specs.Ranges.{IsMotion}
use Rattle.apt_meaning.specs.Records.{last_behind, cut_at}
use Rattle.apt_meaning.specs.declared.effect.Cut.{Cut}
use Rattle.apt_meaning.specs.Effects.{effect_by, effect_of}
use Rattle.apt_meaning.specs.Refusals.{IsCutOr, cases_by, cut_cases, refusal_of}
use Rattle.apt_meaning.specs.Compiled.{ends_of, refused_at}
use Rattle.apt_words.proofs.Rows.{first_none}
use Rattle.apt_motion.specs.declared.runs.RunError.TheVariants as errors
use Rattle.apt_motion.specs.Acts.{Writing, Cuts, AreLegs, HasActed, legs_to}

-- ---- the ends of a contour

pub on_and_off : (b : Bool) → b ≡ true → b ≡ false → ⊥
on_and_off b e f = cc

pub cut_ends : (m : Motion) (n : Legs) (r : Result Ends Case) → lacks_room (track_of m) ≡ false → starts_on_check m ≡ false → lacks_room (stop_of m) ≡ false
    → is_near (track_of m) off_track m.start.xy ≡ true → r ≡ unless (leg_cases n (course_of m)) (ends_at n (course_of m)) → r ≡ unless (cut_cases m n) (ends_at n (course_of m))
cut_ends m n r track on stop near is = is ∙ ap (λ f. unless_case f (ends_at n (course_of m))) (sym (none_before (lacks_room (track_of m)) (starts_on_check m) (lacks_room (stop_of m)) (is_near (track_of m) off_track m.start.xy) (leg_cases n (course_of m)) track on stop near))
  where
    none_before : (a b c d : Bool) (rows : List Row) → a ≡ false → b ≡ false → c ≡ false → d ≡ true
        → first_of ((a, cases.NoRoom) ∷ (not b && c, cases.NoRoom) ∷ (not d, cases.OffDrive) ∷ (b, cases.OnCheck) ∷ rows) ≡ first_of rows
    none_before a b c d rows e f g h = rw (e, f, g, h) refl

-- the last of them is where the contour leads
pub last_is : (m : Motion) (n : Legs) → last_behind m.start.xy (ends_of (effects.Cuts m n)) ≡ last_end (ends_at n (course_of m))
last_is m legs.One = refl
last_is m legs.Two = refl

-- ---- a motion that is run to its end

ends : (f : Option Case) (p q : Ends) → Ok p ≡ unless_case f q → (f ≡ None) × (p ≡ q)
ends None p q e = (refl, same_ok p q e)
  where
    same_ok : (p q : Ends) → ◌≡◌ {A = Result Ends Case} (Ok p) (Ok q) → p ≡ q
    same_ok p q e = cc
ends (Some case) p q e = absurd cc

pub stops : (f : Option Case) (case : Case) (q : Ends) → Err case ≡ unless_case f q → f ≡ Some case
stops None case q e = absurd cc
stops (Some other) case q e = ap Some (same_err case other e)
  where
    same_err : (case other : Case) → ◌≡◌ {A = Result Ends Case} (Err case) (Err other) → other ≡ case
    same_err case other e = cc

-- a contour whose ends are known: no case refuses it
pub counts : (n : Legs) (c : Course) → legs_to (ends_at n c).second ≡ n
counts legs.One c = refl
counts legs.Two c = refl

pub cut_free : (m : Motion) (n : Legs) (end : Ends) → IsMotion m → Ok end ≡ unless (cut_cases m n) (ends_at n (course_of m)) → AreEnds end → AreLegs m (legs_to end.second) end
cut_free m n end good is points =
    let at_end = ends (first_of (cut_cases m n)) end (ends_at n (course_of m)) is in
    subst (λ (k : Legs). AreLegs m k end) (sym (ap (λ (e : Ends). legs_to e.second) at_end.1 ∙ counts n (course_of m)))
    (record { motion = good; none = first_none (cut_cases m n) at_end.0; is = at_end.1; points = points })

-- a step that asks for a contour: it is done to its ends, or they are refused
pub cut_done : {P : Type 0} (takes : P → P → Step → Writing → Type 0) (here behind : Situation) (step : Step) (before now : P) (c : Cut) (end : Ends)
    → IsCutOr (refusal_of here step.deed) (effect_of here step.deed) (Ok c) → Ok end ≡ unless (cut_cases c.motion c.legs) (ends_at c.legs (course_of c.motion))
    → takes before now step (Cuts c.motion end) → behind ≡ cut_at here c.motion (last_end end) → HasActed takes here step before now (Ok behind)
cut_done takes here behind step before now c end by is taken led =
    let m = c.motion in
    let at_end = ends (first_of (cut_cases m c.legs)) end (ends_at c.legs (course_of m)) is in (
      effects.Cuts m c.legs,
      record {
        asks = rw (by.1 ∙ at_end.0, by.0) refl;
        after = led ∙ ap (cut_at here m) (ap last_end at_end.1 ∙ sym (last_is m c.legs));
        taken = subst (λ (e : Ends). takes before now step (Cuts m e)) at_end.1 taken;
      },
    )

pub cut_refused : {P : Type 0} (takes : P → P → Step → Writing → Type 0) (here : Situation) (step : Step) (before : P) (c : Cut) (case : Case)
    → IsCutOr (refusal_of here step.deed) (effect_of here step.deed) (Ok c) → Err case ≡ unless (cut_cases c.motion c.legs) (ends_at c.legs (course_of c.motion))
    → HasActed takes here step before before (Err (errors.Refused (refused_at step case)))
cut_refused takes here step before c case by is =
    (case, record { asks = rw (by.1 ∙ stops (first_of (cut_cases c.motion c.legs)) case (ends_at c.legs (course_of c.motion)) is) refl; told = refl; same = refl })

-- what a contour asks for, by what the step is asked
pub cut_asks : (here : Situation) (deed : Deed) (contour : Contouring) (n : ℤ) (r : Result Cut Case) → asking.Cuts contour n ≡ ask_of deed
    → IsCutOr (first_of (cases_by here (asking.Cuts contour n))) (effect_by here (asking.Cuts contour n)) r → IsCutOr (refusal_of here deed) (effect_of here deed) r
cut_asks here deed contour n r asks value = subst (λ (a : Ask). IsCutOr (first_of (cases_by here a)) (effect_by here a) r) asks value
