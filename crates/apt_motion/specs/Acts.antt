-- What a step does: what it writes, and what holds behind it.
use Rattle.std.specs.Prelude.{◌≡◌, Option, Some, None, Result, Ok, Err}
use Rattle.apt_plane.specs.declared.figures.Pt.{Pt}
use Rattle.apt_words.specs.Answers.{Comes}
use Rattle.apt_words.specs.Rows.{NoneHolds}
use Rattle.apt_words.specs.declared.Case.{Case}
use Rattle.apt_words.specs.declared.Refusal.{Refusal}
use Rattle.apt_words.specs.declared.deed.Step.{Step}
use Rattle.apt_stop.specs.Legs.{ends_of as ends_at, AreEnds}
use Rattle.apt_stop.specs.declared.legs.Legs.{Legs}
use Rattle.apt_stop.specs.declared.legs.Legs.TheVariants as legs
use Rattle.apt_stop.specs.declared.legs.Ends.{Ends}
use Rattle.apt_records.specs.declared.record.Note.{Note}
use Rattle.apt_records.specs.declared.record.Position.{Position}
use Rattle.apt_records.specs.declared.record.Reach.{Reach}
use Rattle.apt_meaning.specs.declared.situation.Situation.{Situation}
use Rattle.apt_meaning.specs.declared.motion.Motion.{Motion}
use Rattle.apt_meaning.specs.declared.effect.Change.TheVariants as changes
use Rattle.apt_meaning.specs.declared.effect.Effect.{Effect}
use Rattle.apt_meaning.specs.declared.effect.Effect.TheVariants as effects
use Rattle.apt_meaning.specs.Effects.{effect_of}
use Rattle.apt_meaning.specs.Motions.{course_of}
use Rattle.apt_meaning.specs.Ranges.{IsMotion}
use Rattle.apt_meaning.specs.Refusals.{cut_cases, refusal_of}
use Rattle.apt_meaning.specs.Records.{after}
use Rattle.apt_meaning.specs.Compiled.{ends_of, asked, refused_at}
use Rattle.apt_motion.specs.declared.runs.RunError.{RunError}
use Rattle.apt_motion.specs.Ends.{refusal_in}

-- ---- what is written

-- nothing, a note, a position, or a contour whose legs end there
pub data Writing : Type 0 where
  Nothing : Writing
  Says : Note → Writing
  Goes : Reach → Position → Writing
  Cuts : Motion → Ends → Writing

abbrev pub writing_of : Effect → Writing
writing_of (effects.Defines n f) = Nothing
writing_of (effects.Sets (changes.Said note)) = Says note
writing_of (effects.Sets (changes.Side side)) = Nothing
writing_of (effects.Sets changes.Nothing) = Nothing
writing_of (effects.Moves reach to) = Goes reach to
writing_of (effects.Cuts m k) = Cuts m (ends_at k (course_of m))

-- the legs that end there
abbrev pub legs_to : Option Pt → Legs
legs_to None = legs.One
legs_to (Some second) = legs.Two

abbrev pub contour_to : Motion → Ends → Effect
contour_to m ends = effects.Cuts m (legs_to ends.second)

-- the legs of a contour that no case refuses, to their ends
pub record AreLegs (m : Motion) (k : Legs) (ends : Ends) : Type 0 where
  pub motion : IsMotion m
  pub none : NoneHolds (cut_cases m k)
  pub is : ends ≡ ends_at k (course_of m)
  pub points : AreEnds ends

-- ---- a step that is done or refused

-- by what a pen takes down, it has taken down what is written; where that is nothing, it is as it was
abbrev pub HasTaken : {P : Type 0} → (P → P → Step → Writing → Type 0) → P → P → Step → Writing → Type 0
HasTaken takes before now step Nothing = now ≡ before
HasTaken takes before now step (Says note) = takes before now step (Says note)
HasTaken takes before now step (Goes reach to) = takes before now step (Goes reach to)
HasTaken takes before now step (Cuts m ends) = takes before now step (Cuts m ends)

-- a step asks for an effect, which is taken down and holds
pub record IsDone {P : Type 0} (takes : P → P → Step → Writing → Type 0) (here : Situation) (step : Step) (before now : P) (behind : Situation) (e : Effect) : Type 0 where
  pub asks : asked (refusal_of here step.deed) (effect_of here step.deed) ≡ Ok e
  pub after : behind ≡ after here e (ends_of e)
  pub taken : HasTaken takes before now step (writing_of e)

-- or a case refuses it, and nothing is taken down
pub record IsRefused {P : Type 0} (here : Situation) (step : Step) (before now : P) (refusal : Refusal) (case : Case) : Type 0 where
  pub asks : asked (refusal_of here step.deed) (effect_of here step.deed) ≡ Err case
  pub told : refusal ≡ refused_at step case
  pub same : now ≡ before

-- a step is done or refused, or memory was short
abbrev pub HasActed : {P : Type 0} → (P → P → Step → Writing → Type 0) → Situation → Step → P → P → Result Situation RunError → Type 0
HasActed takes here step before now =
    Comes refusal_in (λ behind. (e : Effect) × IsDone takes here step before now behind e) (λ refusal. (case : Case) × IsRefused here step before now refusal case)
