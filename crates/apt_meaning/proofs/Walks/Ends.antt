-- Records that follow steps end as the steps do.
use Rattle.std.proofs.Common.{◌≡◌, refl, Bool, false, ℤ, List, [], ◌∷◌, ◌++◌, map, Some, ap, subst}
use Rattle.std.proofs.lemmas.Option.{same_Some}
use Rattle.apt_words.specs.Asks.{Ask, Titles, Says, Sets, Defines, Goes, Cuts, Nothing, ask_of, is_end, asks_end}
use Rattle.apt_words.specs.declared.Turn.TheVariants as turns
use Rattle.apt_words.specs.declared.Units.{Units}
use Rattle.apt_words.specs.declared.ask.Saying.{Saying}
use Rattle.apt_words.specs.declared.ask.Saying.TheVariants as sayings
use Rattle.apt_words.specs.declared.deed.Deed.{Deed}
use Rattle.apt_words.specs.declared.deed.Deed.TheVariants as deeds
use Rattle.apt_words.specs.declared.deed.Step.{Step}
use Rattle.apt_plane.specs.declared.figures.Pt.{Pt}
use Rattle.apt_records.specs.declared.record.Note.{Note}
use Rattle.apt_records.specs.declared.record.Note.TheVariants as notes
use Rattle.apt_records.specs.declared.record.Record.{Record}
use Rattle.apt_records.specs.Ranges.{note_mark, EndsBy, EndsOnce}
use Rattle.apt_meaning.specs.declared.situation.Situation.{Situation}
use Rattle.apt_meaning.specs.declared.effect.Change.{Change}
use Rattle.apt_meaning.specs.declared.effect.Change.TheVariants as changes
use Rattle.apt_meaning.specs.declared.effect.Effect.{Effect}
use Rattle.apt_meaning.specs.declared.effect.Effect.TheVariants as effects
use Rattle.apt_meaning.specs.Effects.{note_of, effect_of}
use Rattle.apt_meaning.specs.Records.{cut_record, records_of, after, FollowsAs}
use Rattle.apt_words.specs.ProgramEnds.{is_ended, StepsEnd}
use Rattle.apt_meaning.proofs.Said.{IsNoteOf, IsSaidBy, said_by}

-- ---- a step that is not the last

saying_ends : (units : Units) (saying : Saying) (rest : List Record) → ¬ (saying ≡ sayings.Fini) → EndsOnce (is_end saying) rest
    → EndsBy false (note_mark (note_of units saying)) rest (λ now. EndsOnce now rest)
saying_ends units sayings.Fini rest goes_on more = absurd (goes_on refl)
saying_ends units _ rest goes_on more = more

note_ends : (units : Units) (ask : Ask) (note : Note) (rest : List Record) → IsNoteOf units ask note → ¬ (ask ≡ Says sayings.Fini) → EndsOnce (asks_end ask) rest
    → EndsBy false (note_mark note) rest (λ now. EndsOnce now rest)
note_ends units (Titles text) note rest said goes_on more = rw said more
note_ends units (Says saying) note rest said goes_on more = rw said (saying_ends units saying rest (λ fini. goes_on (ap Says fini)) more)
note_ends units (Sets side) note rest said goes_on more = absurd said
note_ends units (Defines name form) note rest said goes_on more = absurd said
note_ends units (Goes route) note rest said goes_on more = absurd said
note_ends units (Cuts contour n) note rest said goes_on more = absurd said
note_ends units Nothing note rest said goes_on more = absurd said

still_on : (ended : Bool) (rest : List Record) → ended ≡ false → EndsOnce ended rest → EndsOnce false rest
still_on ended rest e more = subst (λ (b : Bool). EndsOnce b rest) e more

-- FINI alone asks for the end of the program
fini_asked : (deed : Deed) → ask_of deed ≡ Says sayings.Fini → deed ≡ deeds.Fini
fini_asked deeds.Fini e = refl
fini_asked _ e = absurd cc

change_ends : (here : Situation) (ask : Ask) (step : Step) (change : Change) (cuts : List (List Pt)) (rest : List Record) → IsSaidBy here ask (effects.Sets change)
    → ¬ (ask ≡ Says sayings.Fini) → EndsOnce (asks_end ask) rest → EndsOnce false (records_of step (effects.Sets change) cuts ++ rest)
change_ends here ask step (changes.Said note) cuts rest said goes_on more = note_ends here.settings.units ask note rest said goes_on more
change_ends here ask step (changes.Side side) cuts rest said goes_on more = still_on (asks_end ask) rest said more
change_ends here ask step changes.Nothing cuts rest said goes_on more = still_on (asks_end ask) rest said more

cuts_end : (z : ℤ) (cuts : List (List Pt)) (rest : List Record) → EndsOnce false rest → EndsOnce false (map (cut_record z) cuts ++ rest)
cuts_end z [] rest more = more
cuts_end z (vertices ∷ cuts) rest more = cuts_end z cuts rest more

step_ends : (here : Situation) (ask : Ask) (step : Step) (e : Effect) (cuts : List (List Pt)) (rest : List Record) → IsSaidBy here ask e → ¬ (ask ≡ Says sayings.Fini)
    → EndsOnce (asks_end ask) rest → EndsOnce false (records_of step e cuts ++ rest)
step_ends here ask step (effects.Defines n f) cuts rest said goes_on more = still_on (asks_end ask) rest said more
step_ends here ask step (effects.Sets change) cuts rest said goes_on more = change_ends here ask step change cuts rest said goes_on more
step_ends here ask step (effects.Moves reach to) cuts rest said goes_on more = still_on (asks_end ask) rest said more
step_ends here ask step (effects.Cuts m n) cuts rest said goes_on more = cuts_end m.start.z cuts rest (still_on (asks_end ask) rest said.0 more)

-- ---- the last step

fini_ends : (ended : Bool) (here : Situation) (step : Step) (deed : Deed) (e : Effect) (cuts : List (List Pt)) → deed ≡ deeds.Fini → effect_of here deed ≡ Some e
    → EndsOnce ended (records_of step e cuts ++ [])
fini_ends ended here step deed e cuts is asked =
    let fini = effects.Sets (changes.Said notes.Fini) in
    let same = same_Some fini e (subst (λ (d : Deed). effect_of here d ≡ Some e) is asked) in
    subst (λ (x : Effect). EndsOnce ended (records_of step x cuts ++ [])) same tt

-- ---- the walk

pub ends_once : (Allowed : Effect → List (List Pt) → Type 0) (ended : Bool) (here : Situation) (steps : List Step) (written : List Record) (behind : Situation)
    → FollowsAs Allowed here steps written behind → StepsEnd ended steps → EndsOnce ended written
ends_once Allowed ended here [] written behind f end = absurd end
ends_once Allowed ended here (step ∷ []) written behind f end =
    let begins = f.3 in
    rw (begins.front, f.5.0) (fini_ends ended here step step.deed f.0 f.1 end begins.asked)
ends_once Allowed ended here (step ∷ next ∷ steps) written behind f end =
    let begins = f.3 in
    let more = ends_once Allowed (is_ended false step.deed) (after here f.0 f.1) (next ∷ steps) f.2 behind f.5 (subst (λ (b : Bool). StepsEnd (is_ended b step.deed) (next ∷ steps)) end.0 end.2) in
    rw (end.0, begins.front) (step_ends here (ask_of step.deed) step f.0 f.1 f.2 (said_by here step.deed f.0 begins.asked) (λ fini. end.1 (fini_asked step.deed fini)) more)
