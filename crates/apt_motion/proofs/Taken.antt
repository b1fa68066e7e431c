-- What a draft takes down of a step.
use Rattle.std.proofs.Common.{◌≡◌, ◌∙◌, ℕ, List, [], ◌++◌, Option, Some, None, refl, sym, ap, subst, append-nil, arith}
use Rattle.std.specs.Prelude.{sum_by}
use Rattle.std.proofs.lemmas.List.Sums.{sum_by-append}
use Rattle.apt_words.specs.declared.deed.Step.{Step}
use Rattle.apt_stop.specs.Legs.{ends_of as ends_at}
use Rattle.apt_stop.specs.declared.legs.Legs.{Legs}
use Rattle.apt_records.specs.declared.record.Record.{Record}
use Rattle.apt_meaning.specs.declared.effect.Change.TheVariants as changes
use Rattle.apt_meaning.specs.declared.effect.Effect.{Effect}
use Rattle.apt_meaning.specs.declared.effect.Effect.TheVariants as effects
use Rattle.apt_meaning.specs.Motions.{course_of}
use Rattle.apt_meaning.specs.Records.{records_of}
use Rattle.apt_motion.specs.Acts.{Writing, HasTaken, writing_of}
use Rattle.apt_motion.specs.Drafts.{ArcAt, drawn, rounds_of, known, HasRoom, IsTakenDown}
use Rattle.apt_motion.proofs.Cuts.{counts}

-- an effect's records and arcs go behind those before
pub record IsDrawn (before now : List Record) (first later : List ArcAt) (beside left : Option ℕ) (step : Step) (e : Effect) : Type 0 where
  pub records : now ≡ before ++ records_of step e (drawn e)
  pub rounds : later ≡ first ++ rounds_of e
  pub room : HasRoom before beside → HasRoom now left

-- nothing is written
as_it_was : {P : Type 0} (records : P → List Record) (rounds : P → List ArcAt) (room : P → Option ℕ) (before now : P) (step : Step) (e : Effect) → records_of step e (drawn e) ≡ [] → rounds_of e ≡ [] → now ≡ before
    → IsDrawn (records before) (records now) (rounds before) (rounds now) (room before) (room now) step e
as_it_was records rounds room before now step e none no_rounds same = record {
  records = ap records same ∙ sym (ap (λ (rs : List Record). records before ++ rs) none ∙ append-nil (records before));
  rounds = ap rounds same ∙ sym (ap (λ (qs : List ArcAt). rounds before ++ qs) no_rounds ∙ append-nil (rounds before));
  room = λ has. subst (λ p. HasRoom (records p) (room p)) (sym same) has;
}

pub taken_down : {P : Type 0} (records : P → List Record) (rounds : P → List ArcAt) (room : P → Option ℕ) (before now : P) (step : Step) (e : Effect)
    → HasTaken (λ b n s w. IsTakenDown (records b) (records n) (rounds b) (rounds n) (room b) (room n) s w) before now step (writing_of e)
    → IsDrawn (records before) (records now) (rounds before) (rounds now) (room before) (room now) step e
taken_down records rounds room before now step (effects.Defines n f) taken = as_it_was records rounds room before now step (effects.Defines n f) refl refl taken
taken_down records rounds room before now step (effects.Sets (changes.Said note)) taken = record { records = taken.records; rounds = taken.rounds; room = taken.room }
taken_down records rounds room before now step (effects.Sets (changes.Side side)) taken = as_it_was records rounds room before now step (effects.Sets (changes.Side side)) refl refl taken
taken_down records rounds room before now step (effects.Sets changes.Nothing) taken = as_it_was records rounds room before now step (effects.Sets changes.Nothing) refl refl taken
taken_down records rounds room before now step (effects.Moves reach to) taken = record { records = taken.records; rounds = taken.rounds; room = taken.room }
taken_down records rounds room before now step (effects.Cuts m k) taken =
    let same = λ (j : Legs). effects.Cuts m j in
    record {
      records = taken.records ∙ ap (λ (j : Legs). records before ++ records_of step (same j) (drawn (same j))) (counts k (course_of m));
      rounds = taken.rounds ∙ ap (λ (j : Legs). rounds before ++ rounds_of (same j)) (counts k (course_of m));
      room = taken.room;
    }

-- records that have no vertices leave the room as it is
pub as_much_room : (room : Option ℕ) (before front begun : List Record) → sum_by known front ≡ 0 → begun ≡ before ++ front → HasRoom before room → HasRoom begun room
as_much_room None before front begun none is has = has
as_much_room (Some left) before front begun none is has = rw is (omega (arith, has, none, sum_by-append known before front))
