-- What the records of a step must be, one after the other, and the first record that isn't.
use Rattle.std.specs.Prelude.{◌≡◌, ◌⊎◌, ◌+◌, ℕ, zero, suc, ℤ, Bool, true, false, List, [], ◌∷◌, length, map, Option, Some, None}
use Rattle.apt_plane.specs.declared.figures.Pt.{Pt}
use Rattle.apt_words.specs.declared.deed.Step.{Step}
use Rattle.apt_records.specs.declared.record.Record.{Record}
use Rattle.apt_records.specs.declared.record.Record.TheVariants as records
use Rattle.apt_meaning.specs.declared.situation.Situation.{Situation}
use Rattle.apt_stop.specs.declared.legs.Legs.{Legs}
use Rattle.apt_stop.specs.declared.legs.Legs.TheVariants as the_legs
use Rattle.apt_meaning.specs.declared.effect.Change.TheVariants as changes
use Rattle.apt_meaning.specs.declared.effect.Effect.{Effect}
use Rattle.apt_meaning.specs.declared.effect.Effect.TheVariants as effects
use Rattle.apt_records.specs.Vertices.{at_height}
use Rattle.apt_meaning.specs.Motions.{has_track, has_stop}
use Rattle.apt_meaning.specs.Effects.{effect_of}
use Rattle.apt_meaning.specs.Records.{Begins, records_of, after}

-- a record word for word; the vertices of a contour, at a height; or no record at all, where what it would tell is not there
pub data Expectation : Type 0 where
  Exactly : Record → Expectation
  VerticesAt : ℤ → Expectation
  Nothing : Expectation

abbrev pub exactly_if : Bool → Record → Expectation
exactly_if true r = Exactly r
exactly_if false r = Nothing

-- a contour record for each leg
abbrev pub each_leg : Legs → Expectation → List Expectation
each_leg the_legs.One x = x ∷ []
each_leg the_legs.Two x = x ∷ x ∷ []

abbrev pub expected_of : Option Effect → List Expectation
expected_of None = Nothing ∷ []
expected_of (Some (effects.Defines n f)) = []
expected_of (Some (effects.Sets (changes.Said note))) = Exactly (records.Note note) ∷ []
expected_of (Some (effects.Sets (changes.Side side))) = []
expected_of (Some (effects.Sets changes.Nothing)) = []
expected_of (Some (effects.Moves reach to)) = Exactly (records.Point reach to) ∷ []
expected_of (Some (effects.Cuts m legs)) =
    exactly_if (has_track m) (records.Drive m.drive m.side m.sense) ∷ exactly_if (has_stop m) (records.Check m.check m.how) ∷ each_leg legs (VerticesAt m.start.z)

abbrev pub behind_statement : Step → List Expectation → List Expectation
behind_statement step [] = []
behind_statement step (x ∷ xs) = Exactly (records.Statement step.line step.step) ∷ x ∷ xs

-- the records of a step where something holds
abbrev pub expected : Situation → Step → List Expectation
expected here step = behind_statement step (expected_of (effect_of here step.deed))

-- a record is as expected, with these vertices
abbrev pub Meets : Expectation → Record → List Pt → Type 0
Meets (Exactly due) r vertices = (r ≡ due) × (vertices ≡ [])
Meets (VerticesAt z) (records.Statement line step) vertices = ⊥
Meets (VerticesAt z) (records.Note note) vertices = ⊥
Meets (VerticesAt z) (records.Drive surface side sense) vertices = ⊥
Meets (VerticesAt z) (records.Check surface how) vertices = ⊥
Meets (VerticesAt z) (records.Point reach to) vertices = ⊥
Meets (VerticesAt z) (records.Contour positions) vertices = positions ≡ map (at_height z) vertices
Meets Nothing r vertices = ⊥

-- so many records are as expected, and the next is not, or is missing
abbrev pub Departs : List Expectation → List Record → ℕ → Type 0
Departs [] rs k = ⊥
Departs (x ∷ xs) [] k = k ≡ 0
Departs (x ∷ xs) (r ∷ rs) zero = ¬ ((vertices : List Pt) × Meets x r vertices)
Departs (x ∷ xs) (r ∷ rs) (suc k) = ((vertices : List Pt) × Meets x r vertices) × Departs xs rs k

-- records cease to answer steps at the record with this number, where the first of them has the number seq
abbrev pub FailsAt : Situation → ℕ → List Step → List Record → ℕ → Type 0
FailsAt here seq [] [] k = ⊥
FailsAt here seq [] (r ∷ rs) k = k ≡ seq
FailsAt here seq (step ∷ steps) written k =
    ((j : ℕ) × Departs (expected here step) written j × (k ≡ seq + j))
    ⊎ ((e : Effect) × (cuts : List (List Pt)) × (rest : List Record)
    × Begins here step written e cuts rest × FailsAt (after here e cuts) (seq + length (records_of step e cuts)) steps rest k)
