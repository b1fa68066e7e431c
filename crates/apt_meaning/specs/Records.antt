-- Which records answer which steps: what an effect writes, what it leaves, and the walk over both.
use Rattle.std.specs.Prelude.{◌≡◌, ◌≤◌, ℤ, pos, ◌<ℤ◌, true, List, [], ◌∷◌, ◌++◌, length, map, Some}
use Rattle.apt_num.specs.Sign.{sign_of}
use Rattle.apt_plane.specs.declared.figures.Pt.{Pt}
use Rattle.apt_plane.specs.declared.figures.Dir.{Dir}
use Rattle.apt_plane.specs.Vectors.{displacement, dot, length_squared}
use Rattle.apt_words.specs.declared.Go.TheVariants as turns
use Rattle.apt_words.specs.declared.deed.Step.{Step}
use Rattle.apt_records.specs.declared.record.Record.{Record}
use Rattle.apt_records.specs.declared.record.Record.TheVariants as records
use Rattle.apt_defs.specs.Figures.{table_with}
use Rattle.apt_offset.specs.Turns.{tangent, turn, opposite}
use Rattle.apt_stop.specs.Nearness.{heading}
use Rattle.apt_stop.specs.Legs.{leg_count}
use Rattle.apt_certify.specs.Legal.{last_of}
use Rattle.apt_certify.specs.Legs.{IsStep}
use Rattle.apt_meaning.specs.declared.situation.Situation.{Situation}
use Rattle.apt_meaning.specs.declared.motion.Motion.{Motion}
use Rattle.apt_meaning.specs.declared.effect.Change.{Change}
use Rattle.apt_meaning.specs.declared.effect.Change.TheVariants as changes
use Rattle.apt_meaning.specs.declared.effect.Effect.{Effect}
use Rattle.apt_meaning.specs.declared.effect.Effect.TheVariants as effects
use Rattle.apt_meaning.specs.Situations.{first_situation, changed, settings_behind, forward_behind}
use Rattle.apt_records.specs.Vertices.{at_height}
use Rattle.apt_meaning.specs.Motions.{is_defined}
use Rattle.apt_meaning.specs.Effects.{effect_of}
use Rattle.apt_meaning.specs.Paths.{Told, radius_by, said_of, Contour, Due, first_leg, next_leg, cut_on}

-- ---- what an effect writes and leaves; only a contour has cuts: for each of its legs the vertices behind its start

-- a note has its record; the side of the cutter is told by the contours behind it
abbrev pub change_records : Change → List Record
change_records (changes.Said note) = records.Note note ∷ []
change_records (changes.Side side) = []
change_records changes.Nothing = []

-- a contour keeps the height
abbrev pub cut_record : ℤ → List Pt → Record
cut_record z vertices = records.Contour (map (at_height z) vertices)

-- the records of an effect: a contour has its drive record, its check record, and a contour record for each leg
abbrev pub effect_records : Effect → List (List Pt) → List Record
effect_records (effects.Defines n f) cuts = []
effect_records (effects.Sets change) cuts = change_records change
effect_records (effects.Moves reach to) cuts = records.Point reach to ∷ []
effect_records (effects.Cuts m legs) cuts = records.Drive m.drive m.side m.sense ∷ records.Check m.check m.how ∷ map (cut_record m.start.z) cuts

-- the records of a step begin with its line and number
abbrev pub with_statement : Step → List Record → List Record
with_statement step [] = []
with_statement step (r ∷ rs) = records.Statement step.line step.step ∷ r ∷ rs

-- the records of a step and of what it asks for
abbrev pub records_of : Step → Effect → List (List Pt) → List Record
records_of step e cuts = with_statement step (effect_records e cuts)

-- where the legs of a contour lead from a point
abbrev pub last_behind : Pt → List (List Pt) → Pt
last_behind p [] = p
last_behind p (vertices ∷ cuts) = last_behind (last_of p vertices) cuts

-- the situation behind a contour that ends at a point: forward is the tangent of the drive surface there, in its sense
abbrev pub cut_at : Situation → Motion → Pt → Situation
cut_at here m end = record here {
  settings = record here.settings { side = m.side };
  position = Some (at_height m.start.z end);
  forward = heading m.sense (tangent m.drive end);
}

-- forward leads on behind a contour: it has a positive scalar product with each step along the drive surface that ends there, as with the last segment of a legal one
abbrev pub LeadsOn : Motion → Pt → Dir → Type 0
LeadsOn m end forward = (start a : Pt) → IsStep m.drive m.sense start a end → pos 0 <ℤ dot forward (displacement a end)

-- and a contour from there along the same drive surface goes on in the same sense under GOFWD, and in the other under GOBACK
abbrev pub GoesOn : Motion → Pt → Dir → Type 0
GoesOn m end forward =
    let along = tangent m.drive end in
    1 ≤ length_squared along → (turn forward along turns.Forward ≡ sign_of m.sense) × (turn forward along turns.Back ≡ opposite (sign_of m.sense))

-- the situation behind an effect
abbrev pub after : Situation → Effect → List (List Pt) → Situation
after here (effects.Defines n f) cuts = record here { table = table_with here.table n f }
after here (effects.Sets change) cuts = record here { settings = changed here.settings change }
after here (effects.Moves reach to) cuts = record here {
  settings = settings_behind reach here.settings;
  position = Some to;
  forward = forward_behind here.position to.xy here.forward;
}
after here (effects.Cuts m legs) cuts = cut_at here m (last_behind m.start.xy cuts)

-- the legs behind one that is due, each with its vertices
abbrev pub legs_from : Due → List (List Pt) → List Contour
legs_from d [] = []
legs_from d (vertices ∷ cuts) = cut_on d vertices ∷ legs_from (next_leg d vertices) cuts

-- the legs of an effect
abbrev pub contours_by : Effect → List (List Pt) → List Contour
contours_by (effects.Defines n f) cuts = []
contours_by (effects.Sets change) cuts = []
contours_by (effects.Moves reach to) cuts = []
contours_by (effects.Cuts m legs) cuts = legs_from (first_leg m) cuts

-- ---- the walk

-- only a contour has cuts, one for each of its legs, and its track and its stop are there
abbrev pub MayHave : Effect → List (List Pt) → Type 0
MayHave (effects.Defines n f) cuts = cuts ≡ []
MayHave (effects.Sets change) cuts = cuts ≡ []
MayHave (effects.Moves reach to) cuts = cuts ≡ []
MayHave (effects.Cuts m legs) cuts = (is_defined m ≡ true) × (length cuts ≡ leg_count legs)

-- the records begin with those of the step's effect, whose contour has these cuts, and rest is behind them
pub record Begins (here : Situation) (step : Step) (written : List Record) (e : Effect) (cuts : List (List Pt)) (rest : List Record) : Type 0 where
  pub asked : effect_of here step.deed ≡ Some e
  pub front : written ≡ records_of step e cuts ++ rest
  pub may : MayHave e cuts

-- records follow steps from the situation before them to the one behind, each contour with cuts as Allowed says
abbrev pub FollowsAs : (Effect → List (List Pt) → Type 0) → Situation → List Step → List Record → Situation → Type 0
FollowsAs Allowed here [] written behind = (written ≡ []) × (behind ≡ here)
FollowsAs Allowed here (step ∷ steps) written behind =
    (e : Effect) × (cuts : List (List Pt)) × (rest : List Record)
    × Begins here step written e cuts rest × Allowed e cuts × FollowsAs Allowed (after here e cuts) steps rest behind

-- ---- what holds behind records, beside what they say by themselves

-- a situation has the settings, the position and the forward direction that records have said
pub record IsAsSaid (s : Told) (here : Situation) : Type 0 where
  pub units : here.settings.units ≡ s.units
  pub radius : here.settings.radius ≡ radius_by s.diameter
  pub intol : here.settings.intol ≡ s.intol
  pub outtol : here.settings.outtol ≡ s.outtol
  pub feed : here.settings.feed ≡ s.feed
  pub rapid : here.settings.rapid ≡ s.rapid
  pub position : here.position ≡ s.position
  pub forward : here.forward ≡ s.forward

-- a contour may have any vertices
abbrev pub HasAny : Effect → List (List Pt) → Type 0
HasAny e cuts = Unit {0}

-- records follow the steps of a program, each contour with any vertices, and the situation behind them is what they say by themselves
pub record Follows (steps : List Step) (written : List Record) : Type 0 where
  pub behind : Situation
  pub follow : FollowsAs HasAny first_situation steps written behind
  pub tells : IsAsSaid (said_of written) behind
