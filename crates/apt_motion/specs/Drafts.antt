-- What steps write before their arcs are divided: a contour round a circle has no vertices yet.
use Rattle.std.specs.Prelude.{◌≡◌, ℕ, ◌+◌, ◌-◌, nat_lt, sum_by, IfSome, ℤ, Bool, true, false, List, [], ◌∷◌, ◌++◌, length, map, Option, Some, None, Result, Ok, Err, if◌then◌else◌}
use Rattle.apt_plane.specs.declared.figures.Pt.{Pt}
use Rattle.apt_words.specs.declared.Case.{Case}
use Rattle.apt_words.specs.declared.Case.TheVariants as cases
use Rattle.apt_words.specs.declared.Refusal.{Refusal}
use Rattle.apt_words.specs.declared.deed.Step.{Step}
use Rattle.apt_arc.specs.declared.arc.Arc.{Arc}
use Rattle.apt_arc.specs.Made.{divided}
use Rattle.apt_records.specs.declared.record.Position.{Position}
use Rattle.apt_records.specs.declared.record.Record.{Record}
use Rattle.apt_records.specs.declared.record.Record.TheVariants as lines
use Rattle.apt_meaning.specs.declared.situation.Situation.{Situation}
use Rattle.apt_meaning.specs.declared.motion.Motion.{Motion}
use Rattle.apt_meaning.specs.declared.effect.Effect.{Effect}
use Rattle.apt_meaning.specs.declared.effect.Effect.TheVariants as effects
use Rattle.apt_records.specs.Vertices.{at_height}
use Rattle.apt_meaning.specs.Cuts.{arc_of, end_point, motions_of}
use Rattle.apt_meaning.specs.Effects.{effect_of}
use Rattle.apt_meaning.specs.Refusals.{refusal_of}
use Rattle.apt_meaning.specs.Records.{records_of, with_statement, after}
use Rattle.apt_meaning.specs.Compiled.{ends_of, asked, refused_at, most_points}
use Rattle.apt_motion.specs.Acts.{Writing, Nothing, Says, Goes, Cuts, contour_to}

-- ---- what a step leaves to be divided

-- an arc, and the height of its vertices
pub record ArcAt : Type 0 where
  pub arc : Arc
  pub z : ℤ

abbrev pub drawn_by : Pt → Option Arc → List Pt
drawn_by end None = end ∷ []
drawn_by end (Some arc) = []

-- for each leg of a contour the vertices that are known at once
abbrev pub drawn_on : Motion → List Pt
drawn_on m = drawn_by (end_point m) (arc_of m)

abbrev pub drawn : Effect → List (List Pt)
drawn (effects.Defines n f) = []
drawn (effects.Sets change) = []
drawn (effects.Moves reach to) = []
drawn (effects.Cuts m legs) = map drawn_on (motions_of m legs)

abbrev pub round_at : ℤ → Arc → ArcAt
round_at z arc = record { arc = arc; z = z }

abbrev pub rounds_by : ℤ → Option Arc → List ArcAt
rounds_by z None = []
rounds_by z (Some arc) = round_at z arc ∷ []

-- the arcs that are to be divided, with their height
abbrev pub rounds_along : ℤ → List Motion → List ArcAt
rounds_along z [] = []
rounds_along z (m ∷ ms) = rounds_by z (arc_of m) ++ rounds_along z ms

abbrev pub rounds_of : Effect → List ArcAt
rounds_of (effects.Defines n f) = []
rounds_of (effects.Sets change) = []
rounds_of (effects.Moves reach to) = []
rounds_of (effects.Cuts m legs) = rounds_along m.start.z (motions_of m legs)

-- ---- what is taken down

abbrev pub records_by : Step → Writing → List Record
records_by step Nothing = []
records_by step (Says note) = with_statement step (lines.Note note ∷ [])
records_by step (Goes reach to) = with_statement step (lines.Point reach to ∷ [])
records_by step (Cuts m ends) = records_of step (contour_to m ends) (drawn (contour_to m ends))

abbrev pub rounds_for : Writing → List ArcAt
rounds_for Nothing = []
rounds_for (Says note) = []
rounds_for (Goes reach to) = []
rounds_for (Cuts m ends) = rounds_of (contour_to m ends)

-- ---- the draft of steps

-- the records of all steps up to the first that a case refuses, their arcs in order, and that refusal
pub record Draft : Type 0 where
  pub records : List Record
  pub rounds : List ArcAt
  pub refusal : Option Refusal

abbrev pub blank : Option Refusal → Draft
blank refusal = record { records = []; rounds = []; refusal = refusal }

abbrev pub behind : List Record → List ArcAt → Draft → Draft
behind front first d = record { records = front ++ d.records; rounds = first ++ d.rounds; refusal = d.refusal }

abbrev pub or_stopped : Step → Result Effect Case → (Effect → Draft) → Draft
or_stopped step (Err case) more = blank (Some (refused_at step case))
or_stopped step (Ok e) more = behind (records_of step e (drawn e)) (rounds_of e) (more e)

abbrev pub draft_from : Situation → List Step → Draft
draft_from here [] = blank None
draft_from here (step ∷ steps) =
    or_stopped step (asked (refusal_of here step.deed) (effect_of here step.deed)) (λ e. draft_from (after here e (ends_of e)) steps)

-- ---- how many vertices there are

-- the vertices of a divided arc, and their number
abbrev pub vertices_at : ArcAt → List Position
vertices_at q = map (at_height q.z) (divided q.arc)

abbrev pub chords_of : ArcAt → ℕ
chords_of q = length (divided q.arc)

-- a contour without vertices is still to be divided
abbrev pub is_open : Record → Bool
is_open (lines.Statement line step) = false
is_open (lines.Note note) = false
is_open (lines.Drive surface side sense) = false
is_open (lines.Check surface how) = false
is_open (lines.Point reach to) = false
is_open (lines.Contour []) = true
is_open (lines.Contour (p ∷ ps)) = false

abbrev pub known : Record → ℕ
known (lines.Contour vertices) = length vertices
known _ = 0

-- beside these records a program may have so many vertices more, where it may have theirs
abbrev pub HasRoom : List Record → Option ℕ → Type 0
HasRoom rs room = IfSome room (λ left. sum_by known rs + left ≡ most_points)

-- what a step writes goes behind the records and the arcs before, with the room that is left then
pub record IsTakenDown (before now : List Record) (first later : List ArcAt) (beside left : Option ℕ) (step : Step) (w : Writing) : Type 0 where
  pub records : now ≡ before ++ records_by step w
  pub rounds : later ≡ first ++ rounds_for w
  pub room : HasRoom before beside → HasRoom now left

-- ---- too many vertices

abbrev pub first_or_none : List ℕ → ℕ
first_or_none [] = 0
first_or_none (n ∷ ns) = n

abbrev pub behind_first : List ℕ → List ℕ
behind_first [] = []
behind_first (n ∷ ns) = ns

-- how many vertices a record has, where its arc has the first of these numbers, and the numbers that are left behind it
abbrev pub weight : Record → List ℕ → ℕ
weight r sizes = if is_open r then first_or_none sizes else known r

abbrev pub left_behind : Record → List ℕ → List ℕ
left_behind r sizes = if is_open r then behind_first sizes else sizes

-- the line and the number of the step to which a record belongs
abbrev pub Mark : Type 0
Mark = ℕ × ℕ

abbrev pub mark_at : Record → Mark → Mark
mark_at (lines.Statement line step) mark = (line, step)
mark_at _ mark = mark

abbrev pub overfull : Mark → Refusal
overfull mark = record { line = mark.0; step = mark.1; case = cases.TooManyPoints }

-- the first step with which there are more vertices than may be left, by the numbers of the arcs' vertices in order
abbrev pub too_many : ℕ → Mark → List Record → List ℕ → Option Refusal
too_many left mark [] sizes = None
too_many left mark (r ∷ rs) sizes =
    if nat_lt left (weight r sizes) then Some (overfull (mark_at r mark))
    else too_many (left - weight r sizes) (mark_at r mark) rs (left_behind r sizes)

abbrev pub nowhere : Mark
nowhere = (0, 0)

abbrev pub past_limit : List Record → List ArcAt → Option Refusal
past_limit rs qs = too_many most_points nowhere rs (map chords_of qs)

-- ---- the vertices of the arcs go into their contours

-- a contour that is to be divided takes the first, and the others are left
abbrev pub given : Record → List (List Position) → Record
given r [] = r
given r (cut ∷ cuts) = if is_open r then lines.Contour cut else r

abbrev pub cuts_behind : Record → List (List Position) → List (List Position)
cuts_behind r [] = []
cuts_behind r (cut ∷ cuts) = if is_open r then cuts else cut ∷ cuts

abbrev pub filled : List Record → List (List Position) → List Record
filled [] cuts = []
filled (r ∷ rs) cuts = given r cuts ∷ filled rs (cuts_behind r cuts)

-- ---- what a draft comes to

abbrev pub or_refusal : Option Refusal → Result (List Record) Refusal → Result (List Record) Refusal
or_refusal (Some refusal) more = Err refusal
or_refusal None more = more

-- the first step that has too many vertices where so many may be left, else the one that a case refuses, else the records with all their vertices
abbrev pub finished : ℕ → Mark → Draft → Result (List Record) Refusal
finished left mark d = or_refusal (too_many left mark d.records (map chords_of d.rounds)) (or_refusal d.refusal (Ok (filled d.records (map vertices_at d.rounds))))
