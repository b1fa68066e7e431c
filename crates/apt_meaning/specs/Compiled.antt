-- The compiler's walk over steps, on which every contour runs to its contact: the first step that is refused, and the records.
use Rattle.std.specs.Prelude.{ℕ, ◌+◌, nat_lt, List, [], ◌∷◌, ◌++◌, map, Option, Some, None, Result, Ok, Err, if◌then◌else◌}
use Rattle.apt_plane.specs.declared.figures.Pt.{Pt}
use Rattle.apt_words.specs.declared.Case.{Case}
use Rattle.apt_words.specs.declared.Case.TheVariants as cases
use Rattle.apt_words.specs.declared.Refusal.{Refusal}
use Rattle.apt_words.specs.declared.deed.Step.{Step}
use Rattle.apt_words.specs.Asks.{Ask}
use Rattle.apt_words.specs.Rows.{first_of}
use Rattle.apt_records.specs.declared.record.Record.{Record}
use Rattle.apt_meaning.specs.declared.situation.Situation.{Situation}
use Rattle.apt_meaning.specs.declared.effect.Effect.{Effect}
use Rattle.apt_meaning.specs.declared.effect.Effect.TheVariants as effects
use Rattle.apt_meaning.specs.Cuts.{end_point, vertices_of, motions_of}
use Rattle.apt_meaning.specs.Effects.{effect_by, effect_of}
use Rattle.apt_meaning.specs.Refusals.{cases_by, refusal_of}
use Rattle.apt_meaning.specs.Vertices.{cut_points}
use Rattle.apt_meaning.specs.Records.{records_of, after}

-- for each leg of a contour its end
abbrev pub ends_of : Effect → List (List Pt)
ends_of (effects.Defines n f) = []
ends_of (effects.Sets change) = []
ends_of (effects.Moves reach to) = []
ends_of (effects.Cuts m legs) = map (λ n. end_point n ∷ []) (motions_of m legs)

-- and the vertices that it writes
abbrev pub points_of : Effect → List (List Pt)
points_of (effects.Defines n f) = []
points_of (effects.Sets change) = []
points_of (effects.Moves reach to) = []
points_of (effects.Cuts m legs) = map vertices_of (motions_of m legs)

-- how many vertices all legs of a contour have
abbrev pub point_number : Effect → ℕ
point_number e = cut_points (points_of e)

abbrev pub refused_at : Step → Case → Refusal
refused_at step case = record { line = step.line; step = step.step; case = case }

-- what a step asks for, or the first case that refuses it; no step is without a case and without an effect
abbrev pub asked : Option Case → Option Effect → Result Effect Case
asked (Some case) e = Err case
asked None None = Err cases.Undefined
asked None (Some e) = Ok e

-- the same by what the step is asked
abbrev pub asked_by : Situation → Ask → Result Effect Case
asked_by here ask = asked (first_of (cases_by here ask)) (effect_by here ask)

-- a program has at most so many vertices of contours
abbrev pub most_points : ℕ
most_points = 500000

-- the same, behind so many vertices
abbrev pub asked_within : ℕ → Result Effect Case → Result Effect Case
asked_within so_far (Err case) = Err case
asked_within so_far (Ok e) = if nat_lt most_points (so_far + point_number e) then Err cases.TooManyPoints else Ok e

-- ---- the steps alone

abbrev pub or_first : Step → Result Effect Case → (Effect → Option Refusal) → Option Refusal
or_first step (Err case) more = Some (refused_at step case)
or_first step (Ok e) more = more e

-- the first step that a case refuses
abbrev pub first_refused : Situation → List Step → Option Refusal
first_refused here [] = None
first_refused here (step ∷ steps) =
    or_first step (asked (refusal_of here step.deed) (effect_of here step.deed)) (λ e. first_refused (after here e (ends_of e)) steps)

-- ---- their records

abbrev pub or_refused : Step → Result Effect Case → (Effect → Result (List Record) Refusal) → Result (List Record) Refusal
or_refused step (Err case) more = Err (refused_at step case)
or_refused step (Ok e) more = more e

abbrev pub with_front : List Record → Result (List Record) Refusal → Result (List Record) Refusal
with_front front (Ok rest) = Ok (front ++ rest)
with_front front (Err refusal) = Err refusal

-- the records of all steps behind so many vertices, or the first step that a case refuses, or that has too many
abbrev pub compilation_behind : ℕ → Situation → List Step → Result (List Record) Refusal
compilation_behind so_far here [] = Ok []
compilation_behind so_far here (step ∷ steps) =
    or_refused step (asked_within so_far (asked (refusal_of here step.deed) (effect_of here step.deed)))
    (λ e. with_front (records_of step e (points_of e)) (compilation_behind (so_far + point_number e) (after here e (ends_of e)) steps))

-- the records of all steps, or the first step that is refused
abbrev pub compilation : Situation → List Step → Result (List Record) Refusal
compilation here steps = compilation_behind 0 here steps
