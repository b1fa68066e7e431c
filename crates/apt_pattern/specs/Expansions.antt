-- The plain steps of steps: what holds before a step, which case refuses it, and what comes in its place.
use Rattle.std.specs.Prelude.{◌≡◌, ℕ, ◌+◌, nat_lt, nat_eq, ℤ, pos, int_le, ◌&&◌, not, Bool, unsigned_abs, is_some, unwrap_or, List, [], ◌∷◌, ◌++◌, map, length, Option, Some, None, Result, Ok, Err}
use Rattle.std.specs.Cmp.Lexicographic.{pointwise}
use Rattle.std.specs.Map.{lookup}
use Rattle.indexmap.specs.IndexMap.{insert_entry}
use Rattle.apt_words.specs.Asks.{Ask, Titles, Says, Sets, Defines, Goes, Cuts, Nothing, ask_of}
use Rattle.apt_words.specs.Drills.{drill_of}
use Rattle.apt_words.specs.Rows.{Row, first_of}
use Rattle.apt_words.specs.declared.Case.{Case}
use Rattle.apt_words.specs.declared.Case.TheVariants as cases
use Rattle.apt_words.specs.declared.Refusal.{Refusal}
use Rattle.apt_words.specs.declared.Units.{Units}
use Rattle.apt_words.specs.declared.Units.TheVariants as the_units
use Rattle.apt_words.specs.declared.ask.Form.{Form}
use Rattle.apt_words.specs.declared.ask.Place.{Place}
use Rattle.apt_words.specs.declared.ask.Route.{Route}
use Rattle.apt_words.specs.declared.ask.Route.TheVariants as routes
use Rattle.apt_words.specs.declared.ask.Saying.{Saying}
use Rattle.apt_words.specs.declared.deed.Deed.{Deed}
use Rattle.apt_words.specs.declared.deed.Step.{Step}
use Rattle.apt_words.specs.declared.drill.Drill.{Drill}
use Rattle.apt_words.specs.declared.drill.Drill.TheVariants as drills
use Rattle.apt_scalar.specs.Scalars.{grid_units, whole}
use Rattle.apt_records.specs.declared.record.Position.{Position}
use Rattle.apt_defs.specs.declared.figure.Figure.{Figure}
use Rattle.apt_defs.specs.Figures.{Table, figure_named, table_with}
use Rattle.apt_defs.specs.Definitions.{figure_of}
use Rattle.apt_meaning.specs.Compiled.{refused_at}
use Rattle.apt_meaning.specs.Effects.{note_of, place_in, placed}
use Rattle.apt_meaning.specs.Refusals.{point_cases, placed_cases}
use Rattle.apt_post.specs.Plan.{note_units}
use Rattle.apt_unroll.specs.Trace.{Trace, behind as with_front}
use Rattle.apt_pattern.specs.declared.cycle.Cycle.{Cycle}
use Rattle.apt_pattern.specs.declared.pattern.Pattern.{Pattern}
use Rattle.apt_pattern.specs.Patterns.{points_of, visits}

-- ---- what holds before a step

-- names with their latest patterns
abbrev pub Patterns : Type 0
Patterns = List (List ℕ × Pattern)

abbrev pub pattern_named : Patterns → List ℕ → Option Pattern
pattern_named patterns name = lookup (pointwise nat_eq name) patterns

-- the units, the figures of names and the patterns of others, the cycle, and how many points were visited
pub record Drilling : Type 0 where
  pub units : Units
  pub table : Table
  pub patterns : Patterns
  pub cycle : Option Cycle
  pub holes : ℕ

abbrev pub nothing_drilled : Drilling
nothing_drilled = record { units = the_units.Inch; table = []; patterns = []; cycle = None; holes = 0 }

-- ---- the cases

-- a pattern has from 2 to 1,000 points
abbrev pub is_count : ℤ → Bool
is_count n = int_le (pos 2) n && int_le n (pos 1000)

abbrev pub pattern_cases : Drilling → List ℕ → List ℕ → List ℕ → ℤ → List Row
pattern_cases d name p q n =
    point_cases d.table p (point_cases d.table q
    ((is_some (figure_named d.table name), cases.WrongKind) ∷ (not (is_count n), cases.BadCount) ∷ []))

-- a depth and a clearance, in grid units
abbrev pub is_deep : ℤ → Bool
is_deep g = int_le (pos 1) g && int_le g (pos 1000000)

abbrev pub cycle_cases : Cycle → List Row
cycle_cases cycle = (not (is_deep cycle.depth), cases.OutOfRange) ∷ (not (is_deep cycle.clearance), cases.OutOfRange) ∷ []

-- a definition of a name that is a pattern
abbrev pub definition_cases : Patterns → List ℕ → List Row
definition_cases patterns name = (is_some (pattern_named patterns name), cases.WrongKind) ∷ []

-- a program visits at most so many points of patterns and holes
abbrev pub most_holes : ℕ
most_holes = 5000

abbrev pub visit_cases : Drilling → ℕ → List Row
visit_cases d n = (nat_lt most_holes (d.holes + n), cases.TooManyHoles) ∷ []

-- ---- what a step comes to

-- the deeds in its place, and what holds behind it; or the case that refuses it; or that it is a definition which its own case refuses
pub data Outcome : Type 0 where
  Comes : List Deed → Drilling → Outcome
  Refused : Case → Outcome
  Stops : Outcome

abbrev pub or_case : Option Case → Outcome → Outcome
or_case None outcome = outcome
or_case (Some case) outcome = Refused case

abbrev pub unless_case : List Row → Outcome → Outcome
unless_case rows outcome = or_case (first_of rows) outcome

-- a step that stays as it is
abbrev pub stays : Deed → Drilling → Outcome
stays deed d = Comes (deed ∷ []) d

-- points are visited
abbrev pub visited : Drilling → List Position → Outcome
visited d ps = Comes (visits d.units d.cycle ps) (record d { holes = d.holes + length ps })

abbrev pub visited_one : Drilling → Option Position → Outcome
visited_one d None = Refused cases.Undefined
visited_one d (Some p) = visited d (p ∷ [])

-- GOTO a place: it stays where there is no cycle, and else drills
abbrev pub gone_to : Drilling → Deed → Place → Option Cycle → Outcome
gone_to d deed place None = stays deed d
gone_to d deed place (Some cycle) = unless_case (placed_cases d.units d.table place (visit_cases d 1)) (visited_one d (placed d.units d.table place))

abbrev pub gone : Drilling → Deed → Route → Outcome
gone d deed (routes.From place) = stays deed d
gone d deed (routes.Goto place) = gone_to d deed place d.cycle
gone d deed (routes.By x y z) = stays deed d
gone d deed (routes.Start how name other) = stays deed d

-- a name gets a figure
abbrev pub defined_as : Drilling → Deed → List ℕ → Result Figure Case → Outcome
defined_as d deed name (Ok f) = stays deed (record d { table = table_with d.table name f })
defined_as d deed name (Err case) = Stops

abbrev pub defined : Drilling → Deed → List ℕ → Form → Outcome
defined d deed name form = unless_case (definition_cases d.patterns name) (defined_as d deed name (figure_of d.units d.table form))

-- UNITS alone changes the units
abbrev pub units_behind : Units → Saying → Units
units_behind units saying = unwrap_or (note_units (note_of units saying)) units

-- a step that asks for what is no pattern and no cycle
abbrev pub plain : Drilling → Deed → Ask → Outcome
plain d deed (Titles text) = stays deed d
plain d deed (Says saying) = stays deed (record d { units = units_behind d.units saying })
plain d deed (Sets side) = stays deed d
plain d deed (Defines name form) = defined d deed name form
plain d deed (Goes route) = gone d deed route
plain d deed (Cuts contour n) = stays deed d
plain d deed Nothing = stays deed d

-- a name gets a pattern
abbrev pub patterned_as : Drilling → List ℕ → ℤ → Option Position → Option Position → Outcome
patterned_as d name n None to = Refused cases.Undefined
patterned_as d name n (Some from) None = Refused cases.Undefined
patterned_as d name n (Some from) (Some to) =
    Comes [] (record d { patterns = insert_entry (pointwise nat_eq) d.patterns name (record { from = from; to = to; count = unsigned_abs n }) })

abbrev pub patterned : Drilling → List ℕ → List ℕ → List ℕ → ℤ → Outcome
patterned d name p q n = unless_case (pattern_cases d name p q n) (patterned_as d name n (place_in d.table p) (place_in d.table q))

abbrev pub cycled : Drilling → Cycle → Outcome
cycled d cycle = unless_case (cycle_cases cycle) (Comes [] (record d { cycle = Some cycle }))

abbrev pub cycle_of : Units → ℤ → ℤ → Cycle
cycle_of units depth clearance = record { depth = grid_units units depth; clearance = grid_units units clearance }

abbrev pub visited_all : Drilling → Option Pattern → Outcome
visited_all d None = Refused cases.Undefined
visited_all d (Some pattern) = unless_case (visit_cases d pattern.count) (visited d (points_of pattern))

abbrev pub drilled : Drilling → Drill → Outcome
drilled d (drills.Pattern name p q v) = patterned d name p q (whole v)
drilled d (drills.Cycle depth clearance) = cycled d (cycle_of d.units depth clearance)
drilled d drills.Off = Comes [] (record d { cycle = None })
drilled d (drills.Visit name) = visited_all d (pattern_named d.patterns name)

abbrev pub outcome_by : Drilling → Deed → Option Drill → Outcome
outcome_by d deed None = plain d deed (ask_of deed)
outcome_by d deed (Some drill) = drilled d drill

abbrev pub outcome : Drilling → Deed → Outcome
outcome d deed = outcome_by d deed (drill_of deed)

-- ---- all steps

-- a plain step has the line and the number of the step in whose place it comes
abbrev pub in_place : Step → Deed → Step
in_place st deed = record { line = st.line; step = st.step; deed = deed }

abbrev pub plain_steps : Step → List Deed → List Step
plain_steps st ds = map (in_place st) ds

abbrev pub expanded_by : Step → Outcome → (Drilling → Trace) → Trace
expanded_by st (Comes ds now) more = with_front (plain_steps st ds) (more now)
expanded_by st (Refused case) more = record { steps = []; fault = Some (refused_at st case) }
expanded_by st Stops more = record { steps = st ∷ []; fault = None }

-- the plain steps of steps, up to the first that is refused; and that refusal, else the one behind the last step
abbrev pub expanded_from : Drilling → List Step → Option Refusal → Trace
expanded_from d [] fault = record { steps = []; fault = fault }
expanded_from d (st ∷ sts) fault = expanded_by st (outcome d st.deed) (λ now. expanded_from now sts fault)

abbrev pub expansion : List Step → Option Refusal → Trace
expansion sts fault = expanded_from nothing_drilled sts fault

-- ---- the same as a relation

-- steps are replaced by plain steps, each by its own, from what holds before them to what holds behind the last
abbrev pub Expands : Drilling → List Step → List Step → Drilling → Type 0
Expands d [] plain behind = (plain ≡ []) × (behind ≡ d)
Expands d (st ∷ sts) plain behind =
    (ds : List Deed) × (now : Drilling) × (rest : List Step) × (outcome d st.deed ≡ Comes ds now) × (plain ≡ plain_steps st ds ++ rest) × Expands now sts rest behind

-- all steps of a trace are replaced, and it has no fault
pub record AreReplaced (d : Drilling) (trace : Trace) (plain : List Step) : Type 0 where
  pub none : trace.fault ≡ None
  pub behind : Drilling
  pub expands : Expands d trace.steps plain behind
