-- How one step is taken, and what stands in its place.
use Rattle.std.specs.Prelude.{◌≡◌, ℕ, ℤ, ◌&&◌, Bool, true, false, List, [], ◌∷◌, ◌++◌, Some, Result, Ok, Err}
use Rattle.apt_words.specs.Rows.{Row, first_of}
use Rattle.apt_words.specs.declared.Case.{Case}
use Rattle.apt_words.specs.declared.Units.{Units}
use Rattle.apt_words.specs.declared.ask.Place.{Place}
use Rattle.apt_words.specs.declared.deed.Deed.{Deed}
use Rattle.apt_words.specs.declared.deed.Step.{Step}
use Rattle.apt_records.specs.Ranges.{IsPosition}
use Rattle.apt_records.specs.declared.record.Position.{Position}
use Rattle.apt_words.specs.declared.ask.Form.{Form}
use Rattle.apt_defs.specs.declared.figure.Figure.{Figure}
use Rattle.apt_defs.specs.Definitions.{figure_of}
use Rattle.apt_meaning.specs.Compiled.{refused_at}
use Rattle.apt_meaning.specs.Effects.{placed}
use Rattle.apt_meaning.specs.Refusals.{placed_cases}
use Rattle.apt_defs.specs.Forms.{is_in_reach}
use Rattle.apt_defs.specs.Figures.{Table, table_with}
use Rattle.apt_pattern.specs.declared.drilling.Decision.{Decision}
use Rattle.apt_pattern.specs.declared.drilling.Decision.TheVariants as decisions
use Rattle.apt_pattern.specs.declared.drilling.Visited.{Visited}
use Rattle.apt_pattern.specs.declared.drilling.Visited.TheVariants as visiting
use Rattle.apt_pattern.specs.declared.expanding.Taken.{Taken}
use Rattle.apt_pattern.specs.declared.expanding.Taken.TheVariants as takes
use Rattle.apt_pattern.specs.Patterns.{points_of, visits}
use Rattle.apt_pattern.specs.Ranges.{IsPattern}
use Rattle.apt_pattern.specs.Expansions.{Drilling, Outcome, Comes, Refused, Stops, plain_steps}

abbrev pub points_in : Visited → List Position
points_in visiting.Nothing = []
points_in (visiting.One p) = p ∷ []
points_in (visiting.All pattern) = points_of pattern

abbrev pub IsVisited : Visited → Type 0
IsVisited visiting.Nothing = Unit {0}
IsVisited (visiting.One p) = IsPosition p
IsVisited (visiting.All pattern) = IsPattern pattern

-- what is done of a step
abbrev pub IsDecided : Deed → Outcome → Decision → Drilling → Type 0
IsDecided deed due decisions.Stays now = due ≡ Comes (deed ∷ []) now
IsDecided deed due (decisions.Visits v) now = (due ≡ Comes (visits now.units now.cycle (points_in v)) now) × IsVisited v
IsDecided deed due (decisions.Refused case) now = due ≡ Refused case
IsDecided deed due decisions.Stopped now = due ≡ Stops

-- a place, or the first case that refuses it
abbrev pub IsPlace : Units → Table → Place → Result Position Case → Type 0
IsPlace units table place (Ok p) = (placed units table place ≡ Some p) × IsPosition p × ((more : List Row) → first_of (placed_cases units table place more) ≡ first_of more)
IsPlace units table place (Err case) = (more : List Row) → first_of (placed_cases units table place more) ≡ Some case

-- with the steps before and now, by what the step comes to: its plain steps stand behind those before, or nothing does, or the step itself
abbrev pub IsTaken : Step → List Step → List Step → Outcome → Taken → Drilling → Type 0
IsTaken st before now due takes.On behind = (ds : List Deed) × (due ≡ Comes ds behind) × (now ≡ before ++ plain_steps st ds)
IsTaken st before now due (takes.Refused refusal) behind = (case : Case) × (due ≡ Refused case) × (now ≡ before) × (refusal ≡ refused_at st case)
IsTaken st before now due takes.Stopped behind = (due ≡ Stops) × (now ≡ before ++ st ∷ [])

-- within the coordinate limit
abbrev pub are_in_reach : ℤ → ℤ → Bool
are_in_reach y z = is_in_reach y && is_in_reach z

abbrev pub is_reached : Position → Bool
is_reached p = is_in_reach p.xy.x && are_in_reach p.xy.y p.z

-- a name has its figure, or a case refuses it
abbrev pub IsSet : Units → Table → List ℕ → Form → Bool → Table → Type 0
IsSet units before name form true now = (f : Figure) × (figure_of units before form ≡ Ok f) × (now ≡ table_with before name f)
IsSet units before name form false now = (case : Case) × (figure_of units before form ≡ Err case) × (now ≡ before)
