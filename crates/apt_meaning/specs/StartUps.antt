-- Start-up: the surfaces for which the names of GO stand, and where it leads.
use Rattle.std.specs.Prelude.{ℕ, List, Option, Some, None, is_none}
use Rattle.apt_words.specs.declared.Stop.{Stop}
use Rattle.apt_words.specs.Rows.{first_of}
use Rattle.apt_words.specs.Options.{◌>>=◌, only_if}
use Rattle.apt_defs.specs.Figures.{Table}
use Rattle.apt_startup.specs.declared.Goal.{Goal}
use Rattle.apt_startup.specs.declared.StartUp.{StartUp}
use Rattle.apt_startup.specs.StartUps.{start_up_cases, start_point}
use Rattle.apt_records.specs.declared.record.Position.{Position}
use Rattle.apt_meaning.specs.declared.situation.Situation.{Situation}
use Rattle.apt_records.specs.Vertices.{at_height}
use Rattle.apt_meaning.specs.Motions.{surface_in}

-- the surface of a name, and how the cutter stops there
abbrev pub goal_in : Table → Stop → List ℕ → Option Goal
goal_in table how name = surface_in table name >>= λ s. Some (record { how = how; surface = s })

-- that of the second name, where there is one
abbrev pub second_in : Table → Option (Stop × List ℕ) → Option (Option Goal)
second_in table None = Some None
second_in table (Some other) = goal_in table other.0 other.1 >>= λ g. Some (Some g)

-- the start-up that GO asks for, where the tool has a position and the names stand for surfaces
unfoldable pub start_up_at : Situation → Stop → List ℕ → Option (Stop × List ℕ) → Option StartUp
start_up_at here how name other = do
  start ← here.position
  first ← goal_in here.table how name
  second ← second_in here.table other
  Some (record { start = start.xy; first = first; second = second; radius = here.settings.radius })

-- where it leads, unless a case refuses it; it keeps the height
abbrev pub start_position : Position → StartUp → Option Position
start_position from u = only_if (is_none (first_of (start_up_cases u))) (at_height from.z (start_point u))

abbrev pub start_position_at : Situation → Stop → List ℕ → Option (Stop × List ℕ) → Option Position
start_position_at here how name other = do
  from ← here.position
  u ← start_up_at here how name other
  start_position from u
