-- The figures that names stand for behind the steps of a program.
use Rattle.std.specs.Prelude.{◌≡◌, ℕ, List, [], ◌∷◌, Option, Some, None, Result, Ok, Err}
use Rattle.apt_words.specs.Asks.{Ask, ask_of, said_by, defined_by}
use Rattle.apt_words.specs.declared.Case.{Case}
use Rattle.apt_words.specs.declared.Units.{Units}
use Rattle.apt_words.specs.declared.Units.TheVariants as the_units
use Rattle.apt_words.specs.declared.ask.Form.{Form}
use Rattle.apt_words.specs.declared.ask.Saying.{Saying}
use Rattle.apt_words.specs.declared.ask.Saying.TheVariants as sayings
use Rattle.apt_words.specs.declared.deed.Step.{Step}
use Rattle.apt_defs.specs.declared.figure.Figure.{Figure}
use Rattle.apt_defs.specs.Definitions.{figure_of}
use Rattle.apt_defs.specs.Figures.{Table, table_with}

-- the units, and the figures of names
pub record Holding : Type 0 where
  pub units : Units
  pub table : Table

-- at first inches, and no names
abbrev pub nothing_held : Holding
nothing_held = record { units = the_units.Inch; table = [] }

-- the units behind what is said
abbrev pub units_said : Units → Option Saying → Units
units_said units (Some (sayings.Units others)) = others
units_said units _ = units

-- a definition that is refused leaves the figures as they were
abbrev pub with_figure : Table → List ℕ → Result Figure Case → Table
with_figure table name (Ok f) = table_with table name f
with_figure table name (Err case) = table

-- the figures behind a definition
abbrev pub table_defined : Holding → Option (List ℕ × Form) → Table
table_defined here None = here.table
table_defined here (Some (name, form)) = with_figure here.table name (figure_of here.units here.table form)

-- what holds behind a step
abbrev pub held_by : Holding → Ask → Holding
held_by here ask = record { units = units_said here.units (said_by ask); table = table_defined here (defined_by ask) }

-- and behind steps
abbrev pub held_behind : Holding → List Step → Holding
held_behind here [] = here
held_behind here (step ∷ steps) = held_behind (held_by here (ask_of step.deed)) steps

-- the figures behind all steps
abbrev pub figures_at_end : List Step → Table
figures_at_end steps = (held_behind nothing_held steps).table

-- ---- steps of which no definition is refused

-- what is asked is no definition, or one that gives a figure
abbrev pub IsDefined : Holding → Option (List ℕ × Form) → Type 0
IsDefined here None = Unit {0}
IsDefined here (Some (name, form)) = (f : Figure) × (figure_of here.units here.table form ≡ Ok f)

-- each definition gives a figure, by what holds where it stands
abbrev pub AreDefined : Holding → List Step → Type 0
AreDefined here [] = Unit {0}
AreDefined here (step ∷ steps) = IsDefined here (defined_by (ask_of step.deed)) × AreDefined (held_by here (ask_of step.deed)) steps
