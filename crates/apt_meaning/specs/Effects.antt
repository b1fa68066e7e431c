-- What a step asks for, wherever the figures and the turn that it needs are there.
use Rattle.std.specs.Prelude.{ℕ, ℤ, pos, ◌+ℤ◌, List, Option, Some, None, Result, Ok, Err, if◌then◌else◌}
use Rattle.std.specs.Ordering.{int_eq}
use Rattle.apt_words.specs.declared.Command.{Command}
use Rattle.apt_words.specs.declared.Command.TheVariants as commands
use Rattle.apt_words.specs.Asks.{Ask, Titles, Says, Sets, Defines, Goes, Cuts, Nothing, ask_of}
use Rattle.apt_words.specs.declared.Case.{Case}
use Rattle.apt_words.specs.declared.Turn.TheVariants as turns
use Rattle.apt_words.specs.declared.Units.{Units}
use Rattle.apt_words.specs.declared.ask.Form.{Form}
use Rattle.apt_words.specs.declared.ask.Place.{Place}
use Rattle.apt_words.specs.declared.ask.Place.TheVariants as places
use Rattle.apt_words.specs.declared.ask.Route.{Route}
use Rattle.apt_words.specs.declared.ask.Route.TheVariants as routes
use Rattle.apt_words.specs.declared.ask.Saying.{Saying}
use Rattle.apt_words.specs.declared.ask.Saying.TheVariants as sayings
use Rattle.apt_words.specs.declared.deed.Deed.{Deed}
use Rattle.apt_words.specs.Options.{◌>>=◌}
use Rattle.apt_scalar.specs.Scalars.{grid_units, tenths, whole}
use Rattle.apt_records.specs.declared.record.Note.{Note}
use Rattle.apt_records.specs.declared.record.Note.TheVariants as notes
use Rattle.apt_records.specs.declared.record.Position.{Position}
use Rattle.apt_records.specs.declared.record.Reach.{Reach}
use Rattle.apt_records.specs.declared.record.Reach.TheVariants as reaches
use Rattle.apt_defs.specs.declared.figure.Figure.{Figure}
use Rattle.apt_defs.specs.declared.figure.Figure.TheVariants as figures
use Rattle.apt_defs.specs.Figures.{Table, figure_named}
use Rattle.apt_defs.specs.Definitions.{figure_of}
use Rattle.apt_meaning.specs.declared.situation.Situation.{Situation}
use Rattle.apt_meaning.specs.declared.motion.Motion.{Motion}
use Rattle.apt_stop.specs.declared.legs.Legs.{Legs}
use Rattle.apt_stop.specs.declared.legs.Legs.TheVariants as the_legs
use Rattle.apt_meaning.specs.declared.effect.Change.TheVariants as changes
use Rattle.apt_meaning.specs.declared.effect.Cut.{Cut}
use Rattle.apt_meaning.specs.declared.effect.Effect.{Effect}
use Rattle.apt_meaning.specs.declared.effect.Effect.TheVariants as effects
use Rattle.apt_meaning.specs.Situations.{position_at}
use Rattle.apt_records.specs.Vertices.{at_height}
use Rattle.apt_meaning.specs.Motions.{motion_at}
use Rattle.apt_meaning.specs.StartUps.{start_position_at}

-- ---- what is said: lengths in grid units, feeds in tenths, speeds and tools in whole numbers

-- a command in whole numbers
abbrev pub rounded : Command → Command
rounded (commands.Spindle turns.Cw n) = commands.Spindle turns.Cw (whole n)
rounded (commands.Spindle turns.Ccw n) = commands.Spindle turns.Ccw (whole n)
rounded (commands.Spindle turns.Off n) = commands.Spindle turns.Off (pos 0)
rounded (commands.Tool n) = commands.Tool (whole n)
rounded command = command

-- the note that a saying has the CL file say
abbrev pub note_of : Units → Saying → Note
note_of units (sayings.Units others) = notes.Units others
note_of units (sayings.Diameter v) = notes.Cutter (grid_units units v)
note_of units (sayings.Inward v) = notes.Intol (grid_units units v)
note_of units (sayings.Outward v) = notes.Outtol (grid_units units v)
note_of units (sayings.Feed v) = notes.Feed (tenths v)
note_of units (sayings.Do command) = notes.Do (rounded command)
note_of units sayings.Rapid = notes.Rapid
note_of units sayings.End = notes.End
note_of units sayings.Fini = notes.Fini

abbrev pub says : Note → Option Effect
says note = Some (effects.Sets (changes.Said note))

abbrev pub moves : Reach → Option Position → Option Effect
moves reach None = None
moves reach (Some to) = Some (effects.Moves reach to)

abbrev pub moved : Option (Reach × Position) → Option Effect
moved None = None
moved (Some m) = Some (effects.Moves m.0 m.1)

abbrev pub cuts : Legs → Option Motion → Option Effect
cuts legs None = None
cuts legs (Some m) = Some (effects.Cuts m legs)

-- a contour to the first meeting with its check surface has one leg, and to the second two; there is no other count
abbrev pub legs_by : ℤ → Option Legs
legs_by n = if int_eq n (pos 1) then Some the_legs.One else if int_eq n (pos 2) then Some the_legs.Two else None

abbrev pub cuts_by : ℤ → Option Motion → Option Effect
cuts_by n m = legs_by n >>= λ legs. cuts legs m

abbrev pub cut : Option Cut → Option Effect
cut None = None
cut (Some c) = Some (effects.Cuts c.motion c.legs)

-- ---- lengths and places in grid units

-- the height is 0 where it is left out
abbrev pub height_by : Units → Option ℤ → ℤ
height_by units None = pos 0
height_by units (Some z) = grid_units units z

abbrev pub position_by : Units → ℤ → ℤ → Option ℤ → Position
position_by units x y z = position_at (grid_units units x) (grid_units units y) (height_by units z)

-- a position moved by three scalars
abbrev pub moved_by : Units → ℤ → ℤ → ℤ → Position → Position
moved_by units x y z p = position_at (p.xy.x +ℤ grid_units units x) (p.xy.y +ℤ grid_units units y) (p.z +ℤ grid_units units z)

abbrev pub moved_from : Situation → ℤ → ℤ → ℤ → Option Position
moved_from here x y z = here.position >>= λ p. Some (moved_by here.settings.units x y z p)

-- the point that a name stands for, with its height
abbrev pub as_position : Figure → Option Position
as_position (figures.Point xy z) = Some (at_height z xy)
as_position (figures.Shape s) = None
as_position figures.Scalar = None

abbrev pub place_in : Table → List ℕ → Option Position
place_in table name = figure_named table name >>= as_position

-- a place, by the units and the figures
abbrev pub placed : Units → Table → Place → Option Position
placed units table (places.Xyz x y z) = Some (position_by units x y z)
placed units table (places.Named p) = place_in table p

abbrev pub place_at : Situation → Place → Option Position
place_at here place = placed here.settings.units here.table place

abbrev pub goes : Situation → Route → Option Effect
goes here (routes.From place) = moves reaches.From (place_at here place)
goes here (routes.Goto place) = moves reaches.Goto (place_at here place)
goes here (routes.By x y z) = moves reaches.Godlta (moved_from here x y z)
goes here (routes.Start how name other) = moves reaches.Start (start_position_at here how name other)

-- ---- definitions

abbrev pub names : List ℕ → Result Figure Case → Option Effect
names name (Ok f) = Some (effects.Defines name f)
names name (Err case) = None

-- a definition gives its name a figure; a refused one asks for nothing
unfoldable pub defined : Situation → List ℕ → Form → Option Effect
defined here name form = names name (figure_of here.settings.units here.table form)

-- ---- what a step asks for

abbrev pub effect_by : Situation → Ask → Option Effect
effect_by here (Titles text) = says (notes.Partno text)
effect_by here (Says saying) = says (note_of here.settings.units saying)
effect_by here (Sets side) = Some (effects.Sets (changes.Side side))
effect_by here (Defines name form) = defined here name form
effect_by here (Goes route) = goes here route
effect_by here (Cuts contour n) = cuts_by (whole n) (motion_at here contour)
effect_by here Nothing = Some (effects.Sets changes.Nothing)

abbrev pub effect_of : Situation → Deed → Option Effect
effect_of here deed = effect_by here (ask_of deed)
