-- The manual's table: for each thing that is asked the conditions that refuse it, in order, and their cases.
use Rattle.std.specs.Prelude.{◌≡◌, ℕ, ℤ, pos, int_lt, int_le, ◌&&◌, not, Bool, true, false, is_some, is_none, List, [], ◌∷◌, ◌++◌, Option, Some, None, Result, Ok, Err}
use Rattle.apt_num.specs.declared.Sign.{Sign}
use Rattle.apt_words.specs.declared.Command.{Command}
use Rattle.apt_words.specs.declared.Command.TheVariants as commands
use Rattle.apt_words.specs.declared.Case.{Case}
use Rattle.apt_words.specs.declared.Units.{Units}
use Rattle.apt_words.specs.declared.Case.TheVariants as cases
use Rattle.apt_words.specs.declared.Stop.{Stop}
use Rattle.apt_words.specs.declared.Turn.TheVariants as turns
use Rattle.apt_words.specs.declared.ask.Form.{Form}
use Rattle.apt_words.specs.declared.ask.Place.{Place}
use Rattle.apt_words.specs.declared.ask.Place.TheVariants as places
use Rattle.apt_words.specs.declared.ask.Route.{Route}
use Rattle.apt_words.specs.declared.ask.Route.TheVariants as routes
use Rattle.apt_words.specs.declared.deed.Deed.{Deed}
use Rattle.apt_words.specs.Asks.{Ask, Titles, Says, Sets, Defines, Goes, Cuts, Nothing, ask_of}
use Rattle.apt_words.specs.Rows.{Row, first_of}
use Rattle.apt_words.specs.declared.contour.Contouring.{Contouring}
use Rattle.apt_scalar.specs.Scalars.{whole}
use Rattle.apt_plane.specs.declared.figures.Surface.{Surface}
use Rattle.apt_defs.specs.declared.figure.Figure.{Figure}
use Rattle.apt_defs.specs.Definitions.{figure_of}
use Rattle.apt_defs.specs.Forms.{is_in_reach}
use Rattle.apt_defs.specs.Figures.{Table, figure_named}
use Rattle.apt_offset.specs.Turns.{is_zero}
use Rattle.apt_offset.specs.Targets.{lacks_room}
use Rattle.apt_stop.specs.Nearness.{is_near, off_track}
use Rattle.apt_stop.specs.Legs.{leg_cases}
use Rattle.apt_startup.specs.declared.StartUp.{StartUp}
use Rattle.apt_startup.specs.StartUps.{start_up_cases}
use Rattle.apt_records.specs.declared.record.Note.{Note}
use Rattle.apt_records.specs.declared.record.Note.TheVariants as notes
use Rattle.apt_records.specs.declared.record.Position.{Position}
use Rattle.apt_records.specs.declared.record.Reach.{Reach}
use Rattle.apt_records.specs.declared.record.Reach.TheVariants as reaches
use Rattle.apt_meaning.specs.declared.effect.Cut.{Cut}
use Rattle.apt_meaning.specs.declared.effect.Effect.{Effect}
use Rattle.apt_meaning.specs.declared.effect.Effect.TheVariants as effects
use Rattle.apt_meaning.specs.declared.situation.Settings.{Settings}
use Rattle.apt_meaning.specs.declared.situation.Situation.{Situation}
use Rattle.apt_meaning.specs.declared.motion.Motion.{Motion}
use Rattle.apt_stop.specs.declared.legs.Legs.{Legs}
use Rattle.apt_stop.specs.declared.legs.Legs.TheVariants as the_legs
use Rattle.apt_meaning.specs.Situations.{has_feed, lacks_feed, with_side}
use Rattle.apt_meaning.specs.Motions.{motion, grid_step, as_surface, surface_in, turn_at, track_of, stop_of, starts_on_check, course_of}
use Rattle.apt_meaning.specs.StartUps.{start_up_at}
use Rattle.apt_meaning.specs.Effects.{note_of, as_position, position_by, moved_from, legs_by}

-- ---- numbers and names

-- a length from 0 up to a limit, in grid units
abbrev pub is_up_to : ℤ → ℤ → Bool
is_up_to most g = int_le (pos 0) g && int_le g most

abbrev pub length_cases : ℤ → ℤ → List Row
length_cases most g = (not (is_up_to most g), cases.OutOfRange) ∷ []

abbrev pub out_of_reach : ℤ → Row
out_of_reach g = (not (is_in_reach g), cases.OutOfRange)

-- a feed, a speed and a tool are at least 1
abbrev pub under_one : ℤ → Row
under_one n = (int_lt n (pos 1), cases.OutOfRange)

-- a position is within the coordinate limit
abbrev pub position_cases : Position → List Row → List Row
position_cases p more = out_of_reach p.xy.x ∷ out_of_reach p.xy.y ∷ out_of_reach p.z ∷ more

-- a name stands for something
abbrev pub is_undefined : Table → List ℕ → Bool
is_undefined table name = is_none (figure_named table name)

-- it stands for something that is no surface
abbrev pub is_other_kind : Option Figure → Bool
is_other_kind None = false
is_other_kind (Some figure) = is_none (as_surface figure)

abbrev pub is_no_surface : Table → List ℕ → Bool
is_no_surface table name = is_other_kind (figure_named table name)

-- it stands for something that is no point
abbrev pub is_no_place : Option Figure → Bool
is_no_place None = false
is_no_place (Some figure) = is_none (as_position figure)

abbrev pub is_no_point : Table → List ℕ → Bool
is_no_point table name = is_no_place (figure_named table name)

-- the name of a point
abbrev pub point_cases : Table → List ℕ → List Row → List Row
point_cases table name more = (is_undefined table name, cases.Undefined) ∷ (is_no_point table name, cases.WrongKind) ∷ more

-- the name of a surface
abbrev pub name_cases : Table → List ℕ → List Row → List Row
name_cases table name more = (is_undefined table name, cases.Undefined) ∷ (is_no_surface table name, cases.WrongKind) ∷ more

-- ---- definitions

abbrev pub refused : Result Figure Case → List Row
refused (Ok f) = []
refused (Err case) = (true, case) ∷ []

-- a definition is refused by its own first case
unfoldable pub refused_form : Situation → Form → List Row
refused_form here form = refused (figure_of here.settings.units here.table form)

-- ---- moves

abbrev pub move_cases : Settings → Option Position → List Row
move_cases s None = []
move_cases s (Some to) = position_cases to ((lacks_feed s, cases.NoFeed) ∷ [])

abbrev pub start_cases : Option StartUp → List Row
start_cases None = []
start_cases (Some u) = start_up_cases u

-- the names of GO, one or two
abbrev pub start_names : List ℕ → Option (Stop × List ℕ) → List (List ℕ)
start_names name None = name ∷ []
start_names name (Some other) = name ∷ other.1 ∷ []

-- what refuses one of some names, with one case
abbrev pub each_name : (List ℕ → Bool) → Case → List (List ℕ) → List Row
each_name P case [] = []
each_name P case (n ∷ ns) = (P n, case) ∷ each_name P case ns

-- GO: each name is there before the kind of one is tried
abbrev pub go_cases : Situation → Stop → List ℕ → Option (Stop × List ℕ) → List Row
go_cases here how name other =
    (is_none here.position, cases.NoFrom)
    ∷ each_name (is_undefined here.table) cases.Undefined (start_names name other)
    ++ each_name (is_no_surface here.table) cases.WrongKind (start_names name other)
    ++ (lacks_feed here.settings, cases.NoFeed) ∷ start_cases (start_up_at here how name other)

-- ---- contours

-- a contour with so many legs
abbrev pub cut_cases : Motion → Legs → List Row
cut_cases m legs =
    (lacks_room (track_of m), cases.NoRoom)
    ∷ (not (starts_on_check m) && lacks_room (stop_of m), cases.NoRoom)
    ∷ (not (is_near (track_of m) off_track m.start.xy), cases.OffDrive)
    ∷ (starts_on_check m, cases.OnCheck) ∷ leg_cases legs (course_of m)

-- one leg alone
abbrev pub motion_cases : Motion → List Row
motion_cases m = cut_cases m the_legs.One

-- both tolerances are under a grid step
abbrev pub is_too_fine : Settings → Bool
is_too_fine s = int_lt s.intol grid_step && int_lt s.outtol grid_step

-- a contour with these settings
abbrev pub feed_cases : Settings → List Row → List Row
feed_cases s more = (s.rapid, cases.RapidContour) ∷ (not (has_feed s), cases.NoFeed) ∷ (is_too_fine s, cases.TooFine) ∷ more

-- a contour whose drive surface runs so against forward
abbrev pub turned_cases : Legs → Settings → Position → Surface → Sign → Stop → Surface → List Row
turned_cases legs s start drive turned how check = feed_cases s ((is_zero turned, cases.NoTurn) ∷ cut_cases (motion s start drive turned how check) legs)

abbrev pub surface_cases : Situation → Contouring → Legs → Option Position → Option Surface → Option Surface → List Row
surface_cases here contour legs (Some start) (Some drive) (Some check) =
    turned_cases legs (with_side here.settings contour.side) start drive (turn_at here start drive contour.go) contour.stop check
surface_cases here contour legs (Some start) (Some drive) None = []
surface_cases here contour legs (Some start) None check = []
surface_cases here contour legs None drive check = []

-- a count of meetings other than 1 and 2 is BadCount; else it is the number of legs, and what refuses a contour of so many
abbrev pub counted_cases : Option Legs → (Legs → List Row) → List Row
counted_cases None more = (true, cases.BadCount) ∷ []
counted_cases (Some legs) more = more legs

abbrev pub contour_cases : Situation → Contouring → ℤ → List Row
contour_cases here contour n =
    (is_none here.position, cases.NoFrom)
    ∷ name_cases here.table contour.drive (name_cases here.table contour.check
    (counted_cases (legs_by (whole n)) (λ legs. surface_cases here contour legs here.position (surface_in here.table contour.drive) (surface_in here.table contour.check))))

-- what refuses a place, by the units and the figures
abbrev pub placed_cases : Units → Table → Place → List Row → List Row
placed_cases units table (places.Xyz x y z) more = position_cases (position_by units x y z) more
placed_cases units table (places.Named p) more = point_cases table p more

abbrev pub place_cases : Situation → Place → List Row → List Row
place_cases here place more = placed_cases here.settings.units here.table place more

-- ---- the table of what is asked

-- a command whose number is out of its range
abbrev pub command_cases : Command → List Row
command_cases (commands.Spindle turns.Cw n) = under_one n ∷ []
command_cases (commands.Spindle turns.Ccw n) = under_one n ∷ []
command_cases (commands.Tool n) = under_one n ∷ []
command_cases _ = []

-- a note whose number is out of its range
abbrev pub note_cases : Note → List Row
note_cases (notes.Cutter d) = length_cases (pos 1000000) d
note_cases (notes.Intol t) = length_cases (pos 10000) t
note_cases (notes.Outtol t) = length_cases (pos 10000) t
note_cases (notes.Feed f) = under_one f ∷ []
note_cases (notes.Do command) = command_cases command
note_cases _ = []

abbrev pub route_cases : Situation → Route → List Row
route_cases here (routes.From place) = (is_some here.position, cases.FromAgain) ∷ place_cases here place []
route_cases here (routes.Goto place) = place_cases here place ((lacks_feed here.settings, cases.NoFeed) ∷ [])
route_cases here (routes.By x y z) = (is_none here.position, cases.NoFrom) ∷ move_cases here.settings (moved_from here x y z)
route_cases here (routes.Start how name other) = go_cases here how name other

abbrev pub cases_by : Situation → Ask → List Row
cases_by here (Titles text) = []
cases_by here (Says saying) = note_cases (note_of here.settings.units saying)
cases_by here (Sets side) = []
cases_by here (Defines name form) = refused_form here form
cases_by here (Goes route) = route_cases here route
cases_by here (Cuts contour n) = contour_cases here contour n
cases_by here Nothing = []

abbrev pub cases_of : Situation → Deed → List Row
cases_of here deed = cases_by here (ask_of deed)

-- the first case that refuses a step
abbrev pub refusal_of : Situation → Deed → Option Case
refusal_of here deed = first_of (cases_of here deed)

-- ---- where a move leads, or a contour is asked for

-- the cases that can still refuse a move that leads there
abbrev pub moved_cases : Situation → Reach → Position → List Row
moved_cases here reaches.From to = (is_some here.position, cases.FromAgain) ∷ position_cases to []
moved_cases here reaches.Goto to = move_cases here.settings (Some to)
moved_cases here reaches.Godlta to = move_cases here.settings (Some to)
moved_cases here reaches.Start to = (lacks_feed here.settings, cases.NoFeed) ∷ []

-- what a contour cuts, which only the cases of its ends can still refuse, or the first case that refuses it
abbrev pub IsCutOr : Option Case → Option Effect → Result Cut Case → Type 0
IsCutOr refusal effect (Ok c) = (effect ≡ Some (effects.Cuts c.motion c.legs)) × (refusal ≡ first_of (cut_cases c.motion c.legs))
IsCutOr refusal effect (Err case) = refusal ≡ Some case
