-- Each case, and which comes first where several hold.
use Rattle.std.specs.Prelude.{◌≡◌, refl, ℕ, ◌*◌, ℤ, pos, neg_ℤ, true, codes, List, [], ◌∷◌, Option, Some, None}
use Rattle.apt_num.specs.Root.{root}
use Rattle.apt_words.specs.declared.Command.TheVariants as commands
use Rattle.apt_words.specs.declared.Case.{Case}
use Rattle.apt_words.specs.declared.Case.TheVariants as cases
use Rattle.apt_words.specs.declared.Go.{Go}
use Rattle.apt_words.specs.declared.Cool.TheVariants as cools
use Rattle.apt_words.specs.declared.Go.TheVariants as turns
use Rattle.apt_words.specs.declared.Turn.TheVariants as spins
use Rattle.apt_words.specs.declared.Side.TheVariants as sides
use Rattle.apt_words.specs.declared.Stop.{Stop}
use Rattle.apt_words.specs.declared.Stop.TheVariants as stops
use Rattle.apt_words.specs.declared.deed.Deed.TheVariants as deeds
use Rattle.apt_words.proofs.Contours.{contouring}
use Rattle.apt_plane.specs.declared.figures.Surface.{Surface}
use Rattle.apt_plane.specs.declared.figures.Surface.TheVariants as surfaces
use Rattle.apt_records.specs.declared.record.Position.{Position}
use Rattle.apt_defs.specs.declared.figure.Figure.TheVariants as figures
use Rattle.apt_defs.specs.Figures.{Table}
use Rattle.apt_meaning.specs.declared.situation.Settings.{Settings}
use Rattle.apt_meaning.specs.declared.situation.Situation.{Situation}
use Rattle.apt_meaning.specs.Situations.{first_settings, position_at}
use Rattle.apt_meaning.specs.StartUps.{start_up_at}
use Rattle.apt_meaning.specs.Refusals.{refusal_of}

abbrev line : ℤ → ℤ → ℤ → ℤ → Surface
line x y dx dy = surfaces.Line (record { base = record { x = x; y = y }; dir = record { dx = dx; dy = dy } })

-- a line to the right, one up, one to the left above, one that meets the first far off, one up a unit right of the circle, one to the right through it, a circle of radius 5000, a point, and a number
abbrev table : Table
table =
    (codes "L1", figures.Shape (line (pos 0) (pos 0) (pos 100000) (pos 0))) ∷ (codes "L2", figures.Shape (line (pos 100000) (pos 0) (pos 0) (pos 100000)))
    ∷ (codes "L3", figures.Shape (line (pos 0) (pos 50000) (neg_ℤ (pos 100000)) (pos 0)))
    ∷ (codes "L4", figures.Shape (line (pos 0) (pos 50000) (pos 100000) (neg_ℤ (pos 1))))
    ∷ (codes "L5", figures.Shape (line (pos 10001) (pos 0) (pos 0) (pos 1)))
    ∷ (codes "L6", figures.Shape (line (pos 0) (pos 3000) (pos 1) (pos 0)))
    ∷ (codes "C1", figures.Shape (surfaces.Circ (record { c = record { x = pos 5000; y = pos 0 }; r = pos 5000 })))
    ∷ (codes "P1", figures.Point (record { x = pos 1000; y = pos 2000 }) (pos 300)) ∷ (codes "A", figures.Scalar) ∷ []

-- a cutter of radius 12500 on the left
abbrev held : Settings
held = record first_settings { radius = pos 12500; side = sides.Left; feed = pos 100 }

abbrev above : ℤ → ℤ → Position
above x y = position_at x y (pos 300)

abbrev on_track : Option Position
on_track = Some (above (pos 0) (pos 12500))

-- at a position, heading to the right
abbrev standing : Settings → Option Position → Situation
standing settings position = record { settings = settings; position = position; forward = record { dx = pos 1; dy = pos 0 }; table = table }

-- to the n-th meeting, with n in millionths
abbrev counted : ℕ → Situation → Go → List ℕ → Stop → List ℕ → Option Case
counted n situation go drive how check = refusal_of situation (deeds.Contour (contouring None go drive how check) (pos n))

abbrev contour : Situation → Go → List ℕ → Stop → List ℕ → Option Case
contour situation go drive how check = counted 1000000 situation go drive how check

abbrev go : Situation → List ℕ → List ℕ → Option Case
go situation a b = refusal_of situation (deeds.GoStart stops.To a (Some (stops.To, b)))

-- a whole number in millionths
abbrev whole : ℕ → ℤ
whole n = pos (n * 1000000)

-- ---- numbers

great_cutter : refusal_of (standing held on_track) (deeds.Cutter (pos 10000010)) ≡ Some cases.OutOfRange
great_cutter = refl

greatest_cutter : refusal_of (standing held on_track) (deeds.Cutter (pos 10000000)) ≡ None
greatest_cutter = refl

negative_cutter : refusal_of (standing held on_track) (deeds.Cutter (neg_ℤ (pos 10))) ≡ Some cases.OutOfRange
negative_cutter = refl

great_tolerance : refusal_of (standing held on_track) (deeds.Intol (pos 100010)) ≡ Some cases.OutOfRange
great_tolerance = refl

negative_tolerance : refusal_of (standing held on_track) (deeds.Outtol (neg_ℤ (pos 10))) ≡ Some cases.OutOfRange
negative_tolerance = refl

-- half of a tenth is rounded up
least_feed : refusal_of (standing held on_track) (deeds.Fedrat (pos 50000)) ≡ None
least_feed = refl

no_feed_at_all : refusal_of (standing held on_track) (deeds.Fedrat (pos 49999)) ≡ Some cases.OutOfRange
no_feed_at_all = refl

-- half of a turn is rounded up, and so is half of a tool
least_speed : refusal_of (standing held on_track) (deeds.Do (commands.Spindle spins.Ccw (pos 500000))) ≡ None
least_speed = refl

no_speed_at_all : refusal_of (standing held on_track) (deeds.Do (commands.Spindle spins.Cw (pos 499999))) ≡ Some cases.OutOfRange
no_speed_at_all = refl

spindle_off : refusal_of (standing held on_track) (deeds.Do (commands.Spindle spins.Off (pos 0))) ≡ None
spindle_off = refl

coolant : refusal_of (standing held on_track) (deeds.Do (commands.Coolant cools.Mist)) ≡ None
coolant = refl

first_tool : refusal_of (standing held on_track) (deeds.Do (commands.Tool (pos 500000))) ≡ None
first_tool = refl

no_tool : refusal_of (standing held on_track) (deeds.Do (commands.Tool (pos 499999))) ≡ Some cases.OutOfRange
no_tool = refl

-- ---- moves

from_again : refusal_of (standing held on_track) (deeds.FromXy (whole 501) (pos 0) None) ≡ Some cases.FromAgain
from_again = refl

far_from : refusal_of (standing held None) (deeds.FromXy (pos 0) (pos 0) (Some (whole 501))) ≡ Some cases.OutOfRange
far_from = refl

from_point_again : refusal_of (standing held on_track) (deeds.FromPoint (codes "B")) ≡ Some cases.FromAgain
from_point_again = refl

from_undefined : refusal_of (standing held None) (deeds.FromPoint (codes "B")) ≡ Some cases.Undefined
from_undefined = refl

from_number : refusal_of (standing held None) (deeds.FromPoint (codes "A")) ≡ Some cases.WrongKind
from_number = refl

-- FROM needs no feed
from_point : refusal_of (standing (record held { feed = pos 0 }) None) (deeds.FromPoint (codes "P1")) ≡ None
from_point = refl

far_goto : refusal_of (standing (record held { feed = pos 0 }) None) (deeds.GotoXy (pos 0) (neg_ℤ (whole 501)) None) ≡ Some cases.OutOfRange
far_goto = refl

goto_no_feed : refusal_of (standing (record held { feed = pos 0 }) None) (deeds.GotoXy (pos 0) (pos 0) None) ≡ Some cases.NoFeed
goto_no_feed = refl

-- RAPID stands for a feed
goto_rapid : refusal_of (standing (record held { feed = pos 0; rapid = true }) None) (deeds.GotoXy (pos 0) (pos 0) None) ≡ None
goto_rapid = refl

goto_undefined : refusal_of (standing (record held { feed = pos 0 }) None) (deeds.GotoPoint (codes "B")) ≡ Some cases.Undefined
goto_undefined = refl

goto_line : refusal_of (standing (record held { feed = pos 0 }) None) (deeds.GotoPoint (codes "L1")) ≡ Some cases.WrongKind
goto_line = refl

goto_point_no_feed : refusal_of (standing (record held { feed = pos 0 }) None) (deeds.GotoPoint (codes "P1")) ≡ Some cases.NoFeed
goto_point_no_feed = refl

goto_point_rapid : refusal_of (standing (record held { feed = pos 0; rapid = true }) None) (deeds.GotoPoint (codes "P1")) ≡ None
goto_point_rapid = refl

godlta_no_from : refusal_of (standing (record held { feed = pos 0 }) None) (deeds.Godlta (pos 0) (pos 0) (pos 0)) ≡ Some cases.NoFrom
godlta_no_from = refl

-- ---- start-up: one more condition is met at each step

go_no_from : go (standing (record held { feed = pos 0 }) None) (codes "B") (codes "A") ≡ Some cases.NoFrom
go_no_from = refl

-- an unknown name comes before a number, wherever it stands
go_undefined : go (standing (record held { feed = pos 0 }) on_track) (codes "A") (codes "B") ≡ Some cases.Undefined
go_undefined = refl

go_wrong_kind : go (standing (record held { feed = pos 0 }) on_track) (codes "C1") (codes "P1") ≡ Some cases.WrongKind
go_wrong_kind = refl

go_no_feed : go (standing (record held { feed = pos 0 }) on_track) (codes "C1") (codes "L1") ≡ Some cases.NoFeed
go_no_feed = refl

go_on_check : go (standing held (Some (above (pos 0) (pos 0)))) (codes "L1") (codes "L1") ≡ Some cases.OnCheck
unfolding start_up_at
go_on_check = refl

-- ON needs no side
go_on_both : refusal_of (standing held (Some (above (pos 0) (pos 0)))) (deeds.GoStart stops.On (codes "L1") (Some (stops.On, codes "L2"))) ≡ None
unfolding root start_up_at
go_on_both = refl

go_parallel : go (standing held on_track) (codes "L1") (codes "L3") ≡ Some cases.Parallel
unfolding start_up_at
go_parallel = refl

go_far : go (standing held on_track) (codes "L1") (codes "L4") ≡ Some cases.OutOfRange
unfolding root start_up_at
go_far = refl

go_fine : go (standing held on_track) (codes "L1") (codes "L2") ≡ None
unfolding root start_up_at
go_fine = refl

-- ---- contours: one more condition is met at each step

no_from : contour (standing (record held { feed = pos 0; rapid = true; outtol = pos 7 }) None) turns.Left (codes "B") stops.To (codes "B") ≡ Some cases.NoFrom
no_from = refl

undefined : contour (standing (record held { feed = pos 0; rapid = true; outtol = pos 7 }) on_track) turns.Left (codes "B") stops.To (codes "A") ≡ Some cases.Undefined
undefined = refl

-- a number at the drive surface comes before an unknown check surface
wrong_kind : contour (standing (record held { feed = pos 0; rapid = true; outtol = pos 7 }) on_track) turns.Left (codes "A") stops.To (codes "B") ≡ Some cases.WrongKind
wrong_kind = refl

wrong_check : contour (standing (record held { feed = pos 0; rapid = true; outtol = pos 7 }) on_track) turns.Left (codes "C1") stops.To (codes "A") ≡ Some cases.WrongKind
wrong_check = refl

-- a circle is one like a line, as the drive surface and as the check surface
round_drive : contour (standing (record held { feed = pos 0; rapid = true; outtol = pos 7 }) on_track) turns.Left (codes "C1") stops.To (codes "L2") ≡ Some cases.RapidContour
round_drive = refl

round_check : contour (standing (record held { feed = pos 0; rapid = true; outtol = pos 7 }) on_track) turns.Left (codes "L1") stops.To (codes "C1") ≡ Some cases.RapidContour
round_check = refl

-- a count is tried behind the names
bad_count : counted 2500000 (standing (record held { feed = pos 0; rapid = true; outtol = pos 7 }) on_track) turns.Left (codes "L1") stops.To (codes "L2") ≡ Some cases.BadCount
bad_count = refl

no_meeting_at_all : counted 499999 (standing held on_track) turns.Forward (codes "L1") stops.To (codes "L2") ≡ Some cases.BadCount
no_meeting_at_all = refl

rapid_contour : contour (standing (record held { feed = pos 0; rapid = true; outtol = pos 7 }) on_track) turns.Left (codes "L1") stops.To (codes "L2") ≡ Some cases.RapidContour
rapid_contour = refl

no_feed : contour (standing (record held { feed = pos 0; outtol = pos 7 }) on_track) turns.Left (codes "L1") stops.To (codes "L2") ≡ Some cases.NoFeed
no_feed = refl

too_fine : contour (standing (record held { outtol = pos 7 }) on_track) turns.Left (codes "L1") stops.To (codes "L2") ≡ Some cases.TooFine
too_fine = refl

-- a grid step on one side is enough
inward : contour (standing (record held { intol = pos 8; outtol = pos 7 }) on_track) turns.Forward (codes "L1") stops.To (codes "L2") ≡ None
unfolding root
inward = refl

no_turn : contour (standing held (Some (above (pos 0) (pos 0)))) turns.Left (codes "L1") stops.To (codes "L2") ≡ Some cases.NoTurn
no_turn = refl

off_drive : contour (standing held (Some (above (pos 100000) (pos 12504)))) turns.Forward (codes "L1") stops.To (codes "L2") ≡ Some cases.OffDrive
unfolding root
off_drive = refl

-- a start may be so far off its track
near_drive : contour (standing held (Some (above (pos 0) (pos 12503)))) turns.Forward (codes "L1") stops.To (codes "L2") ≡ None
unfolding root
near_drive = refl

on_check : contour (standing held (Some (above (pos 100000) (pos 12500)))) turns.Forward (codes "L1") stops.To (codes "L2") ≡ Some cases.OnCheck
unfolding root
on_check = refl

-- ON asks for no side of the check surface: where the start is on it, the stop lies behind
on_itself : contour (standing held (Some (above (pos 100000) (pos 12500)))) turns.Forward (codes "L1") stops.On (codes "L2") ≡ Some cases.Behind
unfolding root
on_itself = refl

stops_on : contour (standing held on_track) turns.Forward (codes "L1") stops.On (codes "L2") ≡ None
unfolding root
stops_on = refl

-- under TLON the start is on the drive surface, not beside it
beside_drive : contour (standing (record held { side = sides.On }) on_track) turns.Forward (codes "L1") stops.On (codes "L2") ≡ Some cases.OffDrive
unfolding root
beside_drive = refl

on_drive : contour (standing (record held { side = sides.On }) (Some (above (pos 0) (pos 0)))) turns.Forward (codes "L1") stops.On (codes "L2") ≡ None
unfolding root
on_drive = refl

-- no line touches a line
touches : contour (standing held on_track) turns.Forward (codes "L1") stops.Tanto (codes "L2") ≡ Some cases.Parallel
unfolding root
touches = refl

parallel : contour (standing held on_track) turns.Forward (codes "L1") stops.To (codes "L3") ≡ Some cases.Parallel
unfolding root
parallel = refl

turned_back : contour (standing held on_track) turns.Back (codes "L1") stops.To (codes "L2") ≡ Some cases.OffDrive
turned_back = refl

behind : contour (standing held (Some (above (pos 200000) (pos 12500)))) turns.Forward (codes "L1") stops.To (codes "L2") ≡ Some cases.Behind
unfolding root
behind = refl

-- the first line meets the fourth 50000 inches off
far_contact : contour (standing held on_track) turns.Forward (codes "L1") stops.To (codes "L4") ≡ Some cases.OutOfRange
unfolding root
far_contact = refl

fine : contour (standing held on_track) turns.Forward (codes "L1") stops.To (codes "L2") ≡ None
unfolding root
fine = refl

-- ---- to the second meeting

abbrev on_line_at : ℤ → Situation
on_line_at x = standing (record held { side = sides.On }) (Some (above x (pos 0)))

through_the_circle : counted 2000000 (on_line_at (neg_ℤ (pos 20000))) turns.Forward (codes "L1") stops.On (codes "C1") ≡ None
unfolding root
through_the_circle = refl

-- within 8 units of the circle the first meeting is the one on its far side, and there is no second
from_near_the_circle : counted 2000000 (on_line_at (neg_ℤ (pos 8))) turns.Forward (codes "L1") stops.On (codes "C1") ≡ Some cases.Behind
unfolding root
from_near_the_circle = refl

from_before_the_circle : counted 2000000 (on_line_at (neg_ℤ (pos 9))) turns.Forward (codes "L1") stops.On (codes "C1") ≡ None
unfolding root
from_before_the_circle = refl

-- lines meet once
no_second_line : counted 2000000 (standing held on_track) turns.Forward (codes "L1") stops.To (codes "L2") ≡ Some cases.Behind
unfolding root
no_second_line = refl

-- ---- round the circle, from its rightmost point: with the cutter on it, or to its left, which is inside

abbrev on_circle : Option Position
on_circle = Some (above (pos 10000) (pos 0))

round_no_turn : contour (standing (record held { side = sides.On }) on_circle) turns.Forward (codes "C1") stops.On (codes "L2") ≡ Some cases.NoTurn
round_no_turn = refl

-- the cutter is wider than the circle
round_no_room : contour (standing held on_circle) turns.Left (codes "C1") stops.On (codes "L1") ≡ Some cases.NoRoom
round_no_room = refl

round_off_drive : contour (standing (record held { side = sides.On }) (Some (above (pos 10004) (pos 0)))) turns.Left (codes "C1") stops.On (codes "L1") ≡ Some cases.OffDrive
round_off_drive = refl

-- to circles about the same centre there is no contact
round_itself : contour (standing (record held { side = sides.On }) on_circle) turns.Left (codes "C1") stops.On (codes "C1") ≡ Some cases.Parallel
unfolding root
round_itself = refl

round_apart : contour (standing (record held { side = sides.On }) on_circle) turns.Left (codes "C1") stops.On (codes "L2") ≡ Some cases.NoContact
unfolding root
round_apart = refl

-- half round, from the line through its centre to the same line
round_fine : contour (standing (record held { side = sides.On }) on_circle) turns.Left (codes "C1") stops.On (codes "L1") ≡ None
unfolding root
round_fine = refl

-- to the second meeting it would turn fully, and from farther off it does not
full_turn : counted 2000000 (standing (record held { side = sides.On }) on_circle) turns.Left (codes "C1") stops.On (codes "L1") ≡ Some cases.FullTurn
unfolding root
full_turn = refl

-- 8 units off the stop it still would
full_turn_from_near : counted 2000000 (standing (record held { side = sides.On }) (Some (above (pos 10000) (pos 8)))) turns.Left (codes "C1") stops.On (codes "L1") ≡ Some cases.FullTurn
unfolding root
full_turn_from_near = refl

no_full_turn_from_there : counted 2000000 (standing (record held { side = sides.On }) (Some (above (pos 10000) (pos 9)))) turns.Left (codes "C1") stops.On (codes "L1") ≡ None
unfolding root
no_full_turn_from_there = refl

no_full_turn : counted 2000000 (standing (record held { side = sides.On }) on_circle) turns.Left (codes "C1") stops.On (codes "L6") ≡ None
unfolding root
no_full_turn = refl

-- a circle that misses its stop turns to none
no_contact_first : counted 2000000 (standing (record held { side = sides.On }) on_circle) turns.Left (codes "C1") stops.On (codes "L5") ≡ Some cases.NoContact
unfolding root
no_contact_first = refl
