-- A contour motion as a certificate knows it: its parts at a situation, its targets, its leg, and what bounds it.
use Rattle.std.specs.Prelude.{◌≡◌, ◌↔◌, ℤ, pos, ◌<ℤ◌, ◌≤ℤ◌, ◌&&◌, ◌||◌, not, Bool, false, is_some, List, ℕ, Option, Some, None, if◌then◌else◌}
use Rattle.apt_num.specs.declared.Sign.{Sign}
use Rattle.apt_words.specs.declared.Go.{Go}
use Rattle.apt_words.specs.declared.Stop.{Stop}
use Rattle.apt_words.specs.Options.{◌>>=◌}
use Rattle.apt_words.specs.declared.contour.Contouring.{Contouring}
use Rattle.apt_plane.specs.declared.figures.Pt.{Pt}
use Rattle.apt_plane.specs.declared.figures.Surface.{Surface}
use Rattle.apt_plane.specs.Vectors.{scaled}
use Rattle.apt_plane.specs.Distances.{InBand}
use Rattle.apt_defs.specs.declared.figure.Figure.{Figure}
use Rattle.apt_defs.specs.declared.figure.Figure.TheVariants as figures
use Rattle.apt_defs.specs.Figures.{Table, figure_named}
use Rattle.apt_offset.specs.declared.Target.{Target}
use Rattle.apt_offset.specs.Turns.{tangent, turn, is_zero}
use Rattle.apt_offset.specs.Sides.{side_at_drive, side_at_check, is_on_check, StopsAside}
use Rattle.apt_offset.specs.Targets.{signed, greater, offset_surface, lacks_room, band_at}
use Rattle.apt_stop.specs.declared.course.Course.{Course}
use Rattle.apt_stop.specs.Courses.{kept_side, axis_of}
use Rattle.apt_certify.specs.declared.leg.Leg.{Leg}
use Rattle.apt_certify.specs.Legs.{beyond_of}
use Rattle.apt_records.specs.declared.record.Position.{Position}
use Rattle.apt_records.specs.Vertices.{at_height}
use Rattle.apt_meaning.specs.declared.situation.Settings.{Settings}
use Rattle.apt_meaning.specs.declared.situation.Situation.{Situation}
use Rattle.apt_meaning.specs.declared.motion.Motion.{Motion}
use Rattle.apt_meaning.specs.Situations.{with_side}

-- ---- the parts of a motion

-- a tolerance counts as at least one grid step of 8 units
abbrev pub grid_step : ℤ
grid_step = pos 8

-- what a tolerance counts as: the least length that is at least it and at least 8 units
abbrev pub CountsAs : ℤ → ℤ → Type 0
CountsAs tolerance length = (x : ℤ) → (length ≤ℤ x) ↔ ((tolerance ≤ℤ x) × (pos 8 ≤ℤ x))

-- a figure that is a surface
abbrev pub as_surface : Figure → Option Surface
as_surface (figures.Point xy z) = None
as_surface (figures.Shape s) = Some s
as_surface figures.Scalar = None

-- the surface that a name stands for
abbrev pub surface_in : Table → List ℕ → Option Surface
surface_in table name = figure_named table name >>= as_surface

-- a motion with these settings, along a drive surface that runs so against forward
abbrev pub motion : Settings → Position → Surface → Sign → Stop → Surface → Motion
motion s start drive turned how check = record {
  start = start;
  drive = drive;
  side = s.side;
  sense = signed turned (pos 1);
  check = check;
  how = how;
  check_side = side_at_check check how start.xy drive (side_at_drive s.side (signed turned (pos 1)));
  radius = s.radius;
  inner = greater s.intol grid_step;
  outer = greater s.outtol grid_step;
}

-- the place of the cutter at the drive surface
abbrev pub drive_side : Motion → Sign
drive_side m = side_at_drive m.side m.sense

-- the targets: the curve of the cutter's centre, and the one at which it stops
abbrev pub track_of : Motion → Target
track_of m = offset_surface m.drive (drive_side m) m.radius

abbrev pub stop_of : Motion → Target
stop_of m = offset_surface m.check m.check_side m.radius

-- the start is on the check surface, under TO or PAST
abbrev pub starts_on_check : Motion → Bool
starts_on_check m = is_on_check m.how m.check_side

-- ---- its course

-- the motion without its tolerances
abbrev pub course_of : Motion → Course
course_of m = record { start = m.start.xy; drive = m.drive; track = track_of m; sense = m.sense; check = m.check; how = m.how; stop = stop_of m }

-- the side of the stop on which it runs; a motion that touches its check surface has none
abbrev pub stop_side : Motion → Sign
stop_side m = kept_side (course_of m)

-- ---- the leg

-- that runs on a side of its stop
abbrev pub leg_on : Motion → Sign → Leg
leg_on m side = record {
  drive = m.drive;
  track = track_of m;
  band = band_at m.drive (drive_side m) m.radius m.inner m.outer;
  check = m.check;
  stop_band = band_at m.check m.check_side m.radius m.inner m.outer;
  beyond = beyond_of m.check side;
  sense = m.sense;
  axis = axis_of (course_of m);
}

-- the leg on the side of the stop on which the motion runs
abbrev pub leg_of : Motion → Leg
leg_of m = leg_on m (stop_side m)

-- whatever point is within the tolerances of its stop, the inner one less than the cutter's radius, is on the side of the check surface on which it starts under TO, and on the other under PAST
abbrev pub EndsAside : Motion → Type 0
EndsAside m = starts_on_check m ≡ false → m.inner <ℤ m.radius → (q : Pt) → InBand m.check (leg_of m).stop_band (scaled q) → StopsAside m.check m.how m.start.xy q

-- its track is there
abbrev pub has_track : Motion → Bool
has_track m = not (lacks_room (track_of m))

-- a side on which it runs, or an axis on which it ends
abbrev pub has_bound : Motion → Bool
has_bound m = not (is_zero (stop_side m)) || is_some (axis_of (course_of m))

-- its stop is there, and what bounds it
abbrev pub has_stop : Motion → Bool
has_stop m = not (starts_on_check m) && not (lacks_room (stop_of m)) && has_bound m

-- both are there
abbrev pub is_defined : Motion → Bool
is_defined m = has_track m && has_stop m

-- ---- the next leg

-- the motion from another point, with the same stop
abbrev pub onward : Motion → Pt → Motion
onward m p = record m { start = at_height m.start.z p }

-- ---- the motion of a statement

abbrev pub if_turned : Settings → Position → Surface → Sign → Stop → Surface → Option Motion
if_turned s start drive turned how check = if is_zero turned then None else Some (motion s start drive turned how check)

-- how the drive surface runs at the start against forward
abbrev pub turn_at : Situation → Position → Surface → Go → Sign
turn_at here start drive go = turn here.forward (tangent drive start.xy) go

-- the motion that a contour statement asks for, where its names stand for surfaces and its sense is there
unfoldable pub motion_at : Situation → Contouring → Option Motion
motion_at here contour = do
  start ← here.position
  drive ← surface_in here.table contour.drive
  check ← surface_in here.table contour.check
  if_turned (with_side here.settings contour.side) start drive (turn_at here start drive contour.go) contour.stop check
