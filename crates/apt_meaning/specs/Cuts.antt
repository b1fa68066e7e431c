-- Where a motion ends, and along which vertices it runs there: the compiler's half.
use Rattle.std.specs.Prelude.{◌≡◌, ℤ, pos, ◌-ℤ◌, ◌/◌, unsigned_abs, int_le, List, [], ◌∷◌, Option, Some, None, if◌then◌else◌}
use Rattle.apt_plane.specs.declared.figures.Pt.{Pt}
use Rattle.apt_offset.specs.declared.Target.{Target}
use Rattle.apt_offset.specs.declared.Target.TheVariants as targets
use Rattle.apt_contact.specs.Meetings.{circle_about}
use Rattle.apt_stop.specs.declared.legs.Legs.{Legs}
use Rattle.apt_stop.specs.declared.legs.Legs.TheVariants as legs
use Rattle.apt_stop.specs.Tangencies.{axis_towards}
use Rattle.apt_stop.specs.Choices.{end_of}
use Rattle.apt_arc.specs.declared.arc.Arc.{Arc}
use Rattle.apt_arc.specs.Made.{divided}
use Rattle.apt_arc.specs.Divisions.{IsDivision}
use Rattle.apt_meaning.specs.declared.motion.Motion.{Motion}
use Rattle.apt_meaning.specs.Motions.{track_of, course_of, leg_of, onward}
use Rattle.apt_meaning.specs.Paths.{Contour}

-- where it ends
abbrev pub end_point : Motion → Pt
end_point m = end_of (course_of m)

abbrev pub lesser : ℤ → ℤ → ℤ
lesser a b = if int_le a b then a else b

-- how far its chords may lie inside of its track: the drive's own inner margin, at most a quarter of the radius
abbrev pub sag : Motion → ℤ → ℤ
sag m r = lesser (r -ℤ (leg_of m).band.lo) (pos (unsigned_abs r / 4))

-- about a centre, by a radius
abbrev pub arc_on : Motion → Pt → ℤ → Arc
arc_on m c r = record { track = circle_about c r; sense = m.sense; axis = axis_towards c m.check; sag = sag m r; start = m.start.xy; end = end_point m }

-- the arc along which it runs, none along a line
abbrev pub arc_along : Motion → Target → Option Arc
arc_along m (targets.Line b d h) = None
arc_along m (targets.Circ c r) = Some (arc_on m c r)

abbrev pub arc_of : Motion → Option Arc
arc_of m = arc_along m (track_of m)

-- its end alone along a line, and round a circle those of the arc's division
abbrev pub vertices_on : Motion → Target → List Pt
vertices_on m (targets.Line b d h) = end_point m ∷ []
vertices_on m (targets.Circ c r) = divided (arc_on m c r)

abbrev pub vertices_of : Motion → List Pt
vertices_of m = vertices_on m (track_of m)

-- a contour to the second meeting goes on from the first, to the same stop
abbrev pub motions_of : Motion → Legs → List Motion
motions_of m legs.One = m ∷ []
motions_of m legs.Two = m ∷ onward m (end_point m) ∷ []

-- ---- its own cuts, whatever divides their arcs

-- its end alone along a line, and round a circle a division of its arc
abbrev pub IsOwnOn : Motion → Target → List Pt → Type 0
IsOwnOn m (targets.Line b d h) vertices = vertices ≡ end_point m ∷ []
IsOwnOn m (targets.Circ c r) vertices = IsDivision (arc_on m c r) vertices

-- a contour has these vertices
abbrev pub IsOwnCut : Contour → Type 0
IsOwnCut c = IsOwnOn c.motion (track_of c.motion) c.vertices
