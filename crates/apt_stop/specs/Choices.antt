-- Where a course ends, and what refuses it: the compiler's half.
use Rattle.std.specs.Prelude.{ℕ, ℤ, pos, neg_ℤ, int_le, ◌&&◌, ◌||◌, not, Bool, true, false, List, [], ◌∷◌, ◌++◌, Option, Some, None, is_none, if◌then◌else◌}
use Rattle.apt_num.specs.declared.Sign.{Sign}
use Rattle.apt_num.specs.declared.Sign.TheVariants as signs
use Rattle.apt_num.specs.Sign.{sign_of, is_at_least, is_minus}
use Rattle.apt_words.specs.declared.Case.TheVariants as cases
use Rattle.apt_words.specs.Rows.{Row}
use Rattle.apt_plane.specs.declared.figures.Pt.{Pt}
use Rattle.apt_plane.specs.declared.figures.Dir.{Dir}
use Rattle.apt_plane.specs.declared.figures.Axis.{Axis}
use Rattle.apt_plane.specs.Vectors.{displacement, cross, dot, length_squared}
use Rattle.apt_canon.specs.Scale.{is_in_range, times as stretched}
use Rattle.apt_canon.specs.Feet.{ray_point, foot_point}
use Rattle.apt_offset.specs.declared.Target.{Target}
use Rattle.apt_offset.specs.declared.Target.TheVariants as targets
use Rattle.apt_offset.specs.Turns.{opposite}
use Rattle.apt_offset.specs.Targets.{signed}
use Rattle.apt_contact.specs.Meetings.{line_on, circle_about, meeting_cases}
use Rattle.apt_contact.specs.Contacts.{contact_point}
use Rattle.apt_stop.specs.declared.course.Course.{Course}
use Rattle.apt_stop.specs.declared.course.Choice.{Choice}
use Rattle.apt_stop.specs.Nearness.{side_of, heading, near_stop}
use Rattle.apt_stop.specs.Gaps.{is_within, is_touching}
use Rattle.apt_stop.specs.Tangencies.{tangent_axis}
use Rattle.apt_stop.specs.Courses.{is_tanto, starts_near_stop, stop_side, kept_side, axis_of}

-- ---- its end

-- which of the two points in which the targets meet: along the line, or to the left of the way from the track's centre to the stop's, for 1; two lines meet in one
abbrev pub sigma_of : ℤ → Sign → Target → Target → ℤ
sigma_of sense side (targets.Line b d h) (targets.Line e f k) = pos 1
sigma_of sense side (targets.Line b d h) (targets.Circ o r) = signed side sense
sigma_of sense side (targets.Circ o r) (targets.Line e f k) = signed (opposite side) sense
sigma_of sense side (targets.Circ o r) (targets.Circ q s) = signed side sense

-- where a course that runs on a side of its stop meets it
abbrev pub meets_at : Course → Sign → Pt
meets_at c side = contact_point c.track c.stop (sigma_of c.sense side c.track c.stop)

-- where it touches: on a line the foot of the axis, on a circle the point on the axis, on its half
abbrev pub touches_on : Target → Axis → Pt
touches_on (targets.Line b d h) a = foot_point a.through (line_on b d) h
touches_on (targets.Circ o r) a = ray_point (circle_about o r) (stretched (signed a.half (pos 1)) a.along)

-- without an axis, which is refused, at its start
abbrev pub touches_at : Course → Option Axis → Pt
touches_at c None = c.start
touches_at c (Some a) = touches_on c.track a

-- where it touches, or meets its stop
abbrev pub end_of : Course → Pt
end_of c = if is_tanto c.how then touches_at c (tangent_axis c.drive c.check) else meets_at c (stop_side c)

-- all that is chosen of it
abbrev pub choice_of : Course → Choice
choice_of c = record { side = kept_side c; end = end_of c; axis = axis_of c }

-- ---- whether the stop lies behind

abbrev pub is_same : Sign → Sign → Bool
is_same signs.Plus signs.Plus = true
is_same signs.Plus signs.Zero = false
is_same signs.Plus signs.Minus = false
is_same signs.Zero signs.Plus = false
is_same signs.Zero signs.Zero = true
is_same signs.Zero signs.Minus = false
is_same signs.Minus signs.Plus = false
is_same signs.Minus signs.Zero = false
is_same signs.Minus signs.Minus = true

-- k is at most 8 roots of n
abbrev pub is_not_ahead : ℤ → ℕ → Bool
is_not_ahead k n = is_at_least (neg_ℤ k) (neg_ℤ near_stop) n

-- and at most 8 of them to both sides of 0
abbrev pub is_by_axis : ℤ → ℕ → Bool
is_by_axis k n = is_within k (pos 0) near_stop n

-- how far a line runs on to a centre, times its length
abbrev pub way_on_to : Course → Dir → Pt → ℤ
way_on_to c d o = dot (displacement c.start o) (heading c.sense d)

-- a line that stops at a line: the start is near it, or the motion heads to the start's side; at a circle: the start is outside and past the centre, or near it and not 8 units before the centre;
-- a circle: the start is near the stop, and not 8 units off the axis on which both contacts lie evenly
abbrev pub is_past : Course → Target → Target → Bool
is_past c (targets.Line b d h) (targets.Line e f k) = starts_near_stop c || is_same (side_of c.stop c.start) (sign_of (cross f (heading c.sense d)))
is_past c (targets.Line b d h) (targets.Circ o r) =
    if starts_near_stop c then is_not_ahead (way_on_to c d o) (length_squared d)
    else is_minus (side_of c.stop c.start) && int_le (way_on_to c d o) (pos 0)
is_past c (targets.Circ o r) (targets.Line e f k) = starts_near_stop c && is_by_axis (dot (displacement o c.start) f) (length_squared f)
is_past c (targets.Circ o r) (targets.Circ q s) =
    starts_near_stop c && is_by_axis (cross (displacement o c.start) (displacement o q)) (length_squared (displacement o q))

-- against the axis on which it touches: a line is not 8 units before it; the start on a circle is within 8 units of it, on its half
abbrev pub is_past_axis : Course → Target → Axis → Bool
is_past_axis c (targets.Line b d h) a = is_not_ahead (way_on_to c d a.through) (length_squared d)
is_past_axis c (targets.Circ o r) a =
    is_by_axis (cross a.along (displacement a.through c.start)) (length_squared a.along) && is_same a.half (sign_of (dot a.along (displacement a.through c.start)))

abbrev pub is_past_or_none : Course → Option Axis → Bool
is_past_or_none c None = true
is_past_or_none c (Some a) = is_past_axis c c.track a

abbrev pub is_behind : Course → Bool
is_behind c = if is_tanto c.how then is_past_or_none c (tangent_axis c.drive c.check) else is_past c c.track c.stop

-- ---- what refuses a course

-- how its surfaces lie to each other where it touches, else its targets: the same for all legs with one stop
abbrev pub stop_cases : Course → List Row
stop_cases c =
    if is_tanto c.how then (is_none (tangent_axis c.drive c.check), cases.Parallel) ∷ (not (is_touching c.drive c.check), cases.NotTangent) ∷ []
    else meeting_cases c.track c.stop

-- whether it leads there, within the coordinate limit
abbrev pub way_cases : Course → List Row
way_cases c = (is_behind c, cases.Behind) ∷ (not (is_in_range (end_of c)), cases.OutOfRange) ∷ []

abbrev pub course_cases : Course → List Row
course_cases c = stop_cases c ++ way_cases c
