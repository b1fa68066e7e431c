-- What a course has that nothing refuses: a side where it meets its stop, and else an axis.
use Rattle.std.proofs.Common.{refl, ◌≡◌, ◌≢◌, true≢false, Bool, true, false, Option, Some, None}
use Rattle.std.specs.Prelude.{not, ◌||◌, is_none, is_some}
use Rattle.std.proofs.lemmas.Bool.{not-false}
use Rattle.apt_num.specs.declared.Sign.{Sign}
use Rattle.apt_num.specs.declared.Sign.TheVariants as signs
use Rattle.apt_words.specs.Rows.{NoneHolds}
use Rattle.apt_canon.proofs.Ways.{point_inside}
use Rattle.apt_plane.specs.declared.figures.Axis.{Axis}
use Rattle.apt_plane.specs.Ranges.{IsPoint}
use Rattle.apt_offset.specs.Turns.{is_zero}
use Rattle.apt_stop.specs.declared.course.Course.{Course}
use Rattle.apt_stop.specs.Courses.{is_tanto, kept_side, axis_of}
use Rattle.apt_stop.specs.Choices.{is_past, end_of, stop_cases, course_cases}
use Rattle.apt_stop.specs.Tangencies.{tangent_axis}
use Rattle.apt_stop.specs.Ranges.{IsCourse}
use Rattle.apt_stop.proofs.Placed.{placed}
use Rattle.apt_stop.proofs.Sided.{sided}
use Rattle.apt_stop.proofs.Decided.{stop_free, way_free}

not_zero : (s : Sign) → s ≢ signs.Zero → is_zero s ≡ false
not_zero signs.Minus d = refl
not_zero signs.Zero d = absurd (d refl)
not_zero signs.Plus d = refl

ahead : (c : Course) → is_tanto c.how ≡ false → NoneHolds (course_cases c) → is_past c c.track c.stop ≡ false
ahead c e none = rw e at (way_free c none).0

pub has_side : (c : Course) → IsCourse c → NoneHolds (course_cases c) → is_tanto c.how ≡ false → is_zero (kept_side c) ≡ false
has_side c is none e = rw e (not_zero _ (sided c (placed c is) (ahead c e none)))

axis_free : (c : Course) → is_tanto c.how ≡ true → NoneHolds (stop_cases c) → is_none (tangent_axis c.drive c.check) ≡ false
axis_free c e free = (rw e at free).0

pub has_axis : (c : Course) → NoneHolds (course_cases c) → is_tanto c.how ≡ true → is_none (axis_of c) ≡ false
has_axis c none e = rw e (axis_free c e (stop_free c none))

-- ---- so one of both is there, and the end is within the limit

first_there : (zero some : Bool) → zero ≡ false → (not zero || some) ≡ true
first_there false some e = refl
first_there true some e = absurd (true≢false e)

second_there : (zero : Bool) (axis : Option Axis) → is_none axis ≡ false → (not zero || is_some axis) ≡ true
second_there false axis e = refl
second_there true (Some a) e = refl
second_there true None e = absurd (true≢false e)

bound_by : (tanto : Bool) (c : Course) → is_tanto c.how ≡ tanto → IsCourse c → NoneHolds (course_cases c) → (not (is_zero (kept_side c)) || is_some (axis_of c)) ≡ true
bound_by false c e is none = first_there (is_zero (kept_side c)) (is_some (axis_of c)) (has_side c is none e)
bound_by true c e is none = second_there (is_zero (kept_side c)) (axis_of c) (has_axis c none e)

pub bound_there : (c : Course) → IsCourse c → NoneHolds (course_cases c) → (not (is_zero (kept_side c)) || is_some (axis_of c)) ≡ true
bound_there c is none = bound_by (is_tanto c.how) c refl is none

pub end_is_point : (c : Course) → NoneHolds (course_cases c) → IsPoint (end_of c)
end_is_point c none = point_inside (end_of c) (not-false _ (way_free c none).1.0)
