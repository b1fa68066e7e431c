-- The contact of two targets, rounded to the grid.
use Rattle.std.specs.Prelude.{◌≡◌, ◌≢◌, ◌⊎◌, ℤ, pos, neg_ℤ, ◌+ℤ◌, ◌-ℤ◌, ◌≤◌, Result, Ok, Err, if◌then◌else◌}
use Rattle.apt_num.specs.Sign.{AtLeast, square}
use Rattle.apt_words.specs.declared.Case.{Case}
use Rattle.apt_words.specs.declared.Case.TheVariants as cases
use Rattle.apt_plane.specs.declared.figures.Pt.{Pt}
use Rattle.apt_plane.specs.Ranges.{IsRound}
use Rattle.apt_plane.specs.Vectors.{displacement, cross, length_squared}
use Rattle.apt_canon.specs.Scale.{is_in_range, IsNearLine, IsNearCircle}
use Rattle.apt_canon.specs.Meeting.{meeting_point}
use Rattle.apt_canon.specs.Circles.{line_circle_point, circle_circle_point}
use Rattle.apt_offset.specs.declared.Target.{Target}
use Rattle.apt_offset.specs.declared.Target.TheVariants as targets
use Rattle.apt_offset.specs.Ranges.{IsLineTarget}
use Rattle.apt_contact.specs.declared.Meeting.{Meeting}
use Rattle.apt_contact.specs.declared.Meeting.TheVariants as meetings
use Rattle.apt_contact.specs.Meetings.{line_on, circle_about}

-- the point of the closed formula, for sigma 1 or -1; two lines have one
abbrev pub contact_point : Target → Target → ℤ → Pt
contact_point (targets.Line b d h) (targets.Line e f k) sigma = meeting_point (line_on b d) h (line_on e f) k
contact_point (targets.Line b d h) (targets.Circ c r) sigma = line_circle_point (line_on b d) h (circle_about c r) sigma
contact_point (targets.Circ c r) (targets.Line b d h) sigma = line_circle_point (line_on b d) h (circle_about c r) sigma
contact_point (targets.Circ c r) (targets.Circ d q) sigma = circle_circle_point (circle_about c r) (circle_about d q) sigma

abbrev pub contact : Target → Target → ℤ → Result Pt Case
contact a b sigma = if is_in_range (contact_point a b sigma) then Ok (contact_point a b sigma) else Err cases.OutOfRange

-- a point is at most so far from a target
abbrev pub IsNearTarget : Target → ℤ → Pt → Type 0
IsNearTarget (targets.Line b d h) g p = IsNearLine (line_on b d) h g p
IsNearTarget (targets.Circ c r) g p = IsNearCircle (circle_about c r) g p

-- what may meet: a moved line, or a circle of any radius from 0
abbrev pub IsCurve : Target → Type 0
IsCurve (targets.Line b d h) = IsLineTarget b d h
IsCurve (targets.Circ c r) = IsRound (circle_about c r)

-- the targets have a common point
abbrev pub HasMeeting : Meeting → Type 0
HasMeeting meetings.Parallel = ⊥
HasMeeting meetings.Apart = ⊥
HasMeeting meetings.One = Unit {0}
HasMeeting meetings.Two = Unit {0}

-- ---- the exact curves

-- parallel lines, and circles about one centre
abbrev pub AreParallel : Target → Target → Type 0
AreParallel (targets.Line b d h) (targets.Line e f k) = cross d f ≡ pos 0
AreParallel (targets.Line b d h) (targets.Circ c r) = ⊥
AreParallel (targets.Circ c r) (targets.Line b d h) = ⊥
AreParallel (targets.Circ c r) (targets.Circ d q) = c ≡ d

-- the curves have a common point: a line and a circle where the centre is at most the radius away from the line, two circles where their centres are apart at least the difference of the radii and at most their sum
abbrev pub Meet : Target → Target → Type 0
Meet (targets.Line b d h) (targets.Line e f k) = cross d f ≢ pos 0
Meet (targets.Line b d h) (targets.Circ c r) = IsNearLine (line_on b d) h r c
Meet (targets.Circ c r) (targets.Line b d h) = IsNearLine (line_on b d) h r c
Meet (targets.Circ c r) (targets.Circ d q) = (square (r -ℤ q) ≤ length_squared (displacement c d)) × (length_squared (displacement c d) ≤ square (r +ℤ q))

-- k is exactly h times the root of n
abbrev pub IsExactly : ℤ → ℤ → Target → Type 0
IsExactly k h (targets.Line b d off) = AtLeast k h (length_squared d) × AtLeast (neg_ℤ k) (neg_ℤ h) (length_squared d)
IsExactly k h (targets.Circ c r) = ⊥

-- they touch in a single point
abbrev pub Touch : Target → Target → Type 0
Touch (targets.Line b d h) (targets.Line e f k) = cross d f ≢ pos 0
Touch (targets.Line b d h) (targets.Circ c r) =
    IsExactly (cross d (displacement b c)) (h +ℤ r) (targets.Line b d h) ⊎ IsExactly (cross d (displacement b c)) (h -ℤ r) (targets.Line b d h)
Touch (targets.Circ c r) (targets.Line b d h) =
    IsExactly (cross d (displacement b c)) (h +ℤ r) (targets.Line b d h) ⊎ IsExactly (cross d (displacement b c)) (h -ℤ r) (targets.Line b d h)
Touch (targets.Circ c r) (targets.Circ d q) =
    (length_squared (displacement c d) ≡ square (r -ℤ q)) ⊎ (length_squared (displacement c d) ≡ square (r +ℤ q))
