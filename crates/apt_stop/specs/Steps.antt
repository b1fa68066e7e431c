-- The steps in which the code decides where a course stops; what they come to, Courses and Choices say.
use Rattle.std.specs.Prelude.{◌≢◌, pos, int_le, ◌&&◌, not, Bool, true, false, [], ◌∷◌, ◌++◌, Option, Some, None, Result, Ok, Err, if◌then◌else◌}
use Rattle.apt_num.specs.declared.Sign.{Sign}
use Rattle.apt_num.specs.declared.Sign.TheVariants as signs
use Rattle.apt_num.specs.Sign.{sign_of, is_minus}
use Rattle.apt_words.specs.declared.Case.{Case}
use Rattle.apt_words.specs.declared.Case.TheVariants as cases
use Rattle.apt_words.specs.Rows.{unless}
use Rattle.apt_plane.specs.declared.figures.Pt.{Pt}
use Rattle.apt_plane.specs.declared.figures.Axis.{Axis}
use Rattle.apt_plane.specs.declared.figures.Moved.{Moved}
use Rattle.apt_plane.specs.Ranges.{IsPoint, IsDir, IsSense}
use Rattle.apt_plane.specs.Vectors.{displacement, cross, dot, length_squared}
use Rattle.apt_canon.specs.Scale.{is_in_range}
use Rattle.apt_canon.specs.Meeting.{are_parallel, meeting_point}
use Rattle.apt_offset.specs.declared.Target.{Target}
use Rattle.apt_offset.specs.declared.Target.TheVariants as targets
use Rattle.apt_offset.specs.Ranges.{IsTarget}
use Rattle.apt_contact.specs.Meetings.{meeting_cases}
use Rattle.apt_stop.specs.declared.course.Course.{Course}
use Rattle.apt_stop.specs.declared.course.Choice.{Choice}
use Rattle.apt_stop.specs.Nearness.{is_near, side_of, heading, near_stop}
use Rattle.apt_stop.specs.Gaps.{is_touching}
use Rattle.apt_stop.specs.Courses.{headed_side, stop_side}
use Rattle.apt_stop.specs.Choices.{is_same, is_past, is_past_axis, is_not_ahead, is_by_axis, way_on_to, meets_at, touches_on}

-- its start and its targets are in range
pub record IsPlaced (c : Course) : Type 0 where
  pub start : IsPoint c.start
  pub track : IsTarget c.track
  pub sense : IsSense c.sense
  pub stop : IsTarget c.stop

pub record IsAxis (a : Axis) : Type 0 where
  pub through : IsPoint a.through
  pub along : IsDir a.along

-- a circle is touched on a half
abbrev pub HasHalf : Target → Axis → Type 0
HasHalf (targets.Line b d h) a = Unit {0}
HasHalf (targets.Circ o r) a = a.half ≢ signs.Zero

-- the side of a target on which a point is, none where it is near
abbrev pub far_side : Target → Pt → Option Sign
far_side t p = if is_near t near_stop p then None else Some (side_of t p)

-- of a course that starts there
abbrev pub side_from : Course → Option Sign → Sign
side_from c None = headed_side c c.track c.stop
side_from c (Some side) = side

abbrev pub past_from : Course → Target → Target → Option Sign → Bool
past_from c (targets.Line b d h) (targets.Line e f k) None = true
past_from c (targets.Line b d h) (targets.Line e f k) (Some side) = is_same side (sign_of (cross f (heading c.sense d)))
past_from c (targets.Line b d h) (targets.Circ o r) None = is_not_ahead (way_on_to c d o) (length_squared d)
past_from c (targets.Line b d h) (targets.Circ o r) (Some side) = is_minus side && int_le (way_on_to c d o) (pos 0)
past_from c (targets.Circ o r) (targets.Line e f k) None = is_by_axis (dot (displacement o c.start) f) (length_squared f)
past_from c (targets.Circ o r) (targets.Line e f k) (Some side) = false
past_from c (targets.Circ o r) (targets.Circ q s) None = is_by_axis (cross (displacement o c.start) (displacement o q)) (length_squared (displacement o q))
past_from c (targets.Circ o r) (targets.Circ q s) (Some side) = false

-- a choice where its end is in range
abbrev pub within : Choice → Result Choice Case
within x = if is_in_range x.end then Ok x else Err cases.OutOfRange

-- ---- a course that meets its stop

-- a side tells which of two points is meant; two lines have one alone
abbrev pub HasSide : Target → Target → Sign → Type 0
HasSide (targets.Line b d h) (targets.Line e f k) side = Unit {0}
HasSide (targets.Line b d h) (targets.Circ o r) side = side ≢ signs.Zero
HasSide (targets.Circ o r) (targets.Line e f k) side = side ≢ signs.Zero
HasSide (targets.Circ o r) (targets.Circ q s) side = side ≢ signs.Zero

abbrev pub met : Course → Choice
met c = record { side = stop_side c; end = meets_at c (stop_side c); axis = None }

abbrev pub led : Course → Result Choice Case
led c = if is_past c c.track c.stop then Err cases.Behind else within (met c)

abbrev pub meeting : Course → Result Choice Case
meeting c = unless (meeting_cases c.track c.stop ++ (is_past c c.track c.stop, cases.Behind) ∷ (not (is_in_range (meets_at c (stop_side c))), cases.OutOfRange) ∷ []) (met c)

-- along one moved line to another
abbrev pub straight : Course → Moved → Moved → Result Choice Case
straight c track stop =
    if are_parallel track.line stop.line then Err cases.Parallel
    else if is_past c c.track c.stop then Err cases.Behind
    else within (record { side = stop_side c; end = meeting_point track.line track.off stop.line stop.off; axis = None })

-- ---- a course that touches its check surface

abbrev pub touched : Course → Axis → Choice
touched c a = record { side = signs.Zero; end = touches_on c.track a; axis = Some a }

abbrev pub touch : Course → Option Axis → Result Choice Case
touch c None = Err cases.Parallel
touch c (Some a) =
    if not (is_touching c.drive c.check) then Err cases.NotTangent
    else if is_past_axis c c.track a then Err cases.Behind
    else within (touched c a)
