-- The side of its stop on which a course runs, and the axis on which it ends: all that a certificate knows of it.
use Rattle.std.specs.Prelude.{◌*ℤ◌, Bool, true, false, Option, None, if◌then◌else◌}
use Rattle.apt_num.specs.declared.Sign.{Sign}
use Rattle.apt_num.specs.declared.Sign.TheVariants as signs
use Rattle.apt_num.specs.Sign.{sign_of}
use Rattle.apt_words.specs.declared.Stop.{Stop}
use Rattle.apt_words.specs.declared.Stop.TheVariants as stops
use Rattle.apt_plane.specs.declared.figures.Axis.{Axis}
use Rattle.apt_plane.specs.Vectors.{displacement, cross, dot}
use Rattle.apt_offset.specs.declared.Target.{Target}
use Rattle.apt_offset.specs.declared.Target.TheVariants as targets
use Rattle.apt_stop.specs.declared.course.Course.{Course}
use Rattle.apt_stop.specs.Nearness.{is_near, side_of, heading, near_stop}
use Rattle.apt_stop.specs.Tangencies.{tangent_axis}

-- under TANTO a course ends where its surfaces touch
abbrev pub is_tanto : Stop → Bool
is_tanto stops.To = false
is_tanto stops.On = false
is_tanto stops.Past = false
is_tanto stops.Tanto = true

-- the start is near the stop
abbrev pub starts_near_stop : Course → Bool
starts_near_stop c = is_near c.stop near_stop c.start

-- ---- the side of the stop on which a course runs

-- into which it heads from its start: of a circle that its line comes nearer to, the inside; of a line or circle by the way in which it goes round
abbrev pub headed_side : Course → Target → Target → Sign
headed_side c (targets.Line b d h) (targets.Line e f k) = sign_of (cross f (heading c.sense d))
headed_side c (targets.Line b d h) (targets.Circ o r) = sign_of (dot (displacement c.start o) (heading c.sense d))
headed_side c (targets.Circ o r) (targets.Line e f k) = sign_of (c.sense *ℤ dot (displacement o c.start) f)
headed_side c (targets.Circ o r) (targets.Circ q s) = sign_of (c.sense *ℤ cross (displacement o c.start) (displacement o q))

-- that of its start, or where the start is near the stop the one into which it heads
abbrev pub stop_side : Course → Sign
stop_side c = if starts_near_stop c then headed_side c c.track c.stop else side_of c.stop c.start

-- a course that touches its check surface has no side
abbrev pub kept_side : Course → Sign
kept_side c = if is_tanto c.how then signs.Zero else stop_side c

-- ---- the axis on which a course ends

-- where it touches, that on which its surfaces touch
abbrev pub axis_of : Course → Option Axis
axis_of c = if is_tanto c.how then tangent_axis c.drive c.check else None
