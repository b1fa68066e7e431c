-- The place of the cutter at a surface: left of a line or inside a circle, right or outside, or on it.
use Rattle.std.specs.Prelude.{◌≡◌, ℕ, ◌*◌, nat_le, Bool, false, ℤ, pos, ◌-ℤ◌, ◌*ℤ◌, unsigned_abs, max, if◌then◌else◌}
use Rattle.apt_num.specs.declared.Sign.{Sign}
use Rattle.apt_num.specs.declared.Sign.TheVariants.{Plus as LeftOrInside, Zero as Upon, Minus as RightOrOutside}
use Rattle.apt_num.specs.Sign.{sign_of}
use Rattle.apt_words.specs.declared.Side.{Side}
use Rattle.apt_words.specs.declared.Side.TheVariants as sides
use Rattle.apt_words.specs.declared.Stop.{Stop}
use Rattle.apt_words.specs.declared.Stop.TheVariants as stops
use Rattle.apt_plane.specs.declared.figures.Pt.{Pt}
use Rattle.apt_plane.specs.declared.figures.Circ.{Circ}
use Rattle.apt_plane.specs.declared.figures.Surface.{Surface}
use Rattle.apt_plane.specs.declared.figures.Surface.TheVariants as surfaces
use Rattle.apt_plane.specs.Vectors.{displacement, cross, length_squared}
use Rattle.apt_offset.specs.Turns.{opposite, is_zero}

abbrev pub times : Sign → Sign → Sign
times LeftOrInside s = s
times Upon s = Upon
times RightOrOutside s = opposite s

-- the place at the drive surface: a cutter on the left of a motion in the sense of a line is on the line's left, and of an anticlockwise motion inside the circle
abbrev pub side_at_drive : Side → ℤ → Sign
side_at_drive sides.Left sense = sign_of sense
side_at_drive sides.Right sense = opposite (sign_of sense)
side_at_drive sides.On sense = Upon

-- the place of a point at a surface
abbrev pub side_at : Surface → Pt → Sign
side_at (surfaces.Line l) p = sign_of (cross l.dir (displacement l.base p))
side_at (surfaces.Circ c) p = sign_of ((c.r *ℤ c.r) -ℤ pos (length_squared (displacement c.c p)))

-- the left where a place is neither
abbrev pub side_or_left : Sign → Sign
side_or_left RightOrOutside = RightOrOutside
side_or_left Upon = LeftOrInside
side_or_left LeftOrInside = LeftOrInside

abbrev pub inside_or_outside : Sign → Sign
inside_or_outside RightOrOutside = RightOrOutside
inside_or_outside Upon = RightOrOutside
inside_or_outside LeftOrInside = LeftOrInside

abbrev pub greater_radius : Circ → Circ → ℕ
greater_radius c d = max (unsigned_abs c.r) (unsigned_abs d.r)

-- two circles touch from outside where their centres are at least the greater radius apart
abbrev pub touch_outside : Circ → Circ → Bool
touch_outside c d = nat_le (greater_radius c d * greater_radius c d) (length_squared (displacement c.c d.c))

-- the place at a check surface that is touched, behind the place at the drive surface
abbrev pub side_at_tangency : Surface → Surface → Sign → Sign
side_at_tangency drive check Upon = Upon
side_at_tangency (surfaces.Line l) (surfaces.Line m) v = Upon
side_at_tangency (surfaces.Line l) (surfaces.Circ c) v = inside_or_outside (times v (sign_of (cross l.dir (displacement l.base c.c))))
side_at_tangency (surfaces.Circ c) (surfaces.Line l) v = times (side_or_left (sign_of (cross l.dir (displacement l.base c.c)))) v
side_at_tangency (surfaces.Circ c) (surfaces.Circ d) v = if touch_outside c d then opposite v else v

-- the place of the cutter at the check surface where the motion stops: on the start's side under TO, on the other under PAST
abbrev pub side_at_check : Surface → Stop → Pt → Surface → Sign → Sign
side_at_check check stops.To start drive v = side_at check start
side_at_check check stops.Past start drive v = opposite (side_at check start)
side_at_check check stops.On start drive v = Upon
side_at_check check stops.Tanto start drive v = side_at_tangency drive check v

-- TO and PAST need a start that is not on the check surface
abbrev pub is_on_check : Stop → Sign → Bool
is_on_check stops.To w = is_zero w
is_on_check stops.Past w = is_zero w
is_on_check stops.On w = false
is_on_check stops.Tanto w = false

-- where a motion stops: under TO on the side of the check surface on which it starts, under PAST on the other
abbrev pub StopsAside : Surface → Stop → Pt → Pt → Type 0
StopsAside check stops.To start q = side_at check q ≡ side_at check start
StopsAside check stops.Past start q = side_at check q ≡ opposite (side_at check start)
StopsAside check stops.On start q = Unit {0}
StopsAside check stops.Tanto start q = Unit {0}
