-- The axis on which a motion ends that touches its check surface.
use Rattle.std.specs.Prelude.{◌≡◌, ◌≢◌, int_le, ◌||◌, Option, Some, None, if◌then◌else◌}
use Rattle.apt_num.specs.declared.Sign.{Sign}
use Rattle.apt_num.specs.declared.Sign.TheVariants as signs
use Rattle.apt_num.specs.Sign.{sign_of}
use Rattle.apt_plane.specs.declared.figures.Pt.{Pt}
use Rattle.apt_plane.specs.declared.figures.Dir.{Dir}
use Rattle.apt_plane.specs.declared.figures.Axis.{Axis}
use Rattle.apt_plane.specs.declared.figures.Line.{Line}
use Rattle.apt_plane.specs.declared.figures.Circ.{Circ}
use Rattle.apt_plane.specs.declared.figures.Surface.{Surface}
use Rattle.apt_plane.specs.declared.figures.Surface.TheVariants as surfaces
use Rattle.apt_plane.specs.Vectors.{displacement, cross, perp}
use Rattle.apt_canon.specs.Circles.{are_concentric}
use Rattle.apt_offset.specs.Turns.{opposite}
use Rattle.apt_offset.specs.Sides.{side_or_left, touch_outside}

abbrev pub axis : Pt → Dir → Sign → Axis
axis at along half = record { through = at; along = along; half = half }

-- a circle touches a line on the half that lies towards it: to the line's right where the centre is left of it, or on it
abbrev pub half_towards : Line → Circ → Sign
half_towards l c = opposite (side_or_left (sign_of (cross l.dir (displacement l.base c.c))))

-- and another circle on the half towards its centre, but away from it where that one is greater and goes round
abbrev pub touching_half : Circ → Circ → Sign
touching_half c d = if touch_outside c d || int_le d.r c.r then signs.Plus else signs.Minus

-- through the centre of a circle that is touched, or that touches, and square to the line, or through both centres: none for two lines, and for circles about one centre
abbrev pub tangent_axis : Surface → Surface → Option Axis
tangent_axis (surfaces.Line l) (surfaces.Line k) = None
tangent_axis (surfaces.Line l) (surfaces.Circ c) = Some (axis c.c (perp l.dir) signs.Zero)
tangent_axis (surfaces.Circ c) (surfaces.Line l) = Some (axis c.c (perp l.dir) (half_towards l c))
tangent_axis (surfaces.Circ c) (surfaces.Circ d) = if are_concentric c d then None else Some (axis c.c (displacement c.c d.c) (touching_half c d))

-- two lines, or two circles about one centre
abbrev pub HaveNoAxis : Surface → Surface → Type 0
HaveNoAxis (surfaces.Line l) (surfaces.Line k) = Unit {0}
HaveNoAxis (surfaces.Line l) (surfaces.Circ c) = ⊥
HaveNoAxis (surfaces.Circ c) (surfaces.Line l) = ⊥
HaveNoAxis (surfaces.Circ c) (surfaces.Circ d) = c.c ≡ d.c

-- the direction of the quarter points of an arc that stops there: square to a line, or through both centres
abbrev pub axis_towards : Pt → Surface → Dir
axis_towards c (surfaces.Line l) = perp l.dir
axis_towards c (surfaces.Circ d) = displacement c d.c

-- a surface is no circle about a point
abbrev pub IsElsewhere : Pt → Surface → Type 0
IsElsewhere c (surfaces.Line l) = Unit {0}
IsElsewhere c (surfaces.Circ d) = c ≢ d.c
