-- The axis on which a motion ends that touches its check surface.
use Rattle.std.specs.Prelude.{ℤ, pos, ◌<ℤ◌}
use Rattle.apt_num.specs.declared.Sign.{Sign}
use Rattle.apt_num.specs.declared.Sign.TheVariants as signs
use Rattle.apt_num.specs.Sign.{OnLine}
use Rattle.apt_plane.specs.declared.figures.Pt.{Pt}
use Rattle.apt_plane.specs.declared.figures.Axis.{Axis}
use Rattle.apt_plane.specs.Vectors.{displacement, cross, dot, length_squared}

abbrev pub IsOnHalf : Sign → ℤ → Type 0
IsOnHalf signs.Plus d = pos 0 <ℤ d
IsOnHalf signs.Minus d = d <ℤ pos 0
IsOnHalf signs.Zero d = Unit {0}

-- on the axis within 8 units, and on its half
abbrev pub IsOnAxis : Axis → Pt → Type 0
IsOnAxis axis q = OnLine (cross axis.along (displacement axis.through q)) (pos 0) (length_squared axis.along) (pos 8) × IsOnHalf axis.half (dot axis.along (displacement axis.through q))
