-- The edges of a band that a motion must not pass.
use Rattle.std.specs.Prelude.{ℤ, ◌+ℤ◌, ◌-ℤ◌}
use Rattle.apt_num.specs.declared.Sign.{Sign}
use Rattle.apt_num.specs.declared.Sign.TheVariants.{Plus as Upper, Zero as NoEdge, Minus as Lower}
use Rattle.apt_plane.specs.declared.figures.Surface.{Surface}
use Rattle.apt_plane.specs.declared.figures.Band.{Band}
use Rattle.apt_plane.specs.Vectors.{Scaled}
use Rattle.apt_plane.specs.Distances.{IsOver, IsUnder}

-- a point is not past the edge of a band: the upper one, the lower one, or none
abbrev pub IsWithinEdge : Surface → Band → Sign → Scaled → Type 0
IsWithinEdge surface band Upper s = IsUnder surface band.hi s
IsWithinEdge surface band Lower s = IsOver surface band.lo s
IsWithinEdge surface band NoEdge s = Unit {0}

-- a band with both edges further out
abbrev pub widened : Band → ℤ → Band
widened band slack = record { lo = band.lo -ℤ slack; hi = band.hi +ℤ slack }
