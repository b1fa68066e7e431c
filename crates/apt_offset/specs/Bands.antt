-- What a tolerance band says of the cutter. A whole number is a distance to the left of a line, or from a circle's centre.
use Rattle.std.specs.Prelude.{ℤ, pos, neg_ℤ, ◌-ℤ◌, ◌≤ℤ◌, unsigned_abs, ◌⊎◌}
use Rattle.apt_num.specs.declared.Sign.{Sign}
use Rattle.apt_num.specs.declared.Sign.TheVariants.{Plus as LeftOrInside, Zero as Upon, Minus as RightOrOutside}
use Rattle.apt_plane.specs.declared.figures.Surface.{Surface}
use Rattle.apt_plane.specs.declared.figures.Surface.TheVariants as surfaces
use Rattle.apt_plane.specs.declared.figures.Band.{Band}
use Rattle.apt_offset.specs.declared.Target.{Target}
use Rattle.apt_offset.specs.declared.Target.TheVariants as targets

-- a distance is in a band
abbrev pub IsInBand : Band → ℤ → Type 0
IsInBand band x = (band.lo ≤ℤ x) × (x ≤ℤ band.hi)

-- how far the cutter's centre is off the surface, to the side of its place; on the surface either side counts
abbrev pub off_surface : Surface → Sign → ℤ → ℤ
off_surface (surfaces.Line l) LeftOrInside x = x
off_surface (surfaces.Line l) RightOrOutside x = neg_ℤ x
off_surface (surfaces.Line l) Upon x = pos (unsigned_abs x)
off_surface (surfaces.Circ c) LeftOrInside x = c.r -ℤ x
off_surface (surfaces.Circ c) RightOrOutside x = x -ℤ c.r
off_surface (surfaces.Circ c) Upon x = pos (unsigned_abs (c.r -ℤ x))

-- an edge is at most o off the surface, and at most i in it
abbrev pub IsEdgeWithin : ℤ → ℤ → ℤ → Type 0
IsEdgeWithin i o edge = (neg_ℤ i ≤ℤ edge) × (edge ≤ℤ o)

-- the edge of a cutter of radius r is at most o off the surface and at most i in it; on the surface its centre is at most the greater of both away
abbrev pub HasEdgeWithin : Surface → Sign → ℤ → ℤ → ℤ → ℤ → Type 0
HasEdgeWithin surface LeftOrInside r i o x = IsEdgeWithin i o (off_surface surface LeftOrInside x -ℤ r)
HasEdgeWithin surface RightOrOutside r i o x = IsEdgeWithin i o (off_surface surface RightOrOutside x -ℤ r)
HasEdgeWithin surface Upon r i o x = (off_surface surface Upon x ≤ℤ i) ⊎ (off_surface surface Upon x ≤ℤ o)

-- the distance at which a target runs
abbrev pub reach : Target → ℤ
reach (targets.Line base dir off) = off
reach (targets.Circ c r) = r
