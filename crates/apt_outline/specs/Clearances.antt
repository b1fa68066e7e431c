-- Where the centre of a cutter is clear of a part of an outline.
use Rattle.std.specs.Prelude.{ℕ, ◌*◌, ◌^◌, ◌≤◌, ℤ, pos, ◌+ℤ◌, ◌-ℤ◌, ◌*ℤ◌, unsigned_abs}
use Rattle.apt_plane.specs.declared.figures.Pt.{Pt}
use Rattle.apt_plane.specs.declared.figures.Dir.{Dir}
use Rattle.apt_plane.specs.declared.figures.Surface.TheVariants as surfaces
use Rattle.apt_plane.specs.Ranges.{IsPoint, IsCircle}
use Rattle.apt_plane.specs.Vectors.{Scaled, length_squared}
use Rattle.apt_plane.specs.Distances.{IsLengthAtMost, IsOver, IsUnder, EveryPoint}
use Rattle.apt_outline.specs.declared.parts.Part.{Part}
use Rattle.apt_outline.specs.declared.parts.Part.TheVariants as parts
use Rattle.apt_outline.specs.declared.parts.Reach.{Reach}

-- the way from one fraction to another, times both denominators
abbrev pub displacement_scaled : Scaled → Scaled → Dir
displacement_scaled s t = record { dx = (pos s.m *ℤ t.x) -ℤ (pos t.m *ℤ s.x); dy = (pos s.m *ℤ t.y) -ℤ (pos t.m *ℤ s.y) }

-- two points are at least a length from each other
abbrev pub AreApart : ℤ → Scaled → Scaled → Type 0
AreApart length s t = IsLengthAtMost (pos (s.m * t.m) *ℤ length) (length_squared (displacement_scaled s t))

-- a point is at least r from every point of the edge PQ
abbrev pub IsFar : ℕ → Pt → Pt → Scaled → Type 0
IsFar r p q s = EveryPoint p q (AreApart (pos r) s)

-- how far the centre keeps from what is cut: the radius, less what is allowed
abbrev pub clearance : Reach → ℤ
clearance reach = reach.r -ℤ reach.i

-- a centre is clear of a part: so far from every point of an edge, so far outside of a boss, so far inside of a bore
abbrev pub IsClear : ℤ → Part → Scaled → Type 0
IsClear rho (parts.Edge p q) s = EveryPoint p q (AreApart rho s)
IsClear rho (parts.Boss c) s = IsOver (surfaces.Circ c) (c.r +ℤ rho) s
IsClear rho (parts.Bore c) s = IsUnder (surfaces.Circ c) (c.r -ℤ rho) s

-- a part in range
abbrev pub IsPart : Part → Type 0
IsPart (parts.Edge p q) = IsPoint p × IsPoint q
IsPart (parts.Boss c) = IsCircle c
IsPart (parts.Bore c) = IsCircle c

-- a reach in range
pub record IsReach (reach : Reach) : Type 0 where
  pub r : unsigned_abs reach.r ≤ 10 ^ 8
  pub i : unsigned_abs reach.i ≤ 10 ^ 8
