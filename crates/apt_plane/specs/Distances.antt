-- Points and segments against a surface: left of a line, or from a centre.
use Rattle.std.specs.Prelude.{ℕ, ◌+◌, ◌*◌, ◌<◌, ◌≤◌, ℤ, pos, neg_ℤ, ◌*ℤ◌, int_lt, unsigned_abs, MatchBool}
use Rattle.apt_num.specs.Sign.{AtLeast}
use Rattle.apt_plane.specs.declared.figures.Pt.{Pt}
use Rattle.apt_plane.specs.declared.figures.Line.{Line}
use Rattle.apt_plane.specs.declared.figures.Surface.{Surface}
use Rattle.apt_plane.specs.declared.figures.Surface.TheVariants as surfaces
use Rattle.apt_plane.specs.declared.figures.Band.{Band}
use Rattle.apt_plane.specs.Vectors.{Scaled, between, displacement_to, height, length_squared}

-- the signed distance of a point from a line is at least a length, and at most one
abbrev pub IsAbove : Line → ℤ → Scaled → Type 0
IsAbove l lo s = AtLeast (height l s) (pos s.m *ℤ lo) (length_squared l.dir)

abbrev pub IsBelow : Line → ℤ → Scaled → Type 0
IsBelow l hi s = AtLeast (neg_ℤ (height l s)) (neg_ℤ (pos s.m *ℤ hi)) (length_squared l.dir)

-- a length is at most the root of n
abbrev pub IsLengthAtMost : ℤ → ℕ → Type 0
IsLengthAtMost length n = MatchBool (int_lt length (pos 0)) (Unit {0}) (unsigned_abs length * unsigned_abs length ≤ n)

-- the root of n is at most a length
abbrev pub IsRootAtMost : ℕ → ℤ → Type 0
IsRootAtMost n length = MatchBool (int_lt length (pos 0)) ⊥ (n ≤ unsigned_abs length * unsigned_abs length)

-- the distance of a point from a surface, signed and to the left for a line, from the centre for a circle: at least a length, at most one
abbrev pub IsOver : Surface → ℤ → Scaled → Type 0
IsOver (surfaces.Line l) lo s = IsAbove l lo s
IsOver (surfaces.Circ c) lo s = IsLengthAtMost (pos s.m *ℤ lo) (length_squared (displacement_to c.c s))

abbrev pub IsUnder : Surface → ℤ → Scaled → Type 0
IsUnder (surfaces.Line l) hi s = IsBelow l hi s
IsUnder (surfaces.Circ c) hi s = IsRootAtMost (length_squared (displacement_to c.c s)) (pos s.m *ℤ hi)

-- a circle about a point: distances from it go by its centre alone
abbrev pub about : Pt → Surface
about c = surfaces.Circ (record { c = c; r = pos 0 })

-- a point is in the band of a surface
pub record InBand (surface : Surface) (band : Band) (s : Scaled) : Type 0 where
  pub lo : IsOver surface band.lo s
  pub hi : IsUnder surface band.hi s

-- a fact of every point of the segment PQ
abbrev pub EveryPoint : Pt → Pt → (Scaled → Type 0) → Type 0
EveryPoint p q P = (j k : ℕ) → 0 < j + k → P (between p q j k)
