-- Where on a segment a fact fails first.
use Rattle.std.specs.Prelude.{◌≡◌, ◌⊎◌, ℕ, ◌+◌, ◌<◌, pos}
use Rattle.apt_plane.specs.declared.figures.Pt.{Pt}
use Rattle.apt_plane.specs.declared.figures.Surface.{Surface}
use Rattle.apt_plane.specs.declared.figures.Surface.TheVariants as surfaces
use Rattle.apt_plane.specs.declared.figures.Band.{Band}
use Rattle.apt_plane.specs.declared.figures.Spot.{Spot}
use Rattle.apt_plane.specs.Vectors.{Scaled, scaled, between, displacement, dot, length_squared}
use Rattle.apt_plane.specs.Distances.{about, InBand}

-- the start of a segment, and its end
abbrev pub start_spot : Spot
start_spot = record { j = pos 0; m = pos 1 }

abbrev pub end_spot : Spot
end_spot = record { j = pos 1; m = pos 1 }

-- the first of the two ends that a fact is not true of
abbrev pub IsFirstEnd : (Scaled → Type 0) → Pt → Pt → Spot → Type 0
IsFirstEnd P p q s = ((s ≡ start_spot) × ¬ P (scaled p)) ⊎ ((s ≡ end_spot) × P (scaled p) × ¬ P (scaled q))

-- the point between P and Q that is nearest to c, where the perpendicular from c meets the segment: it divides the segment as j to k
pub record IsFoot (c p q : Pt) (j k : ℕ) : Type 0 where
  pub behind_start : 0 < j
  pub before_end : 0 < k
  pub along : pos j ≡ dot (displacement p q) (displacement p c)
  pub whole : j + k ≡ length_squared (displacement p q)

-- a fact is true of both ends, and not of that point
pub record IsFirstFoot (c : Pt) (P : Scaled → Type 0) (p q : Pt) (s : Spot) : Type 0 where
  pub j : ℕ
  pub k : ℕ
  pub at : s ≡ record { j = pos j; m = pos (j + k) }
  pub foot : IsFoot c p q j k
  pub start : P (scaled p)
  pub end : P (scaled q)
  pub fails : ¬ P (between p q j k)

-- the first that a fact about a surface is not true of: of the two ends, and for a circle of the foot of its centre
abbrev pub IsFirstOff : Surface → (Scaled → Type 0) → Pt → Pt → Spot → Type 0
IsFirstOff (surfaces.Line l) P p q s = IsFirstEnd P p q s
IsFirstOff (surfaces.Circ c) P p q s = IsFirstEnd P p q s ⊎ IsFirstFoot c.c P p q s

-- the first that is not in the band of a surface, and of a ring about c
abbrev pub IsFirstOutside : Pt → Pt → Surface → Band → Spot → Type 0
IsFirstOutside p q surface band s = IsFirstOff surface (InBand surface band) p q s

abbrev pub IsFirstOutsideRing : Pt → Pt → Pt → Band → Spot → Type 0
IsFirstOutsideRing p q c band s = IsFirstOutside p q (about c) band s
