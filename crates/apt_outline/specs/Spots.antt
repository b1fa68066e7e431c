-- The spots of a segment that are looked at, in order, and the first that a fact is not true of.
use Rattle.std.specs.Prelude.{◌≡◌, ℕ, ◌+◌, ℤ, pos, neg_ℤ, ◌-ℤ◌, int_lt, unsigned_abs, ◌&&◌, if◌then◌else◌, List, [], ◌∷◌, ◌++◌, length}
use Rattle.std.specs.List.{AllByRecursion}
use Rattle.apt_plane.specs.declared.figures.Pt.{Pt}
use Rattle.apt_plane.specs.declared.figures.Spot.{Spot}
use Rattle.apt_plane.specs.Vectors.{Scaled, between, displacement, cross, dot, length_squared}
use Rattle.apt_plane.specs.Segments.{start_spot, end_spot}
use Rattle.apt_outline.specs.declared.parts.Part.{Part}
use Rattle.apt_outline.specs.declared.parts.Part.TheVariants as parts

-- the point of a segment that a spot names
abbrev pub at_spot : Pt → Pt → Spot → Scaled
at_spot a b s = between a b (unsigned_abs s.j) (unsigned_abs (s.m -ℤ s.j))

-- a spot between the ends, if it is there
abbrev pub inner : ℤ → ℤ → List Spot
inner j m = if int_lt (pos 0) j && int_lt j m then record { j = j; m = m } ∷ [] else []

-- where the perpendicular from c meets the segment
abbrev pub foot : Pt → Pt → Pt → List Spot
foot c a b = inner (dot (displacement a b) (displacement a c)) (pos (length_squared (displacement a b)))

-- where a line meets the segment, of j and m with the sign of m
abbrev pub inner_by_sign : ℤ → ℤ → List Spot
inner_by_sign j m = if int_lt m (pos 0) then inner (neg_ℤ j) (neg_ℤ m) else inner j m

-- where the line through p and q meets the segment
abbrev pub crossing : Pt → Pt → Pt → Pt → List Spot
crossing a b p q = inner_by_sign (cross (displacement a p) (displacement p q)) (cross (displacement a b) (displacement p q))

-- the ends; for an edge the feet of its ends and where its line crosses, for a boss the foot of its centre
abbrev pub spots : Part → Pt → Pt → List Spot
spots (parts.Edge p q) a b = start_spot ∷ end_spot ∷ foot p a b ++ foot q a b ++ crossing a b p q
spots (parts.Boss c) a b = start_spot ∷ end_spot ∷ foot c.c a b
spots (parts.Bore c) a b = start_spot ∷ end_spot ∷ []

-- a fact is true of all members of a list before one, and not of that one; it has the number n, from 1
pub record IsFirst {T : Type 0} (P : T → Type 0) (list : List T) (n : ℕ) (x : T) : Type 0 where
  pub before : List T
  pub behind : List T
  pub split : list ≡ before ++ x ∷ behind
  pub hold : AllByRecursion P before
  pub fails : ¬ P x
  pub number : n ≡ length before + 1

-- the first spot of a segment's list at which a fact about points is not true
abbrev pub IsFirstSpot : Pt → Pt → (Scaled → Type 0) → List Spot → Spot → Type 0
IsFirstSpot a b P list s = (n : ℕ) × IsFirst (λ t. P (at_spot a b t)) list n s
