-- Where the boxes of a segment and of an edge are apart.
use Rattle.std.specs.Prelude.{◌⊎◌, ℤ, ◌+ℤ◌, ◌≤ℤ◌, List}
use Rattle.std.specs.List.{AllByRecursion}
use Rattle.apt_plane.specs.declared.figures.Pt.{Pt}
use Rattle.apt_plane.specs.Ranges.{IsPoint}

-- both of two numbers are at least r more than both others
pub record IsAhead (r a b p q : ℤ) : Type 0 where
  pub first_first : (p +ℤ r) ≤ℤ a
  pub first_second : (q +ℤ r) ≤ℤ a
  pub second_first : (p +ℤ r) ≤ℤ b
  pub second_second : (q +ℤ r) ≤ℤ b

-- two pairs of numbers are apart, either way round
abbrev pub AreOff : ℤ → ℤ → ℤ → ℤ → ℤ → Type 0
AreOff r a b p q = IsAhead r a b p q ⊎ IsAhead r p q a b

-- a segment and an edge are, in x or in y
abbrev pub AreBoxesOff : ℤ → Pt → Pt → Pt → Pt → Type 0
AreBoxesOff r a b p q = AreOff r a.x b.x p.x q.x ⊎ AreOff r a.y b.y p.y q.y

-- a point is in the box of two corners
pub record IsIn (low high a : Pt) : Type 0 where
  pub left : low.x ≤ℤ a.x
  pub right : a.x ≤ℤ high.x
  pub below : low.y ≤ℤ a.y
  pub above : a.y ≤ℤ high.y

-- and all points of a list are, between corners in range
pub record IsBoxOf (low high : Pt) (points : List Pt) : Type 0 where
  pub least : IsPoint low
  pub greatest : IsPoint high
  pub every : AllByRecursion (IsIn low high) points

-- a box in range with a point and with all points of another box
pub record IsJoined (low high q to_low to_high : Pt) : Type 0 where
  pub least : IsPoint to_low
  pub greatest : IsPoint to_high
  pub point : IsIn to_low to_high q
  pub others : (a : Pt) → IsIn low high a → IsIn to_low to_high a
