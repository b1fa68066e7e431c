-- Ways from a centre to points near a circle: p is three units less than the radius.
use Rattle.std.proofs.Common.{ℕ, ◌+◌, ◌*◌, ◌≤◌, ◌<◌, arith}
use Rattle.std.proofs.Math.Nat.{mul-le-mul_left}
use Rattle.apt_plane.specs.declared.figures.Dir.{Dir}
use Rattle.apt_plane.specs.Vectors.{length_squared}

-- at most three units from the circle
pub record IsNearby (p : ℕ) (v : Dir) : Type 0 where
  pub low : p * p ≤ length_squared v
  pub high : length_squared v ≤ (p + 6) * (p + 6)

-- at most one unit from the circle
pub record IsOnCircle (p : ℕ) (v : Dir) : Type 0 where
  pub low : (p + 2) * (p + 2) ≤ length_squared v
  pub high : length_squared v ≤ (p + 4) * (p + 4)

-- a point of the circle, rounded
pub record IsRoundedPoint (p : ℕ) (v : Dir) : Type 0 where
  pub low : 2 * ((p + 3) * (p + 3)) ≤ 2 * length_squared v + 3 * (p + 3)
  pub high : 2 * length_squared v ≤ 2 * ((p + 3) * (p + 3)) + 3 * (p + 3)

pub some_length : (p : ℕ) (v : Dir) → 97 ≤ p → IsNearby p v → 0 < length_squared v
some_length p v least near = omega (arith, near.low, mul-le-mul_left p least, least)
