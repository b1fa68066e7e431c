-- The point of a circle in a direction lies within one unit of it, and parallels within one unit of their distance.
use Rattle.std.proofs.Common.{◌≡◌, ℕ, zero, suc, ◌+◌, ◌-◌, ◌*◌, ◌^◌, ◌≤◌, ◌∙◌, sym, subst, arith, ℤ, pos, ◌*ℤ◌, ◌≤ℤ◌, unsigned_abs}
use Rattle.std.proofs.lemmas.Int.{ints}
use Rattle.apt_num.proofs.Framed.{IsEighth}
use Rattle.apt_num.proofs.Squares.{size_mul}
use Rattle.apt_plane.specs.declared.figures.Pt.{Pt}
use Rattle.apt_plane.specs.declared.figures.Dir.{Dir}
use Rattle.apt_plane.specs.declared.figures.Circ.{Circ}
use Rattle.apt_plane.specs.Vectors.{length_squared}
use Rattle.apt_plane.specs.Ranges.{IsDir, IsRound}
use Rattle.apt_plane.proofs.Lengths.{times, length_of_times, IsInRing}
use Rattle.apt_plane.proofs.Rounding.{near_displacement}
use Rattle.apt_canon.specs.Scale.{unit, length_of, IsNearCircle}
use Rattle.apt_canon.specs.Feet.{ray_point}
use Rattle.apt_canon.proofs.Ways.{displacement_from}
use Rattle.apt_canon.proofs.Frames.{rounded_in_ring}
use Rattle.apt_canon.proofs.CircleMeetings.Near.{near_circle}

-- an exact radius
pub eighth_exact : (r : ℕ) → IsEighth r (r * r * 2 ^ 60)
eighth_exact zero = record { least = omega arith; most = omega arith }
eighth_exact (suc t) =
    let same : 8 * suc t - 1 ≡ 8 * t + 7 = omega arith in
    record { least = rw same (omega arith); most = omega arith }

units_long : (r s n : ℕ) → s ≡ r * 2 ^ 35 → s * s * n ≡ 2 ^ 10 * n * (r * r * 2 ^ 60)
units_long r s n e = rw e (omega arith)

pub ray_length : (r : ℤ) (u : Dir) → length_squared (times (r *ℤ unit) u) ≡ 2 ^ 10 * length_squared u * (unsigned_abs r * unsigned_abs r * 2 ^ 60)
ray_length r u = length_of_times (r *ℤ unit) u ∙ units_long (unsigned_abs r) (unsigned_abs (r *ℤ unit)) (length_squared u) (size_mul r unit)

-- a distance along a direction
pub along_in_ring : (c : Pt) (r : ℤ) (u : Dir) → IsDir u → unsigned_abs r ≤ 10 ^ 8 → IsInRing (unsigned_abs r) (length_squared (near_displacement (times (r *ℤ unit) u) (length_of u)))
along_in_ring c r u is small =
    rounded_in_ring (times (r *ℤ unit) u) u (unsigned_abs r) (unsigned_abs r * unsigned_abs r * 2 ^ 60) is (omega (arith, small)) (eighth_exact (unsigned_abs r)) (ray_length r u)

radius_small : (r : ℤ) → pos 0 ≤ℤ r → r ≤ℤ pos (10 ^ 8) → unsigned_abs r ≤ 10 ^ 8
radius_small r p q = omega (arith, ints)

pub ray_near : (c : Circ) (u : Dir) → IsRound c → IsDir u → IsNearCircle c (pos 1) (ray_point c u)
ray_near c u round is =
    near_circle c (ray_point c u) round.least
    (subst (λ (w : Dir). IsInRing (unsigned_abs c.r) (length_squared w)) (sym (displacement_from c.c (near_displacement (times (c.r *ℤ unit) u) (length_of u))))
    (along_in_ring c.c c.r u is (radius_small c.r round.least round.most)))
