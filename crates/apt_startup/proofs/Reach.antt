-- A point near a circle is in sight.
use Rattle.std.proofs.Common.{ℕ, ◌*◌, ◌≤◌, arith, ℤ, pos, negsuc, ◌+ℤ◌, ◌-ℤ◌, ◌≤ℤ◌, unsigned_abs}
use Rattle.std.proofs.lemmas.Int.{ints}
use Rattle.apt_num.proofs.Squares.{part_short}
use Rattle.apt_num.proofs.Nearest.{not_negative}
use Rattle.apt_plane.specs.declared.figures.Pt.{Pt}
use Rattle.apt_plane.specs.declared.figures.Circ.{Circ}
use Rattle.apt_plane.specs.Vectors.{displacement, length_squared}
use Rattle.apt_plane.specs.Distances.{IsRootAtMost}
use Rattle.apt_plane.specs.Ranges.{IsRound}
use Rattle.apt_canon.specs.Scale.{IsNearCircle}
use Rattle.apt_offset.specs.Ranges.{IsCircleTarget}
use Rattle.apt_startup.specs.Ranges.{IsInSight}

-- what a root at most a length says of the squares
at_most : (n : ℕ) (length : ℤ) → pos 0 ≤ℤ length → IsRootAtMost n length → n ≤ unsigned_abs length * unsigned_abs length
at_most n (pos length) is h = rw (not_negative length) at h
at_most n (negsuc length) is h = absurd (omega (arith, ints))

-- each part_short of a way is at most its length

pub near_circle : (c : Circ) (p : Pt) → IsRound c → IsNearCircle c (pos 1) p → IsInSight p
near_circle c p is near =
    let m = unsigned_abs (c.r +ℤ pos 1) in
    let inside = at_most (length_squared (displacement c.c p)) (c.r +ℤ pos 1) (omega (arith, ints, is.least)) near.inside in
    let x = part_short (unsigned_abs (p.x -ℤ c.c.x)) (unsigned_abs (p.y -ℤ c.c.y)) m inside in
    let y = part_short (unsigned_abs (p.y -ℤ c.c.y)) (unsigned_abs (p.x -ℤ c.c.x)) m (omega (arith, inside)) in
    record {
      x = omega (arith, ints, is.least, is.most, is.centre.x, x);
      y = omega (arith, ints, is.least, is.most, is.centre.y, y);
    }

pub near_target : (c : Circ) (p : Pt) → IsCircleTarget c.c c.r → IsNearCircle c (pos 1) p → IsInSight p
near_target c p is near = near_circle c p (record { centre = is.centre; least = omega (arith, ints, is.least); most = is.most }) near
