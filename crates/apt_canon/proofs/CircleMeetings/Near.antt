-- A point is near a circle where its way from the centre is as long as the radius, up to one unit.
use Rattle.std.proofs.Common.{◌≡◌, ℕ, zero, suc, ◌+◌, ◌-◌, ◌*◌, ◌≤◌, arith, pos, ◌+ℤ◌, ◌-ℤ◌, ◌≤ℤ◌, unsigned_abs}
use Rattle.std.proofs.lemmas.Int.{ints}
use Rattle.apt_num.proofs.Squares.{natural}
use Rattle.apt_num.proofs.Nearest.{not_negative}
use Rattle.apt_num.proofs.RootLaws.{less_one}
use Rattle.apt_plane.specs.declared.figures.Pt.{Pt}
use Rattle.apt_plane.specs.declared.figures.Circ.{Circ}
use Rattle.apt_plane.specs.Vectors.{displacement, length_squared}
use Rattle.apt_plane.specs.Distances.{IsLengthAtMost, IsRootAtMost}
use Rattle.apt_plane.proofs.Lengths.{IsInRing}
use Rattle.apt_canon.specs.Scale.{IsNearCircle}

one_less : (t : ℕ) → pos (suc t) -ℤ pos 1 ≡ pos t
one_less t = omega (arith, ints)

outside_of : (r n : ℕ) → (r - 1) * (r - 1) ≤ n → IsLengthAtMost (pos r -ℤ pos 1) n
outside_of zero n h = tt
outside_of (suc t) n h = rw (one_less t, not_negative t) (rw (less_one t) at h)

inside_of : (r n : ℕ) → n ≤ (r + 1) * (r + 1) → IsRootAtMost n (pos r +ℤ pos 1)
inside_of r n h = rw (not_negative (r + 1)) h

pub near_by : (r n : ℕ) → IsInRing r n → IsLengthAtMost (pos r -ℤ pos 1) n × IsRootAtMost n (pos r +ℤ pos 1)
near_by r n is = (outside_of r n is.least, inside_of r n is.most)

pub near_circle : (c : Circ) (p : Pt) → pos 0 ≤ℤ c.r → IsInRing (unsigned_abs c.r) (length_squared (displacement c.c p)) → IsNearCircle c (pos 1) p
near_circle c p h is =
    let both : IsLengthAtMost (c.r -ℤ pos 1) (length_squared (displacement c.c p)) × IsRootAtMost (length_squared (displacement c.c p)) (c.r +ℤ pos 1) =
    rw (natural c.r h) (near_by (unsigned_abs c.r) (length_squared (displacement c.c p)) is) in
    record { outside = both.0; inside = both.1 }
