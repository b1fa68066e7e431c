-- The room about the target of a circle: in its band, and within the coordinate limit.
use Rattle.std.proofs.Common.{◌+◌, ◌≤◌, arith, ℤ, pos, ◌+ℤ◌, ◌-ℤ◌, ◌≤ℤ◌, unsigned_abs}
use Rattle.std.proofs.lemmas.Int.{ints}
use Rattle.apt_num.specs.declared.Sign.{Sign}
use Rattle.apt_num.specs.declared.Sign.TheVariants as signs
use Rattle.apt_plane.specs.declared.figures.Circ.{Circ}
use Rattle.apt_plane.specs.declared.figures.Band.{Band}
use Rattle.apt_plane.specs.Ranges.{IsCircle}
use Rattle.apt_offset.specs.Ranges.{IsRadius}
use Rattle.apt_offset.specs.Targets.{greater, signed, circle_band, least_radius}

-- ---- tolerances of at least 8 units leave a band so much on both sides of its target

pub record HasRoomAbout (band : Band) (r : ℤ) : Type 0 where
  pub lo : band.lo ≤ℤ (r -ℤ pos 8)
  pub hi : (r +ℤ pos 8) ≤ℤ band.hi

pub le_greater : (a b : ℤ) → a ≤ℤ greater a b
le_greater a b = grind (arith, ints)

pub circle_room : (circle : ℤ) (v : Sign) (r i o : ℤ) → pos 8 ≤ℤ i → pos 8 ≤ℤ o → HasRoomAbout (circle_band circle v r i o) (circle -ℤ signed v r)
circle_room circle signs.Plus r i o p q = record { lo = omega (arith, ints); hi = omega (arith, ints) }
circle_room circle signs.Minus r i o p q = record { lo = omega (arith, ints); hi = omega (arith, ints) }
circle_room circle signs.Zero r i o p q = record { lo = omega (arith, ints, le_greater i o); hi = omega (arith, ints, le_greater i o) }

-- ---- a circle that is moved by a cutter's radius stays half a million units within the limit

moved_part : (x k : ℤ) (v : Sign) (r : ℤ) → unsigned_abs x + unsigned_abs k ≤ 49000000 → pos 100 ≤ℤ k → IsRadius r → least_radius ≤ℤ (k -ℤ signed v r)
    → unsigned_abs x + unsigned_abs (k -ℤ signed v r) ≤ 49500000
moved_part x k signs.Plus r limit least radius room = omega (arith, ints, radius.least, radius.most)
moved_part x k signs.Zero r limit least radius room = omega (arith, ints)
moved_part x k signs.Minus r limit least radius room = omega (arith, ints, radius.least, radius.most)

pub moved_circle : (c : Circ) (v : Sign) (r : ℤ) → IsCircle c → IsRadius r → least_radius ≤ℤ (c.r -ℤ signed v r)
    → (unsigned_abs c.c.x + unsigned_abs (c.r -ℤ signed v r) ≤ 49500000) × (unsigned_abs c.c.y + unsigned_abs (c.r -ℤ signed v r) ≤ 49500000)
moved_circle c v r is radius room = (moved_part c.c.x c.r v r is.x is.least radius room, moved_part c.c.y c.r v r is.y is.least radius room)
