-- What is at least a length away is at least a lesser one away, and what is at most one away at most a greater one.
use Rattle.std.proofs.Common.{ℕ, ◌*◌, ◌≤◌, ◌<◌, arith, ℤ, pos, negsuc, neg_ℤ, ◌*ℤ◌, ◌≤ℤ◌}
use Rattle.std.proofs.Math.Nat.{mul-le-mul_left}
use Rattle.std.proofs.lemmas.Nat.{mul-le}
use Rattle.std.proofs.lemmas.Int.{ints}
use Rattle.apt_num.proofs.Ring.{scaled_le}
use Rattle.apt_num.proofs.Sums.{at_least-weaker}
use Rattle.apt_plane.specs.declared.figures.Pt.{Pt}
use Rattle.apt_plane.specs.declared.figures.Line.{Line}
use Rattle.apt_plane.specs.declared.figures.Surface.{Surface}
use Rattle.apt_plane.specs.declared.figures.Surface.TheVariants as surfaces
use Rattle.apt_plane.specs.Vectors.{Scaled, between, height, displacement_to, length_squared}
use Rattle.apt_plane.specs.Distances.{IsAbove, IsBelow, IsOver, IsUnder, EveryPoint, about}
use Rattle.apt_plane.proofs.RingLaws.{length_at_most, root_at_most, negative_at_most, never_at_most}

-- ---- one point

above_weaker : (l : Line) (lo less : ℤ) (s : Scaled) → less ≤ℤ lo → IsAbove l lo s → IsAbove l less s
above_weaker l lo less s le is = at_least-weaker (height l s) (pos s.m *ℤ lo) (pos s.m *ℤ less) (length_squared l.dir) (scaled_le s.m less lo le) is

below_weaker : (l : Line) (hi more : ℤ) (s : Scaled) → hi ≤ℤ more → IsBelow l hi s → IsBelow l more s
below_weaker l hi more s le is =
    at_least-weaker (neg_ℤ (height l s)) (neg_ℤ (pos s.m *ℤ hi)) (neg_ℤ (pos s.m *ℤ more)) (length_squared l.dir) (omega (arith, ints, scaled_le s.m hi more le)) is

squares_grow : (m a b : ℕ) → a ≤ b → m * m * (a * a) ≤ m * m * (b * b)
squares_grow m a b h = mul-le-mul_left (m * m) (mul-le a a b b h h)

over_weaker : (c : Pt) (lo less : ℤ) (s : Scaled) → 0 < s.m → less ≤ℤ lo → IsOver (about c) lo s → IsOver (about c) less s
over_weaker c lo (negsuc b) s some le is = negative_at_most s.m b (length_squared (displacement_to c s)) some
over_weaker c (pos a) (pos b) s some le is =
    let n = length_squared (displacement_to c s) in
    (length_at_most s.m b n).1 (omega (arith, (length_at_most s.m a n).0 is, squares_grow s.m b a (omega (arith, ints, le))))
over_weaker c (negsuc a) (pos b) s some le is = absurd (omega (arith, ints, le))

under_weaker : (c : Pt) (hi more : ℤ) (s : Scaled) → 0 < s.m → hi ≤ℤ more → IsUnder (about c) hi s → IsUnder (about c) more s
under_weaker c (negsuc a) more s some le is = absurd (never_at_most s.m a (length_squared (displacement_to c s)) some is)
under_weaker c (pos a) (pos b) s some le is =
    let n = length_squared (displacement_to c s) in
    (root_at_most s.m b n).1 (omega (arith, (root_at_most s.m a n).0 is, squares_grow s.m a b (omega (arith, ints, le))))
under_weaker c (pos a) (negsuc b) s some le is = absurd (omega (arith, ints, le))

-- ---- every point of a segment

pub every_over : (surface : Surface) (lo less : ℤ) (p q : Pt) → less ≤ℤ lo → EveryPoint p q (IsOver surface lo) → EveryPoint p q (IsOver surface less)
every_over (surfaces.Line l) lo less p q le is = λ j k h. above_weaker l lo less (between p q j k) le (is j k h)
every_over (surfaces.Circ c) lo less p q le is = λ j k h. over_weaker c.c lo less (between p q j k) h le (is j k h)

pub every_under : (surface : Surface) (hi more : ℤ) (p q : Pt) → hi ≤ℤ more → EveryPoint p q (IsUnder surface hi) → EveryPoint p q (IsUnder surface more)
every_under (surfaces.Line l) hi more p q le is = λ j k h. below_weaker l hi more (between p q j k) le (is j k h)
every_under (surfaces.Circ c) hi more p q le is = λ j k h. under_weaker c.c hi more (between p q j k) h le (is j k h)

-- ---- the ends of one

pub point_over : (surface : Surface) (lo less : ℤ) (s : Scaled) → 0 < s.m → less ≤ℤ lo → IsOver surface lo s → IsOver surface less s
point_over (surfaces.Line l) lo less s some le is = above_weaker l lo less s le is
point_over (surfaces.Circ c) lo less s some le is = over_weaker c.c lo less s some le is

pub point_under : (surface : Surface) (hi more : ℤ) (s : Scaled) → 0 < s.m → hi ≤ℤ more → IsUnder surface hi s → IsUnder surface more s
point_under (surfaces.Line l) hi more s some le is = below_weaker l hi more s le is
point_under (surfaces.Circ c) hi more s some le is = under_weaker c.c hi more s some le is
