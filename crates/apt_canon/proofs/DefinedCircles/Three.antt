-- The circle through three points: its exact centre, and how far the rounded one lies from it.
use Rattle.std.proofs.Common.{refl, ◌≡◌, ◌≢◌, ℕ, suc, ◌+◌, ◌-◌, ◌*◌, ◌^◌, ◌≤◌, arith, inl, inr, ℤ, pos, ◌+ℤ◌, ◌-ℤ◌, ◌*ℤ◌, ◌≤ℤ◌, neg_ℤ, unsigned_abs}
use Rattle.std.proofs.Math.Nat.{mul-le-mul_left}
use Rattle.std.proofs.lemmas.Int.{ints}
use Rattle.std.proofs.lemmas.Bool.{cases_lt}
use Rattle.apt_num.proofs.Ring.{neg-*ℤ, as_diff, diff-pos, diff-same, differences}
use Rattle.apt_num.proofs.Squares.{size_neg}
use Rattle.apt_plane.specs.declared.figures.Dir.{Dir}
use Rattle.apt_plane.specs.Vectors.{displacement, cross, length_squared}
use Rattle.apt_plane.proofs.Displacements.{to, square_length_squared}
use Rattle.apt_plane.proofs.Lengths.{plus, times, length_of_times, sum_of_lengths}
use Rattle.apt_plane.proofs.Rounding.{displacement_rest}
use Rattle.apt_plane.specs.declared.figures.Pt.{Pt}
use Rattle.apt_plane.specs.Ranges.{IsPoint, IsCircle}
use Rattle.apt_canon.specs.Scale.{from}
use Rattle.apt_canon.specs.Rounds.{length_near, centre_way, centre_divisor, centre_from}
use Rattle.apt_canon.specs.RoundLaws.{IsEquidistant, IsThrough, rounded_through}
use Rattle.apt_canon.proofs.Ways.{there_and_back}
use Rattle.apt_canon.proofs.DefinedCircles.Sizes.{twice_not_zero, way_small}
use Rattle.apt_canon.proofs.DefinedCircles.Distance.{root_near-nearest, nearest_most, nearest_least, size_at_most, root_at_size}

-- ---- the exact centre

first_parts : (bx by cx cy : ℤ) →
    pos 2 *ℤ ((((((bx *ℤ bx) +ℤ (by *ℤ by)) *ℤ cy) -ℤ (((cx *ℤ cx) +ℤ (cy *ℤ cy)) *ℤ by)) *ℤ bx) +ℤ (((((cx *ℤ cx) +ℤ (cy *ℤ cy)) *ℤ bx) -ℤ (((bx *ℤ bx) +ℤ (by *ℤ by)) *ℤ cx)) *ℤ by))
    ≡ (pos 2 *ℤ ((bx *ℤ cy) -ℤ (by *ℤ cx))) *ℤ ((bx *ℤ bx) +ℤ (by *ℤ by))
first_parts bx by cx cy = rw (as_diff bx, as_diff by, as_diff cx, as_diff cy, diff-pos 2) (simp differences (diff-same _ _ _ _ (omega arith)))

second_parts : (bx by cx cy : ℤ) →
    pos 2 *ℤ ((((((bx *ℤ bx) +ℤ (by *ℤ by)) *ℤ cy) -ℤ (((cx *ℤ cx) +ℤ (cy *ℤ cy)) *ℤ by)) *ℤ cx) +ℤ (((((cx *ℤ cx) +ℤ (cy *ℤ cy)) *ℤ bx) -ℤ (((bx *ℤ bx) +ℤ (by *ℤ by)) *ℤ cx)) *ℤ cy))
    ≡ (pos 2 *ℤ ((bx *ℤ cy) -ℤ (by *ℤ cx))) *ℤ ((cx *ℤ cx) +ℤ (cy *ℤ cy))
second_parts bx by cx cy = rw (as_diff bx, as_diff by, as_diff cx, as_diff cy, diff-pos 2) (simp differences (diff-same _ _ _ _ (omega arith)))

pub equidistant : (b c : Dir) → cross b c ≢ pos 0 → IsEquidistant b c (centre_way b c) (centre_divisor b c)
equidistant b c d = record {
  divisor = twice_not_zero (cross b c) d;
  first = rw (square_length_squared b, square_length_squared c) (first_parts b.dx b.dy c.dx c.dy);
  second = rw (square_length_squared b, square_length_squared c) (second_parts b.dx b.dy c.dx c.dy);
}

-- ---- the rounded one

rest_part : (m u v e : ℤ) → m *ℤ v ≡ u +ℤ e → u +ℤ (neg_ℤ m *ℤ v) ≡ neg_ℤ e
rest_part m u v e h = rw (neg-*ℤ m v, h) (omega (arith, ints))

turned : (e : Dir) → length_squared (to (neg_ℤ e.dx) (neg_ℤ e.dy)) ≡ length_squared e
turned e = rw (size_neg e.dx, size_neg e.dy) refl

half_of : (n m : ℕ) → 2 * n ≤ m * m → n ≤ m * m
half_of n m h = omega (arith, h)

-- m times a rounded way is at most m in length from the way
pub close : (u v e : Dir) (m : ℤ) → m *ℤ v.dx ≡ u.dx +ℤ e.dx → m *ℤ v.dy ≡ u.dy +ℤ e.dy → length_squared e ≤ unsigned_abs m * unsigned_abs m
    → length_squared (plus u (times (neg_ℤ m) v)) ≤ unsigned_abs m * unsigned_abs m
close u v e m x y short = rw (rest_part m u.dx v.dx e.dx x, rest_part m u.dy v.dy e.dy y, turned e) short

back_part : (m u v e : ℤ) → m *ℤ v ≡ u +ℤ e → (m *ℤ v) +ℤ (neg_ℤ (pos 1) *ℤ e) ≡ u
back_part m u v e h = rw h (omega (arith, ints))

same_length : (u w : Dir) → u.dx ≡ w.dx → u.dy ≡ w.dy → length_squared u ≡ length_squared w
same_length u w x y = rw (x, y) refl

scaled_most : (n r s : ℕ) → n ≤ (r + 1) * (r + 1) → s * s * n + 0 ≤ ((r + 1) * s) * ((r + 1) * s)
scaled_most n r s h = omega (arith, mul-le-mul_left (s * s) h)

-- the radius of the exact circle, times m
pub radius_most : (u v e : Dir) (m : ℤ) (r : ℕ) → m *ℤ v.dx ≡ u.dx +ℤ e.dx → m *ℤ v.dy ≡ u.dy +ℤ e.dy → length_squared e ≤ unsigned_abs m * unsigned_abs m
    → length_squared v ≤ (r + 1) * (r + 1) → length_squared u ≤ ((r + 2) * unsigned_abs m) * ((r + 2) * unsigned_abs m)
radius_most u v e m r x y short h =
    let s = unsigned_abs m in
    let long : length_squared (times m v) + 0 ≤ ((r + 1) * s) * ((r + 1) * s) = rw (length_of_times m v) (scaled_most (length_squared v) r s h) in
    let rest : length_squared (times (neg_ℤ (pos 1)) e) ≤ s * s = rw (length_of_times (neg_ℤ (pos 1)) e) (omega (arith, short)) in
    let both = sum_of_lengths (times m v) (times (neg_ℤ (pos 1)) e) ((r + 1) * s) s 0 long rest in
    let same = same_length (plus (times m v) (times (neg_ℤ (pos 1)) e)) u (back_part m u.dx v.dx e.dx x) (back_part m u.dy v.dy e.dy y) in
    omega (arith, both, same)

scaled_least : (n t s : ℕ) → (t + 1) * (t + 1) ≤ n → ((t + 1) * s) * ((t + 1) * s) ≤ s * s * n
scaled_least n t s h = omega (arith, mul-le-mul_left (s * s) h)

pub radius_least : (u v e : Dir) (m : ℤ) (t : ℕ) → m *ℤ v.dx ≡ u.dx +ℤ e.dx → m *ℤ v.dy ≡ u.dy +ℤ e.dy → length_squared e ≤ unsigned_abs m * unsigned_abs m
    → (t + 1) * (t + 1) ≤ length_squared v → (t * unsigned_abs m) * (t * unsigned_abs m) ≤ length_squared u
radius_least u v e m t x y short h = elim (cases_lt (length_squared u) ((t * unsigned_abs m) * (t * unsigned_abs m))) [
  | inl below ↦
      let s = unsigned_abs m in
      let less : length_squared u + 1 ≤ (t * s) * (t * s) = omega arith in
      let both = sum_of_lengths u e (t * s) s 1 less short in
      let same : length_squared (times m v) ≡ length_squared (plus u e) = same_length (times m v) (plus u e) x y in
      let long = scaled_least (length_squared v) t s h in
      absurd (omega (arith, both, same, length_of_times m v, long))
  | inr past ↦ past
]

close_from : (p : Pt) (u v : Dir) (m : ℤ) (n : ℕ) → length_squared (plus u (times (neg_ℤ m) v)) ≤ n → length_squared (plus u (times (neg_ℤ m) (displacement p (from p v)))) ≤ n
close_from p u v m n h = rw (there_and_back p.x v.dx, there_and_back p.y v.dy) h

way_part : (p v : ℤ) → unsigned_abs p ≤ 50000000 → unsigned_abs (p +ℤ v) ≤ 50000000 → unsigned_abs v ≤ 2 * 10 ^ 8
way_part p v at to = omega (arith, ints, at, to)

from_two : (q : ℕ) → pos 100 ≤ℤ pos q → suc (q - 2 + 1) ≡ q
from_two q h = omega (arith, ints)

two_less : (q s : ℕ) → pos 100 ≤ℤ pos q → (pos q -ℤ pos 2) *ℤ pos s ≡ pos ((q - 2) * s)
two_less q s h =
    let less : pos q -ℤ pos 2 ≡ pos (q - 2) = omega (arith, ints) in
    rw less (omega (arith, ints))

two_more : (q s : ℕ) → (pos q +ℤ pos 2) *ℤ pos s ≡ pos ((q + 2) * s)
two_more q s = omega (arith, ints)

pub passes_through : (p q r : Pt) → IsPoint p → cross (displacement p q) (displacement p r) ≢ pos 0 → IsCircle (rounded_through p q r) → IsThrough p q r (rounded_through p q r)
passes_through p q r at d is =
    let b = displacement p q in
    let c = displacement p r in
    let u = centre_way b c in
    let m = centre_divisor b c in
    let v = centre_from b c in
    let n = length_near v in
    let s = unsigned_abs m in
    let left = displacement_rest u m (twice_not_zero (cross b c) d) in
    let e = left.0 in
    let short = half_of (length_squared e) s left.1.short in
    let small = way_small v (way_part p.x v.dx at.x is.centre.x) (way_part p.y v.dy at.y is.centre.y) in
    let near = root_near-nearest (length_squared v) (omega (arith, small)) in
    let least : (n - 2 + 1) * (n - 2 + 1) ≤ length_squared v = nearest_least (length_squared v) (n - 2 + 1) (rw (from_two n is.least) near) in record {
      u = u;
      m = m;
      exact = equidistant b c d;
      centre = close_from p u v m (s * s) (close u v e m left.1.dx left.1.dy short);
      least = size_at_most ((pos n -ℤ pos 2) *ℤ pos s) ((n - 2) * s) (length_squared u) (two_less n s is.least) (radius_least u v e m (n - 2) left.1.dx left.1.dy short least);
      most = root_at_size ((pos n +ℤ pos 2) *ℤ pos s) ((n + 2) * s) (length_squared u) (two_more n s) (radius_most u v e m n left.1.dx left.1.dy short (nearest_most (length_squared v) n near));
    }
