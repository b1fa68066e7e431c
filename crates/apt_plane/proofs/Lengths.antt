-- The lengths of sums of ways, and of ways that are rounded.
use Rattle.std.proofs.Common.{refl, ◌≡◌, ℕ, zero, suc, ◌+◌, ◌-◌, ◌*◌, ◌^◌, ◌≤◌, ◌<◌, ◌∙◌, arith, inl, inr, ℤ, pos, ◌+ℤ◌, ◌-ℤ◌, ◌*ℤ◌, neg_ℤ, unsigned_abs}
use Rattle.std.proofs.Math.Nat.{mul-le-mul_left}
use Rattle.std.proofs.lemmas.Int.{ints}
use Rattle.std.proofs.lemmas.Nat.{mul-le}
use Rattle.std.proofs.lemmas.Bool.{cases_lt}
use Rattle.apt_num.proofs.Ring.{as_diff, diff-pos, diff-same, differences}
use Rattle.apt_num.proofs.Squares.{size_mul, root_le, cancel_le}
use Rattle.apt_num.proofs.RootLaws.{less_one}
use Rattle.apt_plane.specs.declared.figures.Dir.{Dir}
use Rattle.apt_plane.specs.declared.figures.Pt.{Pt}
use Rattle.apt_plane.specs.Vectors.{displacement, cross, dot, length_squared, between, displacement_to}
use Rattle.apt_plane.specs.Ranges.{IsPoint}
use Rattle.apt_plane.proofs.Displacements.{to, between_part, square_length_squared, cross_square, dot_square}

abbrev pub plus : Dir → Dir → Dir
plus u v = to (u.dx +ℤ v.dx) (u.dy +ℤ v.dy)

abbrev pub times : ℤ → Dir → Dir
times m u = to (m *ℤ u.dx) (m *ℤ u.dy)

square_of_sum : (a b p q : ℤ) → ((a +ℤ p) *ℤ (a +ℤ p)) +ℤ ((b +ℤ q) *ℤ (b +ℤ q))
    ≡ (((a *ℤ a) +ℤ (b *ℤ b)) +ℤ (pos 2 *ℤ ((a *ℤ p) +ℤ (b *ℤ q)))) +ℤ ((p *ℤ p) +ℤ (q *ℤ q))
square_of_sum a b p q = rw (as_diff a, as_diff b, as_diff p, as_diff q, diff-pos 2) (simp differences (diff-same _ _ _ _ (omega arith)))

-- the square of the length of a sum
pub length_of_sum : (u v : Dir) → pos (length_squared (plus u v)) ≡ (pos (length_squared u) +ℤ (pos 2 *ℤ dot u v)) +ℤ pos (length_squared v)
length_of_sum u v = square_length_squared (plus u v) ∙ rw (square_length_squared u, square_length_squared v) (square_of_sum u.dx u.dy v.dx v.dy)

pub length_of_times : (m : ℤ) (u : Dir) → length_squared (times m u) ≡ unsigned_abs m * unsigned_abs m * length_squared u
length_of_times m u = rw (size_mul m u.dx, size_mul m u.dy) (omega arith)

-- of lengths, as naturals
triangle : (na nb ns A B p : ℕ) (d : ℤ) → pos ns ≡ (pos na +ℤ (pos 2 *ℤ d)) +ℤ pos nb → unsigned_abs d ≤ A * B → na + p ≤ A * A → nb ≤ B * B → ns + p ≤ (A + B) * (A + B)
triangle na nb ns A B p d e f g h = omega (arith, ints, e, f, g, h)

dot_below : (u v : Dir) (A B p : ℕ) → length_squared u + p ≤ A * A → length_squared v ≤ B * B → unsigned_abs (dot u v) ≤ A * B
dot_below u v A B p g h =
    let less : length_squared u ≤ A * A = omega arith in
    root_le (unsigned_abs (dot u v)) (A * B) (omega (arith, dot_square u v, mul-le (length_squared u) (length_squared v) (A * A) (B * B) less h))

-- a sum is at most as long as both bounds together; p is what is left of the first
pub sum_of_lengths : (u v : Dir) (A B p : ℕ) → length_squared u + p ≤ A * A → length_squared v ≤ B * B → length_squared (plus u v) + p ≤ (A + B) * (A + B)
sum_of_lengths u v A B p g h =
    triangle (length_squared u) (length_squared v) (length_squared (plus u v)) A B p (dot u v) (length_of_sum u v) (dot_below u v A B p g h) g h

abbrev pub minus : Dir → Dir → Dir
minus u v = to (u.dx -ℤ v.dx) (u.dy -ℤ v.dy)

pub back_part : (p q : ℤ) → (p -ℤ q) +ℤ q ≡ p
back_part p q = omega (arith, ints)

length_of_back : (u v : Dir) → length_squared (plus (minus u v) v) ≡ length_squared u
length_of_back u v = rw (back_part u.dx v.dx, back_part u.dy v.dy) refl

-- and a difference at least as long as one bound less the other
pub difference_of_lengths : (u v : Dir) (p q : ℕ) → (p + q) * (p + q) ≤ length_squared u → length_squared v ≤ q * q → p * p ≤ length_squared (minus u v)
difference_of_lengths u v p q long short = elim (cases_lt (length_squared (minus u v)) (p * p)) [
  | inl below ↦ absurd (omega (arith, long, length_of_back u v, sum_of_lengths (minus u v) v p q 1 (omega (arith, below)) short))
  | inr past ↦ past
]

-- the way from the first point to the second
abbrev pub chord : Dir → Dir → Dir
chord a b = to (b.dx -ℤ a.dx) (b.dy -ℤ a.dy)

chord_parts : (a b c d : ℤ) → (((c -ℤ a) *ℤ (c -ℤ a)) +ℤ ((d -ℤ b) *ℤ (d -ℤ b))) +ℤ (pos 2 *ℤ ((a *ℤ c) +ℤ (b *ℤ d)))
    ≡ ((a *ℤ a) +ℤ (b *ℤ b)) +ℤ ((c *ℤ c) +ℤ (d *ℤ d))
chord_parts a b c d = rw (as_diff a, as_diff b, as_diff c, as_diff d, diff-pos 2) (simp differences (diff-same _ _ _ _ (omega arith)))

pub chord_long : (a b : Dir) → pos (length_squared (chord a b)) +ℤ (pos 2 *ℤ dot a b) ≡ pos (length_squared a) +ℤ pos (length_squared b)
chord_long a b = rw (← square_length_squared (chord a b), ← square_length_squared a, ← square_length_squared b) at (chord_parts a.dx a.dy b.dx b.dy)

-- the way to a point between two, in the ways to them
pub displacement_between : (c p q : Pt) (j k : ℕ) → displacement_to c (between p q j k) ≡ plus (times (pos k) (displacement c p)) (times (pos j) (displacement c q))
displacement_between c p q j k = rw (between_part c.x p.x q.x j k, between_part c.y p.y q.y j k) refl

displacement_part : (p q : ℤ) → unsigned_abs p ≤ 50000000 → unsigned_abs q ≤ 50000000 → unsigned_abs (q -ℤ p) ≤ 10 ^ 8
displacement_part p q a b = omega (arith, ints)

-- points in range are at most so far from each other
pub displacement_short : (p q : Pt) → IsPoint p → IsPoint q → length_squared (displacement p q) ≤ 2 * 10 ^ 16
displacement_short p q a b =
    let x = displacement_part p.x q.x a.x b.x in
    let y = displacement_part p.y q.y a.y b.y in
    omega (arith, mul-le _ _ (10 ^ 8) (10 ^ 8) x x, mul-le _ _ (10 ^ 8) (10 ^ 8) y y)

-- and so the square of a height is at most so large
pub height_square : (d : Dir) (base p : Pt) → IsPoint base → IsPoint p
    → unsigned_abs (cross d (displacement base p)) * unsigned_abs (cross d (displacement base p)) ≤ length_squared d * (2 * 10 ^ 16)
height_square d base p at is = omega (arith, cross_square d (displacement base p), mul-le-mul_left (length_squared d) (displacement_short base p at is))

-- ---- ways that are rounded

-- m times a way is another with a rest, twice the square of which is at most that of m
pub record IsRounded (a v e : Dir) (m : ℤ) : Type 0 where
  pub dx : m *ℤ v.dx ≡ a.dx +ℤ e.dx
  pub dy : m *ℤ v.dy ≡ a.dy +ℤ e.dy
  pub short : 2 * length_squared e ≤ unsigned_abs m * unsigned_abs m

-- the square of a length is that of a radius, up to one unit of length
pub record IsInRing (r n : ℕ) : Type 0 where
  pub least : (r - 1) * (r - 1) ≤ n
  pub most : n ≤ (r + 1) * (r + 1)

four_times : (m v a e : ℤ) → m *ℤ v ≡ a +ℤ e → pos 4 *ℤ (m *ℤ v) ≡ (pos 4 *ℤ a) +ℤ (pos 4 *ℤ e)
four_times m v a e h = rw h (omega (arith, ints))

four_back : (m v a e : ℤ) → m *ℤ v ≡ a +ℤ e → pos 4 *ℤ a ≡ (pos 4 *ℤ (m *ℤ v)) +ℤ (neg_ℤ (pos 4) *ℤ e)
four_back m v a e h = rw h (omega (arith, ints))

rest_length : (e : Dir) (m : ℤ) (k : ℤ) → unsigned_abs k ≡ 4 → 2 * length_squared e ≤ unsigned_abs m * unsigned_abs m
    → length_squared (times k e) ≤ (3 * unsigned_abs m) * (3 * unsigned_abs m)
rest_length e m k f h = rw (length_of_times k e, f) (omega (arith, h))

four_long : (u : Dir) → length_squared (times (pos 4) u) ≡ 16 * length_squared u
four_long u = length_of_times (pos 4) u ∙ omega arith

scaled_long : (m : ℤ) (u : Dir) → length_squared (times (pos 4) (times m u)) ≡ 16 * (unsigned_abs m * unsigned_abs m) * length_squared u
scaled_long m u = rw (four_long (times m u), length_of_times m u) (omega arith)

at_most : (a v e : Dir) (m : ℤ) (r : ℕ) → IsRounded a v e m → 0 < unsigned_abs m
    → 16 * length_squared a ≤ ((4 * r + 1) * unsigned_abs m) * ((4 * r + 1) * unsigned_abs m) → length_squared v ≤ (r + 1) * (r + 1)
at_most a v e m r is positive h =
    let size = unsigned_abs m in
    let first : length_squared (times (pos 4) a) + 0 ≤ ((4 * r + 1) * size) * ((4 * r + 1) * size) = rw (four_long a) (omega (arith, h)) in
    let both = sum_of_lengths (times (pos 4) a) (times (pos 4) e) ((4 * r + 1) * size) (3 * size) 0 first (rest_length e m (pos 4) refl is.short) in
    let whole : 16 * (size * size) * length_squared v + 0 ≤ ((4 * r + 1) * size + 3 * size) * ((4 * r + 1) * size + 3 * size) =
    rw (← four_times m v.dx a.dx e.dx is.dx, ← four_times m v.dy a.dy e.dy is.dy, scaled_long m v) at both in
    cancel_le (16 * (size * size)) (length_squared v) ((r + 1) * (r + 1)) (omega (arith, mul-le 1 1 size size positive positive)) (omega (arith, whole))

-- t units shorter than the radius, less one, is too short
not_below : (a v e : Dir) (m : ℤ) (t : ℕ) → IsRounded a v e m → length_squared v + 1 ≤ t * t
    → 16 * length_squared a + 16 * (unsigned_abs m * unsigned_abs m) ≤ ((4 * t + 3) * unsigned_abs m) * ((4 * t + 3) * unsigned_abs m)
not_below a v e m t is h =
    let size = unsigned_abs m in
    let p = 16 * (size * size) in
    let first : length_squared (times (pos 4) (times m v)) + p ≤ (4 * size * t) * (4 * size * t) =
    rw (scaled_long m v) (omega (arith, mul-le p (length_squared v + 1) p (t * t) (omega arith) h)) in
    let both = sum_of_lengths (times (pos 4) (times m v)) (times (neg_ℤ (pos 4)) e) (4 * size * t) (3 * size) p first (rest_length e m (neg_ℤ (pos 4)) refl is.short) in
    let whole : 16 * length_squared a + p ≤ (4 * size * t + 3 * size) * (4 * size * t + 3 * size) =
    rw (← four_back m v.dx a.dx e.dx is.dx, ← four_back m v.dy a.dy e.dy is.dy, four_long a) at both in
    omega (arith, whole)

at_least : (a v e : Dir) (m : ℤ) (r : ℕ) → IsRounded a v e m → 0 < unsigned_abs m
    → ((4 * r - 1) * unsigned_abs m) * ((4 * r - 1) * unsigned_abs m) ≤ 16 * length_squared a → (r - 1) * (r - 1) ≤ length_squared v
at_least a v e m zero is positive h = omega arith
at_least a v e m (suc t) is positive h = elim (cases_lt (length_squared v) (t * t)) [
  | inl below ↦
      let size = unsigned_abs m in
      let short = not_below a v e m t is (omega arith) in
      let same : 4 * suc t - 1 ≡ 4 * t + 3 = omega arith in
      let long : ((4 * t + 3) * size) * ((4 * t + 3) * size) ≤ 16 * length_squared a = rw same at h in
      absurd (omega (arith, short, long, mul-le 1 1 size size positive positive))
  | inr past ↦ rw (less_one t) past
]

-- half a unit in each coordinate and a quarter of a unit before make at most one unit
pub on_circle : (a v e : Dir) (m : ℤ) (r : ℕ) → IsRounded a v e m → 0 < unsigned_abs m
    → 16 * length_squared a ≤ ((4 * r + 1) * unsigned_abs m) * ((4 * r + 1) * unsigned_abs m)
    → ((4 * r - 1) * unsigned_abs m) * ((4 * r - 1) * unsigned_abs m) ≤ 16 * length_squared a
    → IsInRing r (length_squared v)
on_circle a v e m r is positive high low = record { least = at_least a v e m r is positive low; most = at_most a v e m r is positive high }
