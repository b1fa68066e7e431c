-- The point of a circle in a direction: how far it lies off the direction, and off the circle, sharply; and the points a quarter turn on.
use Rattle.std.proofs.Common.{refl, ◌≡◌, ℕ, ◌+◌, ◌-◌, ◌*◌, ◌^◌, ◌≤◌, ◌<◌, ◌∙◌, ap, sym, subst, inl, inr, arith, ℤ, pos, negsuc, ◌+ℤ◌, ◌-ℤ◌, ◌*ℤ◌, ◌≤ℤ◌, ◌<ℤ◌, unsigned_abs}
use Rattle.std.proofs.Math.Nat.{mul-le-mul_left}
use Rattle.std.proofs.lemmas.Nat.{mul-le}
use Rattle.std.proofs.lemmas.Bool.{cases_lt}
use Rattle.std.proofs.lemmas.Int.{ints}
use Rattle.apt_num.specs.Root.{root}
use Rattle.apt_num.proofs.Ring.{as_diff, diff-same, differences, *ℤ-neg, *ℤ-minus, pos-*ℤ}
use Rattle.apt_num.proofs.Squares.{size_mul, size_neg, root_le, cancel_le}
use Rattle.apt_num.proofs.Nearest.{near-neg}
use Rattle.apt_num.proofs.Products.{plus_of}
use Rattle.apt_plane.specs.declared.figures.Dir.{Dir}
use Rattle.apt_plane.specs.declared.figures.Circ.{Circ}
use Rattle.apt_plane.specs.Vectors.{displacement, cross, dot, length_squared, perp}
use Rattle.apt_plane.specs.Ranges.{IsDir}
use Rattle.apt_plane.proofs.Displacements.{square_length_squared, cross_times, cross_self, dot_times, dot_square}
use Rattle.apt_plane.proofs.Lengths.{times, plus, IsRounded, length_of_sum, length_of_times}
use Rattle.apt_plane.proofs.Rounding.{near_displacement, moved, moved_dot, displacement_rest}
use Rattle.apt_canon.specs.Scale.{unit, length_of}
use Rattle.apt_canon.specs.Feet.{ray_point}
use Rattle.apt_canon.proofs.Ways.{displacement_from}
use Rattle.apt_canon.proofs.Depths.{length_facts, length_positive}

-- the way from the centre to the point
abbrev pub ray_way : Circ → Dir → Dir
ray_way c u = displacement c.c (ray_point c u)

abbrev rounded_way : ℤ → Dir → Dir
rounded_way r u = near_displacement (times (r *ℤ unit) u) (length_of u)

way_is : (c : Circ) (u : Dir) → ray_way c u ≡ rounded_way c.r u
way_is c u = displacement_from c.c (rounded_way c.r u)

-- ---- off the direction

no_turn : (u : Dir) (m : ℤ) → cross u (times m u) ≡ pos 0
no_turn u m = cross_times u u m ∙ rw (cross_self u) (omega (arith, ints))

-- a product that is the rest of a rounding alone
pub no_more : (z : ℤ) → pos 0 +ℤ z ≡ z
no_more z = omega (arith, ints)

off_core : (s c n rest : ℕ) → 0 < s → s * c ≡ rest → 2 * rest * rest ≤ n * (s * s) → 2 * (c * c) ≤ n
off_core s c n rest positive e h =
    let whole : 2 * (s * c) * (s * c) ≤ n * (s * s) = rw e h in
    cancel_le (s * s) (2 * (c * c)) n (omega (arith, mul-le 1 1 s s positive positive)) (omega (arith, whole))

-- of a way that is rounded, with a product of 0: that of the rounded one is less than a unit times the length
pub rest_alone : (d : Dir) (s k rest : ℤ) → 0 < unsigned_abs s → s *ℤ k ≡ pos 0 +ℤ rest → 2 * unsigned_abs rest * unsigned_abs rest ≤ length_squared d * (unsigned_abs s * unsigned_abs s)
    → 2 * (unsigned_abs k * unsigned_abs k) ≤ length_squared d
rest_alone d s k rest positive e short =
    let size : unsigned_abs s * unsigned_abs k ≡ unsigned_abs rest = sym (size_mul s k) ∙ ap unsigned_abs e ∙ ap unsigned_abs (no_more rest) in
    off_core (unsigned_abs s) (unsigned_abs k) (length_squared d) (unsigned_abs rest) positive size short

-- it lies less than a unit off the direction
pub ray_across : (c : Circ) (u : Dir) → IsDir u → 2 * (unsigned_abs (cross u (ray_way c u)) * unsigned_abs (cross u (ray_way c u))) ≤ length_squared u
ray_across c u is =
    let s = length_of u in
    let v = rounded_way c.r u in
    let rounded = moved u (times (c.r *ℤ unit) u) s (length_positive u is) in
    let height : s *ℤ cross u v ≡ pos 0 +ℤ rounded.0 = rounded.1 ∙ ap (λ z. z +ℤ rounded.0) (no_turn u (c.r *ℤ unit)) in
    subst (λ (w : Dir). 2 * (unsigned_abs (cross u w) * unsigned_abs (cross u w)) ≤ length_squared u) (sym (way_is c u))
    (rest_alone u s (cross u v) rounded.0 (omega (arith, (length_facts u is).large)) height rounded.2)

-- ---- along the direction

along_times : (u : Dir) (m : ℤ) → dot u (times m u) ≡ m *ℤ pos (length_squared u)
along_times u m = dot_times u u m ∙ rw (square_length_squared u) refl

pub rest_core : (s n rest : ℕ) → 0 < n → s * s ≤ n * 2 ^ 70 → 2 * rest * rest ≤ n * (s * s) → rest < n * 2 ^ 35
rest_core s n rest positive low h = elim (cases_lt rest (n * 2 ^ 35)) [
  | inl below ↦ below
  | inr past ↦ absurd (omega (arith, mul-le (n * 2 ^ 35) (n * 2 ^ 35) rest rest past past, h, mul-le-mul_left n low, mul-le 1 1 n n positive positive))
]

pub forward_core : (s r n : ℕ) (d rest : ℤ) → 0 < r → pos s *ℤ d ≡ pos (r * 2 ^ 35 * n) +ℤ rest → unsigned_abs rest < n * 2 ^ 35 → pos 0 <ℤ d
forward_core s r n d rest least e h =
    let up : n * 2 ^ 35 ≤ r * 2 ^ 35 * n = omega (arith, mul-le-mul_left (n * 2 ^ 35) least) in
    plus_of s d (rw e (omega (arith, ints, up, h)))

pub as_natural : (r : ℤ) (n : ℕ) → pos 0 ≤ℤ r → (r *ℤ pos (2 ^ 35)) *ℤ pos n ≡ pos (unsigned_abs r * 2 ^ 35 * n)
as_natural (pos r) n h = omega (arith, ints)
as_natural (negsuc r) n h = absurd (omega (arith, ints))

-- it lies onwards in the direction
pub ray_forward : (c : Circ) (u : Dir) → pos 0 <ℤ c.r → IsDir u → pos 0 <ℤ dot u (ray_way c u)
ray_forward c u positive is =
    let n = length_squared u in
    let s = root (n * 2 ^ 70) in
    let root = length_facts u is in
    let v = rounded_way c.r u in
    let rounded = moved_dot u (times (c.r *ℤ unit) u) (length_of u) (length_positive u is) in
    let whole : pos s *ℤ dot u v ≡ pos (unsigned_abs c.r * 2 ^ 35 * n) +ℤ rounded.0 =
    rounded.1 ∙ ap (λ z. z +ℤ rounded.0) (along_times u (c.r *ℤ unit) ∙ as_natural c.r n (omega (arith, ints))) in
    subst (λ (w : Dir). pos 0 <ℤ dot u w) (sym (way_is c u))
    (forward_core s (unsigned_abs c.r) n (dot u v) rounded.0 (omega (arith, ints)) whole (rest_core s n (unsigned_abs rounded.0) is.length root.low rounded.2))

-- ---- off the circle

size_x : (s x : ℕ) → 2 * (x * x) ≤ (s + 1) * (s + 1) * (s * s) → 100 * x ≤ 71 * (s * (s + 1))
size_x s x h = root_le (100 * x) (71 * (s * (s + 1))) (omega (arith, mul-le-mul_left 5000 h))

-- s is the root, g what it leaves over, x and E what the rounding leaves, A how far the square of the length is from that of the radius
radius_core : (s g x E A r : ℕ) → s * s * A ≤ r * r * g + 2 * (r * x) + E → g ≤ 2 * s → 2 * (x * x) ≤ (s + 1) * (s + 1) * (s * s)
    → 2 * E ≤ s * s → 100 ≤ r → 400 * r + 284 ≤ 2 * s → 2 * A ≤ 3 * r
radius_core s g x E A r h gs xs es lo hi = elim (cases_lt (3 * r) (2 * A)) [
  | inl past ↦
      absurd (omega (
        arith,
        h,
        mul-le-mul_left (s * s) past,
        mul-le-mul_left (r * r) gs,
        mul-le-mul_left r (size_x s x xs),
        mul-le-mul_left (r * s) hi,
        mul-le-mul_left (s * s) lo,
        mul-le-mul_left s lo,
        es,
      ))
  | inr fine ↦ fine
]

pub times_dot : (m a b p q : ℤ) → ((m *ℤ a) *ℤ p) +ℤ ((m *ℤ b) *ℤ q) ≡ m *ℤ ((a *ℤ p) +ℤ (b *ℤ q))
times_dot m a b p q = rw (as_diff m, as_diff a, as_diff b, as_diff p, as_diff q) (simp differences (diff-same _ _ _ _ (omega arith)))

-- s times the way is the radius along the direction and the rest: so are the squares of their lengths
squares_are : (u v e : Dir) (s m : ℤ) → IsRounded (times m u) v e s
    → pos (unsigned_abs s * unsigned_abs s * length_squared v) ≡ (pos (unsigned_abs m * unsigned_abs m * length_squared u) +ℤ (pos 2 *ℤ (m *ℤ dot u e))) +ℤ pos (length_squared e)
squares_are u v e s m is =
    let same : times s v ≡ plus (times m u) e = rw (is.dx, is.dy) refl in
    ap pos (sym (length_of_times s v))
    ∙ ap (λ (w : Dir). pos (length_squared w)) same
    ∙ length_of_sum (times m u) e
    ∙ rw (length_of_times m u, times_dot m u.dx u.dy e.dx e.dy) refl

difference_scaled : (s a b : ℕ) → s * unsigned_abs (pos a -ℤ pos b) ≡ unsigned_abs (pos (s * a) -ℤ pos (s * b))
difference_scaled s a b =
    let whole : pos s *ℤ (pos a -ℤ pos b) ≡ pos (s * a) -ℤ pos (s * b) = *ℤ-minus (pos s) (pos a) (pos b) in
    sym (size_mul (pos s) (pos a -ℤ pos b)) ∙ ap unsigned_abs whole

radius_step : (q a r g E t : ℕ) (z : ℤ) → pos (q * a) ≡ (pos t +ℤ z) +ℤ pos E → t ≡ r * r * (q + g) → q * unsigned_abs (pos a -ℤ pos (r * r)) ≤ r * r * g + unsigned_abs z + E
radius_step q a r g E t z e f =
    let split : t ≡ q * (r * r) + r * r * g = f ∙ omega arith in
    rw (difference_scaled q a (r * r)) (omega (arith, ints, e, split))

radius_parts : (r n q g : ℕ) → n * 2 ^ 70 ≡ q + g → r * 2 ^ 35 * (r * 2 ^ 35) * n ≡ r * r * (q + g)
radius_parts r n q g e = omega (arith, ap (λ m. r * r * m) e)

across_square : (d n E s : ℕ) → d * d ≤ n * E → 2 * E ≤ s * s → n * 2 ^ 70 ≤ (s + 1) * (s + 1) → 2 * ((2 ^ 35 * d) * (2 ^ 35 * d)) ≤ (s + 1) * (s + 1) * (s * s)
across_square d n E s h short high = omega (arith, mul-le-mul_left (2 ^ 71) h, mul-le-mul_left (n * 2 ^ 70) short, mul-le-mul_left (s * s) high)

-- the square of its length is at most one and a half radii from that of the radius
pub radius_sharp : (r : ℕ) (u : Dir) → 100 ≤ r → r ≤ 10 ^ 8 → IsDir u → 2 * unsigned_abs (pos (length_squared (rounded_way (pos r) u)) -ℤ pos (r * r)) ≤ 3 * r
radius_sharp r u least most is =
    let n = length_squared u in
    let s = root (n * 2 ^ 70) in
    let root = length_facts u is in
    let v = rounded_way (pos r) u in
    let left = displacement_rest (times (pos r *ℤ unit) u) (length_of u) (length_positive u is) in
    let e = left.0 in
    let g = n * 2 ^ 70 - s * s in
    let whole : n * 2 ^ 70 ≡ s * s + g = omega (arith, root.low) in
    let step = radius_step (s * s) (length_squared v) r g (length_squared e) (r * 2 ^ 35 * (r * 2 ^ 35) * n) (pos 2 *ℤ ((pos r *ℤ unit) *ℤ dot u e)) (squares_are u v e (pos s) (pos r *ℤ unit) left.1) (radius_parts r n (s * s) g whole) in
    let size : unsigned_abs (pos 2 *ℤ ((pos r *ℤ unit) *ℤ dot u e)) ≡ 2 * (r * (2 ^ 35 * unsigned_abs (dot u e))) =
    size_mul (pos 2) ((pos r *ℤ unit) *ℤ dot u e) ∙ ap (λ m. 2 * m) (size_mul (pos r *ℤ unit) (dot u e)) ∙ omega arith in
    radius_core s g (2 ^ 35 * unsigned_abs (dot u e)) (length_squared e) (unsigned_abs (pos (length_squared v) -ℤ pos (r * r))) r
    (rw size at step) root.rest (across_square (unsigned_abs (dot u e)) n (length_squared e) s (dot_square u e) left.1.short root.high) left.1.short least (omega (arith, root.large, most))

near_radius : (r : ℤ) (u : Dir) → pos 100 ≤ℤ r → r ≤ℤ pos (10 ^ 8) → IsDir u → 2 * unsigned_abs (pos (length_squared (rounded_way r u)) -ℤ (r *ℤ r)) ≤ 3 * unsigned_abs r
near_radius (pos r) u least most is = rw (pos-*ℤ r r) (radius_sharp r u (omega (arith, ints, least)) (omega (arith, ints, most)) is)
near_radius (negsuc r) u least most is = absurd (omega (arith, ints, least))

pub ray_radius : (c : Circ) (u : Dir) → pos 100 ≤ℤ c.r → c.r ≤ℤ pos (10 ^ 8) → IsDir u → 2 * unsigned_abs (pos (length_squared (ray_way c u)) -ℤ (c.r *ℤ c.r)) ≤ 3 * unsigned_abs c.r
ray_radius c u least most is =
    subst (λ (w : Dir). 2 * unsigned_abs (pos (length_squared w) -ℤ (c.r *ℤ c.r)) ≤ 3 * unsigned_abs c.r) (sym (way_is c u)) (near_radius c.r u least most is)

-- ---- a quarter turn on

turned_length : (u : Dir) → length_of (perp u) ≡ length_of u
turned_length u = ap (λ n. pos (root (n * 2 ^ 70))) (rw (size_neg u.dy) (omega arith))

turned_way : (r : ℤ) (u : Dir) → rounded_way r (perp u) ≡ perp (rounded_way r u)
turned_way r u =
    ap (λ s. near_displacement (times (r *ℤ unit) (perp u)) s) (turned_length u)
    ∙ rw (*ℤ-neg (r *ℤ unit) u.dy, near-neg ((r *ℤ unit) *ℤ u.dy) (length_of u)) refl

-- the point in a direction turned by a quarter is the point turned by a quarter, exactly
pub ray_turned : (c : Circ) (u : Dir) → ray_way c (perp u) ≡ perp (ray_way c u)
ray_turned c u = way_is c (perp u) ∙ turned_way c.r u ∙ ap perp (sym (way_is c u))
