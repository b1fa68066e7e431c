-- Two ways from a centre to points near a circle, a turn of at most a quarter apart: p is three units less than the radius.
use Rattle.std.proofs.Common.{refl, ◌≡◌, ℕ, ◌+◌, ◌*◌, ◌≤◌, ◌<◌, ◌∙◌, ap, sym, subst, arith, ℤ, pos, neg_ℤ, ◌+ℤ◌, ◌-ℤ◌, ◌*ℤ◌, ◌<ℤ◌, ◌≤ℤ◌, unsigned_abs}
use Rattle.std.proofs.Math.Nat.{mul-le-mul_left}
use Rattle.std.proofs.lemmas.Int.{ints}
use Rattle.apt_num.proofs.Ring.{as_diff, diff-pos, diff-same, differences, neg-*ℤ-neg}
use Rattle.apt_num.proofs.Squares.{size_mul, size_neg, root_le, four_le, natural}
use Rattle.apt_plane.specs.declared.figures.Dir.{Dir}
use Rattle.apt_plane.specs.Vectors.{cross, dot, length_squared}
use Rattle.apt_plane.specs.Ranges.{IsSense}
use Rattle.apt_plane.proofs.Displacements.{square_length_squared, lagrange, cross_square, cross_swap, dot_swap}
use Rattle.apt_plane.proofs.Lengths.{plus, length_of_sum, chord, chord_long}
use Rattle.apt_num.proofs.Products.{plus_of}
use Rattle.apt_arc.proofs.Halving.{across_core, steep_core, between_core}
use Rattle.apt_plane.proofs.Turned.{turned_by, size_sense, sense_back, turned_other, dot_about}
use Rattle.apt_plane.proofs.Nearby.{IsNearby}

pub record IsSpan (p : ℕ) (sense : ℤ) (a b : Dir) : Type 0 where
  pub onwards : pos 0 <ℤ turned_by sense a b
  pub ahead : pos 0 ≤ℤ dot a b
  pub start : IsNearby p a
  pub end : IsNearby p b

-- the point of the circle in a direction, rounded
pub record IsAimed (p : ℕ) (u m : Dir) : Type 0 where
  pub across : 2 * (unsigned_abs (cross u m) * unsigned_abs (cross u m)) ≤ length_squared u
  pub forward : pos 0 <ℤ dot u m
  pub low : 2 * ((p + 3) * (p + 3)) ≤ 2 * length_squared m + 3 * (p + 3)
  pub high : 2 * length_squared m ≤ 2 * ((p + 3) * (p + 3)) + 3 * (p + 3)

pub aimed_nearby : (p : ℕ) (u m : Dir) → IsAimed p u m → IsNearby p m
aimed_nearby p u m is = record { low = omega (arith, is.low); high = omega (arith, is.high) }

-- ---- the sum of the ways, and the chord
dot_sum_parts : (a b c d : ℤ) → ((a +ℤ c) *ℤ (c -ℤ a)) +ℤ ((b +ℤ d) *ℤ (d -ℤ b)) ≡ ((c *ℤ c) +ℤ (d *ℤ d)) -ℤ ((a *ℤ a) +ℤ (b *ℤ b))
dot_sum_parts a b c d = rw (as_diff a, as_diff b, as_diff c, as_diff d) (simp differences (diff-same _ _ _ _ (omega arith)))

pub dot_sum_chord : (a b : Dir) → dot (plus a b) (chord a b) ≡ pos (length_squared b) -ℤ pos (length_squared a)
dot_sum_chord a b = dot_sum_parts a.dx a.dy b.dx b.dy ∙ rw (square_length_squared a, square_length_squared b) refl

cross_sum_parts : (a b c d : ℤ) → ((a +ℤ c) *ℤ (d -ℤ b)) -ℤ ((b +ℤ d) *ℤ (c -ℤ a)) ≡ pos 2 *ℤ ((a *ℤ d) -ℤ (b *ℤ c))
cross_sum_parts a b c d = rw (as_diff a, as_diff b, as_diff c, as_diff d, diff-pos 2) (simp differences (diff-same _ _ _ _ (omega arith)))

pub cross_sum_chord : (a b : Dir) → cross (plus a b) (chord a b) ≡ pos 2 *ℤ cross a b
cross_sum_chord a b = cross_sum_parts a.dx a.dy b.dx b.dy

first_parts : (a b c d : ℤ) → (a *ℤ (b +ℤ d)) -ℤ (b *ℤ (a +ℤ c)) ≡ (a *ℤ d) -ℤ (b *ℤ c)
first_parts a b c d = rw (as_diff a, as_diff b, as_diff c, as_diff d) (simp differences (diff-same _ _ _ _ (omega arith)))

cross_first : (a b : Dir) → cross a (plus a b) ≡ cross a b
cross_first a b = first_parts a.dx a.dy b.dx b.dy

second_parts : (a b c d : ℤ) → (c *ℤ (b +ℤ d)) -ℤ (d *ℤ (a +ℤ c)) ≡ neg_ℤ ((a *ℤ d) -ℤ (b *ℤ c))
second_parts a b c d = rw (as_diff a, as_diff b, as_diff c, as_diff d) (simp differences (diff-same _ _ _ _ (omega arith)))

cross_second : (a b : Dir) → cross b (plus a b) ≡ neg_ℤ (cross a b)
cross_second a b = second_parts a.dx a.dy b.dx b.dy

along_first_parts : (a b c d : ℤ) → ((a +ℤ c) *ℤ a) +ℤ ((b +ℤ d) *ℤ b) ≡ ((a *ℤ a) +ℤ (b *ℤ b)) +ℤ ((a *ℤ c) +ℤ (b *ℤ d))
along_first_parts a b c d = rw (as_diff a, as_diff b, as_diff c, as_diff d) (simp differences (diff-same _ _ _ _ (omega arith)))

along_first : (a b : Dir) → dot (plus a b) a ≡ pos (length_squared a) +ℤ dot a b
along_first a b = rw (square_length_squared a) (along_first_parts a.dx a.dy b.dx b.dy)

along_second_parts : (a b c d : ℤ) → ((a +ℤ c) *ℤ c) +ℤ ((b +ℤ d) *ℤ d) ≡ ((c *ℤ c) +ℤ (d *ℤ d)) +ℤ ((a *ℤ c) +ℤ (b *ℤ d))
along_second_parts a b c d = rw (as_diff a, as_diff b, as_diff c, as_diff d) (simp differences (diff-same _ _ _ _ (omega arith)))

along_second : (a b : Dir) → dot (plus a b) b ≡ pos (length_squared b) +ℤ dot a b
along_second a b = rw (square_length_squared b) (along_second_parts a.dx a.dy b.dx b.dy)

-- in naturals, h is the dot product
sum_core : (n a b : ℕ) (d : ℤ) → pos n ≡ (pos a +ℤ (pos 2 *ℤ d)) +ℤ pos b → pos 0 ≤ℤ d → n ≡ a + b + 2 * unsigned_abs d
sum_core n a b d e h = omega (arith, ints, e, h)

pub sum_is : (a b : Dir) → pos 0 ≤ℤ dot a b → length_squared (plus a b) ≡ length_squared a + length_squared b + 2 * unsigned_abs (dot a b)
sum_is a b h = sum_core (length_squared (plus a b)) (length_squared a) (length_squared b) (dot a b) (length_of_sum a b) h

chord_core : (n a b : ℕ) (d : ℤ) → pos n +ℤ (pos 2 *ℤ d) ≡ pos a +ℤ pos b → pos 0 ≤ℤ d → n + 2 * unsigned_abs d ≡ a + b
chord_core n a b d e h = omega (arith, ints, e, h)

pub chord_is : (a b : Dir) → pos 0 ≤ℤ dot a b → length_squared (chord a b) + 2 * unsigned_abs (dot a b) ≡ length_squared a + length_squared b
chord_is a b h = chord_core (length_squared (chord a b)) (length_squared a) (length_squared b) (dot a b) (chord_long a b) h

abbrev pub gap : Dir → Dir → ℕ
gap a b = unsigned_abs (pos (length_squared b) -ℤ pos (length_squared a))

product_core : (n d c e q : ℕ) → n ≡ d * d + c * c → d ≡ e → c ≡ 2 * q → n ≡ 4 * (q * q) + e * e
product_core n d c e q whole f g = omega (arith, rw (f, g) at whole)

pub product_is : (a b : Dir) → length_squared (plus a b) * length_squared (chord a b) ≡ 4 * (unsigned_abs (cross a b) * unsigned_abs (cross a b)) + gap a b * gap a b
product_is a b =
    product_core (length_squared (plus a b) * length_squared (chord a b)) (unsigned_abs (dot (plus a b) (chord a b))) (unsigned_abs (cross (plus a b) (chord a b))) (gap a b) (unsigned_abs (cross a b))
    (lagrange (plus a b) (chord a b)) (ap unsigned_abs (dot_sum_chord a b)) (ap unsigned_abs (cross_sum_chord a b) ∙ size_mul (pos 2) (cross a b))

gap_core : (p m n : ℕ) → p * p ≤ m → m ≤ (p + 6) * (p + 6) → p * p ≤ n → n ≤ (p + 6) * (p + 6) → unsigned_abs (pos n -ℤ pos m) ≤ 12 * (p + 3)
gap_core p m n a b c d = omega (arith, ints, a, b, c, d)

pub gap_small : (p : ℕ) (a b : Dir) → IsNearby p a → IsNearby p b → gap a b ≤ 12 * (p + 3)
gap_small p a b is_a is_b = gap_core p (length_squared a) (length_squared b) is_a.low is_a.high is_b.low is_b.high

-- a span whose ends lie far from each other turns far
pub far_turn : (p : ℕ) (sense : ℤ) (a b : Dir) → IsSpan p sense a b → 97 ≤ p → 32 * (p + 3) < length_squared (chord a b) → 38 * (p + 3) ≤ unsigned_abs (cross a b)
far_turn p sense a b is least far =
    across_core p (length_squared (plus a b)) (length_squared (chord a b)) (unsigned_abs (cross a b)) (gap a b) (product_is a b)
    (omega (arith, sum_is a b is.ahead, is.start.low, is.end.low)) (gap_small p a b is.start is.end) far least

-- ---- the point half way lies between the ends
turned_about_parts : (z a b c d e f : ℤ) → ((a *ℤ a) +ℤ (b *ℤ b)) *ℤ (z *ℤ ((c *ℤ f) -ℤ (d *ℤ e)))
    ≡ ((z *ℤ ((c *ℤ b) -ℤ (d *ℤ a))) *ℤ ((a *ℤ e) +ℤ (b *ℤ f))) +ℤ (((a *ℤ c) +ℤ (b *ℤ d)) *ℤ (z *ℤ ((a *ℤ f) -ℤ (b *ℤ e))))
turned_about_parts z a b c d e f = rw (as_diff z, as_diff a, as_diff b, as_diff c, as_diff d, as_diff e, as_diff f) (simp differences (diff-same _ _ _ _ (omega arith)))

turned_about : (sense : ℤ) (u a m : Dir) → pos (length_squared u) *ℤ turned_by sense a m ≡ (turned_by sense a u *ℤ dot u m) +ℤ (dot u a *ℤ turned_by sense u m)
turned_about sense u a m = rw (square_length_squared u) (turned_about_parts sense u.dx u.dy a.dx a.dy m.dx m.dy)

size_part : (sense x z : ℤ) → IsSense sense → unsigned_abs (x *ℤ (sense *ℤ z)) ≡ unsigned_abs x * unsigned_abs z
size_part sense x z is = size_mul x (sense *ℤ z) ∙ ap (λ n. unsigned_abs x * n) (size_sense sense z is)

above : (a b n : ℕ) (z : ℤ) → unsigned_abs z ≡ n → n < a * b → pos 0 <ℤ ((pos a *ℤ pos b) +ℤ z)
above a b n z e h = omega (arith, ints, e, h)

side_turn : (sense : ℤ) (u a m : Dir) (q x : ℕ) → IsSense sense → turned_by sense a u ≡ pos q → dot u m ≡ pos x
    → unsigned_abs (dot u a) * unsigned_abs (cross u m) < q * x → pos 0 <ℤ turned_by sense a m
side_turn sense u a m q x is e f h =
    plus_of (length_squared u) (turned_by sense a m)
    (rw (turned_about sense u a m, e, f) (above q x (unsigned_abs (dot u a) * unsigned_abs (cross u m)) (dot u a *ℤ turned_by sense u m) (size_part sense (dot u a) (cross u m) is) h))

side_dot : (u a m : Dir) (p x : ℕ) → dot u a ≡ pos p → dot u m ≡ pos x → unsigned_abs (cross u a) * unsigned_abs (cross u m) < p * x → pos 0 <ℤ dot a m
side_dot u a m p x e f h =
    plus_of (length_squared u) (dot a m)
    (rw (dot_about u a m, e, f) (above p x (unsigned_abs (cross u a) * unsigned_abs (cross u m)) (cross u a *ℤ cross u m) (size_mul (cross u a) (cross u m)) h))

pub steep : (p : ℕ) (u m : Dir) → 97 ≤ p → IsAimed p u m → (p + 3) * unsigned_abs (cross u m) < unsigned_abs (dot u m)
steep p u m least is =
    let some : 0 < unsigned_abs (dot u m) = omega (arith, ints, is.forward) in
    steep_core (length_squared u) (length_squared m) (unsigned_abs (dot u m)) (unsigned_abs (cross u m)) (p + 3) (lagrange u m) is.across is.low (omega (arith, least)) some

size_back : (sense : ℤ) (u a : Dir) (q : ℕ) → IsSense sense → turned_by sense a u ≡ pos q → unsigned_abs (cross u a) ≡ q
size_back sense u a q is e = ap unsigned_abs (cross_swap a u) ∙ size_neg (cross a u) ∙ sym (size_sense sense (cross a u) is) ∙ ap unsigned_abs e

pub half : (p : ℕ) (sense : ℤ) (u a m : Dir) (q n : ℕ) → 97 ≤ p → IsSense sense → IsAimed p u m → turned_by sense a u ≡ pos q → dot u a ≡ pos n
    → n ≤ (p + 3) * q → q ≤ (p + 3) * n → 0 < q → 0 < n → (pos 0 <ℤ turned_by sense a m) × (pos 0 <ℤ dot a m)
half p sense u a m q n least is aimed e f h k some_q some_n =
    let x = unsigned_abs (dot u m) in
    let y = unsigned_abs (cross u m) in
    let at : dot u m ≡ pos x = natural (dot u m) (omega (arith, ints, aimed.forward)) in
    let sharp = steep p u m least aimed in (
      side_turn sense u a m q x is e at (rw f (between_core q x n y (p + 3) sharp h some_q)),
      side_dot u a m n x f at (rw (size_back sense u a q is e) (between_core n x q y (p + 3) sharp k some_n)),
    )

-- twice a cross product is at most both squares
pub two_cross : (a b : Dir) → 2 * unsigned_abs (cross a b) ≤ length_squared a + length_squared b
two_cross a b =
    root_le (2 * unsigned_abs (cross a b)) (length_squared a + length_squared b) (omega (arith, cross_square a b, four_le (length_squared a) (length_squared b)))

-- n is the square of the length of an end and the dot product together, q the cross product
reach : (p a b d h q : ℕ) → 97 ≤ p → p * p ≤ a → a ≤ (p + 6) * (p + 6) → b ≤ (p + 6) * (p + 6) → d + 2 * h ≡ a + b → 3 * (p + 3) ≤ q → a + h ≤ (p + 3) * q
reach p a b d h q least la ha hb e far = omega (arith, e, la, ha, hb, mul-le-mul_left (p + 3) far, mul-le-mul_left p least, least)

reach_back : (p a b h q : ℕ) → 97 ≤ p → p * p ≤ a → a ≤ (p + 6) * (p + 6) → b ≤ (p + 6) * (p + 6) → 2 * q ≤ a + b → q ≤ (p + 3) * (a + h)
reach_back p a b h q least la ha hb e =
    let long : p * p ≤ a + h = omega (arith, la) in
    let more : 100 ≤ p + 3 = omega (arith, least) in
    omega (arith, e, ha, hb, mul-le-mul_left (p + 3) long, mul-le-mul_left (p * p) more, mul-le-mul_left p least, least)

positive_end : (p a h : ℕ) → 97 ≤ p → p * p ≤ a → 0 < a + h
positive_end p a h least la = omega (arith, la, mul-le-mul_left p least, least)

along_is : (n : ℕ) (d z : ℤ) → z ≡ pos n +ℤ d → pos 0 ≤ℤ d → z ≡ pos (n + unsigned_abs d)
along_is n d z e h = omega (arith, ints, e, h)

pub halves : (p : ℕ) (sense : ℤ) (a b m : Dir) → 97 ≤ p → IsSense sense → IsSpan p sense a b → 3 * (p + 3) ≤ unsigned_abs (cross a b) → IsAimed p (plus a b) m
    → IsSpan p sense a m × IsSpan p sense m b
halves p sense a b m least is span far aimed =
    let u = plus a b in
    let q = unsigned_abs (cross a b) in
    let h = unsigned_abs (dot a b) in
    let whole = chord_is a b span.ahead in
    let two = two_cross a b in
    let same : turned_by sense a b ≡ pos q = natural (turned_by sense a b) (omega (arith, ints, span.onwards)) ∙ ap (λ n. pos n) (size_sense sense (cross a b) is) in
    let some : 0 < q = omega (arith, far) in
    let first_turn : turned_by sense a u ≡ pos q = ap (λ z. sense *ℤ z) (cross_first a b) ∙ same in
    let second_turn : turned_by (neg_ℤ sense) b u ≡ pos q = ap (λ z. neg_ℤ sense *ℤ z) (cross_second a b) ∙ neg-*ℤ-neg sense (cross a b) ∙ same in
    let first =
    half p sense u a m q (length_squared a + h) least is aimed first_turn (along_is (length_squared a) (dot a b) (dot u a) (along_first a b) span.ahead)
    (reach p (length_squared a) (length_squared b) (length_squared (chord a b)) h q least span.start.low span.start.high span.end.high whole far)
    (reach_back p (length_squared a) (length_squared b) h q least span.start.low span.start.high span.end.high two) some (positive_end p (length_squared a) h least span.start.low) in
    let second =
    half p (neg_ℤ sense) u b m q (length_squared b + h) least (sense_back sense is) aimed second_turn (along_is (length_squared b) (dot a b) (dot u b) (along_second a b) span.ahead)
    (reach p (length_squared b) (length_squared a) (length_squared (chord a b)) h q least span.end.low span.end.high span.start.high (omega (arith, whole)) far)
    (reach_back p (length_squared b) (length_squared a) h q least span.end.low span.end.high span.start.high (omega (arith, two))) some (positive_end p (length_squared b) h least span.end.low) in
    let nearby = aimed_nearby p u m aimed in (
      record { onwards = first.0; ahead = omega (arith, ints, first.1); start = span.start; end = nearby },
      record { onwards = subst (λ (z : ℤ). pos 0 <ℤ z) (turned_other sense m b) second.0; ahead = omega (arith, ints, second.1, dot_swap m b); start = nearby; end = span.end },
    )
