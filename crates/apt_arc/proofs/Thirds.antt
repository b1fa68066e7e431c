-- Each half of a span that is cut is short, and so no cut is deep.
use Rattle.std.proofs.Common.{refl, ◌≡◌, inl, inr, ℕ, zero, suc, ◌+◌, ◌-◌, ◌*◌, ◌≤◌, ◌<◌, ◌∙◌, ap, sym, arith, ℤ, pos, ◌+ℤ◌, ◌-ℤ◌, ◌*ℤ◌, unsigned_abs}
use Rattle.std.proofs.Math.Nat.{mul-le-mul_left}
use Rattle.std.proofs.lemmas.Nat.{mul-le}
use Rattle.std.proofs.lemmas.Int.{ints}
use Rattle.std.proofs.lemmas.Bool.{cases_lt}
use Rattle.apt_num.proofs.Ring.{as_diff, diff-pos, diff-same, differences}
use Rattle.apt_num.proofs.Squares.{size_mul, size_add, root_le, cancel_le, natural}
use Rattle.apt_plane.specs.declared.figures.Dir.{Dir}
use Rattle.apt_plane.specs.Vectors.{cross, dot, length_squared}
use Rattle.apt_plane.proofs.Displacements.{to, square_length_squared, lagrange}
use Rattle.apt_plane.proofs.Lengths.{plus, chord}
use Rattle.apt_plane.proofs.Turned.{dot_about}
use Rattle.apt_arc.proofs.Spans.{IsSpan, IsAimed, gap, gap_small, dot_sum_chord, cross_sum_chord, sum_is, chord_is, two_cross}

-- ---- in numbers: what is left after the equations
third_core : (z U E Y Q r H D V W : ℕ)
    → U * H ≡ z * z + 4 * (Y * Y) + 2 * (U * z) → U * V ≡ z * z + 4 * (Y * Y) → U * W ≤ z * E + 4 * (Y * Q)
    → H + 36 ≤ D + 30 * r → 2 * (Y * Y) ≤ U → 2 * Y ≤ 3 * r → 2 * Q ≤ U → z + 3 * E ≤ U → 0 < U
    → 3 * V + 6 * W ≤ D + 48 * r
third_core z U E Y Q r H D V W h v w g y1 y2 q s u = elim (cases_lt (D + 48 * r) (3 * V + 6 * W)) [
  | inl past ↦
      absurd (omega (arith, mul-le-mul_left U past, mul-le-mul_left (2 * z) s, mul-le-mul_left (12 * Y) q, mul-le-mul_left (6 * U) y2, mul-le-mul_left U g))
  | inr fine ↦ fine
]

-- a span in numbers: the squares of the lengths of the ends, of their sum, of the chord, and of the point half way, X along the sum and Y across it
pub record InNumbers (p A B U D M X Y Q E h : ℕ) : Type 0 where
  pub least : 97 ≤ p
  pub low_a : p * p ≤ A
  pub low_b : p * p ≤ B
  pub high_a : A ≤ (p + 6) * (p + 6)
  pub high_b : B ≤ (p + 6) * (p + 6)
  pub sum : U ≡ A + B + 2 * h
  pub step : D + 2 * h ≡ A + B
  pub far : 32 * (p + 3) < D
  pub middle : U * M ≡ X * X + Y * Y
  pub across : 2 * (Y * Y) ≤ U
  pub low : 2 * ((p + 3) * (p + 3)) ≤ 2 * M + 3 * (p + 3)
  pub high : 2 * M ≤ 2 * ((p + 3) * (p + 3)) + 3 * (p + 3)
  pub turn : 2 * Q ≤ A + B
  pub gap : E ≤ 12 * (p + 3)

-- the point half way lies beyond the middle of the chord
pub beyond_half : (p A B U D M X Y Q E h : ℕ) → InNumbers p A B U D M X Y Q E h → U < 2 * X
beyond_half p A B U D M X Y Q E h is = elim (cases_lt U (2 * X)) [
  | inl fine ↦ fine
  | inr past ↦
      let some : 0 < U = omega (arith, is.sum, is.low_a, mul-le-mul_left p is.least, is.least) in
      let short : U * (4 * M) ≤ U * (U + 2) = omega (arith, is.middle, is.across, mul-le (2 * X) (2 * X) U U past past) in
      let low : 4 * M ≤ U + 2 = cancel_le U (4 * M) (U + 2) some short in
      absurd (omega (arith, low, is.sum, is.step, is.far, is.low, is.high_a, is.high_b, is.least))
]

not_past : (p A B U D M X Y Q E h : ℕ) → InNumbers p A B U D M X Y Q E h → 4 * X ≤ 3 * U
not_past p A B U D M X Y Q E h is =
    let long : 16 * M ≤ 9 * U = omega (arith, is.high, is.sum, is.low_a, is.low_b, mul-le-mul_left p is.least, is.least) in
    root_le (4 * X) (3 * U) (omega (arith, is.middle, mul-le-mul_left U long))

short_across : (p A B U D M X Y Q E h : ℕ) → InNumbers p A B U D M X Y Q E h → 2 * Y ≤ 3 * (p + 3)
short_across p A B U D M X Y Q E h is =
    root_le (2 * Y) (3 * (p + 3)) (omega (arith, is.across, is.sum, is.step, is.high_a, is.high_b, mul-le-mul_left p is.least, is.least))

-- V is the square of twice the way half way less the sum, W its dot product with the chord
pub record IsOff (p A B U D M X Y Q E h V W : ℕ) : Type 0 where
  pub numbers : InNumbers p A B U D M X Y Q E h
  pub length : V + 4 * X ≡ 4 * M + U
  pub square : U * V ≡ (2 * X - U) * (2 * X - U) + 4 * (Y * Y)
  pub along : U * W ≤ (2 * X - U) * E + 4 * (Y * Q)

third : (p A B U D M X Y Q E h V W : ℕ) → IsOff p A B U D M X Y Q E h V W → 3 * V + 6 * W ≤ D + 48 * (p + 3)
third p A B U D M X Y Q E h V W off =
    let is = off.numbers in
    let z = 2 * X - U in
    let past = beyond_half p A B U D M X Y Q E h is in
    let whole : z + U ≡ 2 * X = omega (arith, past) in
    let under = not_past p A B U D M X Y Q E h is in
    let least = is.least in
    third_core z U E Y Q (p + 3) (V + 2 * z) D V W (omega (arith, off.square)) off.square off.along
    (omega (arith, whole, off.length, is.sum, is.step, is.high, is.low_a, is.low_b)) is.across (short_across p A B U D M X Y Q E h is) (omega (arith, is.turn, is.sum))
    (omega (arith, whole, under, is.gap, is.sum, is.low_a, is.low_b, mul-le-mul_left p least, least)) (omega (arith, is.sum, is.low_a, mul-le-mul_left p least, least))

-- ---- the ways: twice that half way, less the sum
abbrev pub twice_off : Dir → Dir → Dir
twice_off u m = to ((pos 2 *ℤ m.dx) -ℤ u.dx) ((pos 2 *ℤ m.dy) -ℤ u.dy)

off_parts : (a b e f : ℤ) → ((((pos 2 *ℤ e) -ℤ a) *ℤ ((pos 2 *ℤ e) -ℤ a)) +ℤ (((pos 2 *ℤ f) -ℤ b) *ℤ ((pos 2 *ℤ f) -ℤ b))) +ℤ (pos 4 *ℤ ((a *ℤ e) +ℤ (b *ℤ f)))
    ≡ (pos 4 *ℤ ((e *ℤ e) +ℤ (f *ℤ f))) +ℤ ((a *ℤ a) +ℤ (b *ℤ b))
off_parts a b e f = rw (as_diff a, as_diff b, as_diff e, as_diff f, diff-pos 2, diff-pos 4) (simp differences (diff-same _ _ _ _ (omega arith)))

off_long : (u m : Dir) → pos (length_squared (twice_off u m)) +ℤ (pos 4 *ℤ dot u m) ≡ (pos 4 *ℤ pos (length_squared m)) +ℤ pos (length_squared u)
off_long u m = rw (← square_length_squared (twice_off u m), ← square_length_squared m, ← square_length_squared u) at (off_parts u.dx u.dy m.dx m.dy)

dot_off_parts : (a b e f : ℤ) → (a *ℤ ((pos 2 *ℤ e) -ℤ a)) +ℤ (b *ℤ ((pos 2 *ℤ f) -ℤ b)) ≡ (pos 2 *ℤ ((a *ℤ e) +ℤ (b *ℤ f))) -ℤ ((a *ℤ a) +ℤ (b *ℤ b))
dot_off_parts a b e f = rw (as_diff a, as_diff b, as_diff e, as_diff f, diff-pos 2) (simp differences (diff-same _ _ _ _ (omega arith)))

dot_off : (u m : Dir) → dot u (twice_off u m) ≡ (pos 2 *ℤ dot u m) -ℤ pos (length_squared u)
dot_off u m = rw (square_length_squared u) (dot_off_parts u.dx u.dy m.dx m.dy)

cross_off_parts : (a b e f : ℤ) → (a *ℤ ((pos 2 *ℤ f) -ℤ b)) -ℤ (b *ℤ ((pos 2 *ℤ e) -ℤ a)) ≡ pos 2 *ℤ ((a *ℤ f) -ℤ (b *ℤ e))
cross_off_parts a b e f = rw (as_diff a, as_diff b, as_diff e, as_diff f, diff-pos 2) (simp differences (diff-same _ _ _ _ (omega arith)))

cross_off : (u m : Dir) → cross u (twice_off u m) ≡ pos 2 *ℤ cross u m
cross_off u m = cross_off_parts u.dx u.dy m.dx m.dy

-- twice the way from the first end to the point half way, and from it to the second
first_parts : (a b c d e f : ℤ) → pos 4 *ℤ (((e -ℤ a) *ℤ (e -ℤ a)) +ℤ ((f -ℤ b) *ℤ (f -ℤ b)))
    ≡ (((((pos 2 *ℤ e) -ℤ (a +ℤ c)) *ℤ ((pos 2 *ℤ e) -ℤ (a +ℤ c))) +ℤ (((pos 2 *ℤ f) -ℤ (b +ℤ d)) *ℤ ((pos 2 *ℤ f) -ℤ (b +ℤ d))))
    +ℤ (pos 2 *ℤ ((((pos 2 *ℤ e) -ℤ (a +ℤ c)) *ℤ (c -ℤ a)) +ℤ (((pos 2 *ℤ f) -ℤ (b +ℤ d)) *ℤ (d -ℤ b)))))
    +ℤ (((c -ℤ a) *ℤ (c -ℤ a)) +ℤ ((d -ℤ b) *ℤ (d -ℤ b)))
first_parts a b c d e f = rw (as_diff a, as_diff b, as_diff c, as_diff d, as_diff e, as_diff f, diff-pos 2, diff-pos 4) (simp differences (diff-same _ _ _ _ (omega arith)))

pub first_half : (a b m : Dir) → pos 4 *ℤ pos (length_squared (chord a m))
    ≡ (pos (length_squared (twice_off (plus a b) m)) +ℤ (pos 2 *ℤ dot (twice_off (plus a b) m) (chord a b))) +ℤ pos (length_squared (chord a b))
first_half a b m =
    rw (← square_length_squared (chord a m), ← square_length_squared (twice_off (plus a b) m), ← square_length_squared (chord a b)) at (first_parts a.dx a.dy b.dx b.dy m.dx m.dy)

second_parts : (a b c d e f : ℤ) → pos 4 *ℤ (((c -ℤ e) *ℤ (c -ℤ e)) +ℤ ((d -ℤ f) *ℤ (d -ℤ f)))
    ≡ (((((pos 2 *ℤ e) -ℤ (a +ℤ c)) *ℤ ((pos 2 *ℤ e) -ℤ (a +ℤ c))) +ℤ (((pos 2 *ℤ f) -ℤ (b +ℤ d)) *ℤ ((pos 2 *ℤ f) -ℤ (b +ℤ d))))
    -ℤ (pos 2 *ℤ ((((pos 2 *ℤ e) -ℤ (a +ℤ c)) *ℤ (c -ℤ a)) +ℤ (((pos 2 *ℤ f) -ℤ (b +ℤ d)) *ℤ (d -ℤ b)))))
    +ℤ (((c -ℤ a) *ℤ (c -ℤ a)) +ℤ ((d -ℤ b) *ℤ (d -ℤ b)))
second_parts a b c d e f = rw (as_diff a, as_diff b, as_diff c, as_diff d, as_diff e, as_diff f, diff-pos 2, diff-pos 4) (simp differences (diff-same _ _ _ _ (omega arith)))

pub second_half : (a b m : Dir) → pos 4 *ℤ pos (length_squared (chord m b))
    ≡ (pos (length_squared (twice_off (plus a b) m)) -ℤ (pos 2 *ℤ dot (twice_off (plus a b) m) (chord a b))) +ℤ pos (length_squared (chord a b))
second_half a b m =
    rw (← square_length_squared (chord m b), ← square_length_squared (twice_off (plus a b) m), ← square_length_squared (chord a b)) at (second_parts a.dx a.dy b.dx b.dy m.dx m.dy)

-- ---- put together
off_in_numbers : (V M U X : ℕ) (x : ℤ) → pos V +ℤ (pos 4 *ℤ x) ≡ (pos 4 *ℤ pos M) +ℤ pos U → x ≡ pos X → V + 4 * X ≡ 4 * M + U
off_in_numbers V M U X x e f = omega (arith, ints, rw f at e)

size_along : (U X : ℕ) (x : ℤ) → x ≡ pos X → U ≤ 2 * X → unsigned_abs ((pos 2 *ℤ x) -ℤ pos U) ≡ 2 * X - U
size_along U X x e h = rw e (omega (arith, ints, h))

square_core : (n d c z y : ℕ) → n ≡ d * d + c * c → d ≡ z → c ≡ 2 * y → n ≡ z * z + 4 * (y * y)
square_core n d c z y whole f g = omega (arith, rw (f, g) at whole)

dot_core : (U : ℕ) (w s t x y : ℤ) (a b c d : ℕ) → pos U *ℤ w ≡ (s *ℤ t) +ℤ (x *ℤ y) → unsigned_abs s ≡ a → unsigned_abs t ≡ b → unsigned_abs x ≡ 2 * c → unsigned_abs y ≡ 2 * d
    → U * unsigned_abs w ≤ a * b + 4 * (c * d)
dot_core U w s t x y a b c d e f g h k =
    let whole : U * unsigned_abs w ≡ unsigned_abs ((s *ℤ t) +ℤ (x *ℤ y)) = sym (size_mul (pos U) w) ∙ ap unsigned_abs e in
    let first : unsigned_abs (s *ℤ t) ≡ a * b = size_mul s t ∙ rw (f, g) refl in
    let second : unsigned_abs (x *ℤ y) ≡ 4 * (c * d) = size_mul x y ∙ rw (h, k) (omega arith) in
    omega (arith, whole, first, second, size_add (s *ℤ t) (x *ℤ y))

half_core : (N V D r : ℕ) (w : ℤ) → (pos 4 *ℤ pos N ≡ (pos V +ℤ (pos 2 *ℤ w)) +ℤ pos D) → 3 * V + 6 * unsigned_abs w ≤ D + 48 * r → 3 * N ≤ D + 12 * r
half_core N V D r w e h = omega (arith, ints, e, h)

other_core : (N V D r : ℕ) (w : ℤ) → (pos 4 *ℤ pos N ≡ (pos V -ℤ (pos 2 *ℤ w)) +ℤ pos D) → 3 * V + 6 * unsigned_abs w ≤ D + 48 * r → 3 * N ≤ D + 12 * r
other_core N V D r w e h = omega (arith, ints, e, h)

-- those of a span whose point half way is m
abbrev pub IsHalfWay : ℕ → Dir → Dir → Dir → Type 0
IsHalfWay p a b m =
    let u = plus a b in
    let v = twice_off u m in
    IsOff p (length_squared a) (length_squared b) (length_squared u) (length_squared (chord a b)) (length_squared m) (unsigned_abs (dot u m)) (unsigned_abs (cross u m)) (unsigned_abs (cross a b)) (gap a b) (unsigned_abs (dot a b)) (length_squared v) (unsigned_abs (dot v (chord a b)))

pub half_way : (p : ℕ) (sense : ℤ) (a b m : Dir) → 97 ≤ p → IsSpan p sense a b → 32 * (p + 3) < length_squared (chord a b) → IsAimed p (plus a b) m → IsHalfWay p a b m
half_way p sense a b m least span far aimed =
    let u = plus a b in
    let v = twice_off u m in
    let A = length_squared a in
    let B = length_squared b in
    let U = length_squared u in
    let D = length_squared (chord a b) in
    let M = length_squared m in
    let V = length_squared v in
    let X = unsigned_abs (dot u m) in
    let Y = unsigned_abs (cross u m) in
    let Q = unsigned_abs (cross a b) in
    let E = gap a b in
    let h = unsigned_abs (dot a b) in
    let at : dot u m ≡ pos X = natural (dot u m) (omega (arith, ints, aimed.forward)) in
    let is : InNumbers p A B U D M X Y Q E h =
    record {
      least = least;
      low_a = span.start.low;
      low_b = span.end.low;
      high_a = span.start.high;
      high_b = span.end.high;
      sum = sum_is a b span.ahead;
      step = chord_is a b span.ahead;
      far = far;
      middle = lagrange u m;
      across = aimed.across;
      low = aimed.low;
      high = aimed.high;
      turn = two_cross a b;
      gap = gap_small p a b span.start span.end;
    } in
    let past = beyond_half p A B U D M X Y Q E h is in
    let along : unsigned_abs (dot u v) ≡ 2 * X - U = ap unsigned_abs (dot_off u m) ∙ size_along U X (dot u m) at (omega (arith, past)) in
    let aside : unsigned_abs (cross u v) ≡ 2 * Y = ap unsigned_abs (cross_off u m) ∙ size_mul (pos 2) (cross u m) in
    let far_across : unsigned_abs (cross u (chord a b)) ≡ 2 * Q = ap unsigned_abs (cross_sum_chord a b) ∙ size_mul (pos 2) (cross a b) in
    record {
      numbers = is;
      length = off_in_numbers V M U X (dot u m) (off_long u m) at;
      square = square_core (U * V) (unsigned_abs (dot u v)) (unsigned_abs (cross u v)) (2 * X - U) Y (lagrange u v) along aside;
      along = dot_core U (dot v (chord a b)) (dot u v) (dot u (chord a b)) (cross u v) (cross u (chord a b)) (2 * X - U) E Y Q (dot_about u v (chord a b)) along (ap unsigned_abs (dot_sum_chord a b)) aside far_across;
    }

pub thirds : (p : ℕ) (sense : ℤ) (a b m : Dir) → 97 ≤ p → IsSpan p sense a b → 32 * (p + 3) < length_squared (chord a b) → IsAimed p (plus a b) m
    → (3 * length_squared (chord a m) ≤ length_squared (chord a b) + 12 * (p + 3)) × (3 * length_squared (chord m b) ≤ length_squared (chord a b) + 12 * (p + 3))
thirds p sense a b m least span far aimed =
    let v = twice_off (plus a b) m in
    let whole = third p _ _ _ _ _ _ _ _ _ _ _ _ (half_way p sense a b m least span far aimed) in (
      half_core (length_squared (chord a m)) (length_squared v) (length_squared (chord a b)) (p + 3) (dot v (chord a b)) (first_half a b m) whole,
      other_core (length_squared (chord m b)) (length_squared v) (length_squared (chord a b)) (p + 3) (dot v (chord a b)) (second_half a b m) whole,
    )

-- ---- depth: e is a power of three, one for each cut so far
pub first_level : (p D : ℕ) → 97 ≤ p → D ≤ 2 * ((p + 6) * (p + 6)) → D ≤ 3 * ((p + 3) * (p + 3)) + 6 * (p + 3)
first_level p D least h = omega (arith, h, mul-le-mul_left p least, least)

pub next_level : (e D N r : ℕ) → e * D ≤ 3 * (r * r) + e * (6 * r) → 3 * N ≤ D + 12 * r → 3 * e * N ≤ 3 * (r * r) + 3 * e * (6 * r)
next_level e D N r h g = omega (arith, h, mul-le-mul_left e g)

-- so deep nothing is cut
pub last_level : (e D r w : ℕ) → e * D ≤ 3 * (r * r) + e * (6 * r) → r ≤ e * w → 8 ≤ w → 100 ≤ r → 4 * (w * r) < D → ⊥
last_level zero D r w h deep wide least long = omega (arith, deep, least)
last_level (suc e) D r w h deep wide least long =
    omega (arith, h, mul-le-mul_left (suc e) long, mul-le-mul_left r deep, mul-le-mul_left (suc e * r) wide, mul-le-mul_left (suc e) least)
