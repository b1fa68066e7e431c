-- Each half of a span that is cut is, by the square, hardly longer than a quarter of it and the square of its sagitta.
use Rattle.std.proofs.Common.{◌≡◌, ℕ, ◌+◌, ◌-◌, ◌*◌, ◌/◌, ◌≤◌, ◌<◌, ap, subst, arith, min, ℤ, pos, ◌+ℤ◌, ◌-ℤ◌, ◌*ℤ◌, unsigned_abs}
use Rattle.std.proofs.Math.Nat.{mul-le-mul_left, lt-mul-div-succ}
use Rattle.std.proofs.lemmas.Nat.{mul-le}
use Rattle.std.proofs.lemmas.Int.{ints}
use Rattle.apt_num.proofs.Squares.{root_le, cancel_le, four_le}
use Rattle.apt_plane.specs.declared.figures.Dir.{Dir}
use Rattle.apt_plane.specs.Vectors.{dot, length_squared}
use Rattle.apt_plane.proofs.Lengths.{plus, chord}
use Rattle.apt_arc.specs.Bounds.{shorter}
use Rattle.apt_arc.proofs.Spans.{IsSpan, IsAimed, product_is}
use Rattle.apt_arc.proofs.Thirds.{IsOff, beyond_half, twice_off, first_half, second_half, half_way}

-- ---- the point half way lies far along the sum
along_square : (p U M X Y : ℕ) → U * M ≡ X * X + Y * Y → 2 * (Y * Y) ≤ U → 2 * (p * p) + 1 ≤ 2 * M → U * (p * p) ≤ X * X
along_square p U M X Y e y m = omega (arith, e, y, mul-le-mul_left U m)

along_far : (p U X : ℕ) → 2 * (p * p) ≤ U → U * (p * p) ≤ X * X → 7 * (p * p) ≤ 5 * X
along_far p U X u x = root_le (7 * (p * p)) (5 * X) (omega (arith, x, mul-le-mul_left (p * p) u))

sum_wide : (p U X : ℕ) → 2 * (p * p) ≤ U → U * (p * p) ≤ X * X → 7 * (p * p) ≤ 5 * X → 23 * (p * p * U) ≤ 2 * ((2 * X + U) * (2 * X + U))
sum_wide p U X u x far = omega (arith, x, mul-le-mul_left U u, mul-le-mul_left U far)

-- ---- the sagitta: k is z and twice U
sag_square : (P U H z k : ℕ) → 23 * (P * U) ≤ 2 * (k * k) → z * k ≤ U * H → 0 < U → 23 * (P * (z * z)) ≤ 2 * (U * (H * H))
sag_square P U H z k wide short some =
    cancel_le U (23 * (P * (z * z))) (2 * (U * (H * H))) some (omega (arith, mul-le-mul_left (z * z) wide, mul-le (z * k) (z * k) (U * H) (U * H) short short))

sag_more : (P U H G z : ℕ) → 23 * (P * (z * z)) ≤ 2 * (U * (H * H)) → H ≤ G → 23 * (P * (z * z)) ≤ 2 * (U * (G * G))
sag_more P U H G z h g = omega (arith, h, mul-le-mul_left U (mul-le H H G G g g))

sag_small : (U H G z Y : ℕ) → U * H ≡ z * z + 4 * (Y * Y) + 2 * (U * z) → H ≤ G → 0 < U → 2 * z ≤ G
sag_small U H G z Y h g some = cancel_le U (2 * z) G some (omega (arith, h, mul-le-mul_left U g))

-- ---- what the rounding costs
ends_part : (P U G E z r : ℕ) → 2 * z ≤ G → E ≤ 12 * r → 2 * P ≤ U → P * (z * E) ≤ 3 * (r * (G * U))
ends_part P U G E z r h e u = omega (arith, mul-le-mul_left P (mul-le (2 * z) E G (12 * r) h e), mul-le-mul_left (r * G) u)

across_root : (U D Q Y r : ℕ) → 4 * (Q * Q) ≤ U * D → 2 * (Y * Y) ≤ U → 32 * (r * (Y * Q)) ≤ U * (32 * D + r * r)
across_root U D Q Y r q y =
    root_le (32 * (r * (Y * Q))) (U * (32 * D + r * r))
    (omega (arith, mul-le-mul_left (128 * (r * r)) (mul-le (2 * (Y * Y)) (4 * (Q * Q)) U (U * D) y q), mul-le-mul_left (U * U) (four_le (32 * D) (r * r))))

across_part : (P U D Q Y r : ℕ) → 32 * (r * (Y * Q)) ≤ U * (32 * D + r * r) → P ≤ r * r → 0 < r → 736 * (P * (Y * Q)) ≤ 736 * (U * (D * r)) + 23 * (r * (P * U))
across_part P U D Q Y r h s some =
    cancel_le r (736 * (P * (Y * Q))) (736 * (U * (D * r)) + 23 * (r * (P * U))) some (omega (arith, mul-le-mul_left (23 * P) h, mul-le-mul_left (736 * (U * D)) s))

-- ---- together: P is p * p
pub shorter_core : (P r z U E Y Q D G V W : ℕ) → U * V ≡ z * z + 4 * (Y * Y) → U * W ≤ z * E + 4 * (Y * Q) → 23 * (P * (z * z)) ≤ 2 * (U * (G * G))
    → P * (z * E) ≤ 3 * (r * (G * U)) → 2 * (Y * Y) ≤ U → 736 * (P * (Y * Q)) ≤ 736 * (U * (D * r)) + 23 * (r * (P * U)) → D ≤ G → 0 < U
    → 92 * (P * (V + 2 * W)) ≤ 8 * (G * G) + 1288 * (r * G) + 23 * (r * P) + 184 * P
shorter_core P r z U E Y Q D G V W v w sag ends y across g some =
    cancel_le U (92 * (P * (V + 2 * W))) (8 * (G * G) + 1288 * (r * G) + 23 * (r * P) + 184 * P) some
    (omega (arith, ap (λ n. 92 * (P * n)) v, mul-le-mul_left (184 * P) w, sag, ends, mul-le-mul_left (184 * P) y, across, mul-le-mul_left (736 * (U * r)) g))

shorter_numbers : (p A B U D M X Y Q E h V W : ℕ) → IsOff p A B U D M X Y Q E h V W → U * D ≡ 4 * (Q * Q) + E * E
    → 92 * (p * p * (V + 2 * W))
    ≤ 8 * ((D + 30 * (p + 3)) * (D + 30 * (p + 3))) + 1288 * ((p + 3) * (D + 30 * (p + 3))) + 23 * ((p + 3) * (p * p)) + 184 * (p * p)
shorter_numbers p A B U D M X Y Q E h V W off product =
    let is = off.numbers in
    let z = 2 * X - U in
    let r = p + 3 in
    let P = p * p in
    let G = D + 30 * r in
    let H = V + 2 * z in
    let past = beyond_half p A B U D M X Y Q E h is in
    let whole : z + U ≡ 2 * X = omega (arith, past) in
    let two : 2 * P ≤ U = omega (arith, is.sum, is.low_a, is.low_b) in
    let some : 0 < U = omega (arith, two, mul-le-mul_left p is.least, is.least) in
    let far : U * P ≤ X * X = along_square p U M X Y is.middle is.across (omega (arith, is.low)) in
    let wide : 23 * (P * U) ≤ 2 * ((2 * X + U) * (2 * X + U)) = sum_wide p U X two far (along_far p U X two far) in
    let high : H ≤ G = omega (arith, whole, off.length, is.sum, is.step, is.high, is.low_a, is.low_b) in
    let level : U * H ≡ z * z + 4 * (Y * Y) + 2 * (U * z) = omega (arith, off.square) in
    let all : z + 2 * U ≡ 2 * X + U = omega (arith, whole) in
    let some_short : z * (z + 2 * U) ≤ U * H = omega (arith, level) in
    let short : z * (2 * X + U) ≤ U * H = subst (λ n. z * n ≤ U * H) all some_short in
    let sag : 23 * (P * (z * z)) ≤ 2 * (U * (G * G)) = sag_more P U H G z (sag_square P U H z (2 * X + U) wide short some) high in
    let ends : P * (z * E) ≤ 3 * (r * (G * U)) = ends_part P U G E z r (sag_small U H G z Y level high some) is.gap two in
    let across : 736 * (P * (Y * Q)) ≤ 736 * (U * (D * r)) + 23 * (r * (P * U)) =
    across_part P U D Q Y r (across_root U D Q Y r (omega (arith, product)) is.across) (omega arith) (omega arith) in
    shorter_core P r z U E Y Q D G V W off.square off.along sag ends is.across across (omega arith) some

-- ---- of a half, in numbers
first_core : (N V D : ℕ) (w : ℤ) → pos 4 *ℤ pos N ≡ (pos V +ℤ (pos 2 *ℤ w)) +ℤ pos D → 4 * N ≤ V + 2 * unsigned_abs w + D
first_core N V D w e = omega (arith, ints, e)

second_core : (N V D : ℕ) (w : ℤ) → pos 4 *ℤ pos N ≡ (pos V -ℤ (pos 2 *ℤ w)) +ℤ pos D → 4 * N ≤ V + 2 * unsigned_abs w + D
second_core N V D w e = omega (arith, ints, e)

half_core : (P N V W D K : ℕ) → 4 * N ≤ V + 2 * W + D → 92 * (P * (V + 2 * W)) ≤ K → 368 * (P * N) ≤ 92 * (P * D) + K
half_core P N V W D K e h = omega (arith, h, mul-le-mul_left (92 * P) e)

-- what each half is short by
abbrev pub IsHalfOf : ℕ → ℕ → ℕ → Type 0
IsHalfOf p D N =
    368 * (p * p * N)
    ≤ 92 * (p * p * D) + (8 * ((D + 30 * (p + 3)) * (D + 30 * (p + 3))) + 1288 * ((p + 3) * (D + 30 * (p + 3))) + 23 * ((p + 3) * (p * p)) + 184 * (p * p))

pub halves_short : (p : ℕ) (sense : ℤ) (a b m : Dir) → 97 ≤ p → IsSpan p sense a b → 32 * (p + 3) < length_squared (chord a b) → IsAimed p (plus a b) m
    → IsHalfOf p (length_squared (chord a b)) (length_squared (chord a m)) × IsHalfOf p (length_squared (chord a b)) (length_squared (chord m b))
halves_short p sense a b m least span far aimed =
    let v = twice_off (plus a b) m in
    let V = length_squared v in
    let W = unsigned_abs (dot v (chord a b)) in
    let D = length_squared (chord a b) in
    let K = 8 * ((D + 30 * (p + 3)) * (D + 30 * (p + 3))) + 1288 * ((p + 3) * (D + 30 * (p + 3))) + 23 * ((p + 3) * (p * p)) + 184 * (p * p) in
    let whole : 92 * (p * p * (V + 2 * W)) ≤ K = shorter_numbers p _ _ _ _ _ _ _ _ _ _ _ _ (half_way p sense a b m least span far aimed) (product_is a b) in (
      half_core (p * p) (length_squared (chord a m)) V W D K (first_core (length_squared (chord a m)) V D (dot v (chord a b)) (first_half a b m)) whole,
      half_core (p * p) (length_squared (chord m b)) V W D K (second_core (length_squared (chord m b)) V D (dot v (chord a b)) (second_half a b m)) whole,
    )

-- ---- by divisions
under_core : (P r D d N q : ℕ) → 0 < P → D ≤ d → (d + 30 * r) * (d + 191 * r) ≤ 46 * P * (q + 1)
    → 368 * (P * N) ≤ 92 * (P * D) + (8 * ((D + 30 * r) * (D + 30 * r)) + 1288 * (r * (D + 30 * r)) + 23 * (r * P) + 184 * P) → 368 * N ≤ 92 * d + 368 * (q + 1) + 23 * r + 184
under_core P r D d N q some less over h =
    cancel_le P (368 * N) (92 * d + 368 * (q + 1) + 23 * r + 184) some
    (omega (arith, h, over, mul-le-mul_left (92 * P) less, mul-le (D + 30 * r) (D + 191 * r) (d + 30 * r) (d + 191 * r) (omega (arith, less)) (omega (arith, less))))

divided_core : (N d r q : ℕ) → 368 * N ≤ 92 * d + 368 * (q + 1) + 23 * r + 184 → N ≤ d / 4 + r / 16 + q + 4
divided_core N d r q h = omega (arith, h)

at_most_both : (N d n : ℕ) → N ≤ d → N ≤ n → N ≤ min d n
at_most_both N d n h g = omega (arith, h, g)

pub half_shorter : (p r D d N : ℕ) → r ≡ p + 3 → 97 ≤ p → D ≤ d → N ≤ D → IsHalfOf p D N → N ≤ shorter r d
half_shorter p r D d N e least less under half =
    let P = p * p in
    let base : r - 3 ≡ p = omega (arith, e) in
    let some : 0 < P = omega (arith, mul-le-mul_left p least, least) in
    let q = (d + 30 * (p + 3)) * (d + 191 * (p + 3)) / (46 * P) in
    let over : (d + 30 * (p + 3)) * (d + 191 * (p + 3)) < 46 * P * (q + 1) = lt-mul-div-succ ((d + 30 * (p + 3)) * (d + 191 * (p + 3))) (omega (arith, some)) in
    let whole : N ≤ d / 4 + (p + 3) / 16 + q + 4 = divided_core N d (p + 3) q (under_core P (p + 3) D d N q some less (omega (arith, over)) half) in
    at_most_both N d (d / 4 + r / 16 + (d + 30 * r) * (d + 191 * r) / (46 * ((r - 3) * (r - 3))) + 4) (omega (arith, under, less)) (rw (base, e) whole)
