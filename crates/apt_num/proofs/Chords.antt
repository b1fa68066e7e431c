-- Chords that lines and circles cut out of circles: how near their ends are to the circles, in units of 2^-30.
use Rattle.std.proofs.Common.{refl, ◌∙◌, ◌+ℤ◌, ◌≡◌, ℕ, zero, suc, ◌+◌, ◌-◌, ◌*◌, ◌^◌, ◌≤◌, ◌<◌, ◌⊎◌, subst, ap, arith, inl, inr, ℤ, pos, negsuc, neg_ℤ, ◌-ℤ◌, ◌*ℤ◌, unsigned_abs}
use Rattle.std.proofs.Math.Nat.{mul-le-mul_left}
use Rattle.std.proofs.lemmas.Nat.{mul-le}
use Rattle.std.proofs.lemmas.Int.{ints}
use Rattle.std.proofs.lemmas.Bool.{cases_lt}
use Rattle.apt_num.specs.Root.{IsRoot}
use Rattle.apt_num.specs.Sign.{OnLine}
use Rattle.apt_num.proofs.Ring.{as_diff, diff-pos, diff-same, differences, minus-*ℤ, neg-*ℤ}
use Rattle.apt_num.proofs.Squares.{square_le, root_le, cancel_le, size_mul, size_square}
use Rattle.apt_num.proofs.RootLaws.{one_root}
use Rattle.apt_num.proofs.Roots.{ScaledRoot, from_root}
use Rattle.apt_num.proofs.Framed.{IsEighth, IsFramed}
use Rattle.apt_num.proofs.Footed.{lag}

-- ---- a line that is at most the radius from a centre

-- where k is at most r lengths away from h of them: so it is in small units, but for the rounding of the length
pub meet_near : (k h : ℤ) (r n s : ℕ) → IsRoot (n * 2 ^ 70) s → OnLine k h n (pos r) → unsigned_abs (lag s k h) ≤ r * s + unsigned_abs h + r
meet_near k h r n s at near =
    let right = rw (minus-*ℤ h (pos r) (pos s)) at (from_root k (h -ℤ pos r) n s at near.right) in
    let left = rw (minus-*ℤ (neg_ℤ h) (pos r) (pos s), neg-*ℤ h (pos s), neg-*ℤ k (pos (2 ^ 35))) at (from_root (neg_ℤ k) (neg_ℤ h -ℤ pos r) n s at near.left) in
    omega (arith, ints, right, left)

-- the depth of a chord: at most the radius and 1/128 of a unit
pub depth_bound : (g k e h r s : ℕ) → s * g ≤ 2 ^ 30 * k + e → 2 * e ≤ s → k ≤ r * s + h + r → h ≤ 10 ^ 8 → r ≤ 10 ^ 8 → 2 ^ 35 ≤ s
    → g ≤ r * 2 ^ 30 + 2 ^ 23
depth_bound g k e h r s p q near small_h small_r large =
    cancel_le s g (r * 2 ^ 30 + 2 ^ 23) (omega arith) (omega (arith, p, q, near, small_h, small_r, large))

-- ---- half of a chord

eighth_less : (t : ℕ) → 8 * suc t - 1 ≡ 8 * t + 7
eighth_less t = omega arith

-- where the end of a chord lies: where there is one, it is at most the rounding of a root inside the circle
pub chord_end : (r g t : ℕ) → g * g ≤ r * r * 2 ^ 60 → IsRoot (r * r * 2 ^ 60 - g * g) t → IsEighth r (g * g + t * t)
chord_end zero g t p at = record { most = omega (arith, p, at.low); least = omega arith }
chord_end (suc r) g t p at =
    let half : t ≤ suc r * 2 ^ 30 = root_le t (suc r * 2 ^ 30) (omega (arith, at.low)) in
    record { most = omega (arith, p, at.low); least = rw (eighth_less r) (omega (arith, p, at.high, half)) }

-- a chord past the edge by rounding alone: the point at its depth is as near
pub edge_end : (r g : ℕ) → r * r * 2 ^ 60 ≤ g * g → g ≤ r * 2 ^ 30 + 2 ^ 23 → IsEighth r (g * g)
edge_end zero g p q = record { most = omega (arith, square_le g (2 ^ 23) (omega arith)); least = omega arith }
edge_end (suc r) g p q = record {
  most = omega (arith, square_le g (suc r * 2 ^ 30 + 2 ^ 23) q);
  least = rw (eighth_less r) (omega (arith, p));
}

none_left : (t : ℕ) → IsRoot 0 t → t ≡ 0
none_left zero at = omega arith
none_left (suc t) at = absurd (omega (arith, at.low))

no_rest : (m n : ℕ) → m ≤ n → m - n ≡ 0
no_rest m n h = omega arith

-- so either way
pub half_chord_end : (r g t : ℕ) → g ≤ r * 2 ^ 30 + 2 ^ 23 → IsRoot (r * r * 2 ^ 60 - g * g) t → IsEighth r (g * g + t * t)
half_chord_end r g t q at = elim (cases_lt (r * r * 2 ^ 60) (g * g)) [
  | inl past ↦
      let none : t ≡ 0 = none_left t (rw (no_rest (r * r * 2 ^ 60) (g * g) (omega arith)) at at) in
      let edge = edge_end r g (omega arith) q in
      record { most = rw none (omega (arith, edge.most)); least = rw none (omega (arith, edge.least)) }
  | inr there ↦ chord_end r g t there at
]

-- ---- two circles of the radii r and q, whose centres are apart by a distance whose square is n

-- d is how far two numbers are apart
abbrev pub Apart : ℕ → ℕ → ℕ → Type 0
Apart a b d = (a + d ≡ b) ⊎ (b + d ≡ a)

-- they meet: n is d * d and p, and with w it is the square of the sum of the radii
pub record Meeting (n r q d p w : ℕ) : Type 0 where
  pub apart : Apart r q d
  pub least : n ≡ p + d * d
  pub most : p + w ≡ 4 * r * q

apart-square : (a b d : ℕ) → Apart a b d → d * d + 2 * (a * b) ≡ a * a + b * b
apart-square a b d (inl e) = subst (λ m. d * d + 2 * (a * m) ≡ a * a + m * m) e (omega arith)
apart-square a b d (inr e) = subst (λ m. d * d + 2 * (m * b) ≡ m * m + b * b) e (omega arith)

larger : (r d p w l : ℕ) → p + w ≡ 4 * r * (r + d) → Apart (p + d * d + r * r) ((r + d) * (r + d)) l → l * l + p * w ≡ 4 * (r * r) * (p + d * d)
larger r d p w l most at = omega (arith, apart-square (p + d * d + r * r) ((r + d) * (r + d)) l at, ap (λ m. p * m) most)

smaller : (q d p w l : ℕ) → p + w ≡ 4 * (q + d) * q → Apart (p + d * d + (q + d) * (q + d)) (q * q) l → l * l + p * w ≡ 4 * ((q + d) * (q + d)) * (p + d * d)
smaller q d p w l most at = omega (arith, apart-square (p + d * d + (q + d) * (q + d)) (q * q) l at, ap (λ m. p * m) most)

by_radii : (r q d p w l : ℕ) → Apart r q d → p + w ≡ 4 * r * q → Apart (p + d * d + r * r) (q * q) l → l * l + p * w ≡ 4 * (r * r) * (p + d * d)
by_radii r q d p w l (inl e) most far =
    subst (λ m. p + w ≡ 4 * r * m → Apart (p + d * d + r * r) (m * m) l → l * l + p * w ≡ 4 * (r * r) * (p + d * d)) e (larger r d p w l) most far
by_radii r q d p w l (inr e) most far =
    subst (λ m. p + w ≡ 4 * m * q → Apart (p + d * d + m * m) (q * q) l → l * l + p * w ≡ 4 * (m * m) * (p + d * d)) e (smaller q d p w l) most far

-- l, over twice the distance of the centres, is how far the chord is from the first centre
pub chord_square : (n r q d p w l : ℕ) → Meeting n r q d p w → Apart (n + r * r) (q * q) l → l * l + p * w ≡ 4 * (r * r) * n
chord_square n r q d p w l at far = rw at.least (by_radii r q d p w l at.apart at.most (rw at.least at far))

by_difference : (r q d s : ℕ) → Apart r q d → 2 ^ 35 * d ≤ s + 1 → 2 ^ 35 * r ≤ 2 ^ 35 * q + s + 1
by_difference r q d s (inl e) h = omega (arith, e, h)
by_difference r q d s (inr e) h = omega (arith, e, h)

-- the radii differ by at most the distance
pub radius_le : (n r q d p w s : ℕ) → Meeting n r q d p w → n * 2 ^ 70 ≤ (s + 1) * (s + 1) → 2 ^ 35 * r ≤ 2 ^ 35 * q + s + 1
radius_le n r q d p w s at high =
    let share : 2 ^ 35 * d ≤ s + 1 = root_le (2 ^ 35 * d) (s + 1) (omega (arith, high, at.least)) in
    by_difference r q d s at.apart share

-- where they touch, the distance m is whole and so is its root
pub touching : (m r s l g : ℕ) → 0 < m → IsRoot (m * m * 2 ^ 70) s → l * l ≤ 4 * (r * r) * (m * m) → 2 * (s * g) ≤ 2 ^ 65 * l + s → g ≤ r * 2 ^ 30
touching m r s l g positive at far p =
    let whole : s ≡ 2 ^ 35 * m = one_root (m * m * 2 ^ 70) s (2 ^ 35 * m) at (record { low = omega arith; high = omega arith }) in
    let near : l ≤ 2 * r * m = root_le l (2 * r * m) (omega (arith, far)) in
    let scaled : 2 * (2 ^ 35 * m * g) ≤ 2 ^ 65 * l + 2 ^ 35 * m = rw whole at p in
    let cancelled : 2 * g ≤ 2 ^ 31 * r + 1 = cancel_le (2 ^ 35 * m) (2 * g) (2 ^ 31 * r + 1) (omega (arith, positive)) (omega (arith, scaled, near)) in
    omega arith

-- where they overlap, the rounding does not reach past the edge
overlapping : (n r q s l g : ℕ) → ScaledRoot n s → 0 < r → 0 < q → l * l + 4 * (r * q) ≤ 4 * (r * r) * n + 1 → 2 ^ 35 * r ≤ 2 ^ 35 * q + s + 1
    → r * 2 ^ 30 + 1 ≤ g → 2 * (s * g) ≤ 2 ^ 65 * l + s → ⊥
overlapping n r q s l g at first second far radii past p =
    let long : s * (r * 2 ^ 31 + 1) ≤ 2 ^ 65 * l = omega (arith, p, mul-le-mul_left s past) in
    let squares = square_le (s * (r * 2 ^ 31 + 1)) (2 ^ 65 * l) long in
    let rest : n * 2 ^ 70 ≤ s * s + 2 * s = omega (arith, at.rest, at.low) in
    let both = mul-le 1 1 r q first second in
    let sum : r * (2 ^ 32 * (s * s) + 3 * 2 ^ 130 * q) ≤ r * (2 ^ 63 * (r * s)) = omega (arith, squares, far, mul-le-mul_left (r * r) rest, both) in
    let cancelled : 2 ^ 32 * (s * s) + 3 * 2 ^ 130 * q ≤ 2 ^ 63 * (r * s) = cancel_le r _ _ first sum in
    let short : s + 1 ≤ 2 ^ 63 = omega (arith, at.small) in
    omega (arith, cancelled, mul-le-mul_left s radii, mul-le-mul_left q short, at.large, mul-le-mul_left s at.large)

touch-square : (n r q d p w l : ℕ) → Meeting n r q d p w → Apart (n + r * r) (q * q) l → l * l ≤ 4 * (r * r) * n
touch-square n r q d p w l at far = omega (arith, chord_square n r q d p w l at far)

pub sum_square : (r q d : ℕ) → Apart r q d → 4 * r * q + d * d ≡ (r + q) * (r + q)
sum_square r q d far = omega (arith, apart-square r q d far)

overlap-square : (n r q d p w l : ℕ) → Meeting n r q d (suc p) (suc w) → Apart (n + r * r) (q * q) l → l * l + 4 * (r * q) ≤ 4 * (r * r) * n + 1
overlap-square n r q d p w l at far = omega (arith, chord_square n r q d (suc p) (suc w) l at far, at.most)

within_touch : (m n r s l g : ℕ) → n ≡ m * m → ScaledRoot n s → 0 < n → l * l ≤ 4 * (r * r) * n → 2 * (s * g) ≤ 2 ^ 65 * l + s → g ≤ r * 2 ^ 30
within_touch zero n r s l g e at positive far p = absurd (omega (arith, e))
within_touch (suc m) n r s l g e at positive far p = touching (suc m) r s l g (omega arith) (rw e at at.root) (rw e at far) p

-- a chord of two circles that meet is there, whatever the rounding
pub within_edge : (n r q d p w s l g : ℕ) → ScaledRoot n s → 0 < n → 0 < r → 0 < q → Meeting n r q d p w → Apart (n + r * r) (q * q) l
    → 2 * (s * g) ≤ 2 ^ 65 * l + s → g ≤ r * 2 ^ 30
within_edge n r q d zero w s l g at some first second is far p =
    within_touch d n r s l g (omega (arith, is.least)) at some (touch-square n r q d zero w l is far) p
within_edge n r q d (suc p) zero s l g at some first second is far h =
    let whole : n ≡ (r + q) * (r + q) = omega (arith, is.least, is.most, sum_square r q d is.apart) in
    within_touch (r + q) n r s l g whole at some (touch-square n r q d (suc p) zero l is far) h
within_edge n r q d (suc p) (suc w) s l g at some first second is far h = elim (cases_lt (r * 2 ^ 30) g) [
  | inl past ↦
      absurd (overlapping n r q s l g at first second (overlap-square n r q d p w l is far) (radius_le n r q d (suc p) (suc w) s is at.high) (omega arith) h)
  | inr there ↦ there
]

-- ---- the end of the chord against the second circle

-- j is what the root of half the chord leaves over
pub root_share_small : (n r s j t : ℕ) → ScaledRoot n s → r ≤ 10 ^ 8 → j ≤ 2 * t → t ≤ r * 2 ^ 30 → 2 ^ 14 * (n * j) ≤ 4 * (s * s)
root_share_small n r s j t at small p q =
    let rest : n * 2 ^ 70 ≤ s * s + 2 * s = omega (arith, at.rest, at.low) in
    let chord : n * j ≤ n * (r * 2 ^ 31) = mul-le-mul_left n (omega (arith, p, q)) in
    let most : n * r ≤ n * 10 ^ 8 = mul-le-mul_left n small in
    omega (arith, rest, chord, most, mul-le-mul_left s at.large)

pub rest_share : (n q s o : ℕ) → ScaledRoot n s → q ≤ 10 ^ 8 → o ≤ 2 * s → 16 * (o * (q * q)) ≤ q * (s * s)
rest_share n q s o at small p =
    let long : 32 * q ≤ s = omega (arith, small, at.large) in
    omega (arith, mul-le-mul_left (q * q) p, mul-le-mul_left (q * s) long)

pub quotient_share : (n s e : ℕ) → ScaledRoot n s → 2 * e ≤ s → 1024 * (n * e) ≤ 8 * (s * s)
quotient_share n s e at p = omega (arith, mul-le-mul_left n p, mul-le-mul_left s at.share, mul-le-mul_left s at.large)

pub length_share : (n s o : ℕ) → ScaledRoot n s → o ≤ 2 * s → 16 * (n * o) ≤ s * s
length_share n s o at p = omega (arith, mul-le-mul_left n p, mul-le-mul_left s at.share, mul-le-mul_left s at.large)

-- the four shares together: the end is between a quarter of a unit inside the second circle and a quarter outside; y is the square of its distance in units of 1 / s
pub second_end : (n q s o j y a b : ℕ) → 2 ≤ q → y + n * (2 ^ 10 * j + o) + 64 * (n * a) ≡ (s * s + o) * (q * q) + 64 * (n * b)
    → 2 ^ 14 * (n * j) ≤ 4 * (s * s) → 16 * (o * (q * q)) ≤ q * (s * s) → 1024 * (n * a) ≤ 8 * (s * s) → 1024 * (n * b) ≤ 8 * (s * s) → 16 * (n * o) ≤ s * s
    → IsFramed q s y
second_end n q s o j y a b some e chord rest up down length =
    let long = mul-le-mul_left (s * s) some in
    let high : 16 * y ≤ ((4 * q + 1) * s) * ((4 * q + 1) * s) = omega (arith, e, rest, down, long) in
    let less : (4 * q - 1) + 1 ≡ 4 * q = omega (arith, some) in
    let t = 4 * q - 1 in
    record {
      high = high;
      low = omega (arith, e, chord, up, length, long, ap (λ m. m * (s * s)) less, ap (λ m. m * t * (s * s)) less, ap (λ m. m * q * (s * s)) less);
    }

depth_square : (s x : ℤ) → ((pos 32 *ℤ x) -ℤ s) *ℤ ((pos 32 *ℤ x) -ℤ s) ≡ ((pos 1024 *ℤ (x *ℤ x)) -ℤ (pos 64 *ℤ (s *ℤ x))) +ℤ (s *ℤ s)
depth_square s x = rw (as_diff s, as_diff x, diff-pos 32, diff-pos 64, diff-pos 1024) (simp differences (diff-same _ _ _ _ (omega arith)))

-- from the depth of the chord, seen from the first circle, to the way from the second centre: over the square of the distance of the centres
shares : (w x t j o s n r q a b : ℕ) (z : ℤ) → pos w ≡ ((pos 1024 *ℤ pos x) -ℤ (pos 64 *ℤ z)) +ℤ pos s → z ≡ (((pos n +ℤ pos r) -ℤ pos q) *ℤ pos (2 ^ 64)) +ℤ (pos a -ℤ pos b)
    → s + o ≡ n * 2 ^ 70 → x + t + j ≡ r * 2 ^ 60 → w + 1024 * t + (2 ^ 10 * j + o) + 64 * a ≡ 2 ^ 70 * q + 64 * b
shares w x t j o s n r q a b z square depth root chord = omega (arith, ints, square, depth, root, chord)

-- all of what the chord of two circles is made of: x is its depth from the first centre, e what the rounding of that leaves, t half of the chord
pub record IsChord (n r q s t j o : ℕ) (x e : ℤ) : Type 0 where
  pub depth : pos s *ℤ x ≡ (((pos n +ℤ (pos r *ℤ pos r)) -ℤ (pos q *ℤ pos q)) *ℤ pos (2 ^ 64)) +ℤ e
  pub root : s * s + o ≡ n * 2 ^ 70
  pub chord : unsigned_abs x * unsigned_abs x + t * t + j ≡ r * r * 2 ^ 60

-- the square of the distance of its end from the second centre, in units of 1 / s
pub end_square : ℤ → ℕ → ℕ → ℕ → ℕ
end_square x t s n = (unsigned_abs ((pos 32 *ℤ x) -ℤ pos s) * unsigned_abs ((pos 32 *ℤ x) -ℤ pos s) + 32 * t * (32 * t)) * n

pub end_square-is : (x y : ℤ) (t s n : ℕ) → unsigned_abs y ≡ t
    → (unsigned_abs ((pos 32 *ℤ x) -ℤ pos s) * unsigned_abs ((pos 32 *ℤ x) -ℤ pos s) + unsigned_abs (pos 32 *ℤ y) * unsigned_abs (pos 32 *ℤ y)) * n ≡ end_square x t s n
unfolding end_square
end_square-is x y t s n e = rw (size_mul (pos 32) y, e) refl

end_shares : (n r q s t j o a b : ℕ) (x e : ℤ) → e ≡ pos a -ℤ pos b → IsChord n r q s t j o x e
    → end_square x t s n + n * (2 ^ 10 * j + o) + 64 * (n * a) ≡ (s * s + o) * (q * q) + 64 * (n * b)
unfolding end_square
end_shares n r q s t j o a b x e split is =
    let way = (pos 32 *ℤ x) -ℤ pos s in
    let square : pos (unsigned_abs way * unsigned_abs way) ≡ ((pos 1024 *ℤ pos (unsigned_abs x * unsigned_abs x)) -ℤ (pos 64 *ℤ (pos s *ℤ x))) +ℤ pos (s * s) =
    size_square way ∙ depth_square (pos s) x ∙ rw (← size_square x) refl in
    let whole = shares (unsigned_abs way * unsigned_abs way) (unsigned_abs x * unsigned_abs x) (t * t) j o (s * s) n (r * r) (q * q) a b (pos s *ℤ x) square (rw split at is.depth) is.root is.chord in
    omega (arith, ap (λ m. n * m) whole, ap (λ m. m * (q * q)) is.root)

-- so the end of the chord is between a quarter of a unit inside the second circle and a quarter outside
pub on_second : (n r q s t j o : ℕ) (x e : ℤ) → ScaledRoot n s → r ≤ 10 ^ 8 → 2 ≤ q → q ≤ 10 ^ 8 → IsChord n r q s t j o x e → 2 * unsigned_abs e ≤ s → o ≤ 2 * s
    → j ≤ 2 * t → t ≤ r * 2 ^ 30 → IsFramed q s (end_square x t s n)
on_second n r q s t j o x (pos e) at small_r large_q small_q is short rest below half =
    second_end n q s o j (end_square x t s n) e 0 large_q (end_shares n r q s t j o e 0 x (pos e) (omega (arith, ints)) is) (root_share_small n r s j t at small_r below half) (rest_share n q s o at small_q rest)
    (quotient_share n s e at short) (quotient_share n s 0 at (omega arith)) (length_share n s o at rest)
on_second n r q s t j o x (negsuc e) at small_r large_q small_q is short rest below half =
    second_end n q s o j (end_square x t s n) 0 (suc e) large_q (end_shares n r q s t j o 0 (suc e) x (negsuc e) (omega (arith, ints)) is) (root_share_small n r s j t at small_r below half) (rest_share n q s o at small_q rest)
    (quotient_share n s 0 at (omega arith)) (quotient_share n s (suc e) at short) (length_share n s o at rest)
