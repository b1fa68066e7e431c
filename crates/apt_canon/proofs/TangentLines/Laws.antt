-- A tangent touches its circle: how long its direction is, and how far it passes the centre.
use Rattle.std.proofs.Common.{◌≡◌, ◌≢◌, ℕ, zero, suc, ◌+◌, ◌-◌, ◌*◌, ◌^◌, ◌≤◌, ◌<◌, ◌∙◌, refl, ap, arith, ℤ, pos, negsuc, neg_ℤ, ◌+ℤ◌, ◌-ℤ◌, ◌*ℤ◌, unsigned_abs}
use Rattle.std.proofs.Math.Nat.{mul-le-mul_left}
use Rattle.std.proofs.lemmas.Int.{ints, unsigned_abs-mul}
use Rattle.std.proofs.lemmas.Nat.{mul-le}
use Rattle.apt_num.specs.Sign.{square, OnLine}
use Rattle.apt_num.proofs.AtLeast.{neg_neg}
use Rattle.apt_num.proofs.Ring.{as_diff, diff-pos, diff-same, differences, double_neg}
use Rattle.apt_num.proofs.Squares.{cancel_le, square_le, size_neg}
use Rattle.apt_plane.specs.declared.figures.Dir.{Dir}
use Rattle.apt_plane.specs.Vectors.{cross, length_squared}
use Rattle.apt_plane.specs.Ranges.{IsDir}
use Rattle.apt_plane.proofs.Displacements.{cross_times}
use Rattle.apt_plane.proofs.Frames.{cross_in_frame}
use Rattle.apt_plane.proofs.Lengths.{length_of_times, IsInRing, on_circle}
use Rattle.apt_plane.proofs.Rounding.{near_displacement, displacement_rest, moved}
use Rattle.apt_canon.specs.Scale.{times}
use Rattle.apt_canon.specs.Tangents.{falling, fall_divisor, falling_dir}
use Rattle.apt_canon.proofs.TangentLines.Frame.{reach, reach_rest, falling_norm, rest_small, stretched_up, stretched_down}

-- the divisor is not zero
pub divisor_size : (a : Dir) → IsDir a → 0 < length_squared a * 2 ^ 30
divisor_size a is = omega (arith, is.length)

pub divisor_apart : (a : Dir) → IsDir a → fall_divisor a ≢ pos 0
divisor_apart a is = λ e. omega (arith, ints, is.length)

below_radius : (t m w : ℕ) → ((4 * t + 3) * m) * ((4 * t + 3) * m) ≤ w → ((4 * suc t - 1) * m) * ((4 * suc t - 1) * m) ≤ w
below_radius t m w h =
    let same : 4 * suc t - 1 ≡ 4 * t + 3 = omega arith in
    rw same h

-- so many times a way that is as long as the frame's, over the divisor, is so long
pub stretched : (a w : Dir) (p n : ℤ) (r : ℕ) → IsDir a → square p ≤ length_squared a → length_squared w ≡ length_squared (falling a p) → unsigned_abs n ≡ r → 1 ≤ r → r ≤ 99999000
    → IsInRing r (length_squared (near_displacement (times n w) (fall_divisor a)))
stretched a w p n zero is fits same size one most = absurd (omega arith)
stretched a w p n (suc t) is fits same size one most =
    let m = length_squared a * 2 ^ 30 in
    let norm = falling_norm a p is fits in
    let rest = displacement_rest (times n w) (fall_divisor a) (divisor_apart a is) in
    let long : length_squared (times n w) ≡ (suc t * suc t) * length_squared (falling a p) = length_of_times n w ∙ rw (same, size) refl in
    let up = stretched_up (suc t) (length_squared (falling a p)) (length_squared a * reach_rest a p) m norm in
    let down = stretched_down t (length_squared (falling a p)) (length_squared a * reach_rest a p) m (omega (arith, most)) norm (rest_small a p is) in
    on_circle (times n w) (near_displacement (times n w) (fall_divisor a)) rest.0 (fall_divisor a) (suc t) rest.1 (divisor_size a is)
    (rw long (omega (arith, up)))
    (rw long (below_radius t m (16 * (suc t * suc t * length_squared (falling a p))) (omega (arith, down))))

-- the length of the direction
pub falling_dir_long : (a : Dir) (p : ℤ) → IsDir a → square p ≤ length_squared a → IsInRing 99999000 (length_squared (falling_dir a p))
falling_dir_long a p is fits = stretched a (falling a p) p (pos 99999000) 99999000 is fits refl refl (omega arith) (omega arith)

-- ---- how far the direction turns from the frame

-- what the rounding of the direction adds to its fall
abbrev pub lag : Dir → ℤ → ℤ
lag a p = cross a (falling_dir a p) +ℤ (pos 99999000 *ℤ p)

lag_parts : (n : ℕ) (p x rest : ℤ) → (pos 99999000 *ℤ (neg_ℤ (p *ℤ pos (2 ^ 30)) *ℤ pos n)) +ℤ (pos (n * 2 ^ 30) *ℤ (x +ℤ (pos 99999000 *ℤ p))) ≡ pos (n * 2 ^ 30) *ℤ x
lag_parts n p x rest = rw (as_diff p, as_diff x, diff-pos 99999000, diff-pos (2 ^ 30), diff-pos n, diff-pos (n * 2 ^ 30)) (simp differences (diff-same _ _ _ _ (omega arith)))

rest_is : (x y rest z : ℤ) → x ≡ y +ℤ rest → y +ℤ z ≡ x → rest ≡ z
rest_is x y rest z e f = omega (arith, ints, e, f)

cancel_size : (m w n : ℕ) → 0 < m → 2 * (m * w) * (m * w) ≤ n * (m * m) → 2 * w * w ≤ n
cancel_size m w n h p = cancel_le (m * m) (2 * w * w) n (omega (arith, mul-le 1 1 m m h h)) (omega (arith, p))

pub lag_small : (a : Dir) (p : ℤ) → IsDir a → 2 * unsigned_abs (lag a p) * unsigned_abs (lag a p) ≤ length_squared a
lag_small a p is =
    let n = length_squared a in
    let m = n * 2 ^ 30 in
    let w = falling a p in
    let rounded = moved a (times (pos 99999000) w) (pos m) (divisor_apart a is) in
    let across : cross a (times (pos 99999000) w) ≡ pos 99999000 *ℤ (neg_ℤ (p *ℤ pos (2 ^ 30)) *ℤ pos n) =
    cross_times a w (pos 99999000) ∙ ap (λ z. pos 99999000 *ℤ z) (cross_in_frame a (pos (reach a p)) (neg_ℤ (p *ℤ pos (2 ^ 30)))) in
    let split : pos m *ℤ cross a (falling_dir a p) ≡ (pos 99999000 *ℤ (neg_ℤ (p *ℤ pos (2 ^ 30)) *ℤ pos n)) +ℤ rounded.0 = rounded.1 ∙ ap (λ z. z +ℤ rounded.0) across in
    let same : rounded.0 ≡ pos m *ℤ lag a p = rest_is _ _ rounded.0 _ split (lag_parts n p (cross a (falling_dir a p)) rounded.0) in
    cancel_size m (unsigned_abs (lag a p)) n (divisor_size a is) (rw (same, unsigned_abs-mul (pos m) (lag a p)) at rounded.2)

-- ---- from numbers to a touch

pub two_less : (t : ℕ) → pos (suc (suc t)) -ℤ pos 2 ≡ pos t
two_less t = omega (arith, ints)

two_more : (r : ℕ) → neg_ℤ (pos r) -ℤ pos 2 ≡ neg_ℤ (pos (r + 2))
two_more r = omega (arith, ints)

least_square : (t k n : ℕ) → t * 99999001 ≤ k → n ≤ 99999001 * 99999001 → t * t * n ≤ k * k
least_square t k n p q = omega (arith, square_le (t * 99999001) k p, mul-le-mul_left (t * t) q)

most_square : (r k n : ℕ) → k ≤ r * 99998999 → 99998999 * 99998999 ≤ n → k * k ≤ r * r * n
most_square r k n p q = omega (arith, square_le k (r * 99998999) p, mul-le-mul_left (r * r) q)

touching_left : (t k n : ℕ) → t * 99999001 ≤ k → k ≤ (suc (suc t) + 2) * 99998999 → IsInRing 99999000 n → OnLine (pos k) (pos (suc (suc t))) n (pos 2)
touching_left t k n low high ring = record {
  right = rw (two_less t) (least_square t k n low (omega (arith, ring.most)));
  left = rw (two_more (suc (suc t))) (neg_neg k (suc (suc t) + 2) n (most_square (suc (suc t) + 2) k n high (omega (arith, ring.least))));
}

touching_right : (k r n : ℕ) → OnLine (pos k) (pos r) n (pos 2) → OnLine (neg_ℤ (pos k)) (neg_ℤ (pos r)) n (pos 2)
touching_right k r n at = record { right = at.left; left = rw (double_neg (pos k), double_neg (pos r)) at.right }

-- a distance from the radius of so much is at most two units, where the length is that of a tangent's direction
touching : (p z : ℤ) (n : ℕ) → 2 ≤ unsigned_abs p → unsigned_abs z + unsigned_abs p + 2 ≤ 2 * 99999000 → IsInRing 99999000 n → OnLine ((pos 99999000 *ℤ p) +ℤ z) p n (pos 2)
touching (pos zero) z n large short ring = absurd (omega arith)
touching (pos (suc zero)) z n large short ring = absurd (omega arith)
touching (pos (suc (suc t))) z n large short ring =
    let k = unsigned_abs ((pos 99999000 *ℤ pos (suc (suc t))) +ℤ z) in
    let same : (pos 99999000 *ℤ pos (suc (suc t))) +ℤ z ≡ pos k = omega (arith, ints) in
    rw same (touching_left t k n (omega (arith, ints)) (omega (arith, ints)) ring)
touching (negsuc zero) z n large short ring = absurd (omega arith)
touching (negsuc (suc t)) z n large short ring =
    let k = unsigned_abs ((pos 99999000 *ℤ negsuc (suc t)) +ℤ z) in
    let same : (pos 99999000 *ℤ negsuc (suc t)) +ℤ z ≡ neg_ℤ (pos k) = omega (arith, ints) in
    rw same (touching_right k (suc (suc t)) n (touching_left t k n (omega (arith, ints)) (omega (arith, ints)) ring))

pub touching_back : (p z : ℤ) (n r : ℕ) → unsigned_abs p ≡ r → 2 ≤ r → unsigned_abs z + r + 2 ≤ 2 * 99999000 → IsInRing 99999000 n → OnLine ((pos 99999000 *ℤ p) +ℤ neg_ℤ z) p n (pos 2)
touching_back p z n r e large short ring = touching p (neg_ℤ z) n (rw e large) (rw (e, size_neg z) short) ring
