-- A contact on the axis: r = p + 1, A is the square of its distance, f its share of the axis, G the square of the length of the axis, J = r r + G - q q.
use Rattle.std.proofs.Common.{◌≡◌, ℕ, suc, ◌+◌, ◌-◌, ◌*◌, ◌≤◌, ◌<◌, ap, arith, ℤ, pos, negsuc, ◌*ℤ◌, unsigned_abs}
use Rattle.std.proofs.Math.Nat.{mul-le-mul_left}
use Rattle.std.proofs.lemmas.Int.{ints}
use Rattle.std.proofs.lemmas.Nat.{mul-le, mul-lt}
use Rattle.apt_num.specs.Sign.{signed_square}
use Rattle.apt_num.proofs.Squares.{slack, root_le, cancel_le}
use Rattle.apt_num.proofs.Moves.{IsUpTo, IsCrossing, below_at, share_up, share_back}

contact_core : (p q A G J f : ℕ) → J + q * q ≡ (p + 1) * (p + 1) + G → 2 * f + (q + 11) * (q + 11) ≤ A + G
    → p * p ≤ A → A ≤ (p + 2) * (p + 2) → G ≤ (p + 1 + q) * (p + 1 + q) → (p + 1) * (p + 1) + q * q ≤ G + 2 * ((p + 1) * q) → 99 ≤ p
    → 4 * ((p + 1) * (p + 1) * f) + 2 * J ≤ J * (A + (p + 1) * (p + 1))
contact_core p q A G J f j v lo hi g1 g2 h =
    omega (
      arith,
      ap (λ x. x * A) j,
      ap (λ x. x * ((p + 1) * (p + 1))) j,
      mul-le-mul_left (2 * ((p + 1) * (p + 1))) v,
      slack A ((p + 2) * (p + 2)) G ((p + 1 + q) * (p + 1 + q)) hi g1,
      slack (p * p) A ((p + 1) * (p + 1) + q * q) (G + 2 * ((p + 1) * q)) lo g2,
      mul-le-mul_left (p * q) h,
      mul-le-mul_left q h,
      mul-le-mul_left p h,
    )

-- ---- the radii differ by at most one unit; l and h are what A is above the least and below the greatest
within_at : (p l h B : ℕ) → l + h ≡ 4 * p + 4 → B + 1 ≡ 2 * (p * p) + 2 * p + l → 99 ≤ p → B * B + 2 * ((p + 1) * (p + 1)) ≤ 4 * ((p + 1) * (p + 1) * (p * p + l))
within_at p l h B e f least = omega (arith, f, ap (λ n. n * n) f, ap (λ n. l * n) e, mul-le-mul_left p least)

within_one : (p A B : ℕ) → B + 2 ≡ A + (p + 1) * (p + 1) → p * p ≤ A → A ≤ (p + 2) * (p + 2) → 99 ≤ p → B * B + 2 * ((p + 1) * (p + 1)) ≤ 4 * ((p + 1) * (p + 1) * A)
within_one p A B e low high least =
    let l = A - p * p in
    let whole : A ≡ p * p + l = omega (arith, low) in
    omega (arith, ap (λ n. (p + 1) * (p + 1) * n) whole, within_at p l ((p + 2) * (p + 2) - A) B (omega (arith, whole, high)) (omega (arith, e, whole)) least)

contact_square : (r J B A f : ℕ) → 0 < r → 4 * (r * r * f) ≤ J * B → B * B + 2 * (r * r) ≤ 4 * (r * r * A) → 8 * (r * r) * (f * f) + J * J ≤ 2 * A * (J * J)
contact_square r J B A f some h b =
    cancel_le (2 * (r * r)) (8 * (r * r) * (f * f) + J * J) (2 * A * (J * J)) (omega (arith, mul-lt 0 0 r r some some))
    (omega (arith, mul-le (4 * (r * r * f)) (4 * (r * r * f)) (J * B) (J * B) h h, mul-le-mul_left (J * J) b))

-- moved along its ray to the circle, the contact lies outside, and more
contact : (p q A G J f : ℕ) → J + q * q ≡ (p + 1) * (p + 1) + G → 2 * f + (q + 11) * (q + 11) ≤ A + G
    → p * p ≤ A → A ≤ (p + 2) * (p + 2) → G ≤ (p + 1 + q) * (p + 1 + q) → (p + 1) * (p + 1) + q * q ≤ G + 2 * ((p + 1) * q) → 99 ≤ p
    → 8 * ((p + 1) * (p + 1)) * (f * f) + J * J ≤ 2 * A * (J * J)
contact p q A G J f j v lo hi g1 g2 least =
    let B = A + (p + 1) * (p + 1) - 2 in
    let whole : B + 2 ≡ A + (p + 1) * (p + 1) = omega arith in
    contact_square (p + 1) J B A f (omega arith) (omega (arith, contact_core p q A G J f j v lo hi g1 g2 least, ap (λ n. J * n) whole)) (within_one p A B whole lo hi least)

-- J is not below 0 there
not_beyond : (p q A G N f : ℕ) → q * q ≡ (p + 1) * (p + 1) + G + N → 2 * f + (q + 11) * (q + 11) ≤ A + G → A ≤ (p + 2) * (p + 2) → 0 < N → ⊥
not_beyond p q A G N f j v hi some =
    omega (arith, j, v, hi, root_le (p + 1) q (omega (arith, j)))

-- the point of the circle on the axis lies outside: d = 2 A - 1
axis_core : (r A G J f y d : ℕ) → G * A ≡ f * f + y * y → 2 * (y * y) ≤ G → 8 * (r * r) * (f * f) + J * J ≤ 2 * A * (J * J) → d + 1 ≡ 2 * A → 0 < d → 4 * (r * r) * G ≤ J * J
axis_core r A G J f y d e across h whole some =
    cancel_le d (4 * (r * r) * G) (J * J) some
    (omega (arith, h, ap (λ n. J * J * n) whole, ap (λ n. 4 * (r * r) * G * n) whole, ap (λ n. 8 * (r * r) * n) e, mul-le-mul_left (4 * (r * r)) across))

share_all : (r J F G V : ℕ) → 4 * (r * r) * G ≤ J * J → F * F ≤ G * V → 4 * (r * r) * (F * F) ≤ J * J * V
share_all r J F G V h k = omega (arith, mul-le-mul_left V h, mul-le-mul_left (4 * (r * r)) k)

all_up : (r J G V : ℕ) (F : ℤ) → 4 * (r * r) * G ≤ J * J → unsigned_abs F * unsigned_abs F ≤ G * V → IsUpTo r (pos J) F V
all_up r J G V (pos F) h k = omega (arith, ints, share_all r J F G V h k)
all_up r J G V (negsuc F) h k = below_at (4 * (r * r)) F (signed_square (pos J) *ℤ pos V) (omega (arith, ints))

-- and so does each point that is not nearer to the centre
pub on_axis : (p q A G f y V : ℕ) (F J : ℤ) → IsCrossing (p + 1) q G J → 99 ≤ p → p * p ≤ A → A ≤ (p + 2) * (p + 2) → G * A ≡ f * f + y * y → 2 * (y * y) ≤ G
    → 2 * f + (q + 11) * (q + 11) ≤ A + G → unsigned_abs F * unsigned_abs F ≤ G * V → IsUpTo (p + 1) J F V
on_axis p q A G f y V F (pos j) is least lo hi e across v k =
    let some : 0 < A = omega (arith, lo, mul-le-mul_left p least, least) in
    all_up (p + 1) j G V F
    (axis_core (p + 1) A G j f y (2 * A - 1) e across (contact p q A G j f (share_up (p + 1) q G j is.share) v lo hi is.high is.low least) (omega (arith, some)) (omega (arith, some))) k
on_axis p q A G f y V F (negsuc j) is least lo hi e across v k = absurd (not_beyond p q A G (suc j) f (share_back (p + 1) q G j is.share) v hi (omega arith))
