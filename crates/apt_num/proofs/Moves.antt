-- A point near a circle of the radius r about the start of an axis, moved along its ray to the circle: A is the square of its distance, f its share of the axis, G the square of the length of the axis, and J = r r + G - q q.
use Rattle.std.proofs.Common.{◌≡◌, ℕ, suc, ◌+◌, ◌-◌, ◌*◌, ◌≤◌, ◌<◌, ap, arith, ℤ, pos, negsuc, ◌+ℤ◌, ◌-ℤ◌, ◌*ℤ◌, ◌≤ℤ◌}
use Rattle.std.proofs.Math.Nat.{mul-le-mul_left}
use Rattle.std.proofs.lemmas.Int.{ints}
use Rattle.std.proofs.lemmas.Nat.{mul-le, mul-lt}
use Rattle.apt_num.specs.Sign.{signed_square}
use Rattle.apt_num.proofs.Ring.{*ℤ-neg, neg-*ℤ}
use Rattle.apt_num.proofs.Squares.{slack, four_le, cancel_le}
use Rattle.apt_num.proofs.Products.{other_each}

-- f is at most J times the root of n, over 2 r
abbrev pub IsUpTo : ℕ → ℤ → ℤ → ℕ → Type 0
IsUpTo r J f n = (pos (4 * (r * r)) *ℤ signed_square f) ≤ℤ (signed_square J *ℤ pos n)

-- ---- the radii differ by at most three units: l and h are what A is above the least and below the greatest
within_at : (p l h : ℕ) → l + h ≡ 12 * p + 36 → (2 * (p * p) + 6 * p + l) * (2 * (p * p) + 6 * p + l) ≤ 4 * ((p + 3) * (p + 3) * (p * p + l))
within_at p l h e = omega (arith, ap (λ n. l * n) e)

within_three : (p A B : ℕ) → B + 9 ≡ A + (p + 3) * (p + 3) → p * p ≤ A → A ≤ (p + 6) * (p + 6) → B * B ≤ 4 * ((p + 3) * (p + 3) * A)
within_three p A B e low high =
    let l = A - p * p in
    let whole : A ≡ p * p + l = omega (arith, low) in
    let part : B ≡ 2 * (p * p) + 6 * p + l = omega (arith, e, whole) in
    omega (arith, ap (λ n. n * n) part, ap (λ n. (p + 3) * (p + 3) * n) whole, within_at p l ((p + 6) * (p + 6) - A) (omega (arith, whole, high)))

-- ---- J from 0
move_core : (p q A G J f : ℕ) → J + q * q ≡ (p + 3) * (p + 3) + G → 2 * f + (q + 4) * (q + 4) ≤ A + G
    → p * p ≤ A → A ≤ (p + 6) * (p + 6) → G ≤ (p + 3 + q) * (p + 3 + q) → (p + 3) * (p + 3) + q * q ≤ G + 2 * ((p + 3) * q)
    → 4 * ((p + 3) * (p + 3) * f) + 9 * J ≤ J * (A + (p + 3) * (p + 3))
move_core p q A G J f j v lo hi g1 g2 =
    omega (
      arith,
      ap (λ x. x * A) j,
      ap (λ x. x * ((p + 3) * (p + 3))) j,
      mul-le-mul_left (2 * ((p + 3) * (p + 3))) v,
      slack A ((p + 6) * (p + 6)) G ((p + 3 + q) * (p + 3 + q)) hi g1,
      slack (p * p) A ((p + 3) * (p + 3) + q * q) (G + 2 * ((p + 3) * q)) lo g2,
    )

move_square : (r J B A f : ℕ) → 0 < r → 4 * (r * r * f) ≤ J * B → B * B ≤ 4 * (r * r * A) → 4 * (r * r) * (f * f) ≤ J * J * A
move_square r J B A f some h b =
    cancel_le (4 * (r * r)) (4 * (r * r) * (f * f)) (J * J * A) (omega (arith, mul-lt 0 0 r r some some))
    (omega (arith, mul-le (4 * (r * r * f)) (4 * (r * r * f)) (J * B) (J * B) h h, mul-le-mul_left (J * J) b))

move_up : (p q A G J f : ℕ) → J + q * q ≡ (p + 3) * (p + 3) + G → 2 * f + (q + 4) * (q + 4) ≤ A + G
    → p * p ≤ A → A ≤ (p + 6) * (p + 6) → G ≤ (p + 3 + q) * (p + 3 + q) → (p + 3) * (p + 3) + q * q ≤ G + 2 * ((p + 3) * q)
    → 4 * ((p + 3) * (p + 3)) * (f * f) ≤ J * J * A
move_up p q A G J f j v lo hi g1 g2 =
    let B = A + (p + 3) * (p + 3) - 9 in
    let whole : B + 9 ≡ A + (p + 3) * (p + 3) = omega arith in
    move_square (p + 3) J B A f (omega arith) (omega (arith, move_core p q A G J f j v lo hi g1 g2, ap (λ n. J * n) whole)) (within_three p A B whole lo hi)

-- ---- J below 0: N = - J, and f is the share away from the axis
back_core : (p q A G N f : ℕ) → q * q ≡ (p + 3) * (p + 3) + G + N → (q + 4) * (q + 4) ≤ A + G + 2 * f
    → p * p ≤ A → A ≤ (p + 6) * (p + 6) → G ≤ (p + 3 + q) * (p + 3 + q) → (p + 3) * (p + 3) + q * q ≤ G + 2 * ((p + 3) * q) → 97 ≤ p
    → N * (A + (p + 3) * (p + 3)) ≤ 4 * ((p + 3) * (p + 3) * f)
back_core p q A G N f j v lo hi g1 g2 least =
    omega (
      arith,
      ap (λ x. x * A) j,
      ap (λ x. x * ((p + 3) * (p + 3))) j,
      mul-le-mul_left (2 * ((p + 3) * (p + 3))) v,
      slack A ((p + 6) * (p + 6)) G ((p + 3 + q) * (p + 3 + q)) hi g1,
      slack (p * p) A ((p + 3) * (p + 3) + q * q) (G + 2 * ((p + 3) * q)) lo g2,
      mul-le-mul_left (p * q) least,
      mul-le-mul_left q least,
    )

back_square : (r N A f : ℕ) → 0 < r → N * (A + r * r) ≤ 4 * (r * r * f) → N * N * A ≤ 4 * (r * r) * (f * f)
back_square r N A f some h =
    cancel_le (4 * (r * r)) (N * N * A) (4 * (r * r) * (f * f)) (omega (arith, mul-lt 0 0 r r some some))
    (omega (arith, mul-le (N * (A + r * r)) (N * (A + r * r)) (4 * (r * r * f)) (4 * (r * r * f)) h h, mul-le-mul_left (N * N) (four_le A (r * r))))

back_up : (p q A G N f : ℕ) → q * q ≡ (p + 3) * (p + 3) + G + N → (q + 4) * (q + 4) ≤ A + G + 2 * f
    → p * p ≤ A → A ≤ (p + 6) * (p + 6) → G ≤ (p + 3 + q) * (p + 3 + q) → (p + 3) * (p + 3) + q * q ≤ G + 2 * ((p + 3) * q) → 97 ≤ p
    → N * N * A ≤ 4 * ((p + 3) * (p + 3)) * (f * f)
back_up p q A G N f j v lo hi g1 g2 least = back_square (p + 3) N A f (omega arith) (back_core p q A G N f j v lo hi g1 g2 least)

-- there f is below 0 too
never_up : (p q A G N f : ℕ) → q * q ≡ (p + 3) * (p + 3) + G + N → 2 * f + (q + 4) * (q + 4) ≤ A + G
    → p * p ≤ A → A ≤ (p + 6) * (p + 6) → G ≤ (p + 3 + q) * (p + 3 + q) → (p + 3) * (p + 3) + q * q ≤ G + 2 * ((p + 3) * q) → 97 ≤ p → 0 < N → ⊥
never_up p q A G N f j v lo hi g1 g2 least some =
    omega (arith, back_core p q A G N 0 j (omega (arith, v)) lo hi g1 g2 least, mul-lt 0 0 N (A + (p + 3) * (p + 3)) some (omega arith))

-- ---- the circles' radii and the distance of their centres: r = p + 3, and q is less than the stop's
pub record IsCrossing (r q G : ℕ) (J : ℤ) : Type 0 where
  pub share : J ≡ pos (r * r + G) -ℤ pos (q * q)
  pub high : G ≤ (r + q) * (r + q)
  pub low : r * r + q * q ≤ G + 2 * (r * q)

pub share_up : (r q G j : ℕ) → pos j ≡ pos (r * r + G) -ℤ pos (q * q) → j + q * q ≡ r * r + G
share_up r q G j e = omega (arith, ints, e)

pub share_back : (r q G j : ℕ) → negsuc j ≡ pos (r * r + G) -ℤ pos (q * q) → q * q ≡ r * r + G + suc j
share_back r q G j e = omega (arith, ints, e)

pub below_at : (c f : ℕ) (z : ℤ) → pos 0 ≤ℤ z → (pos c *ℤ signed_square (negsuc f)) ≤ℤ z
below_at c f z h = omega (arith, ints, other_each (pos c) (signed_square (negsuc f)) (omega (arith, ints)) (omega (arith, ints)), h)

both_below : (c f j A : ℕ) → suc j * suc j * A ≤ c * (suc f * suc f) → (pos c *ℤ signed_square (negsuc f)) ≤ℤ (signed_square (negsuc j) *ℤ pos A)
both_below c f j A h = rw (*ℤ-neg (pos c) (pos (suc f * suc f)), neg-*ℤ (pos (suc j * suc j)) (pos A)) (omega (arith, ints, h))

-- moved along its ray to the circle, the point is as far out
pub moved : (p q A G : ℕ) (f J : ℤ) → IsCrossing (p + 3) q G J → 97 ≤ p → p * p ≤ A → A ≤ (p + 6) * (p + 6)
    → ((pos 2 *ℤ f) +ℤ pos ((q + 4) * (q + 4))) ≤ℤ pos (A + G) → IsUpTo (p + 3) J f A
moved p q A G (pos f) (pos j) is least lo hi v =
    omega (arith, ints, move_up p q A G j f (share_up (p + 3) q G j is.share) (omega (arith, ints, v)) lo hi is.high is.low)
moved p q A G (negsuc f) (pos j) is least lo hi v = below_at (4 * ((p + 3) * (p + 3))) f (signed_square (pos j) *ℤ pos A) (omega (arith, ints))
moved p q A G (pos f) (negsuc j) is least lo hi v =
    absurd (never_up p q A G (suc j) f (share_back (p + 3) q G j is.share) (omega (arith, ints, v)) lo hi is.high is.low least (omega arith))
moved p q A G (negsuc f) (negsuc j) is least lo hi v =
    both_below (4 * ((p + 3) * (p + 3))) f j A (back_up p q A G (suc j) (suc f) (share_back (p + 3) q G j is.share) (omega (arith, ints, v)) lo hi is.high is.low least)
