-- k is at least h * sqrt(n): what holds at two ends holds between them, and the sign of k - h * sqrt(n) tells it.
use Rattle.std.proofs.Common.{refl, ◌≡◌, ◌≢◌, ◌↔◌, ℕ, zero, suc, ◌+◌, ◌-◌, ◌*◌, ◌≤◌, subst, arith, inl, inr, ℤ, pos, negsuc, ◌+ℤ◌, ◌-ℤ◌, ◌*ℤ◌, ◌≤ℤ◌, neg_ℤ}
use Rattle.apt_num.specs.Sign.{square, signed_square, sign_of, root_sign_of, AtLeast}
use Rattle.apt_num.specs.declared.Sign.{Sign}
use Rattle.apt_num.specs.declared.Sign.TheVariants.{Minus, Zero, Plus}
use Rattle.apt_num.proofs.Ring.{as_diff, diff-pos, diff-same, differences}
use Rattle.std.proofs.lemmas.Int.{ints}
use Rattle.std.proofs.lemmas.Bool.{cases_lt}
use Rattle.std.proofs.Math.Nat.{mul-le-mul_left}
use Rattle.std.proofs.Math.IntN.{+ℤ_comm}
use Rattle.apt_num.proofs.Squares.{between_at_least, between_at_most, square_le}

-- from 0 up against a number from 0 down, and two from 0 down
pub pos_neg : (x y n : ℕ) → AtLeast (pos x) (neg_ℤ (pos y)) n
pos_neg x zero n = omega arith
pos_neg x (suc y) n = tt

pub neg_neg : (x y n : ℕ) → x * x ≤ y * y * n → AtLeast (neg_ℤ (pos x)) (neg_ℤ (pos y)) n
neg_neg zero y n h = pos_neg 0 y n
neg_neg (suc x) zero n h = absurd (omega arith)
neg_neg (suc x) (suc y) n h = h

diff_neg : (p q y n : ℕ) → q * q ≤ y * y * n → AtLeast (pos p -ℤ pos q) (neg_ℤ (pos y)) n
diff_neg p q y n h = elim (cases_lt p q) [
  | inl below ↦
      let less : (q - p) * (q - p) ≤ q * q = square_le (q - p) q (omega arith) in
      let same : neg_ℤ (pos (q - p)) ≡ pos p -ℤ pos q = omega (arith, ints) in
      subst (λ (z : ℤ). AtLeast z (neg_ℤ (pos y)) n) same (neg_neg (q - p) y n (omega arith))
  | inr past ↦
      let same : pos (p - q) ≡ pos p -ℤ pos q = omega (arith, ints) in
      subst (λ (z : ℤ). AtLeast z (neg_ℤ (pos y)) n) same (pos_neg (p - q) y n)
]

one_side : (b h n j k : ℕ) → b * b ≤ h * h * n → (j * b) * (j * b) ≤ ((j + k) * h) * ((j + k) * h) * n
one_side b h n j k q = omega (arith, mul-le-mul_left (j * j) q)

sum_neg : (x y : ℕ) → neg_ℤ (pos (x + y)) ≡ neg_ℤ (pos x) +ℤ neg_ℤ (pos y)
sum_neg x y = omega (arith, ints)

-- what holds at both ends holds between them
pub between_root : (a b h : ℤ) (n j k : ℕ) → AtLeast a h n → AtLeast b h n → AtLeast ((pos k *ℤ a) +ℤ (pos j *ℤ b)) (pos (j + k) *ℤ h) n
between_root (pos a) (pos b) (pos h) n j k p q = omega (arith, between_at_least (h * h * n) a b j k p q)
between_root (pos a) (pos b) (negsuc h) n j k p q = pos_neg (k * a + j * b) ((j + k) * suc h) n
between_root (pos a) (negsuc b) (pos h) n j k p q = absurd q
between_root (pos a) (negsuc b) (negsuc h) n j k p q = diff_neg (k * a) (j * suc b) ((j + k) * suc h) n (one_side (suc b) (suc h) n j k q)
between_root (negsuc a) b (pos h) n j k p q = absurd p
between_root (negsuc a) (pos b) (negsuc h) n j k p q =
    subst (λ (z : ℤ). AtLeast z (neg_ℤ (pos ((j + k) * suc h))) n) (+ℤ_comm (pos (j * b)) (neg_ℤ (pos (k * suc a))))
    (diff_neg (j * b) (k * suc a) ((j + k) * suc h) n (subst (λ m. (k * suc a) * (k * suc a) ≤ (m * suc h) * (m * suc h) * n) (omega arith) (one_side (suc a) (suc h) n k j p)))
between_root (negsuc a) (negsuc b) (negsuc h) n j k p q =
    subst (λ (z : ℤ). AtLeast z (neg_ℤ (pos ((j + k) * suc h))) n) (sum_neg (k * suc a) (j * suc b))
    (neg_neg (k * suc a + j * suc b) ((j + k) * suc h) n (omega (arith, between_at_most (suc h * suc h * n) (suc a) (suc b) j k p q)))

neg_times : (m n : ℕ) → neg_ℤ (pos m) *ℤ pos n ≡ neg_ℤ (pos (m * n))
neg_times zero n = omega (arith, ints)
neg_times (suc m) n = omega (arith, ints)

-- the sign of the difference of the signed squares tells it
pub at_least_is : (k h : ℤ) (n : ℕ) → AtLeast k h n → pos 0 ≤ℤ (signed_square k -ℤ signed_square h *ℤ pos n)
at_least_is (pos k) (pos h) n p = omega (arith, ints)
at_least_is (pos k) (negsuc h) n p = rw (neg_times (suc h * suc h) n) (omega (arith, ints))
at_least_is (negsuc k) (pos h) n p = absurd p
at_least_is (negsuc k) (negsuc h) n p = rw (neg_times (suc h * suc h) n) (omega (arith, ints))

pub is_at_least : (k h : ℤ) (n : ℕ) → pos 0 ≤ℤ (signed_square k -ℤ signed_square h *ℤ pos n) → AtLeast k h n
is_at_least (pos k) (pos h) n p = omega (arith, ints)
is_at_least (pos k) (negsuc h) n p = tt
is_at_least (negsuc k) (pos h) n p = absurd (omega (arith, ints))
is_at_least (negsuc k) (negsuc h) n p =
    let q : pos 0 ≤ℤ (neg_ℤ (pos (suc k * suc k)) -ℤ neg_ℤ (pos (suc h * suc h * n))) = rw (neg_times (suc h * suc h) n) at p in
    omega (arith, ints)

-- against a number from 0 up it is the squares that tell it
pub at_least_squares : (k : ℤ) (h n : ℕ) → AtLeast k (pos h) n ↔ ((pos 0 ≤ℤ k) × (h * h * n ≤ square k))
at_least_squares (pos k) h n = (λ is. (omega (arith, ints), is), λ both. both.1)
at_least_squares (negsuc k) h n = (λ is. absurd is, λ both. absurd (omega (arith, ints, both.0)))

apart_zero : Zero ≡ Minus → ⊥
apart_zero e = cc

apart_plus : Plus ≡ Minus → ⊥
apart_plus e = cc

apart_zero_plus : Zero ≡ Plus → ⊥
apart_zero_plus e = cc

apart_minus_plus : Minus ≡ Plus → ⊥
apart_minus_plus e = cc

-- a sign other than Minus is of a number from 0 up
not_minus : (z : ℤ) → (sign_of z ≢ Minus) ↔ (pos 0 ≤ℤ z)
not_minus (pos zero) = (λ h. omega (arith, ints), λ h. apart_zero)
not_minus (pos (suc n)) = (λ h. omega (arith, ints), λ h. apart_plus)
not_minus (negsuc n) = (λ h. absurd (h refl), λ h. absurd (omega (arith, ints)))

not_plus : (z : ℤ) → (sign_of z ≢ Plus) ↔ (pos 0 ≤ℤ neg_ℤ z)
not_plus (pos zero) = (λ h. omega (arith, ints), λ h. apart_zero_plus)
not_plus (pos (suc n)) = (λ h. absurd (h refl), λ h. absurd (omega (arith, ints)))
not_plus (negsuc n) = (λ h. omega (arith, ints), λ h. apart_minus_plus)

-- the signed square of the negated number
signed_square-neg : (z : ℤ) → signed_square (neg_ℤ z) ≡ neg_ℤ (signed_square z)
signed_square-neg (pos zero) = omega (arith, ints)
signed_square-neg (pos (suc n)) = omega (arith, ints)
signed_square-neg (negsuc n) = omega (arith, ints)

neg_difference : (a b : ℤ) (n : ℕ) → neg_ℤ a -ℤ neg_ℤ b *ℤ pos n ≡ neg_ℤ (a -ℤ b *ℤ pos n)
neg_difference a b n = rw (as_diff a, as_diff b, diff-pos n) (simp differences (diff-same _ _ _ _ (omega arith)))

pub root_sign_at_least : (k h : ℤ) (n : ℕ) → (root_sign_of k h n ≢ Minus) ↔ AtLeast k h n
root_sign_at_least k h n =
    let sign = not_minus (signed_square k -ℤ signed_square h *ℤ pos n) in
    (λ d. is_at_least k h n (sign.0 d), λ a. sign.1 (at_least_is k h n a))

pub root_sign_at_most : (k h : ℤ) (n : ℕ) → (root_sign_of k h n ≢ Plus) ↔ AtLeast (neg_ℤ k) (neg_ℤ h) n
root_sign_at_most k h n =
    let sign = not_plus (signed_square k -ℤ signed_square h *ℤ pos n) in
    let turned : signed_square (neg_ℤ k) -ℤ signed_square (neg_ℤ h) *ℤ pos n ≡ neg_ℤ (signed_square k -ℤ signed_square h *ℤ pos n) =
    rw (signed_square-neg k, signed_square-neg h) (neg_difference (signed_square k) (signed_square h) n) in (
      λ d. is_at_least (neg_ℤ k) (neg_ℤ h) n (rw turned (sign.0 d)),
      λ a. sign.1 (rw turned at (at_least_is (neg_ℤ k) (neg_ℤ h) n a)),
    )

-- as `root_sign` says them
pub answer_at_least : (r : Sign) (k h : ℤ) (n : ℕ) → r ≡ root_sign_of k h n → (r ≢ Minus) ↔ AtLeast k h n
answer_at_least r k h n e = rw e (root_sign_at_least k h n)

pub answer_at_most : (r : Sign) (k h : ℤ) (n : ℕ) → r ≡ root_sign_of k h n → (r ≢ Plus) ↔ AtLeast (neg_ℤ k) (neg_ℤ h) n
answer_at_most r k h n e = rw e (root_sign_at_most k h n)
