-- near a b is nearest to a / b, and a half goes away from zero.
use Rattle.std.proofs.Common.{◌≡◌, ◌≢◌, ℕ, zero, suc, ◌+◌, ◌*◌, ◌≤◌, ◌<◌, refl, arith, inl, inr, ℤ, pos, negsuc, ◌+ℤ◌, ◌-ℤ◌, ◌*ℤ◌, ◌≤ℤ◌, neg_ℤ, unsigned_abs, int_lt, false}
use Rattle.std.proofs.Math.Nat.{mul-le-mul_left}
use Rattle.std.proofs.Math.IntN.{neg_ℤ-neg_ℤ}
use Rattle.std.proofs.lemmas.Int.{ints}
use Rattle.std.proofs.lemmas.Bool.{cases_lt}
use Rattle.apt_num.specs.Near.{half_up, near, IsNear}
use Rattle.apt_num.proofs.Squares.{size_neg, size_mul, size_square, square_le, cancel_lt}
use Rattle.apt_num.proofs.Ring.{*ℤ-neg, neg-*ℤ, neg-*ℤ-neg, as_diff, diff-same, differences}

-- of naturals: b times the quotient is within half of b of a
pub half_up_near : (a b : ℕ) → 0 < b → (2 * b * half_up a b ≤ 2 * a + b) × (2 * a + b < 2 * b * half_up a b + 2 * b)
half_up_near a b h = omega arith

sizes_near : (a b : ℕ) → 0 < b → IsNear (pos a) (pos b) (pos (half_up a b))
sizes_near a b h =
    let n = half_up_near a b h in record {
      nearest = omega (arith, ints, n);
      half_away = λ e. omega (arith, ints, n, e);
    }

-- the signs of a, of b and of both may be turned
neg_dividend : (a b q : ℤ) → (b *ℤ neg_ℤ q) -ℤ neg_ℤ a ≡ neg_ℤ ((b *ℤ q) -ℤ a)
neg_dividend a b q = rw (as_diff a, as_diff b, as_diff q) (simp differences (diff-same _ _ _ _ (omega arith)))

turned_dividend : (a b q : ℤ) → IsNear a b q → IsNear (neg_ℤ a) b (neg_ℤ q)
turned_dividend a b q is = record {
  nearest = rw (neg_dividend a b q, size_neg ((b *ℤ q) -ℤ a)) is.nearest;
  half_away = rw (neg_dividend a b q, size_neg ((b *ℤ q) -ℤ a), *ℤ-neg b q, size_neg (b *ℤ q), size_neg a) is.half_away;
}

turned_divisor : (a b q : ℤ) → IsNear a b q → IsNear a (neg_ℤ b) (neg_ℤ q)
turned_divisor a b q is = record {
  nearest = rw (neg-*ℤ-neg b q, size_neg b) is.nearest;
  half_away = rw (neg-*ℤ-neg b q, size_neg b) is.half_away;
}

neg_all : (a b q : ℤ) → (neg_ℤ b *ℤ q) -ℤ neg_ℤ a ≡ neg_ℤ ((b *ℤ q) -ℤ a)
neg_all a b q = rw (as_diff a, as_diff b, as_diff q) (simp differences (diff-same _ _ _ _ (omega arith)))

turned_both : (a b q : ℤ) → IsNear a b q → IsNear (neg_ℤ a) (neg_ℤ b) q
turned_both a b q is = record {
  nearest = rw (neg_all a b q, size_neg ((b *ℤ q) -ℤ a), size_neg b) is.nearest;
  half_away = rw (neg_all a b q, size_neg ((b *ℤ q) -ℤ a), neg-*ℤ b q, size_neg (b *ℤ q), size_neg a, size_neg b) is.half_away;
}

positive : (n : ℕ) → pos n ≢ pos 0 → 0 < n
positive n d = omega (arith, ints)

pub not_negative : (n : ℕ) → int_lt (pos n) (pos 0) ≡ false
not_negative n = grind (arith, ints)

pub near-IsNear : (a b : ℤ) → b ≢ pos 0 → IsNear a b (near a b)
near-IsNear (pos a) (pos b) d = rw (not_negative a, not_negative b) (sizes_near a b (positive b d))
near-IsNear (negsuc a) (pos b) d = rw (not_negative b) (turned_dividend _ _ _ (sizes_near (suc a) b (positive b d)))
near-IsNear (pos a) (negsuc b) d = rw (not_negative a) (turned_divisor _ _ _ (sizes_near a (suc b) (omega arith)))
near-IsNear (negsuc a) (negsuc b) d = turned_both _ _ _ (sizes_near (suc a) (suc b) (omega arith))

-- what the rounding leaves over
pub near_remainder : (a b : ℤ) → b ≢ pos 0 → (e : ℤ) × (b *ℤ near a b ≡ a +ℤ e) × (2 * unsigned_abs e ≤ unsigned_abs b)
near_remainder a b d = ((b *ℤ near a b) -ℤ a, omega (arith, ints), (near-IsNear a b d).nearest)

-- a quotient of at most m in size stays so
pub near_bound : (a b : ℤ) (m : ℕ) → b ≢ pos 0 → unsigned_abs a ≤ m * unsigned_abs b → unsigned_abs (near a b) ≤ m
near_bound a b m d h =
    let q = near a b in
    let positive : 0 < unsigned_abs b = omega (arith, ints) in
    let close = (near-IsNear a b d).nearest in
    let below : unsigned_abs q < m + 1 = cancel_lt (2 * unsigned_abs b) (unsigned_abs q) (m + 1) (omega (arith, ints, close, h, size_mul b q)) in
    omega arith

half_up-zero : (b : ℕ) → half_up 0 b ≡ 0
half_up-zero zero = omega arith
half_up-zero (suc b) =
    let low = (half_up_near 0 (suc b) (omega arith)).0 in
    elim (cases_lt 0 (half_up 0 (suc b))) [
      | inl past ↦
          let up : 1 ≤ half_up 0 (suc b) = omega arith in
          absurd (omega (arith, low, mul-le-mul_left (2 * suc b) up))
      | inr none ↦ omega arith
    ]

-- a negated dividend has the negated quotient
pub near-neg : (a b : ℤ) → near (neg_ℤ a) b ≡ neg_ℤ (near a b)
near-neg (pos zero) (pos b) = rw (not_negative b, half_up-zero b) refl
near-neg (pos zero) (negsuc b) = rw (half_up-zero (suc b)) refl
near-neg (pos (suc a)) (pos b) = rw (not_negative (suc a), not_negative b) refl
near-neg (pos (suc a)) (negsuc b) = rw (not_negative (suc a), neg_ℤ-neg_ℤ) refl
near-neg (negsuc a) (pos b) = rw (not_negative (suc a), not_negative b, neg_ℤ-neg_ℤ) refl
near-neg (negsuc a) (negsuc b) = rw (not_negative (suc a)) refl

-- of two quotients over one b, as sizes and as whole numbers
pub halves : (x y b : ℕ) → 2 * x ≤ b → 2 * y ≤ b → 2 * (x * x + y * y) ≤ b * b
halves x y b p q = omega (arith, square_le (2 * x) b p, square_le (2 * y) b q)

pub remainder_pair : (ex ey b : ℤ) → 2 * unsigned_abs ex ≤ unsigned_abs b → 2 * unsigned_abs ey ≤ unsigned_abs b
    → (pos 2 *ℤ ((ex *ℤ ex) +ℤ (ey *ℤ ey))) ≤ℤ (b *ℤ b)
remainder_pair ex ey b p q =
    rw (← size_square ex, ← size_square ey, ← size_square b) (omega (arith, ints, halves (unsigned_abs ex) (unsigned_abs ey) (unsigned_abs b) p q))

-- as `div_near` says it
pub answer_near : (a b q : ℤ) → b ≢ pos 0 → q ≡ near a b → IsNear a b q
answer_near a b q d e = rw e (near-IsNear a b d)
