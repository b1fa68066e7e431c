-- The root of n * 2^70, and what it tells of k against h * sqrt(n).
use Rattle.std.proofs.Common.{◌≡◌, ℕ, suc, ◌+◌, ◌-◌, ◌*◌, ◌^◌, ◌≤◌, ◌<◌, arith, inl, inr, ℤ, pos, negsuc, ◌+ℤ◌, ◌-ℤ◌, ◌*ℤ◌, ◌≤ℤ◌, neg_ℤ, unsigned_abs}
use Rattle.std.proofs.Math.Nat.{mul-le-mul_left}
use Rattle.std.proofs.lemmas.Int.{ints}
use Rattle.std.proofs.lemmas.Bool.{cases_lt}
use Rattle.apt_num.specs.Root.{IsRoot, root}
use Rattle.apt_num.specs.Sign.{AtLeast, OnLine}
use Rattle.apt_num.proofs.Squares.{square_le, root_le, cancel_le, size_neg}
use Rattle.apt_num.proofs.Ring.{minus-*ℤ, neg-*ℤ}
use Rattle.apt_num.proofs.RootLaws.{root-IsRoot}

-- what a root leaves over
pub root_rest : (n s : ℕ) → IsRoot n s → n - s * s ≤ 2 * s
root_rest n s at = omega (arith, at.low, at.high)

pub root_large : (n s : ℕ) → 0 < n → IsRoot (n * 2 ^ 70) s → 2 ^ 35 ≤ s
root_large n s h at = elim (cases_lt s (2 ^ 35)) [
  | inl below ↦
      let up : s + 1 ≤ 2 ^ 35 = omega arith in
      absurd (omega (arith, at.high, square_le (s + 1) (2 ^ 35) up))
  | inr past ↦ past
]

pub root_small : (n s : ℕ) → n ≤ 2 * 10 ^ 16 → IsRoot (n * 2 ^ 70) s → s < 2 ^ 63
root_small n s h at = elim (cases_lt s (2 ^ 63)) [ inl below ↦ below | inr past ↦ absurd (omega (arith, at.low, square_le (2 ^ 63) s past)) ]

pub root_share : (n s : ℕ) → n ≤ 2 * 10 ^ 16 → IsRoot (n * 2 ^ 70) s → 128 * n ≤ s + 1
root_share n s h at =
    let up : s + 1 ≤ 2 ^ 63 = omega (arith, root_small n s h at) in
    cancel_le (2 ^ 63) (128 * n) (s + 1) (omega arith) (omega (arith, at.high, mul-le-mul_left (s + 1) up))

-- all of this, of a square of a length
pub record ScaledRoot (n s : ℕ) : Type 0 where
  pub root : IsRoot (n * 2 ^ 70) s
  pub low : s * s ≤ n * 2 ^ 70
  pub high : n * 2 ^ 70 ≤ (s + 1) * (s + 1)
  pub rest : n * 2 ^ 70 - s * s ≤ 2 * s
  pub large : 2 ^ 35 ≤ s
  pub small : s < 2 ^ 63
  pub share : 128 * n ≤ s + 1

pub scaled_root : (n s : ℕ) → 0 < n → n ≤ 2 * 10 ^ 16 → IsRoot (n * 2 ^ 70) s → ScaledRoot n s
scaled_root n s positive bound at = record {
  root = at;
  low = at.low;
  high = omega (arith, at.high);
  rest = root_rest (n * 2 ^ 70) s at;
  large = root_large n s positive at;
  small = root_small n s bound at;
  share = root_share n s bound at;
}

pub root_facts : (n : ℕ) → 0 < n → n ≤ 2 * 10 ^ 16 → ScaledRoot n (root (n * 2 ^ 70))
root_facts n positive bound = scaled_root n (root (n * 2 ^ 70)) positive bound (root-IsRoot (n * 2 ^ 70) (omega arith))

negsuc_times : (m n : ℕ) → negsuc m *ℤ pos n ≡ neg_ℤ (pos (suc m * n))
negsuc_times m n = omega (arith, ints)

-- of naturals: h * (s + 1) is at most k * 2^35
squares_to : (k h n s : ℕ) → IsRoot (n * 2 ^ 70) s → h * s + h ≤ k * 2 ^ 35 → h * h * n ≤ k * k
squares_to k h n s at p =
    let high : n * 2 ^ 70 ≤ (s + 1) * (s + 1) = omega (arith, at.high) in
    cancel_le (2 ^ 70) (h * h * n) (k * k) (omega arith) (omega (arith, mul-le-mul_left (h * h) high, square_le (h * s + h) (k * 2 ^ 35) p))

squares_to_neg : (k h n s : ℕ) → IsRoot (n * 2 ^ 70) s → k * 2 ^ 35 ≤ h * s → k * k ≤ h * h * n
squares_to_neg k h n s at p =
    cancel_le (2 ^ 70) (k * k) (h * h * n) (omega arith) (omega (arith, mul-le-mul_left (h * h) at.low, square_le (k * 2 ^ 35) (h * s) p))

-- from the root in whole numbers to the true one
pub to_root : (k h : ℤ) (n s : ℕ) → IsRoot (n * 2 ^ 70) s → ((h *ℤ pos s) +ℤ pos (unsigned_abs h)) ≤ℤ (k *ℤ pos (2 ^ 35)) → AtLeast k h n
to_root (pos k) (pos h) n s at p = squares_to k h n s at (omega (arith, ints))
to_root (pos k) (negsuc h) n s at p = tt
to_root (negsuc k) (pos h) n s at p = absurd (omega (arith, ints))
to_root (negsuc k) (negsuc h) n s at p =
    let q = rw (negsuc_times h s) at p in
    squares_to_neg (suc k) (suc h) n s at (omega (arith, ints, q))

squares_from : (k h n s : ℕ) → IsRoot (n * 2 ^ 70) s → h * h * n ≤ k * k → h * s ≤ k * 2 ^ 35
squares_from k h n s at p = root_le (h * s) (k * 2 ^ 35) (omega (arith, p, mul-le-mul_left (h * h) at.low))

squares_from_neg : (k h n s : ℕ) → IsRoot (n * 2 ^ 70) s → k * k ≤ h * h * n → k * 2 ^ 35 ≤ h * s + h
squares_from_neg k h n s at p =
    let high : n * 2 ^ 70 ≤ (s + 1) * (s + 1) = omega (arith, at.high) in
    root_le (k * 2 ^ 35) (h * s + h) (omega (arith, p, mul-le-mul_left (h * h) high))

-- and back
pub from_root : (k h : ℤ) (n s : ℕ) → IsRoot (n * 2 ^ 70) s → AtLeast k h n → (h *ℤ pos s) ≤ℤ ((k *ℤ pos (2 ^ 35)) +ℤ pos (unsigned_abs h))
from_root (pos k) (pos h) n s at p = omega (arith, ints, squares_from k h n s at p)
from_root (pos k) (negsuc h) n s at p = rw (negsuc_times h s) (omega (arith, ints))
from_root (negsuc k) (pos h) n s at p = absurd p
from_root (negsuc k) (negsuc h) n s at p = rw (negsuc_times h s) (omega (arith, ints, squares_from_neg (suc k) (suc h) n s at p))

-- a square is at most half of another: the number is at most five sevenths of the other
pub five_sevenths : (w x : ℕ) → 2 * w * w ≤ x * x → 7 * w ≤ 5 * x
five_sevenths w x p = root_le (7 * w) (5 * x) (omega (arith, p))

at_right : (k h w : ℤ) (n s : ℕ) → IsRoot (n * 2 ^ 70) s → k *ℤ pos (2 ^ 35) ≡ (h *ℤ pos s) +ℤ w → 4 * unsigned_abs w ≤ 3 * s → 4 * unsigned_abs h + 4 ≤ s
    → AtLeast k (h -ℤ pos 1) n
at_right k h w n s at e p q = to_root k (h -ℤ pos 1) n s at (rw (minus-*ℤ h (pos 1) (pos s), e) (omega (arith, ints, p, q)))

-- a scaled distance of at most three quarters of the root is at most one unit
pub on_line : (k h w : ℤ) (n s : ℕ) → IsRoot (n * 2 ^ 70) s → k *ℤ pos (2 ^ 35) ≡ (h *ℤ pos s) +ℤ w → 4 * unsigned_abs w ≤ 3 * s → 4 * unsigned_abs h + 4 ≤ s
    → OnLine k h n (pos 1)
on_line k h w n s at e p q =
    let turned : neg_ℤ k *ℤ pos (2 ^ 35) ≡ (neg_ℤ h *ℤ pos s) +ℤ neg_ℤ w = rw (neg-*ℤ k (pos (2 ^ 35)), neg-*ℤ h (pos s), e) (omega (arith, ints)) in record {
      right = at_right k h w n s at e p q;
      left = at_right (neg_ℤ k) (neg_ℤ h) (neg_ℤ w) n s at turned (rw (size_neg w) p) (rw (size_neg h) q);
    }
