-- root n is the one root of n, and root_near n is nearest to it.
use Rattle.std.proofs.Common.{◌≡◌, ℕ, zero, suc, min, ◌+◌, ◌-◌, ◌*◌, ◌/◌, ◌^◌, ◌≤◌, ◌<◌, arith, inl, inr}
use Rattle.std.specs.Int.Bits.{bit_or}
use Rattle.std.specs.Int.Count.{count_leading_zeros}
use Rattle.std.proofs.Math.Nat.{two-pow-succ, lt-mul-div-succ, le-div_iff_mul-le, min-eq_left, min-eq_right, pow-le-pow_right}
use Rattle.std.proofs.lemmas.Nat.{mul-le, pow_pos, le_or_r, or_lt, leading_top}
use Rattle.std.proofs.lemmas.Bool.{cases_lt}
use Rattle.std.proofs.lemmas.Bool.Decides.{leb_tells}
use Rattle.apt_num.proofs.Squares.{four_le}
use Rattle.apt_num.specs.Root.{IsRoot, IsNearestRoot, root_bit, root_bits, root}

-- the root of n is at least low and below high
record Within (n low high : ℕ) : Type 0 where
  low_square : low * low ≤ n
  high_square : n < high * high

-- one bit halves what is left
bit_step : (p n q : ℕ) → Within n q (q + (p + p)) → Within n (root_bit p n q) (root_bit p n q + p)
bit_step p n q w = elim (leb_tells ((q + p) * (q + p)) n) [
  | inl fits ↦ rw fits.0 (record { low_square = fits.1; high_square = omega (arith, w.high_square) })
  | inr past ↦ rw past.0 (record { low_square = w.low_square; high_square = past.1 })
]

bits_root : (k n q : ℕ) → Within n q (q + 2 ^ k) → IsRoot n (root_bits k n q)
bits_root zero n q w = record { low = w.low_square; high = w.high_square }
bits_root (suc k) n q w = bits_root k n (root_bit (2 ^ k) n q) (bit_step (2 ^ k) n q (rw two-pow-succ at w))

pub root-IsRoot : (n : ℕ) → n < 2 ^ 128 → IsRoot n (root n)
unfolding root
root-IsRoot n h = bits_root 64 n 0 (record { low_square = omega arith; high_square = omega (arith, h) })

-- of two roots neither is below the other
not_below : (n q r : ℕ) → IsRoot n q → IsRoot n r → r ≤ q
not_below n q r at_q at_r = elim (cases_lt q r) [
  | inl below ↦
      let up : q + 1 ≤ r = omega arith in
      absurd (omega (arith, at_q.high, at_r.low, mul-le (q + 1) (q + 1) r r up up))
  | inr past ↦ past
]

pub one_root : (n q r : ℕ) → IsRoot n q → IsRoot n r → q ≡ r
one_root n q r at_q at_r = omega (arith, not_below n q r at_q at_r, not_below n r q at_r at_q)

pub root-unique : (n q : ℕ) → n < 2 ^ 128 → IsRoot n q → q ≡ root n
root-unique n q h at = one_root n q (root n) at (root-IsRoot n h)

odd_below : (t : ℕ) → 2 * (t + 1) - 1 ≡ 2 * t + 1
odd_below t = omega arith

pub less_one : (n : ℕ) → suc n - 1 ≡ n
less_one n = omega arith

pub odd_before : (t : ℕ) → 2 * suc t - 1 ≡ 2 * t + 1
odd_before t = omega arith

-- the root is the nearest where n is at most q past the square
pub nearest_below : (n q : ℕ) → IsRoot n q → n - q * q ≤ q → IsNearestRoot n q
nearest_below n zero at close = record { above = omega (arith, at.low, at.high); below = λ h. absurd (omega (arith, h)) }
nearest_below n (suc t) at close = record { above = omega (arith, at.low, at.high); below = λ h. rw (odd_before t) (omega (arith, at.low)) }

-- and else the next number is
pub nearest_above : (n q : ℕ) → IsRoot n q → q < n - q * q → IsNearestRoot n (q + 1)
nearest_above n q at far = record { above = omega (arith, at.low, at.high); below = λ h. rw (odd_below q) (omega (arith, at.low)) }

-- Newton's step from r, with q for n / r, goes no further down than the root
newton_by : (n r q s : ℕ) → n < r * (q + 1) → r + q + 1 ≤ 2 * (s + 1) → n < (s + 1) * (s + 1)
newton_by n r q s h up = omega (arith, h, four_le r (q + 1), mul-le (r + q + 1) (r + q + 1) (2 * (s + 1)) (2 * (s + 1)) up up)

pub newton_high : (n r : ℕ) → 0 < r → n < ((r + n / r) / 2 + 1) * ((r + n / r) / 2 + 1)
newton_high n r h = newton_by n r (n / r) ((r + n / r) / 2) (lt-mul-div-succ n h) (omega arith)

-- a number past the root may be cut down to the greatest of 64 bits
pub cut_high : (n m : ℕ) → n < 2 ^ 128 → n < (m + 1) * (m + 1) → n < (min m (2 ^ 64 - 1) + 1) * (min m (2 ^ 64 - 1) + 1)
cut_high n m fits h = elim (cases_lt m (2 ^ 64 - 1)) [
  | inl less ↦ rw (min-eq_left {n = m} {m = 2 ^ 64 - 1} (omega (arith, less))) h
  | inr most ↦ rw (min-eq_right {n = 2 ^ 64 - 1} {m = m} most) (omega (arith, fits))
]

pub step_high : (n r : ℕ) → n < 2 ^ 128 → 0 < r → n < (min ((r + n / r) / 2) (2 ^ 64 - 1) + 1) * (min ((r + n / r) / 2) (2 ^ 64 - 1) + 1)
step_high n r fits h = cut_high n ((r + n / r) / 2) fits (newton_high n r h)

-- with the third bit set, a number has at most 125 zeros before its leading bit
pub zeros_most : (n : ℕ) → n < 2 ^ 128 → count_leading_zeros 128 (bit_or n 4) ≤ 125
zeros_most n fits =
    let least : 4 ≤ bit_or n 4 = le_or_r n 4 in
    let top = leading_top 128 (bit_or n 4) (omega (arith, least)) (or_lt 128 n 4 fits (omega arith)) in
    elim (cases_lt top.0 2) [
      | inl small ↦
          let two : 2 ^ suc top.0 ≤ 2 ^ 2 = pow-le-pow_right {n = 2} (omega arith) small in
          absurd (omega (arith, least, two, top.3))
      | inr enough ↦ omega (arith, enough, top.1)
    ]

-- digits from 2^63 on, without at most 62 of them
pub still_two : (d k : ℕ) → 2 ^ 63 ≤ d → k ≤ 62 → 2 ≤ d / 2 ^ k
still_two d k h le = (le-div_iff_mul-le (pow_pos k)).1 (omega (arith, h, pow-le-pow_right {n = 2} (omega arith) le))

pub ruleset root_laws = (root-unique)
