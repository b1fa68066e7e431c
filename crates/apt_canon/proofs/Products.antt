-- What products of signed numbers are, and how large.
use Rattle.std.proofs.Common.{◌≡◌, ◌≢◌, ℕ, ◌*◌, ◌+◌, ◌≤◌, ◌<◌, ◌^◌, arith, ℤ, pos, ◌+ℤ◌, ◌*ℤ◌, ◌-ℤ◌, neg_ℤ, unsigned_abs, FitsSigned, to_z, of_z}
use Rattle.std.specs.Int.{w128}
use Rattle.std.proofs.Math.Nat.{mul-le-mul_left, mul-le-mul_right}
use Rattle.std.proofs.lemmas.Int.{to_z-of_z, ints, unsigned_abs-mul}
use Rattle.apt_num.specs.Near.{near, IsNear}
use Rattle.apt_num.proofs.Ring.{as_diff, diff-same, differences}
use Rattle.apt_num.proofs.Squares.{size_mul}
use Rattle.apt_num.proofs.Nearest.{near_bound}

-- a number that fits is kept
pub kept : (z : ℤ) → unsigned_abs z < 2 ^ 127 → to_z w128 (of_z w128 z) ≡ z
kept z h = to_z-of_z w128 z (omega (arith, ints))

pub size_times : (a b : ℤ) → unsigned_abs a ≤ 10 ^ 8 → unsigned_abs (a *ℤ b) ≤ 10 ^ 8 * unsigned_abs b
size_times a b h = rw unsigned_abs-mul (mul-le-mul_right (unsigned_abs b) h)

pub product_small : (a b : ℤ) → unsigned_abs a ≤ 10 ^ 8 → unsigned_abs b ≤ 10 ^ 8 → unsigned_abs (a *ℤ b) ≤ 10 ^ 16
product_small a b p q = omega (arith, size_times a b p, mul-le-mul_left (10 ^ 8) q)

pub last_first : (a b c : ℤ) → (a *ℤ b) *ℤ c ≡ (a *ℤ c) *ℤ b
last_first a b c = rw (as_diff a, as_diff b, as_diff c) (simp differences (diff-same _ _ _ _ (omega arith)))

pub difference_fits : (x y : ℤ) → unsigned_abs x < 2 ^ 126 → unsigned_abs y < 2 ^ 126 → FitsSigned w128 (to_z w128 (of_z w128 x) -ℤ to_z w128 (of_z w128 y))
difference_fits x y p q = rw (kept x (omega arith), kept y (omega arith)) (omega (arith, ints))

pub difference_kept : (x y : ℤ) → unsigned_abs x < 2 ^ 126 → unsigned_abs y < 2 ^ 126
    → to_z w128 (of_z w128 (to_z w128 (of_z w128 x) -ℤ to_z w128 (of_z w128 y))) ≡ x -ℤ y
difference_kept x y p q = rw (kept x (omega arith), kept y (omega arith)) (kept (x -ℤ y) (omega (arith, ints)))

pub size_difference : (x y : ℤ) (m n : ℕ) → unsigned_abs x ≤ m → unsigned_abs y ≤ n → unsigned_abs (x -ℤ y) ≤ m + n
size_difference x y m n p q = omega (arith, ints)

-- a product with a factor that is kept
pub below : (x y : ℤ) → unsigned_abs x ≤ 10 ^ 8 * unsigned_abs y → unsigned_abs y ≤ 2 ^ 91 → unsigned_abs x < 2 ^ 126
below x y p q = omega arith

pub size_in_units : (z : ℤ) → unsigned_abs z ≤ 2 * 10 ^ 16 → unsigned_abs (z *ℤ pos (2 ^ 35)) ≤ 2 ^ 90
size_in_units z h = rw unsigned_abs-mul (omega arith)

pub units_kept : (z : ℤ) → unsigned_abs z ≤ 2 * 10 ^ 16 → to_z w128 (of_z w128 (to_z w128 (of_z w128 z) *ℤ pos (2 ^ 35))) ≡ z *ℤ pos (2 ^ 35)
units_kept z h = rw (kept z (omega arith)) (kept (z *ℤ pos (2 ^ 35)) (omega (arith, size_in_units z h)))

pub sum_kept : (x y : ℤ) → unsigned_abs x < 2 ^ 126 → unsigned_abs y < 2 ^ 126
    → to_z w128 (of_z w128 (to_z w128 (of_z w128 x) +ℤ to_z w128 (of_z w128 y))) ≡ x +ℤ y
sum_kept x y p q = rw (kept x (omega arith), kept y (omega arith)) (kept (x +ℤ y) (omega (arith, ints)))

pub sum_fits : (x y : ℤ) → unsigned_abs x < 2 ^ 126 → unsigned_abs y < 2 ^ 126 → FitsSigned w128 (to_z w128 (of_z w128 x) +ℤ to_z w128 (of_z w128 y))
sum_fits x y p q = rw (kept x (omega arith), kept y (omega arith)) (omega (arith, ints))

pub not_zero : (b : ℤ) → b ≢ pos 0 → 1 ≤ unsigned_abs b
not_zero b d = omega (arith, ints)

product_size : (p a : ℤ) (m : ℕ) → 2 * unsigned_abs (p -ℤ a) ≤ m → unsigned_abs p ≤ unsigned_abs a + m
product_size p a m h = omega (arith, ints)

-- a nearest quotient is not much larger than what is divided
pub near_size : (a b q : ℤ) → b ≢ pos 0 → IsNear a b q → unsigned_abs q ≤ unsigned_abs a + unsigned_abs b
near_size a b q d at =
    let product = product_size (b *ℤ q) a (unsigned_abs b) at.nearest in
    let size : unsigned_abs b * unsigned_abs q ≤ unsigned_abs a + unsigned_abs b = rw unsigned_abs-mul at product in
    omega (arith, mul-le-mul_right (unsigned_abs q) (not_zero b d))

pub units_not_zero : (z : ℤ) → z ≢ pos 0 → z *ℤ pos (2 ^ 35) ≢ pos 0
units_not_zero z d = λ e. d (omega (arith, ints))

-- a number less a length in units
pub less_units_fits : (x z : ℤ) → unsigned_abs x < 2 ^ 126 → unsigned_abs z ≤ 2 * 10 ^ 16
    → FitsSigned w128 (to_z w128 (of_z w128 x) -ℤ to_z w128 (of_z w128 (to_z w128 (of_z w128 z) *ℤ pos (2 ^ 35))))
less_units_fits x z p q =
    let small : unsigned_abs x ≤ 2 ^ 126 = omega arith in
    let size = size_difference x (z *ℤ pos (2 ^ 35)) _ _ small (size_in_units z q) in
    rw (kept x (omega arith), units_kept z q) (omega (arith, ints, size))

pub less_units_kept : (x z : ℤ) → unsigned_abs x < 2 ^ 126 → unsigned_abs z ≤ 2 * 10 ^ 16
    → to_z w128 (of_z w128 (to_z w128 (of_z w128 x) -ℤ to_z w128 (of_z w128 (to_z w128 (of_z w128 z) *ℤ pos (2 ^ 35))))) ≡ x -ℤ (z *ℤ pos (2 ^ 35))
less_units_kept x z p q =
    let small : unsigned_abs x ≤ 2 ^ 126 = omega arith in
    let size = size_difference x (z *ℤ pos (2 ^ 35)) _ _ small (size_in_units z q) in
    rw (kept x (omega arith), units_kept z q) (kept (x -ℤ (z *ℤ pos (2 ^ 35))) (omega (arith, size)))

-- a number in units of 2^-65
pub fine_kept : (z : ℤ) → unsigned_abs z ≤ 2 * 10 ^ 16 → to_z w128 (of_z w128 (to_z w128 (of_z w128 z) *ℤ pos (2 ^ 65))) ≡ z *ℤ pos (2 ^ 65)
fine_kept z h =
    let size : unsigned_abs (z *ℤ pos (2 ^ 65)) ≤ 2 ^ 120 = rw unsigned_abs-mul (omega arith) in
    rw (kept z (omega arith)) (kept (z *ℤ pos (2 ^ 65)) (omega (arith, size)))

offset_size : (z : ℤ) → unsigned_abs z ≤ 10 ^ 8 → unsigned_abs (z *ℤ pos (2 ^ 30)) ≤ 10 ^ 8 * 2 ^ 30
offset_size z h = rw unsigned_abs-mul (omega arith)

offset_kept : (z : ℤ) → unsigned_abs z ≤ 10 ^ 8 → to_z w128 (of_z w128 (to_z w128 (of_z w128 z) *ℤ pos (2 ^ 30))) ≡ z *ℤ pos (2 ^ 30)
offset_kept z h = rw (kept z (omega arith)) (kept (z *ℤ pos (2 ^ 30)) (omega (arith, offset_size z h)))

-- a number less an offset, both in units of 2^-30
pub less_offset_fits : (x z : ℤ) → unsigned_abs x ≤ 2 ^ 58 → unsigned_abs z ≤ 10 ^ 8
    → FitsSigned w128 (to_z w128 (of_z w128 x) -ℤ to_z w128 (of_z w128 (to_z w128 (of_z w128 z) *ℤ pos (2 ^ 30))))
less_offset_fits x z p q =
    let size = size_difference x (z *ℤ pos (2 ^ 30)) _ _ p (offset_size z q) in
    rw (kept x (omega arith), offset_kept z q) (omega (arith, ints, size))

pub less_offset_kept : (x z : ℤ) → unsigned_abs x ≤ 2 ^ 58 → unsigned_abs z ≤ 10 ^ 8
    → to_z w128 (of_z w128 (to_z w128 (of_z w128 x) -ℤ to_z w128 (of_z w128 (to_z w128 (of_z w128 z) *ℤ pos (2 ^ 30))))) ≡ x -ℤ (z *ℤ pos (2 ^ 30))
less_offset_kept x z p q =
    let size = size_difference x (z *ℤ pos (2 ^ 30)) _ _ p (offset_size z q) in
    rw (kept x (omega arith), offset_kept z q) (kept (x -ℤ (z *ℤ pos (2 ^ 30))) (omega (arith, size)))

pub less_offset_size : (x z : ℤ) → unsigned_abs x ≤ 141421358 * 2 ^ 30 → unsigned_abs z ≤ 10 ^ 8 → unsigned_abs (x -ℤ (z *ℤ pos (2 ^ 30))) ≤ 2 ^ 58
less_offset_size x z p q = omega (arith, size_difference x (z *ℤ pos (2 ^ 30)) _ _ p (offset_size z q))

-- a share of a length
pub share_size : (a b : ℤ) → unsigned_abs a ≤ 2 ^ 91 → 2 ^ 35 ≤ unsigned_abs b → unsigned_abs (near a b) ≤ 2 ^ 56
share_size a b p q = near_bound a b (2 ^ 56) (λ e. omega (arith, ints)) (omega (arith, mul-le-mul_left (2 ^ 56) q))

pub part_size : (a x : ℤ) → unsigned_abs a ≤ 10 ^ 8 → unsigned_abs x ≤ 2 ^ 58 → unsigned_abs (a *ℤ x) ≤ 10 ^ 8 * 2 ^ 58
part_size a x p q = omega (arith, size_times a x p, mul-le-mul_left (10 ^ 8) q)

-- 32 times a sum
pub sum_size : (x y : ℤ) → unsigned_abs x ≤ 10 ^ 8 * 2 ^ 58 → unsigned_abs y ≤ 10 ^ 8 * 2 ^ 58 → unsigned_abs (pos 32 *ℤ (x +ℤ y)) ≤ 2 ^ 91
sum_size x y p q = rw (size_mul (pos 32) (x +ℤ y)) (omega (arith, ints))

pub scaled_sum_kept : (x y : ℤ) → unsigned_abs x ≤ 10 ^ 8 * 2 ^ 58 → unsigned_abs y ≤ 10 ^ 8 * 2 ^ 58
    → to_z w128 (of_z w128 (pos 32 *ℤ to_z w128 (of_z w128 (to_z w128 (of_z w128 x) +ℤ to_z w128 (of_z w128 y))))) ≡ pos 32 *ℤ (x +ℤ y)
scaled_sum_kept x y p q = rw (sum_kept x y (omega arith) (omega arith)) (kept (pos 32 *ℤ (x +ℤ y)) (omega (arith, sum_size x y p q)))

pub scaled_sum_fits : (x y : ℤ) → unsigned_abs x ≤ 10 ^ 8 * 2 ^ 58 → unsigned_abs y ≤ 10 ^ 8 * 2 ^ 58
    → FitsSigned w128 (pos 32 *ℤ to_z w128 (of_z w128 (to_z w128 (of_z w128 x) +ℤ to_z w128 (of_z w128 y))))
scaled_sum_fits x y p q = rw (sum_kept x y (omega arith) (omega arith)) (omega (arith, ints, sum_size x y p q))

-- as a number is negated
pub zero-minus : (z : ℤ) → pos 0 -ℤ z ≡ neg_ℤ z
zero-minus z = omega (arith, ints)
