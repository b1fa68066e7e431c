-- Powers of ten.
use Rattle.std.proofs.Common.{◌≡◌, ℕ, ◌+◌, ◌-◌, ◌*◌, ◌^◌, ◌≤◌, ◌<◌, ap, ◌∙◌, sym, arith}
use Rattle.std.proofs.lemmas.Nat.{pow-add}
use Rattle.std.proofs.Math.Nat.{one-le-pow, pow-le-pow_right, mul-lt-mul_of_pos_right}

pub power_small : (n : ℕ) → n ≤ 12 → 10 ^ n ≤ 10 ^ 12
power_small n h = pow-le-pow_right {n = 10} (omega arith) h

-- a number of at most 12 digits
pub digits_small : (n i : ℕ) → i ≤ 12 → n < 10 ^ i → n < 10 ^ 12
digits_small n i h k = omega (arith, power_small i h)

power_split : (i : ℕ) → i ≤ 12 → 10 ^ i * 10 ^ (12 - i) ≡ 10 ^ 12
power_split i h = let whole : i + (12 - i) ≡ 12 = omega arith in sym (pow-add 10 i (12 - i)) ∙ ap (λ k. 10 ^ k) whole

-- in the twelfth place it is less than one
pub places_small : (n i : ℕ) → i ≤ 12 → n < 10 ^ i → n * 10 ^ (12 - i) < 10 ^ 12
places_small n i h k = rw (sym (power_split i h)) (mul-lt-mul_of_pos_right k (omega (arith, one-le-pow (12 - i) 10 (omega arith))))

-- one more digit
pub next_small : (n i d : ℕ) → n < 10 ^ i → d ≤ 9 → 10 * n + d < 10 ^ (i + 1)
next_small n i d h k = omega (arith, h, pow-add 10 i 1)
