-- Signs of numbers and of products.
use Rattle.std.proofs.Common.{refl, ◌≡◌, ◌≢◌, ◌⊎◌, inl, inr, ℕ, zero, suc, ◌<◌, arith, ℤ, pos, negsuc, ◌*ℤ◌, ◌≤ℤ◌, ◌<ℤ◌}
use Rattle.std.proofs.lemmas.Int.{ints}
use Rattle.std.proofs.lemmas.Nat.{mul-lt}
use Rattle.apt_num.specs.declared.Sign.TheVariants as signs
use Rattle.apt_num.specs.Sign.{sign_of}

pub plus_sign : (z : ℤ) → pos 0 <ℤ z → sign_of z ≡ signs.Plus
plus_sign (pos zero) h = absurd (omega (arith, ints))
plus_sign (pos (suc n)) h = refl
plus_sign (negsuc n) h = absurd (omega (arith, ints))

pub minus_sign : (z : ℤ) → z <ℤ pos 0 → sign_of z ≡ signs.Minus
minus_sign (pos n) h = absurd (omega (arith, ints))
minus_sign (negsuc n) h = refl

-- a number that is not 0
pub some_number : (n : ℕ) → n ≢ 0 → 0 < n
some_number zero d = absurd (d refl)
some_number (suc n) d = omega arith

pub sign_cases : (x : ℤ) → (pos 0 <ℤ x) ⊎ (x ≤ℤ pos 0)
sign_cases (pos zero) = inr (omega (arith, ints))
sign_cases (pos (suc n)) = inl (omega (arith, ints))
sign_cases (negsuc n) = inr (omega (arith, ints))

pub side_cases : (x : ℤ) → (x <ℤ pos 0) ⊎ (pos 0 ≤ℤ x)
side_cases (pos n) = inr (omega (arith, ints))
side_cases (negsuc n) = inl (omega (arith, ints))

-- ---- two factors
pub both_plus : (a b : ℤ) → pos 0 <ℤ a → pos 0 <ℤ b → pos 0 <ℤ (a *ℤ b)
both_plus (pos m) (pos n) p q = omega (arith, ints, mul-lt 0 0 m n (omega (arith, ints)) (omega (arith, ints)))
both_plus (pos m) (negsuc n) p q = absurd (omega (arith, ints))
both_plus (negsuc m) b p q = absurd (omega (arith, ints))

pub no_minus : (a b : ℤ) → pos 0 ≤ℤ a → pos 0 ≤ℤ b → pos 0 ≤ℤ (a *ℤ b)
no_minus (pos m) (pos n) p q = omega (arith, ints)
no_minus (pos m) (negsuc n) p q = absurd (omega (arith, ints))
no_minus (negsuc m) b p q = absurd (omega (arith, ints))

pub both_minus : (a b : ℤ) → a ≤ℤ pos 0 → b ≤ℤ pos 0 → pos 0 ≤ℤ (a *ℤ b)
both_minus (pos m) (pos n) p q = omega (arith, ints)
both_minus (pos zero) (negsuc n) p q = omega (arith, ints)
both_minus (pos (suc m)) (negsuc n) p q = absurd (omega (arith, ints))
both_minus (negsuc m) (pos zero) p q = omega (arith, ints)
both_minus (negsuc m) (pos (suc n)) p q = absurd (omega (arith, ints))
both_minus (negsuc m) (negsuc n) p q = omega (arith, ints)

pub one_each : (a b : ℤ) → a ≤ℤ pos 0 → pos 0 ≤ℤ b → (a *ℤ b) ≤ℤ pos 0
one_each (pos zero) (pos n) p q = omega (arith, ints)
one_each (pos (suc m)) (pos n) p q = absurd (omega (arith, ints))
one_each (negsuc m) (pos n) p q = omega (arith, ints)
one_each a (negsuc n) p q = absurd (omega (arith, ints))

pub other_each : (a b : ℤ) → pos 0 ≤ℤ a → b ≤ℤ pos 0 → (a *ℤ b) ≤ℤ pos 0
other_each (pos m) (pos zero) p q = omega (arith, ints)
other_each (pos m) (pos (suc n)) p q = absurd (omega (arith, ints))
other_each (pos m) (negsuc n) p q = omega (arith, ints)
other_each (negsuc m) b p q = absurd (omega (arith, ints))

pub strict_each : (a b : ℤ) → pos 0 <ℤ a → b <ℤ pos 0 → (a *ℤ b) <ℤ pos 0
strict_each (pos zero) b p q = absurd (omega (arith, ints))
strict_each (pos (suc m)) (pos n) p q = absurd (omega (arith, ints))
strict_each (pos (suc m)) (negsuc n) p q = omega (arith, ints)
strict_each (negsuc m) b p q = absurd (omega (arith, ints))

pub strict_both : (a b : ℤ) → a <ℤ pos 0 → b <ℤ pos 0 → pos 0 <ℤ (a *ℤ b)
strict_both (pos a) b p q = absurd (omega (arith, ints))
strict_both (negsuc a) (pos b) p q = absurd (omega (arith, ints))
strict_both (negsuc a) (negsuc b) p q = omega (arith, ints)

-- ---- a factor from 1 keeps the sign
pub plus_of : (n : ℕ) (z : ℤ) → pos 0 <ℤ (pos n *ℤ z) → pos 0 <ℤ z
plus_of n (pos zero) h = absurd (omega (arith, ints, h))
plus_of n (pos (suc d)) h = omega (arith, ints)
plus_of n (negsuc d) h = absurd (omega (arith, ints, h))

pub minus_of : (n : ℕ) (z : ℤ) → (pos n *ℤ z) <ℤ pos 0 → z <ℤ pos 0
minus_of n (pos d) h = absurd (omega (arith, ints, h))
minus_of n (negsuc d) h = omega (arith, ints)

pub no_plus_of : (n : ℕ) (z : ℤ) → 0 < n → (pos n *ℤ z) ≤ℤ pos 0 → z ≤ℤ pos 0
no_plus_of (suc n) (pos zero) some h = omega (arith, ints)
no_plus_of (suc n) (pos (suc d)) some h = absurd (omega (arith, ints, h))
no_plus_of n (negsuc d) some h = omega (arith, ints)
no_plus_of zero z some h = absurd (omega arith)

pub no_minus_of : (n : ℕ) (z : ℤ) → 0 < n → pos 0 ≤ℤ (pos n *ℤ z) → pos 0 ≤ℤ z
no_minus_of n (pos d) some h = omega (arith, ints)
no_minus_of (suc n) (negsuc d) some h = absurd (omega (arith, ints, h))
no_minus_of zero z some h = absurd (omega arith)
