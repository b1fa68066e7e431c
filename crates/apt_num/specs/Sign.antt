-- The sign of k - h * sqrt(n).
use Rattle.std.specs.Prelude.{ℕ, zero, suc, ◌*◌, ◌≤◌, ℤ, pos, negsuc, ◌*ℤ◌, ◌-ℤ◌, neg_ℤ, unsigned_abs, Bool, true, false, not}
use Rattle.apt_num.specs.declared.Sign.{Sign}
use Rattle.apt_num.specs.declared.Sign.TheVariants.{Minus, Zero, Plus}

-- the sign of a whole number
abbrev pub sign_of : ℤ → Sign
sign_of (pos zero) = Zero
sign_of (pos (suc n)) = Plus
sign_of (negsuc n) = Minus

abbrev pub square : ℤ → ℕ
square z = unsigned_abs z * unsigned_abs z

-- z * |z|: it grows with z
abbrev pub signed_square : ℤ → ℤ
signed_square z = z *ℤ pos (unsigned_abs z)

-- the sign of k - h * sqrt(n): of the difference of their signed squares
abbrev pub root_sign_of : ℤ → ℤ → ℕ → Sign
root_sign_of k h n = sign_of (signed_square k -ℤ signed_square h *ℤ pos n)

abbrev pub is_minus : Sign → Bool
is_minus Minus = true
is_minus Zero = false
is_minus Plus = false

-- whether k is at least h * sqrt(n)
abbrev pub is_at_least : ℤ → ℤ → ℕ → Bool
is_at_least k h n = not (is_minus (root_sign_of k h n))

-- k is at least h * sqrt(n): the signs decide, and squares where both are of one sign
abbrev pub AtLeast : ℤ → ℤ → ℕ → Type 0
AtLeast (pos k) (pos h) n = h * h * n ≤ k * k
AtLeast (pos k) (negsuc h) n = Unit {0}
AtLeast (negsuc k) (pos h) n = ⊥
AtLeast (negsuc k) (negsuc h) n = suc k * suc k ≤ suc h * suc h * n

-- k is at most g * sqrt(n) away from h * sqrt(n): where k is cross(d, X - B) and n is the square of the length of d, the point X is at most g away from the line moved h to the left
pub record OnLine (k h : ℤ) (n : ℕ) (g : ℤ) : Type 0 where
  pub right : AtLeast k (h -ℤ g) n
  pub left : AtLeast (neg_ℤ k) (neg_ℤ h -ℤ g) n
