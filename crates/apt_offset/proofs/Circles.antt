-- The side of a circle, by squares.
use Rattle.std.proofs.Common.{◌≡◌, ℕ, ◌*◌, ap, ℤ, pos, ◌-ℤ◌, ◌*ℤ◌, unsigned_abs}
use Rattle.apt_num.specs.Sign.{sign_of}
use Rattle.apt_num.proofs.Squares.{size_square}

-- the square of a size is that of the number
pub as_square : (r : ℤ) (n : ℕ) → sign_of (pos (unsigned_abs r * unsigned_abs r) -ℤ pos n) ≡ sign_of ((r *ℤ r) -ℤ pos n)
as_square r n = ap (λ (z : ℤ). sign_of (z -ℤ pos n)) (size_square r)
