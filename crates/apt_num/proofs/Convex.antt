-- The squares of the distances of two ends, a and b, of the way between them, d, and of the point that lies j / (j + k) of that way, n / (j + k)^2.
use Rattle.std.proofs.Common.{◌≡◌, ℕ, ◌+◌, ◌*◌, ◌≤◌, ◌<◌, arith}
use Rattle.std.proofs.Math.Nat.{mul-le-mul_left}
use Rattle.apt_num.proofs.Squares.{cancel_le, cancel_same}

-- both ends are at most h: so is the point
pub between_below : (a b d n j k h : ℕ) → j * k * d + n ≡ (j + k) * (k * a + j * b) → a ≤ h → b ≤ h → n ≤ (j + k) * (j + k) * h
between_below a b d n j k h e p q = omega (arith, e, mul-le-mul_left ((j + k) * k) p, mul-le-mul_left ((j + k) * j) q)

-- the angle at the start is no less than a right one: the start is nearest
pub start_nearest : (a b d n j k : ℕ) → j * k * d + n ≡ (j + k) * (k * a + j * b) → a + d ≤ b → (j + k) * (j + k) * a ≤ n
start_nearest a b d n j k e p = omega (arith, e, mul-le-mul_left ((j + k) * j) p)

-- and at the end the end
pub end_nearest : (a b d n j k : ℕ) → j * k * d + n ≡ (j + k) * (k * a + j * b) → b + d ≤ a → (j + k) * (j + k) * b ≤ n
end_nearest a b d n j k e p = omega (arith, e, mul-le-mul_left ((j + k) * k) p)

-- c / d is the square of the foot's distance if c is that of the area: it is at least h, and so is every point
pub foot_nearest : (h d c n m : ℕ) → 0 < d → h * d ≤ c * c → (m * c) * (m * c) ≤ d * n → m * m * h ≤ n
foot_nearest h d c n m positive p q = cancel_le d (m * m * h) n positive (omega (arith, q, mul-le-mul_left (m * m) p))

-- where it is less, the foot itself is nearer
pub foot_below : (h d c n : ℕ) → 0 < d → c * c < h * d → d * n ≡ (d * c) * (d * c) → n < d * d * h
foot_below h d c n positive p e =
    let same : n ≡ d * c * c = cancel_same d n (d * c * c) positive (omega (arith, e)) in
    let up : c * c + 1 ≤ h * d = omega arith in
    omega (arith, same, positive, mul-le-mul_left d up)
