-- Inequalities of products of naturals, and the sizes of whole numbers.
use Rattle.std.proofs.Common.{◌≡◌, ℕ, suc, ◌+◌, ◌-◌, ◌*◌, ◌≤◌, ◌<◌, ap, arith, inl, inr, ℤ, pos, negsuc, ◌+ℤ◌, ◌-ℤ◌, ◌*ℤ◌, ◌≤ℤ◌, neg_ℤ, unsigned_abs}
use Rattle.std.proofs.Math.Nat.{mul-le-mul_left}
use Rattle.std.proofs.lemmas.Nat.{mul-le, mul-lt}
use Rattle.std.proofs.lemmas.Int.{ints, unsigned_abs-mul}
use Rattle.std.proofs.lemmas.Bool.{cases_lt}

-- squares grow
pub square_le : (x y : ℕ) → x ≤ y → x * x ≤ y * y
square_le x y h = mul-le x x y y h h

pub root_le : (x y : ℕ) → x * x ≤ y * y → x ≤ y
root_le x y h = elim (cases_lt y x) [ inl below ↦ absurd (omega (arith, mul-lt y y x x below below)) | inr past ↦ past ]

-- each of two squares is at most their sum
pub part_short : (a b h : ℕ) → a * a + b * b ≤ h * h → a ≤ h
part_short a b h less = root_le a h (omega (arith, less))

pub no_square : (x n : ℕ) → x * x ≤ 0 * n → x ≡ 0
no_square x n less = omega (arith, root_le x 0 (omega (arith, less)))

pub root_lt : (x y : ℕ) → x * x < y * y → x < y
root_lt x y h = elim (cases_lt x y) [ inl below ↦ below | inr past ↦ absurd (omega (arith, square_le y x past)) ]

-- a positive factor may be cancelled
pub cancel_le : (c x y : ℕ) → 0 < c → c * x ≤ c * y → x ≤ y
cancel_le c x y h p = elim (cases_lt y x) [
  | inl below ↦
      let up : suc y ≤ x = omega arith in
      absurd (omega (arith, mul-le-mul_left c up))
  | inr past ↦ past
]

pub cancel_lt : (c x y : ℕ) → c * x < c * y → x < y
cancel_lt c x y p = elim (cases_lt x y) [ inl below ↦ below | inr past ↦ absurd (omega (arith, mul-le-mul_left c past)) ]

pub cancel_same : (c x y : ℕ) → 0 < c → c * x ≡ c * y → x ≡ y
cancel_same c x y h e =
    let low : x ≤ y = cancel_le c x y h (omega (arith, e)) in
    let high : y ≤ x = cancel_le c y x h (omega (arith, e)) in
    omega arith

-- H is at most both squares: it is at most the product
pub product_at_least : (H a b : ℕ) → H ≤ a * a → H ≤ b * b → H ≤ a * b
product_at_least H a b p q = root_le H (a * b) (omega (arith, mul-le H H (a * a) (b * b) p q))

pub product_at_most : (H a b : ℕ) → a * a ≤ H → b * b ≤ H → a * b ≤ H
product_at_most H a b p q = root_le (a * b) H (omega (arith, mul-le (a * a) (b * b) H H p q))

-- between two ends that are at least sqrt(H)
pub between_at_least : (H a b j k : ℕ) → H ≤ a * a → H ≤ b * b → (j + k) * (j + k) * H ≤ (k * a + j * b) * (k * a + j * b)
between_at_least H a b j k p q =
    omega (arith, mul-le-mul_left (k * k) p, mul-le-mul_left (j * j) q, mul-le-mul_left (2 * j * k) (product_at_least H a b p q))

-- and at most
pub between_at_most : (H a b j k : ℕ) → a * a ≤ H → b * b ≤ H → (k * a + j * b) * (k * a + j * b) ≤ (j + k) * (j + k) * H
between_at_most H a b j k p q =
    omega (arith, mul-le-mul_left (k * k) p, mul-le-mul_left (j * j) q, mul-le-mul_left (2 * j * k) (product_at_most H a b p q))

-- the product of two differences of naturals is not negative
slack_at : (a c m n b d : ℕ) → a + m ≡ b → c + n ≡ d → a * d + b * c ≤ a * c + b * d
slack_at a c m n b d e f = omega (arith, ap (λ x. a * x) f, ap (λ x. x * c) e, ap (λ x. x * d) e, ap (λ x. m * x) f)

pub slack : (a b c d : ℕ) → a ≤ b → c ≤ d → a * d + b * c ≤ a * c + b * d
slack a b c d h k = slack_at a c (b - a) (d - c) b d (omega arith) (omega arith)

-- the product is at most the square of the mean
four_at : (j d k : ℕ) → j + d ≡ k → 4 * (j * k) ≤ (j + k) * (j + k)
four_at j d k e = omega (arith, ap (λ n. j * n) e, ap (λ n. n * n) e)

pub four_le : (j k : ℕ) → 4 * (j * k) ≤ (j + k) * (j + k)
four_le j k = elim (cases_lt j k) [ inl less ↦ four_at j (k - j) k (omega arith) | inr past ↦ omega (arith, four_at k (j - k) j (omega arith)) ]

-- ---- sizes
pub size_mul : (a b : ℤ) → unsigned_abs (a *ℤ b) ≡ unsigned_abs a * unsigned_abs b
size_mul a b = unsigned_abs-mul a b

pub size_add : (a b : ℤ) → unsigned_abs (a +ℤ b) ≤ unsigned_abs a + unsigned_abs b
size_add a b = omega (arith, ints)

pub size_minus : (a b : ℤ) → unsigned_abs (a -ℤ b) ≤ unsigned_abs a + unsigned_abs b
size_minus a b = omega (arith, ints)

pub size_neg : (a : ℤ) → unsigned_abs (neg_ℤ a) ≡ unsigned_abs a
size_neg a = omega (arith, ints)

pub size_back : (a b : ℤ) → unsigned_abs (a -ℤ b) ≡ unsigned_abs (b -ℤ a)
size_back a b = omega (arith, ints)

pub size_square : (a : ℤ) → pos (unsigned_abs a * unsigned_abs a) ≡ a *ℤ a
size_square (pos n) = omega (arith, ints)
size_square (negsuc n) = omega (arith, ints)

-- a number lies between its size and that negated
pub size_le : (a : ℤ) → a ≤ℤ pos (unsigned_abs a)
size_le a = omega (arith, ints)

pub neg_size_le : (a : ℤ) → neg_ℤ (pos (unsigned_abs a)) ≤ℤ a
neg_size_le a = omega (arith, ints)

pub natural : (z : ℤ) → pos 0 ≤ℤ z → z ≡ pos (unsigned_abs z)
natural z h = omega (arith, ints)
