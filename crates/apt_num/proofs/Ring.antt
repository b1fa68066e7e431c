-- Equations of sums and products over ℤ: write each variable as a difference of naturals, compute, and let omega multiply out.
use Rattle.std.proofs.Common.{◌≡◌, ℕ, suc, ◌+◌, ◌*◌, ◌≤◌, ap, ◌∙◌, arith}
use Rattle.std.specs.Prelude.{ℤ, pos, negsuc, ◌+ℤ◌, ◌*ℤ◌, ◌-ℤ◌, ◌≤ℤ◌, neg_ℤ}
use Rattle.std.proofs.Math.Nat.{mul-le-mul_left}
use Rattle.std.proofs.lemmas.Int.{ints}
use borrow.Author.Differences.{up, down, product_is}

-- p - q
pub diff : ℕ → ℕ → ℤ
diff p q = pos p -ℤ pos q

pub up-diff : (p q : ℕ) → up (diff p q) + q ≡ down (diff p q) + p
unfolding diff
up-diff p q = omega (arith, ints)

pub as_diff : (a : ℤ) → a ≡ diff (up a) (down a)
unfolding diff
as_diff a = omega (arith, ints)

pub diff-same : (p q r s : ℕ) → p + s ≡ r + q → diff p q ≡ diff r s
unfolding diff
diff-same p q r s e = omega (arith, ints)

pub diff-add : (p q r s : ℕ) → diff p q +ℤ diff r s ≡ diff (p + r) (q + s)
unfolding diff
diff-add p q r s = omega (arith, ints)

pub diff-sub : (p q r s : ℕ) → diff p q -ℤ diff r s ≡ diff (p + s) (q + r)
unfolding diff
diff-sub p q r s = omega (arith, ints)

pub diff-pos : (p : ℕ) → pos p ≡ diff p 0
unfolding diff
diff-pos p = omega (arith, ints)

pub diff-negsuc : (n : ℕ) → negsuc n ≡ diff 0 (suc n)
unfolding diff
diff-negsuc n = omega (arith, ints)

products : (X X' Y Y' p q r s : ℕ) → X + q ≡ X' + p → Y + s ≡ Y' + r
    → (X * Y + X' * Y') + (p * s + q * r) ≡ (p * r + q * s) + (X * Y' + X' * Y)
products X X' Y Y' p q r s e f =
    omega (arith, ap (λ n. n * Y) e, ap (λ n. n * Y') e, ap (λ n. p * n) f, ap (λ n. q * n) f)

pub diff-mul : (p q r s : ℕ) → diff p q *ℤ diff r s ≡ diff (p * r + q * s) (p * s + q * r)
diff-mul p q r s =
    as_diff _ ∙ diff-same _ _ _ _ (rw ((product_is (diff p q) (diff r s)).0, (product_is (diff p q) (diff r s)).1) (products (up (diff p q)) (down (diff p q)) (up (diff r s)) (down (diff r s)) p q r s (up-diff p q) (up-diff r s)))

pub diff-le : (p q r s : ℕ) → p + s ≤ r + q → diff p q ≤ℤ diff r s
unfolding diff
diff-le p q r s h = omega (arith, ints)

pub diff-neg : (p q : ℕ) → neg_ℤ (diff p q) ≡ diff q p
unfolding diff
diff-neg p q = omega (arith, ints)

pub ruleset differences = (diff-add, diff-sub, diff-mul, diff-neg)

pub *ℤ-+ℤ : (a b c : ℤ) → a *ℤ (b +ℤ c) ≡ (a *ℤ b) +ℤ (a *ℤ c)
*ℤ-+ℤ a b c = rw (as_diff a, as_diff b, as_diff c) (simp differences (diff-same _ _ _ _ (omega arith)))

pub +ℤ-*ℤ : (a b c : ℤ) → (a +ℤ b) *ℤ c ≡ (a *ℤ c) +ℤ (b *ℤ c)
+ℤ-*ℤ a b c = rw (as_diff a, as_diff b, as_diff c) (simp differences (diff-same _ _ _ _ (omega arith)))

pub *ℤ-minus : (a b c : ℤ) → a *ℤ (b -ℤ c) ≡ (a *ℤ b) -ℤ (a *ℤ c)
*ℤ-minus a b c = rw (as_diff a, as_diff b, as_diff c) (simp differences (diff-same _ _ _ _ (omega arith)))

pub minus-*ℤ : (a b c : ℤ) → (a -ℤ b) *ℤ c ≡ (a *ℤ c) -ℤ (b *ℤ c)
minus-*ℤ a b c = rw (as_diff a, as_diff b, as_diff c) (simp differences (diff-same _ _ _ _ (omega arith)))

pub *ℤ_assoc : (a b c : ℤ) → (a *ℤ b) *ℤ c ≡ a *ℤ (b *ℤ c)
*ℤ_assoc a b c = rw (as_diff a, as_diff b, as_diff c) (simp differences (diff-same _ _ _ _ (omega arith)))

pub neg-*ℤ : (a b : ℤ) → neg_ℤ a *ℤ b ≡ neg_ℤ (a *ℤ b)
neg-*ℤ a b = rw (as_diff a, as_diff b) (simp differences (diff-same _ _ _ _ (omega arith)))

pub *ℤ-neg : (a b : ℤ) → a *ℤ neg_ℤ b ≡ neg_ℤ (a *ℤ b)
*ℤ-neg a b = rw (as_diff a, as_diff b) (simp differences (diff-same _ _ _ _ (omega arith)))

pub times_swap : (a b c : ℤ) → a *ℤ (b *ℤ c) ≡ b *ℤ (a *ℤ c)
times_swap a b c = rw (as_diff a, as_diff b, as_diff c) (simp differences (diff-same _ _ _ _ (omega arith)))

pub neg-*ℤ-neg : (a b : ℤ) → neg_ℤ a *ℤ neg_ℤ b ≡ a *ℤ b
neg-*ℤ-neg a b = rw (as_diff a, as_diff b) (simp differences (diff-same _ _ _ _ (omega arith)))

pub double_neg : (z : ℤ) → neg_ℤ (neg_ℤ z) ≡ z
double_neg z = omega (arith, ints)

pub pos-*ℤ : (m n : ℕ) → pos m *ℤ pos n ≡ pos (m * n)
pos-*ℤ m n = omega (arith, ints)

pub square_not_negative : (a : ℤ) → pos 0 ≤ℤ (a *ℤ a)
square_not_negative (pos n) = omega (arith, ints)
square_not_negative (negsuc n) = omega (arith, ints)

-- one factor at a time, from naturals
pub scaled : (j a b c d : ℕ) → a + d ≤ c + b → j * a + j * d ≤ j * c + j * b
scaled j a b c d h = omega (arith, mul-le-mul_left j h)

-- products by a natural grow
pub scaled_le : (c : ℕ) (x y : ℤ) → x ≤ℤ y → (pos c *ℤ x) ≤ℤ (pos c *ℤ y)
scaled_le c x y h =
    let nat : up x + down y ≤ up y + down x = omega (arith, ints) in
    rw (as_diff x, as_diff y, diff-pos c) (simp differences (diff-le _ _ _ _ (omega (arith, scaled c _ _ _ _ nat))))

-- both ends are at most high: so is each point between them, times j + k
pub between_le : (a b high : ℤ) (j k : ℕ) → a ≤ℤ high → b ≤ℤ high → ((pos k *ℤ a) +ℤ (pos j *ℤ b)) ≤ℤ (pos (j + k) *ℤ high)
between_le a b high j k p q =
    let first : up a + down high ≤ up high + down a = omega (arith, ints) in
    let second : up b + down high ≤ up high + down b = omega (arith, ints) in
    rw (as_diff a, as_diff b, as_diff high, diff-pos k, diff-pos j, diff-pos (j + k))
    (simp differences (diff-le _ _ _ _ (omega (arith, scaled k _ _ _ _ first, scaled j _ _ _ _ second))))

pub between_ge : (a b low : ℤ) (j k : ℕ) → low ≤ℤ a → low ≤ℤ b → (pos (j + k) *ℤ low) ≤ℤ ((pos k *ℤ a) +ℤ (pos j *ℤ b))
between_ge a b low j k p q =
    let first : up low + down a ≤ up a + down low = omega (arith, ints) in
    let second : up low + down b ≤ up b + down low = omega (arith, ints) in
    rw (as_diff a, as_diff b, as_diff low, diff-pos k, diff-pos j, diff-pos (j + k))
    (simp differences (diff-le _ _ _ _ (omega (arith, scaled k _ _ _ _ first, scaled j _ _ _ _ second))))
