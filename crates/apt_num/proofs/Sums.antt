-- Sums of numbers that are at least so many times a root, and products with a natural.
use Rattle.std.proofs.Common.{◌≡◌, ℕ, suc, ◌+◌, ◌-◌, ◌*◌, ◌≤◌, ◌<◌, ◌∙◌, ap, subst, arith, inl, inr, ℤ, pos, negsuc, ◌+ℤ◌, ◌-ℤ◌, ◌*ℤ◌, ◌≤ℤ◌, neg_ℤ, unsigned_abs}
use Rattle.std.proofs.lemmas.Int.{ints}
use Rattle.std.proofs.lemmas.Bool.{cases_lt}
use Rattle.std.proofs.lemmas.Nat.{mul-le, mul-lt}
use Rattle.apt_num.specs.Sign.{AtLeast, signed_square}
use Rattle.apt_num.proofs.Ring.{as_diff, diff-pos, diff-same, differences}
use Rattle.apt_num.proofs.Squares.{square_le, root_le, size_mul}
use Rattle.apt_num.proofs.Products.{no_minus, no_minus_of}
use Rattle.apt_num.proofs.AtLeast.{pos_neg, neg_neg, at_least_is, is_at_least}

-- h and i are times the root of n: products of two lengths by the products of their bounds
product_up : (a b h i n : ℕ) → h * h * n ≤ a * a → i * i * n ≤ b * b → h * i * n ≤ a * b
product_up a b h i n p q = root_le (h * i * n) (a * b) (omega (arith, mul-le (h * h * n) (i * i * n) (a * a) (b * b) p q))

product_down : (a b h i n : ℕ) → a * a ≤ h * h * n → b * b ≤ i * i * n → a * b ≤ h * i * n
product_down a b h i n p q = root_le (a * b) (h * i * n) (omega (arith, mul-le (a * a) (b * b) (h * h * n) (i * i * n) p q))

-- sums of naturals
sum_up : (a b h i n : ℕ) → h * h * n ≤ a * a → i * i * n ≤ b * b → (h + i) * (h + i) * n ≤ (a + b) * (a + b)
sum_up a b h i n p q = omega (arith, p, q, product_up a b h i n p q)

sum_down : (a b h i n : ℕ) → a * a ≤ h * h * n → b * b ≤ i * i * n → (a + b) * (a + b) ≤ (h + i) * (h + i) * n
sum_down a b h i n p q = omega (arith, p, q, product_down a b h i n p q)

-- and what is left of a sum
rest_up : (x b c i n : ℕ) → b * b ≤ i * i * n → (c + i) * (c + i) * n ≤ (x + b) * (x + b) → c * c * n ≤ x * x
rest_up x b c i n p q = elim (cases_lt (x * x) (c * c * n)) [
  | inl below ↦
      let less : x * x ≤ c * c * n = omega arith in
      absurd (omega (arith, below, p, q, product_down x b c i n less p))
  | inr past ↦ past
]

rest_down : (x a c h n : ℕ) → h * h * n ≤ a * a → (x + a) * (x + a) ≤ (c + h) * (c + h) * n → x * x ≤ c * c * n
rest_down x a c h n p q = elim (cases_lt (c * c * n) (x * x)) [
  | inl below ↦
      let less : c * c * n ≤ x * x = omega arith in
      absurd (omega (arith, below, p, q, product_up x a c h n less p))
  | inr past ↦ past
]

-- given as differences of naturals
as_differences : (k h : ℤ) (a b c d n : ℕ) → k ≡ pos a -ℤ pos b → h ≡ pos c -ℤ pos d → AtLeast k h n → AtLeast (pos a -ℤ pos b) (pos c -ℤ pos d) n
as_differences k h a b c d n e f is = subst (λ (z : ℤ). AtLeast (pos a -ℤ pos b) z n) f (subst (λ (z : ℤ). AtLeast z h n) e is)

rest_down-of : (b a i h n : ℕ) → a ≤ b → h ≤ i → h * h * n ≤ a * a → b * b ≤ i * i * n → (b - a) * (b - a) ≤ (i - h) * (i - h) * n
rest_down-of b a i h n less lower p q =
    rest_down (b - a) a (i - h) h n p
    (subst (λ m. m * m ≤ (i - h + h) * (i - h + h) * n) (omega arith) (subst (λ m. b * b ≤ m * m * n) (omega arith) q))

rest_up-of : (a b h i n : ℕ) → b ≤ a → i ≤ h → b * b ≤ i * i * n → h * h * n ≤ a * a → (h - i) * (h - i) * n ≤ (a - b) * (a - b)
rest_up-of a b h i n more higher q p =
    rest_up (a - b) b (h - i) i n q
    (subst (λ m. (h - i + i) * (h - i + i) * n ≤ m * m) (omega arith) (subst (λ m. m * m * n ≤ a * a) (omega arith) p))

not_less : (a b h i n : ℕ) → i ≤ h → h * h * n ≤ a * a → b * b ≤ i * i * n → b ≤ a
not_less a b h i n higher p q = root_le b a (omega (arith, p, q, mul-le (i * i) n (h * h) n (square_le i h higher) (omega arith)))

-- a number from h times the root up less one up to i times it
at_least-difference : (a b h i n : ℕ) → h * h * n ≤ a * a → b * b ≤ i * i * n → AtLeast (pos a -ℤ pos b) (pos h -ℤ pos i) n
at_least-difference a b h i n p q = elim (cases_lt h i) [
  | inl lower ↦ elim (cases_lt a b) [
    | inl less ↦
        as_differences (neg_ℤ (pos (b - a))) (neg_ℤ (pos (i - h))) a b h i n (omega (arith, ints)) (omega (arith, ints))
        (neg_neg (b - a) (i - h) n (rest_down-of b a i h n (omega arith) (omega arith) p q))
    | inr more ↦
        as_differences (pos (a - b)) (neg_ℤ (pos (i - h))) a b h i n (omega (arith, ints)) (omega (arith, ints)) (pos_neg (a - b) (i - h) n)
  ]
  | inr higher ↦
      let more : b ≤ a = not_less a b h i n higher p q in
      as_differences (pos (a - b)) (pos (h - i)) a b h i n (omega (arith, ints)) (omega (arith, ints)) (rest_up-of a b h i n more higher q p)
]

grown_down : (m i b n : ℕ) → i ≤ m → b * b ≤ i * i * n → b * b ≤ m * m * n
grown_down m i b n h q = omega (arith, q, mul-le (i * i) n (m * m) n (square_le i m h) (omega arith))

grown_up : (a m h n : ℕ) → a ≤ m → h * h * n ≤ a * a → h * h * n ≤ m * m
grown_up a m h n g p = omega (arith, p, square_le a m g)

-- and one from 0 up over what a bound from 0 down leaves
at_least-less : (a h i n : ℕ) → h * h * n ≤ a * a → AtLeast (pos a) (pos h -ℤ pos i) n
at_least-less a h i n p = subst (λ m. AtLeast (pos m) (pos h -ℤ pos i) n) (omega arith) (at_least-difference a 0 h i n p (omega arith))

at_least-below : (a b i n : ℕ) → suc b * suc b ≤ suc i * suc i * n → AtLeast (pos a -ℤ pos (suc b)) (negsuc i) n
at_least-below a b i n q = subst (λ (z : ℤ). AtLeast (pos a -ℤ pos (suc b)) z n) (omega (arith, ints)) (at_least-difference a (suc b) 0 (suc i) n (omega arith) q)

-- a sum is at least the sum of the bounds
pub at_least-sum : (a b h i : ℤ) (n : ℕ) → AtLeast a h n → AtLeast b i n → AtLeast (a +ℤ b) (h +ℤ i) n
at_least-sum (pos a) (pos b) (pos h) (pos i) n p q = sum_up a b h i n p q
at_least-sum (pos a) (pos b) (pos h) (negsuc i) n p q = at_least-less (a + b) h (suc i) n (grown_up a (a + b) h n (omega arith) p)
at_least-sum (pos a) (pos b) (negsuc h) (pos i) n p q = at_least-less (a + b) i (suc h) n (grown_up b (a + b) i n (omega arith) q)
at_least-sum (pos a) (pos b) (negsuc h) (negsuc i) n p q = tt
at_least-sum (pos a) (negsuc b) (pos h) (negsuc i) n p q = at_least-difference a (suc b) h (suc i) n p q
at_least-sum (pos a) (negsuc b) (negsuc h) (negsuc i) n p q = at_least-below a b (suc (h + i)) n (grown_down (suc (suc (h + i))) (suc i) (suc b) n (omega arith) q)
at_least-sum (pos a) (negsuc b) h (pos i) n p q = absurd q
at_least-sum (negsuc a) (pos b) (negsuc h) (pos i) n p q = at_least-difference b (suc a) i (suc h) n q p
at_least-sum (negsuc a) (pos b) (negsuc h) (negsuc i) n p q = at_least-below b a (suc (h + i)) n (grown_down (suc (suc (h + i))) (suc h) (suc a) n (omega arith) p)
at_least-sum (negsuc a) (negsuc b) (negsuc h) (negsuc i) n p q =
    let both = sum_down (suc a) (suc b) (suc h) (suc i) n p q in
    omega (arith, both)
at_least-sum (negsuc a) (negsuc b) (negsuc h) (pos i) n p q = absurd q
at_least-sum (negsuc a) b (pos h) i n p q = absurd p

-- and so is a lower bound one
pub at_least-weaker : (k h i : ℤ) (n : ℕ) → i ≤ℤ h → AtLeast k h n → AtLeast k i n
at_least-weaker k h i n le p =
    let less : neg_ℤ (pos (unsigned_abs (h -ℤ i))) ≡ i -ℤ h = omega (arith, ints) in
    subst (λ (z : ℤ). AtLeast k z n) (omega (arith, ints))
    (subst (λ (z : ℤ). AtLeast z (h +ℤ (i -ℤ h)) n) (omega (arith, ints))
    (at_least-sum k (pos 0) h (i -ℤ h) n p (subst (λ (z : ℤ). AtLeast (pos 0) z n) less (pos_neg 0 (unsigned_abs (h -ℤ i)) n))))

-- ---- times a natural
square_parts : (m n : ℕ) (k : ℤ) → (pos m *ℤ k) *ℤ pos (m * n) ≡ pos (m * m) *ℤ (k *ℤ pos n)
square_parts m n k = rw (as_diff k, diff-pos m, diff-pos n, diff-pos (m * n), diff-pos (m * m)) (simp differences (diff-same _ _ _ _ (omega arith)))

pub signed_square-times : (m : ℕ) (k : ℤ) → signed_square (pos m *ℤ k) ≡ pos (m * m) *ℤ signed_square k
signed_square-times m k = ap (λ n. (pos m *ℤ k) *ℤ pos n) (size_mul (pos m) k) ∙ square_parts m (unsigned_abs k) k

difference_parts : (m a b n : ℤ) → (m *ℤ a) -ℤ ((m *ℤ b) *ℤ n) ≡ m *ℤ (a -ℤ (b *ℤ n))
difference_parts m a b n = rw (as_diff m, as_diff a, as_diff b, as_diff n) (simp differences (diff-same _ _ _ _ (omega arith)))

times_difference : (m : ℕ) (k h : ℤ) (n : ℕ) → signed_square (pos m *ℤ k) -ℤ signed_square (pos m *ℤ h) *ℤ pos n ≡ pos (m * m) *ℤ (signed_square k -ℤ signed_square h *ℤ pos n)
times_difference m k h n = rw (signed_square-times m k, signed_square-times m h) (difference_parts (pos (m * m)) (signed_square k) (signed_square h) (pos n))

-- both sides times a natural
pub at_least-times : (m : ℕ) (k h : ℤ) (n : ℕ) → AtLeast k h n → AtLeast (pos m *ℤ k) (pos m *ℤ h) n
at_least-times m k h n is =
    is_at_least (pos m *ℤ k) (pos m *ℤ h) n (rw (times_difference m k h n) (no_minus (pos (m * m)) (signed_square k -ℤ signed_square h *ℤ pos n) (omega (arith, ints)) (at_least_is k h n is)))

-- and a factor from 1 may be cancelled
pub at_least-cancel : (m : ℕ) (k h : ℤ) (n : ℕ) → 0 < m → AtLeast (pos m *ℤ k) (pos m *ℤ h) n → AtLeast k h n
at_least-cancel m k h n some is =
    is_at_least k h n (no_minus_of (m * m) (signed_square k -ℤ signed_square h *ℤ pos n) (omega (arith, mul-lt 0 0 m m some some)) (rw (times_difference m k h n) at (at_least_is (pos m *ℤ k) (pos m *ℤ h) n is)))

-- a number whose size is at most so many times the root is at least that negated
pub size_at_least : (z : ℤ) (h n : ℕ) → unsigned_abs z * unsigned_abs z ≤ h * h * n → AtLeast z (neg_ℤ (pos h)) n
size_at_least (pos k) h n p = pos_neg k h n
size_at_least (negsuc k) h n p = neg_neg (suc k) h n p
