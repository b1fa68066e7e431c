-- Near a circle, a way that is hardly nearer to an axis does not reach further along it than some units: p is three units less than the radius.
use Rattle.std.proofs.Common.{◌≡◌, ◌⊎◌, inl, inr, ℕ, suc, ◌+◌, ◌-◌, ◌*◌, ◌≤◌, ◌<◌, ap, subst, sym, arith, ℤ, pos, negsuc, ◌-ℤ◌, ◌≤ℤ◌, unsigned_abs}
use Rattle.std.proofs.Math.Nat.{mul-le-mul_left}
use Rattle.std.proofs.lemmas.Nat.{mul-le, mul-lt}
use Rattle.std.proofs.lemmas.Int.{ints}
use Rattle.std.proofs.lemmas.Bool.{cases_lt}
use Rattle.apt_num.specs.Sign.{AtLeast}
use Rattle.apt_num.proofs.Squares.{root_le}
use Rattle.apt_num.proofs.Farther.{IsFarther, IsHardlyNearer}

-- ---- the strict law
step_line : (p f g n m : ℕ) → g * g * n ≤ f * f * m → 16 * m ≤ (4 * p + 15) * (4 * p + 15) → p * p ≤ n → 4 * (p * g) ≤ (4 * p + 15) * f
step_line p f g n m h high low = root_le (4 * (p * g)) ((4 * p + 15) * f) (omega (arith, mul-le-mul_left 16 h, mul-le-mul_left (f * f) high, mul-le-mul_left (16 * (g * g)) low))

line_strict : (p t f g n m B : ℕ) → f + t ≡ g → g * g * n ≤ f * f * m → 16 * m ≤ (4 * p + 15) * (4 * p + 15) → p * p ≤ n → n ≤ (p + 6) * (p + 6) → f * f ≤ B * n → 97 ≤ p → t * t ≤ 16 * B
line_strict p t f g n m B e h high low most fit least =
    let s : 4 * (p * t) ≤ 15 * f = omega (arith, step_line p f g n m h high low, ap (λ x. p * x) e) in
    let q : 15 * (p + 6) ≤ 16 * p = omega (arith, least) in
    elim (cases_lt (16 * B) (t * t)) [
      | inl past ↦
          absurd (omega (
            arith,
            mul-le (4 * (p * t)) (4 * (p * t)) (15 * f) (15 * f) s s,
            mul-le-mul_left 225 fit,
            mul-le-mul_left (225 * B) most,
            mul-le-mul_left B (mul-le (15 * (p + 6)) (15 * (p + 6)) (16 * p) (16 * p) q q),
            mul-le-mul_left (16 * (p * p)) past,
            mul-le 97 97 p p least least,
          ))
      | inr fine ↦ fine
    ]

step_behind : (p f g n m : ℕ) → f * f * m ≤ g * g * n → (4 * p + 8) * (4 * p + 8) ≤ 16 * m → n ≤ (p + 6) * (p + 6) → (4 * p + 8) * f ≤ 4 * ((p + 6) * g)
step_behind p f g n m h low most =
    root_le ((4 * p + 8) * f) (4 * ((p + 6) * g)) (omega (arith, mul-le-mul_left 16 h, mul-le-mul_left (f * f) low, mul-le-mul_left (16 * (g * g)) most))

line_strict_behind : (p t f g n m B : ℕ) → g + t ≡ f → f * f * m ≤ g * g * n → (4 * p + 8) * (4 * p + 8) ≤ 16 * m → n ≤ (p + 6) * (p + 6) → f * f ≤ B * n → t * t ≤ 16 * B
line_strict_behind p t f g n m B e h low most fit =
    let s : (p + 6) * t ≤ 4 * f = omega (arith, step_behind p f g n m h low most, ap (λ x. (p + 6) * x) e) in
    elim (cases_lt (16 * B) (t * t)) [
      | inl past ↦ absurd (omega (arith, mul-le ((p + 6) * t) ((p + 6) * t) (4 * f) (4 * f) s s, mul-le-mul_left 16 fit, mul-le-mul_left (16 * B) most, mul-le-mul_left ((p + 6) * (p + 6)) past))
      | inr fine ↦ fine
    ]

-- ---- the law with half a unit of give: u and v bound the lengths
step_give : (u v f g n m : ℕ) → 2 * (g * g * n) ≤ 2 * (f * f * m) + g * g → 2 * (u * u) + 1 ≤ 2 * n → m ≤ v * v → u * g ≤ v * f
step_give u v f g n m h low high = root_le (u * g) (v * f) (omega (arith, h, mul-le-mul_left (g * g) low, mul-le-mul_left (f * f) high))

-- by c units of the axis
give_units : (u t f n B c d : ℕ) → u * t ≤ c * f → f * f ≤ B * n → n ≤ d * d → c * d ≤ 6 * u → 0 < u → t * t ≤ 36 * B
give_units u t f n B c d h fit most e some = elim (cases_lt (36 * B) (t * t)) [
  | inl past ↦
      absurd (omega (
        arith,
        mul-le (u * t) (u * t) (c * f) (c * f) h h,
        mul-le-mul_left (c * c) fit,
        mul-le-mul_left (c * c * B) most,
        mul-le-mul_left B (mul-le (c * d) (c * d) (6 * u) (6 * u) e e),
        mul-le-mul_left (u * u) past,
        mul-lt 0 0 u u some some,
      ))
  | inr fine ↦ fine
]

-- ---- with signs: a is the part of the first along the axis less that of the second
at_least_back : (t c B : ℕ) (z : ℤ) → unsigned_abs z ≡ t → t * t ≤ suc c * suc c * B → AtLeast z (negsuc c) B
at_least_back t c B (pos k) e h = tt
at_least_back t c B (negsuc k) e h = omega (arith, subst (λ n. n * n ≤ suc c * suc c * B) (sym e) h)

at_least_ahead : (z : ℤ) (c B : ℕ) → pos 0 ≤ℤ z → AtLeast z (negsuc c) B
at_least_ahead (pos k) c B h = tt
at_least_ahead (negsuc k) c B h = absurd (omega (arith, ints, h))

pub record SecondRounded (p n m : ℕ) : Type 0 where
  pub least : 97 ≤ p
  pub low : p * p ≤ n
  pub high : n ≤ (p + 6) * (p + 6)
  pub end_low : 2 * ((p + 3) * (p + 3)) ≤ 2 * m + 3 * (p + 3)
  pub end_high : 2 * m ≤ 2 * ((p + 3) * (p + 3)) + 3 * (p + 3)

strict_low : (p n m : ℕ) → SecondRounded p n m → (4 * p + 8) * (4 * p + 8) ≤ 16 * m
strict_low p n m is = omega (arith, is.end_low, is.least)

strict_high : (p n m : ℕ) → SecondRounded p n m → 16 * m ≤ (4 * p + 15) * (4 * p + 15)
strict_high p n m is = omega (arith, is.end_high)

pub line_step : (p B n m : ℕ) (f g : ℤ) → SecondRounded p n m → unsigned_abs f * unsigned_abs f ≤ B * n → IsFarther f n g m → AtLeast (f -ℤ g) (negsuc 3) B
line_step p B n m (pos f) (pos g) is fit far = elim (cases_lt f g) [
  | inl less ↦
      at_least_back (g - f) 3 B (pos f -ℤ pos g) (omega (arith, ints)) (omega (arith, line_strict p (g - f) f g n m B (omega arith) far (strict_high p n m is) is.low is.high fit is.least))
  | inr past ↦ at_least_ahead (pos f -ℤ pos g) 3 B (omega (arith, ints))
]
line_step p B n m (pos f) (negsuc g) is fit far = at_least_ahead (pos f -ℤ negsuc g) 3 B (omega (arith, ints))
line_step p B n m (negsuc f) (pos g) is fit far = absurd far
line_step p B n m (negsuc f) (negsuc g) is fit far = elim (cases_lt g f) [
  | inl less ↦
      at_least_back (f - g) 3 B (negsuc f -ℤ negsuc g) (omega (arith, ints)) (omega (arith, line_strict_behind p (f - g) (suc f) (suc g) n m B (omega arith) far (strict_low p n m is) is.high fit))
  | inr past ↦ at_least_ahead (negsuc f -ℤ negsuc g) 3 B (omega (arith, ints))
]

-- one of the two at most a unit from the circle, the other at most three: u + 4 or 5 and so on
pub record OneOnCircle (p n m : ℕ) : Type 0 where
  pub least : 97 ≤ p
  pub low : p * p ≤ n
  pub high : n ≤ (p + 6) * (p + 6)
  pub end_low : p * p ≤ m
  pub end_high : m ≤ (p + 6) * (p + 6)
  pub one : ((n ≤ (p + 4) * (p + 4)) × ((p + 2) * (p + 2) ≤ n)) ⊎ ((m ≤ (p + 4) * (p + 4)) × ((p + 2) * (p + 2) ≤ m))

give_parts : (p n m : ℕ) → OneOnCircle p n m → (u : ℕ) × (2 * (u * u) + 1 ≤ 2 * n) × (m ≤ (u + 5) * (u + 5)) × (5 * (p + 6) ≤ 6 * u) × (0 < u)
give_parts p n m is = elim is.one [
  | inl near ↦ (p + 1, omega (arith, near.1), omega (arith, is.end_high), omega (arith, is.least), omega arith)
  | inr near ↦ (p - 1, omega (arith, is.low, is.least, square_less p is.least), omega (arith, subst_up p m is.least near.0), omega (arith, is.least), omega (arith, is.least))
]
  where
    square_at : (q p : ℕ) → q + 1 ≡ p → 97 ≤ p → 2 * (q * q) + 1 ≤ 2 * (p * p)
    square_at q p e h = omega (arith, ap (λ x. x * x) e, e, h)

    square_less : (p : ℕ) → 97 ≤ p → 2 * ((p - 1) * (p - 1)) + 1 ≤ 2 * (p * p)
    square_less p h = square_at (p - 1) p (omega (arith, h)) h

    subst_up : (p m : ℕ) → 97 ≤ p → m ≤ (p + 4) * (p + 4) → m ≤ (p - 1 + 5) * (p - 1 + 5)
    subst_up p m h le = subst (λ x. m ≤ x * x) (omega (arith, h)) le

-- the same the other way round
pub other_way : (p n m : ℕ) → OneOnCircle p n m → OneOnCircle p m n
other_way p n m is = record { least = is.least; low = is.end_low; high = is.end_high; end_low = is.low; end_high = is.high; one = elim is.one [ inl near ↦ inr near | inr near ↦ inl near ] }

-- u t at most 5 f
less_by : (u t f g : ℕ) → f + t ≡ g → u * g ≤ (u + 5) * f → u * t ≤ 5 * f
less_by u t f g e h = omega (arith, h, ap (λ x. u * x) e)

pub line_give : (p B n m : ℕ) (f g : ℤ) → OneOnCircle p n m → unsigned_abs f * unsigned_abs f ≤ B * n → unsigned_abs g * unsigned_abs g ≤ B * m → IsHardlyNearer f n g m → AtLeast (f -ℤ g) (negsuc 5) B
line_give p B n m (pos f) (pos g) is fit end far = elim (cases_lt f g) [
  | inl less ↦
      let w = give_parts p n m is in
      at_least_back (g - f) 5 B (pos f -ℤ pos g) (omega (arith, ints))
      (omega (arith, give_units w.0 (g - f) f n B 5 (p + 6) (less_by w.0 (g - f) f g (omega arith) (step_give w.0 (w.0 + 5) f g n m far w.1 w.2)) fit is.high w.3 w.4))
  | inr past ↦ at_least_ahead (pos f -ℤ pos g) 5 B (omega (arith, ints))
]
line_give p B n m (pos f) (negsuc g) is fit end far = at_least_ahead (pos f -ℤ negsuc g) 5 B (omega (arith, ints))
line_give p B n m (negsuc f) (pos g) is fit end far = absurd far
line_give p B n m (negsuc f) (negsuc g) is fit end far = elim (cases_lt g f) [
  | inl less ↦
      let w = give_parts p m n (other_way p n m is) in
      at_least_back (f - g) 5 B (negsuc f -ℤ negsuc g) (omega (arith, ints))
      (omega (arith, give_units w.0 (f - g) (suc g) m B 5 (p + 6) (less_by w.0 (f - g) (suc g) (suc f) (omega arith) (step_give w.0 (w.0 + 5) (suc g) (suc f) m n far w.1 w.2)) end is.end_high w.3 w.4))
  | inr past ↦ at_least_ahead (negsuc f -ℤ negsuc g) 5 B (omega (arith, ints))
]
