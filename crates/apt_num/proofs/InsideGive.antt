-- Within a circle about a point, with half a unit of give: the second ends at most six units further from the point. The letters are those of the page for the strict law.
use Rattle.std.proofs.Common.{refl, ◌≡◌, inl, inr, ℕ, suc, ◌+◌, ◌-◌, ◌*◌, ◌≤◌, ◌<◌, ap, arith, ℤ, pos, negsuc, ◌+ℤ◌, unsigned_abs}
use Rattle.std.proofs.Math.Nat.{mul-le-mul_left}
use Rattle.std.proofs.lemmas.Nat.{mul-le}
use Rattle.std.proofs.lemmas.Bool.{cases_lt}
use Rattle.apt_num.proofs.Squares.{four_le, root_le, cancel_le}
use Rattle.apt_num.proofs.Farther.{IsHardlyNearer}
use Rattle.apt_num.proofs.LineSteps.{OneOnCircle, other_way}
use Rattle.apt_num.proofs.InsideSteps.{IsSeen, ahead_is, behind_is, some_long, size_ahead, size_below}

-- k + 1 is twice n
up_give : (f g n m k : ℕ) → k + 1 ≡ 2 * n → 2 * (g * g * n) ≤ 2 * (f * f * m) + g * g → k * g ≤ f * (n + m)
up_give f g n m k e h =
    let step : k * (g * g) ≤ 2 * (f * f * m) = omega (arith, h, ap (λ x. g * g * x) e) in
    root_le (k * g) (f * (n + m)) (omega (arith, mul-le-mul_left k step, ap (λ x. f * f * m * x) e, mul-le-mul_left (f * f) (four_le n m)))

down_give : (f g n m k : ℕ) → k + 1 ≡ 2 * m → 2 * (f * f * m) ≤ 2 * (g * g * n) + f * f → k * f ≤ (n + m) * g
down_give f g n m k e h =
    let step : k * (f * f) ≤ 2 * (g * g * n) = omega (arith, h, ap (λ x. f * f * x) e) in
    root_le (k * f) ((n + m) * g) (omega (arith, mul-le-mul_left k step, ap (λ x. g * g * n * x) e, mul-le-mul_left (g * g) (four_le n m)))

inside_give : (p t h l k S : ℕ) → t ≤ 8 * p + 32 → 2 * (p * p) ≤ k → h ≤ (p + 6) * S → l + l ≤ 2 * k + 2 * ((p + 6) * S) → 97 ≤ p → 1 ≤ S → t * t + 2 * (t * h) + 2 * l ≤ k * (12 * S + 36)
inside_give p t h l k S tp kp hs ls lo s =
    omega (
      arith,
      mul-le t t (8 * p + 32) (8 * p + 32) tp tp,
      mul-le t h (8 * p + 32) ((p + 6) * S) tp hs,
      ls,
      mul-le-mul_left (12 * S + 36) kp,
      mul-le-mul_left S kp,
      kp,
      mul-le-mul_left p lo,
      mul-le-mul_left (p * S) lo,
      mul-le-mul_left S lo,
      mul-le-mul_left k s,
      lo,
      s,
    )

-- ---- with half a unit of give
up_give_longer : (p n t f g G D E S k : ℕ) → k + 1 ≡ 2 * n → D ≡ n + G + 2 * f → E ≤ n + t + G + 2 * g → k * g ≤ f * (n + (n + t)) → (n + f) * (n + f) ≤ n * D → D ≤ S * S → t + 1 ≤ 9 * p → p * p ≤ n → 97 ≤ p → 1 ≤ S
    → E ≤ (S + 6) * (S + 6)
up_give_longer p n t f g G D E S k same d e up fit inside tp low least s =
    let th : (t + 1) * (n + f) ≤ 9 * (n * S) =
    root_le ((t + 1) * (n + f)) (9 * (n * S))
    (omega (arith, mul-le-mul_left ((n + f) * (n + f)) (mul-le (t + 1) (t + 1) (9 * p) (9 * p) tp tp), mul-le-mul_left (81 * ((n + f) * (n + f))) low, mul-le-mul_left (81 * n) fit, mul-le-mul_left (81 * (n * n)) inside)) in
    let some : 97 * 97 ≤ n = omega (arith, low, mul-le 97 97 p p least least) in
    let grown : k * E ≤ k * (S * S + 12 * S) =
    omega (arith, mul-le-mul_left k e, up, th, ap (λ x. k * x) d, mul-le-mul_left k inside, ap (λ x. x * f) same, ap (λ x. x * t) same, ap (λ x. x * S) same, mul-le-mul_left S some) in
    omega (arith, cancel_le k E (S * S + 12 * S) (omega (arith, same, some)) grown)

up_give_shorter : (m t f g G D E k : ℕ) → k + 1 ≡ 2 * (m + t) → 1 ≤ t → D ≡ m + t + G + 2 * f → E ≤ m + G + 2 * g → k * g ≤ f * (m + t + m) → 0 < m → E ≤ D
up_give_shorter m t f g G D E k same more d e up some =
    cancel_le k E D (omega (arith, same, more)) (omega (arith, mul-le-mul_left k e, up, ap (λ x. k * x) d, ap (λ x. x * f) same, ap (λ x. x * t) same, mul-le-mul_left f more, mul-le-mul_left k more))

-- l + 1 is twice m
down_give_grows : (n m f g G D E k l : ℕ) → l + 1 ≡ 2 * m → D + 2 * f ≡ n + G → E + 2 * g ≡ m + G → l * f ≤ (n + m) * g → k ≡ n + m → k * E + 4 * (m * f) ≤ k * m + k * G + 2 * f
down_give_grows n m f g G D E k l twice d e down same = omega (arith, ap (λ x. k * x) e, mul-le-mul_left 2 down, ap (λ x. g * x) same, ap (λ x. f * x) twice)

down_give_longer : (p n t f g G D E S h l : ℕ) → l + 1 ≡ 2 * (n + t) → D + 2 * f ≡ n + G → E + 2 * g ≡ n + t + G → l * f ≤ (n + (n + t)) * g → n ≤ f + h → f ≤ n + h → h ≤ (p + 6) * S → D ≤ S * S
    → t ≤ 8 * p + 32 → p * p ≤ n → 97 ≤ p → 1 ≤ S → E ≤ (S + 6) * (S + 6)
down_give_longer p n t f g G D E S h l twice d e down below above fit inside tp low least s =
    let k = n + (n + t) in
    let short : t * t + 2 * (t * h) + 2 * f ≤ k * (12 * S + 36) = inside_give p t h f k S tp (omega (arith, low)) fit (omega (arith, above, fit)) least s in
    let some : 0 < k = omega (arith, some_long p n low least) in
    let step = down_give_grows n (n + t) f g G D E k l twice d e down refl in
    let grown : k * E ≤ k * (S * S + (12 * S + 36)) = omega (arith, step, ap (λ x. k * x) d, mul-le-mul_left t below, short, mul-le-mul_left k inside) in
    omega (arith, cancel_le k E (S * S + (12 * S + 36)) some grown)

down_give_shorter : (p m t f g G D E S h l : ℕ) → l + 1 ≡ 2 * m → D + 2 * f ≡ m + t + G → E + 2 * g ≡ m + G → l * f ≤ (m + t + m) * g → f ≤ m + t + h → h ≤ (p + 6) * S → D ≤ S * S
    → t ≤ 8 * p + 32 → p * p ≤ m → 97 ≤ p → 1 ≤ S → E ≤ (S + 6) * (S + 6)
down_give_shorter p m t f g G D E S h l twice d e down above fit inside tp low least s =
    let n = m + t in
    let k = n + m in
    let short : t * t + 2 * (t * h) + 2 * f ≤ k * (12 * S + 36) = inside_give p t h f k S tp (omega (arith, low)) fit (omega (arith, above, fit)) least s in
    let some : 0 < k = omega (arith, some_long p m low least) in
    let step = down_give_grows n m f g G D E k l twice d e down refl in
    let grown : k * E ≤ k * (S * S + (12 * S + 36)) = omega (arith, step, ap (λ x. k * x) d, mul-le-mul_left t above, short, mul-le-mul_left k inside) in
    omega (arith, cancel_le k E (S * S + (12 * S + 36)) some grown)

give_gap : (p n m t : ℕ) → n + t ≡ m → OneOnCircle p n m → t ≤ 8 * p + 32
give_gap p n m t e is = elim is.one [ inl near ↦ omega (arith, e, near.1, is.end_high) | inr near ↦ omega (arith, e, near.0, is.low) ]

twice_less : (n : ℕ) → 0 < n → 2 * n - 1 + 1 ≡ 2 * n
twice_less n some = omega (arith, some)

up_give_case : (p n m f g G D E S k : ℕ) → OneOnCircle p n m → k + 1 ≡ 2 * n → D ≡ n + G + 2 * f → E ≤ m + G + 2 * g → k * g ≤ f * (n + m) → (n + f) * (n + f) ≤ n * D → D ≤ S * S → 1 ≤ S → E ≤ (S + 6) * (S + 6)
up_give_case p n m f g G D E S k is twice d e up fit inside s = elim (cases_lt m n) [
  | inl less ↦ omega (arith, back_at (n - m) (omega arith) (omega arith), inside)
  | inr past ↦ up_at (m - n) (omega arith)
]
  where
    up_at : (t : ℕ) → n + t ≡ m → E ≤ (S + 6) * (S + 6)
    up_at t same =
        up_give_longer p n t f g G D E S k twice d (omega (arith, e, same)) (omega (arith, up, ap (λ x. f * x) same)) fit inside (omega (arith, give_gap p n m t same is, is.least)) is.low is.least s

    back_at : (t : ℕ) → m + t ≡ n → 1 ≤ t → E ≤ D
    back_at t same more =
        up_give_shorter m t f g G D E k (omega (arith, twice, same)) more (omega (arith, d, same)) e (omega (arith, up, ap (λ x. f * x) same)) (some_long p m is.end_low is.least)

down_give_case : (p n m f g G D E S h l : ℕ) → OneOnCircle p n m → l + 1 ≡ 2 * m → D + 2 * f ≡ n + G → E + 2 * g ≡ m + G → l * f ≤ (n + m) * g → n ≤ f + h → f ≤ n + h → h ≤ (p + 6) * S → D ≤ S * S → 1 ≤ S
    → E ≤ (S + 6) * (S + 6)
down_give_case p n m f g G D E S h l is twice d e down below above fit inside s = elim (cases_lt n m) [ inl less ↦ down_at (m - n) (omega arith) | inr past ↦ back_at (n - m) (omega arith) ]
  where
    down_at : (t : ℕ) → n + t ≡ m → E ≤ (S + 6) * (S + 6)
    down_at t same =
        down_give_longer p n t f g G D E S h l (omega (arith, twice, same)) d (omega (arith, e, same)) (omega (arith, down, ap (λ x. g * x) same)) below above fit inside (give_gap p n m t same is) is.low is.least s

    back_at : (t : ℕ) → m + t ≡ n → E ≤ (S + 6) * (S + 6)
    back_at t same =
        down_give_shorter p m t f g G D E S h l twice (omega (arith, d, same)) e (omega (arith, down, ap (λ x. g * x) same)) (omega (arith, above, same)) fit inside (give_gap p m n t same (other_way p n m is)) is.end_low is.least s

part_short : (p n D S h : ℕ) → h * h ≤ n * D → D ≤ S * S → n ≤ (p + 6) * (p + 6) → h ≤ (p + 6) * S
part_short p n D S h fit inside high = root_le h ((p + 6) * S) (omega (arith, fit, mul-le-mul_left n inside, mul-le-mul_left (S * S) high))

pub inside_give_step : (p n m G D E S : ℕ) (f g : ℤ) → OneOnCircle p n m → IsSeen n m G D E f g → IsHardlyNearer f n g m → D ≤ S * S → 1 ≤ S → E ≤ (S + 6) * (S + 6)
inside_give_step p n m G D E S (pos f) (pos g) is seen far inside s =
    let twice = twice_less n (some_long p n is.low is.least) in
    up_give_case p n m f g G D E S (2 * n - 1) is twice (ahead_is n G D f seen.first) (omega (arith, ahead_is m G E g seen.second)) (up_give f g n m (2 * n - 1) twice far) (size_ahead n f D seen.part) inside s
inside_give_step p n m G D E S (pos f) (negsuc g) is seen far inside s =
    up_give_case p n m f 0 G D E S (2 * n - 1) is (twice_less n (some_long p n is.low is.least)) (ahead_is n G D f seen.first) (omega (arith, behind_is m G E g seen.second)) (omega arith) (size_ahead n f D seen.part) inside s
inside_give_step p n m G D E S (negsuc f) (pos g) is seen far inside s = absurd far
inside_give_step p n m G D E S (negsuc f) (negsuc g) is seen far inside s =
    let sizes = size_below n f in
    let h = unsigned_abs (pos n +ℤ negsuc f) in
    let twice = twice_less m (some_long p m is.end_low is.least) in
    down_give_case p n m (suc f) (suc g) G D E S h (2 * m - 1) is twice (behind_is n G D f seen.first) (behind_is m G E g seen.second) (down_give (suc f) (suc g) n m (2 * m - 1) twice far) sizes.0 sizes.1
    (part_short p n D S h seen.part inside is.high) inside s
