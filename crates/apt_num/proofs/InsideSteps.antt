-- Within a circle about a point: a way that is hardly nearer to the axis than another does not end much further from the point. The axis leads away from the point, G is the square of its length; D and E are the squares of the distances of the two ends from the point; p is three units less than the radius.
use Rattle.std.proofs.Common.{refl, ◌≡◌, inl, inr, ℕ, suc, ◌+◌, ◌-◌, ◌*◌, ◌≤◌, ◌<◌, ap, arith, ℤ, pos, negsuc, ◌+ℤ◌, ◌*ℤ◌, unsigned_abs}
use Rattle.std.proofs.Math.Nat.{mul-le-mul_left}
use Rattle.std.proofs.lemmas.Nat.{mul-le}
use Rattle.std.proofs.lemmas.Int.{ints}
use Rattle.std.proofs.lemmas.Bool.{cases_lt}
use Rattle.apt_num.proofs.Squares.{four_le, root_le, cancel_le}
use Rattle.apt_num.proofs.Farther.{IsFarther}
use Rattle.apt_num.proofs.LineSteps.{SecondRounded}

-- ---- the part along the axis, of a first on its side and of a first behind it
up_strict : (f g n m : ℕ) → g * g * n ≤ f * f * m → 2 * (n * g) ≤ f * (n + m)
up_strict f g n m h = root_le (2 * (n * g)) (f * (n + m)) (omega (arith, mul-le-mul_left (4 * n) h, mul-le-mul_left (f * f) (four_le n m)))

down_strict : (f g n m : ℕ) → f * f * m ≤ g * g * n → 2 * (m * f) ≤ (n + m) * g
down_strict f g n m h = root_le (2 * (m * f)) ((n + m) * g) (omega (arith, mul-le-mul_left (4 * m) h, mul-le-mul_left (g * g) (four_le n m)))

-- ---- sizes: t is the difference of the squares of the lengths, h the size of the first's part from the point
inside_up : (p t h n S : ℕ) → t ≤ 8 * p → p * p ≤ n → h * h ≤ n * (S * S) → t * h ≤ 8 * (n * S)
inside_up p t h n S tp pn hs =
    root_le (t * h) (8 * (n * S)) (omega (arith, mul-le-mul_left (h * h) (mul-le t t (8 * p) (8 * p) tp tp), mul-le-mul_left (64 * (h * h)) pn, mul-le-mul_left (64 * n) hs))

inside_low : (p t h n S k : ℕ) → 10 * t ≤ 77 * p → p * p ≤ n → h * h ≤ n * (S * S) → 2 * n ≤ k → 66 ≤ S → t * t + 2 * (t * h) ≤ k * (8 * S + 16)
inside_low p t h n S k tp pn hs kn s =
    let sq_t : 100 * (t * t) ≤ 5929 * n = omega (arith, mul-le (10 * t) (10 * t) (77 * p) (77 * p) tp tp, pn) in
    let th : 10 * (t * h) ≤ 77 * (n * S) = root_le (10 * (t * h)) (77 * (n * S)) (omega (arith, mul-le-mul_left (h * h) sq_t, mul-le-mul_left (5929 * n) hs)) in
    omega (arith, sq_t, th, mul-le-mul_left S kn, kn, mul-le-mul_left n s)

inside_high : (t h n S k : ℕ) → 4 * (t * t) ≤ 225 * n → h * h ≤ n * (S * S) → 77 * n ≤ 40 * k → 66 ≤ S → t * t + 2 * (t * h) ≤ k * (8 * S + 16)
inside_high t h n S k sq_t hs kn s =
    let th : 2 * (t * h) ≤ 15 * (n * S) = root_le (2 * (t * h)) (15 * (n * S)) (omega (arith, mul-le-mul_left (h * h) sq_t, mul-le-mul_left (225 * n) hs)) in
    omega (arith, sq_t, th, mul-le-mul_left S kn, kn, mul-le-mul_left n s)

-- ---- a first on the axis's side: D ≡ n + G + 2 f, E at most m + G + 2 g
up_longer : (p n t f g G D E S : ℕ) → D ≡ n + G + 2 * f → E ≤ n + t + G + 2 * g → 2 * (n * g) ≤ f * (n + (n + t)) → (n + f) * (n + f) ≤ n * D → D ≤ S * S → t ≤ 8 * p → p * p ≤ n → 97 ≤ p
    → E ≤ (S + 4) * (S + 4)
up_longer p n t f g G D E S d e up fit inside tp low least =
    let th : t * (n + f) ≤ 8 * (n * S) = inside_up p t (n + f) n S tp low (omega (arith, fit, mul-le-mul_left n inside)) in
    let some : 0 < n = omega (arith, low, mul-le-mul_left p least, least) in
    let grown : n * E ≤ n * (S * S + 8 * S) = omega (arith, mul-le-mul_left n e, up, th, ap (λ x. n * x) d, mul-le-mul_left n inside) in
    omega (arith, cancel_le n E (S * S + 8 * S) some grown)

up_shorter : (m t f g G D E : ℕ) → D ≡ m + t + G + 2 * f → E ≤ m + G + 2 * g → 2 * ((m + t) * g) ≤ f * (m + t + m) → 0 < m + t → E ≤ D
up_shorter m t f g G D E d e up some = cancel_le (m + t) E D some (omega (arith, mul-le-mul_left (m + t) e, up, ap (λ x. (m + t) * x) d))

-- ---- a first behind it: D + 2 f ≡ n + G
down_grows : (n m f g G D E k : ℕ) → D + 2 * f ≡ n + G → E + 2 * g ≡ m + G → 2 * (m * f) ≤ (n + m) * g → k ≡ n + m → k * E + 4 * (m * f) ≤ k * m + k * G
down_grows n m f g G D E k d e down same = omega (arith, ap (λ x. k * x) e, mul-le-mul_left 2 down, ap (λ x. g * x) same)

down_longer : (p n t f g G D E S h : ℕ) → D + 2 * f ≡ n + G → E + 2 * g ≡ n + t + G → 2 * ((n + t) * f) ≤ (n + (n + t)) * g → n ≤ f + h → h * h ≤ n * D → D ≤ S * S
    → 10 * t ≤ 77 * p → p * p ≤ n → 97 ≤ p → 66 ≤ S → E ≤ (S + 4) * (S + 4)
down_longer p n t f g G D E S h d e down near fit inside tp low least s =
    let k = n + (n + t) in
    let short : t * t + 2 * (t * h) ≤ k * (8 * S + 16) = inside_low p t h n S k tp low (omega (arith, fit, mul-le-mul_left n inside)) (omega arith) s in
    let some : 0 < k = omega (arith, low, mul-le-mul_left p least, least) in
    let step = down_grows n (n + t) f g G D E k d e down refl in
    let grown : k * E ≤ k * (S * S + (8 * S + 16)) = omega (arith, step, ap (λ x. k * x) d, mul-le-mul_left t near, short, mul-le-mul_left k inside) in
    omega (arith, cancel_le k E (S * S + (8 * S + 16)) some grown)

down_shorter : (m t f g G D E S h : ℕ) → D + 2 * f ≡ m + t + G → E + 2 * g ≡ m + G → 2 * (m * f) ≤ (m + t + m) * g → f ≤ m + t + h → h * h ≤ (m + t) * D → D ≤ S * S
    → 4 * (t * t) ≤ 225 * (m + t) → 77 * (m + t) ≤ 40 * (m + t + m) → 0 < m + t → 66 ≤ S → E ≤ (S + 4) * (S + 4)
down_shorter m t f g G D E S h d e down near fit inside tp kn some s =
    let n = m + t in
    let k = n + m in
    let short : t * t + 2 * (t * h) ≤ k * (8 * S + 16) = inside_high t h n S k tp (omega (arith, fit, mul-le-mul_left n inside)) kn s in
    let step = down_grows n m f g G D E k d e down refl in
    let grown : k * E ≤ k * (S * S + (8 * S + 16)) = omega (arith, step, ap (λ x. k * x) d, mul-le-mul_left t near, short, mul-le-mul_left k inside) in
    omega (arith, cancel_le k E (S * S + (8 * S + 16)) (omega (arith, some)) grown)

-- ---- with signs
-- the squares of the distances, and the first's part from the point
pub record IsSeen (n m G D E : ℕ) (f g : ℤ) : Type 0 where
  pub first : pos D ≡ (pos n +ℤ pos G) +ℤ (pos 2 *ℤ f)
  pub second : pos E ≡ (pos m +ℤ pos G) +ℤ (pos 2 *ℤ g)
  pub part : unsigned_abs (pos n +ℤ f) * unsigned_abs (pos n +ℤ f) ≤ n * D

pub ahead_is : (n G D f : ℕ) → pos D ≡ (pos n +ℤ pos G) +ℤ (pos 2 *ℤ pos f) → D ≡ n + G + 2 * f
ahead_is n G D f e = omega (arith, ints, e)

pub behind_is : (n G D f : ℕ) → pos D ≡ (pos n +ℤ pos G) +ℤ (pos 2 *ℤ negsuc f) → D + 2 * suc f ≡ n + G
behind_is n G D f e = omega (arith, ints, e)

strict_longer : (p n m t : ℕ) → n + t ≡ m → SecondRounded p n m → (t ≤ 8 * p) × (10 * t ≤ 77 * p)
strict_longer p n m t e is = (omega (arith, e, is.low, is.end_high, is.least), omega (arith, e, is.low, is.end_high, is.least))

strict_shorter : (p n m t : ℕ) → m + t ≡ n → SecondRounded p n m → (4 * (t * t) ≤ 225 * (m + t)) × (77 * (m + t) ≤ 40 * (m + t + m))
strict_shorter p n m t e is =
    let most : 2 * t ≤ 15 * p + 63 = omega (arith, e, is.high, is.end_low) in (
      omega (arith, is.end_low, mul-le-mul_left (2 * t) most, mul-le-mul_left p most, is.least),
      omega (arith, e, is.end_low, most, mul-le-mul_left p is.least, is.least),
    )

pub some_long : (p n : ℕ) → p * p ≤ n → 97 ≤ p → 0 < n
some_long p n h least = omega (arith, h, mul-le-mul_left p least, least)

up_case : (p n m f g G D E S : ℕ) → SecondRounded p n m → D ≡ n + G + 2 * f → E ≤ m + G + 2 * g → 2 * (n * g) ≤ f * (n + m) → (n + f) * (n + f) ≤ n * D → D ≤ S * S → E ≤ (S + 4) * (S + 4)
up_case p n m f g G D E S is d e up fit inside = elim (cases_lt n m) [
  | inl less ↦ up_at (m - n) (omega arith)
  | inr past ↦ omega (arith, back_at (n - m) (omega arith), inside)
]
  where
    up_at : (t : ℕ) → n + t ≡ m → E ≤ (S + 4) * (S + 4)
    up_at t same = up_longer p n t f g G D E S d (omega (arith, e, same)) (omega (arith, up, ap (λ x. f * x) same)) fit inside (strict_longer p n m t same is).0 is.low is.least

    back_at : (t : ℕ) → m + t ≡ n → E ≤ D
    back_at t same = up_shorter m t f g G D E (omega (arith, d, same)) e (omega (arith, up, ap (λ x. g * x) same, ap (λ x. f * x) same)) (omega (arith, same, some_long p n is.low is.least))

down_case : (p n m f g G D E S h : ℕ) → SecondRounded p n m → D + 2 * f ≡ n + G → E + 2 * g ≡ m + G → 2 * (m * f) ≤ (n + m) * g → n ≤ f + h → f ≤ n + h → h * h ≤ n * D → D ≤ S * S → 66 ≤ S
    → E ≤ (S + 4) * (S + 4)
down_case p n m f g G D E S h is d e down below above fit inside s = elim (cases_lt n m) [ inl less ↦ down_at (m - n) (omega arith) | inr past ↦ back_at (n - m) (omega arith) ]
  where
    down_at : (t : ℕ) → n + t ≡ m → E ≤ (S + 4) * (S + 4)
    down_at t same =
        down_longer p n t f g G D E S h d (omega (arith, e, same)) (omega (arith, down, ap (λ x. f * x) same, ap (λ x. g * x) same)) below fit inside (strict_longer p n m t same is).1 is.low is.least s

    back_at : (t : ℕ) → m + t ≡ n → E ≤ (S + 4) * (S + 4)
    back_at t same =
        let sizes = strict_shorter p n m t same is in
        down_shorter m t f g G D E S h (omega (arith, d, same)) e (omega (arith, down, ap (λ x. g * x) same)) (omega (arith, above, same)) (omega (arith, fit, ap (λ x. D * x) same)) inside sizes.0 sizes.1
        (omega (arith, same, some_long p n is.low is.least)) s

pub size_ahead : (n f D : ℕ) → unsigned_abs (pos n +ℤ pos f) * unsigned_abs (pos n +ℤ pos f) ≤ n * D → (n + f) * (n + f) ≤ n * D
size_ahead n f D h = h

pub size_below : (n f : ℕ) → (n ≤ suc f + unsigned_abs (pos n +ℤ negsuc f)) × (suc f ≤ n + unsigned_abs (pos n +ℤ negsuc f))
size_below n f = (omega (arith, ints), omega (arith, ints))

pub inside_step : (p n m G D E S : ℕ) (f g : ℤ) → SecondRounded p n m → IsSeen n m G D E f g → IsFarther f n g m → D ≤ S * S → 66 ≤ S → E ≤ (S + 4) * (S + 4)
inside_step p n m G D E S (pos f) (pos g) is seen far inside s =
    up_case p n m f g G D E S is (ahead_is n G D f seen.first) (omega (arith, ahead_is m G E g seen.second)) (up_strict f g n m far) (size_ahead n f D seen.part) inside
inside_step p n m G D E S (pos f) (negsuc g) is seen far inside s =
    up_case p n m f 0 G D E S is (ahead_is n G D f seen.first) (omega (arith, behind_is m G E g seen.second)) (omega arith) (size_ahead n f D seen.part) inside
inside_step p n m G D E S (negsuc f) (pos g) is seen far inside s = absurd far
inside_step p n m G D E S (negsuc f) (negsuc g) is seen far inside s =
    let sizes = size_below n f in
    down_case p n m (suc f) (suc g) G D E S (unsigned_abs (pos n +ℤ negsuc f)) is (behind_is n G D f seen.first) (behind_is m G E g seen.second) (down_strict (suc f) (suc g) n m far) sizes.0 sizes.1 seen.part inside s
