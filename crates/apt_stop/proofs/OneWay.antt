-- An end that lies in the direction of the start, as seen from a centre, lies hardly away from it.
use Rattle.std.proofs.Common.{refl, ◌≡◌, ℕ, zero, suc, ◌+◌, ◌-◌, ◌*◌, ◌≤◌, ◌<◌, ap, ◌∙◌, arith, inl, inr, ℤ, pos, negsuc, ◌+ℤ◌, ◌*ℤ◌, ◌<ℤ◌, unsigned_abs}
use Rattle.std.proofs.Math.Nat.{mul-le-mul_left}
use Rattle.std.proofs.lemmas.Nat.{mul-le}
use Rattle.std.proofs.lemmas.Int.{ints}
use Rattle.std.proofs.lemmas.Bool.{cases_lt}
use Rattle.apt_num.specs.Sign.{sign_of}
use Rattle.apt_plane.specs.declared.figures.Pt.{Pt}
use Rattle.apt_plane.specs.declared.figures.Dir.{Dir}
use Rattle.apt_plane.specs.Ranges.{IsSense}
use Rattle.apt_plane.specs.Vectors.{displacement, cross, dot, length_squared}
use Rattle.apt_plane.specs.Order.{class_of, turn_class}
use Rattle.apt_plane.proofs.Displacements.{lagrange, cosines, dot_swap, back_length}
use Rattle.apt_stop.proofs.Sided.{no_turn}

-- two ways of one direction
pub record AreOneWay (s e : Dir) : Type 0 where
  pub across : cross s e ≡ pos 0
  pub along : pos 0 <ℤ dot s e

first_class : (x d : ℤ) → class_of (sign_of x) (sign_of d) ≡ 0 → (x ≡ pos 0) × (pos 0 <ℤ d)
first_class (pos zero) (pos zero) e = absurd cc
first_class (pos zero) (pos (suc d)) e = (refl, omega (arith, ints))
first_class (pos zero) (negsuc d) e = absurd cc
first_class (pos (suc x)) d e = absurd cc
first_class (negsuc x) d e = absurd cc

pub one_way : (s : Dir) (sense : ℤ) (e : Dir) → IsSense sense → turn_class s sense e ≡ 0 → AreOneWay s e
one_way s sense e is first =
    let both = first_class (sense *ℤ cross s e) (dot s e) first in
    record { across = no_turn sense (cross s e) is both.0; along = both.1 }

product_alone : (n m d c : ℕ) → n * m ≡ d * d + c * c → c ≡ 0 → n * m ≡ d * d
product_alone n m d c e f = omega (arith, rw f at e)

pub one_way-lengths : (s e : Dir) → AreOneWay s e → length_squared s * length_squared e ≡ unsigned_abs (dot s e) * unsigned_abs (dot s e)
one_way-lengths s e is = product_alone (length_squared s) (length_squared e) (unsigned_abs (dot s e)) (unsigned_abs (cross s e)) (lagrange s e) (ap unsigned_abs is.across)

-- ---- the start is at most 3 units off a circle about the centre o, and the end at most 1
pub record Rounds (o : Pt) (r : ℕ) (p q : Pt) : Type 0 where
  pub radius : 100 ≤ r
  pub start_least : (r - 3) * (r - 3) ≤ length_squared (displacement o p)
  pub start_most : length_squared (displacement o p) ≤ (r + 3) * (r + 3)
  pub end_least : (r - 1) * (r - 1) ≤ length_squared (displacement o q)
  pub end_most : length_squared (displacement o q) ≤ (r + 1) * (r + 1)

-- d is the dot product, m how much further away the end would be
too_far : (t g d m : ℕ) → (2 * d + 25 + m) * (2 * d + 25 + m) ≡ g * g + 4 * (d * d) → g ≤ 8 * t + 32 → 2 * (t * t) ≤ 2 * d + 25 + m → 97 ≤ t → 0 < m → ⊥
too_far t g d m h less least lo some =
    omega (arith, h, mul-le g g (8 * t + 32) (8 * t + 32) less less, mul-le-mul_left t lo, least, lo, some, mul-le-mul_left d some)

by_sum : (t g d n : ℕ) → n * n ≡ g * g + 4 * (d * d) → g ≤ 8 * t + 32 → 2 * (t * t) ≤ n → 97 ≤ t → n ≤ 2 * d + 25
by_sum t g d n h less least lo = elim (cases_lt (2 * d + 25) n) [
  | inl past ↦ absurd (too_far t g d (n - (2 * d + 25)) (ap (λ z. z * z) (omega arith) ∙ h) less (omega (arith, least)) lo (omega arith))
  | inr fine ↦ fine
]

by_greater : (t b g d : ℕ) → (b + g) * b ≡ d * d → g ≤ 8 * t + 32 → t * t ≤ b → 97 ≤ t → (b + g) + b ≤ 2 * d + 25
by_greater t b g d h less least lo = by_sum t g d ((b + g) + b) (omega (arith, h)) less (omega (arith, least)) lo

by_lengths : (t a b d : ℕ) → a * b ≡ d * d → t * t ≤ a → a ≤ (t + 6) * (t + 6) → (t + 2) * (t + 2) ≤ b → b ≤ (t + 4) * (t + 4) → 97 ≤ t → a + b ≤ 2 * d + 25
by_lengths t a b d h low high least most lo = elim (cases_lt a b) [
  | inl less ↦
      let split : a + (b - a) ≡ b = omega arith in
      let whole = by_greater t a (b - a) d (rw split (omega (arith, h))) (omega (arith, low, most)) low lo in
      omega (arith, whole, split)
  | inr past ↦
      let split : b + (a - b) ≡ a = omega arith in
      let whole = by_greater t b (a - b) d (rw split h) (omega (arith, high, least)) (omega (arith, least)) lo in
      omega (arith, whole, split)
]

short_way : (n a b : ℕ) (z : ℤ) → pos n +ℤ (pos 2 *ℤ z) ≡ pos a +ℤ pos b → pos 0 <ℤ z → a + b ≤ 2 * unsigned_abs z + 25 → n ≤ 25
short_way n a b (pos d) e ahead less = omega (arith, ints, e, less)
short_way n a b (negsuc d) e ahead less = absurd (omega (arith, ints, ahead))

pub hardly_away : (o : Pt) (r : ℕ) (p q : Pt) → Rounds o r p q → AreOneWay (displacement o p) (displacement o q) → length_squared (displacement p q) ≤ 25
hardly_away o r p q is way =
    let s = displacement o p in
    let e = displacement o q in
    let same_two : r - 3 + 2 ≡ r - 1 = omega (arith, is.radius) in
    let same_four : r - 3 + 4 ≡ r + 1 = omega (arith, is.radius) in
    let same_six : r - 3 + 6 ≡ r + 3 = omega (arith, is.radius) in
    let both = by_lengths (r - 3) (length_squared s) (length_squared e) (unsigned_abs (dot s e)) (one_way-lengths s e way) is.start_least (rw same_six is.start_most) (rw same_two is.end_least) (rw same_four is.end_most) (omega (arith, is.radius)) in
    short_way (length_squared (displacement p q)) (length_squared s) (length_squared e) (dot s e) (rw (back_length p o, dot_swap s e) (cosines p o q)) way.along both
