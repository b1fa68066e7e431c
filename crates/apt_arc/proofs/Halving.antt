-- The pieces of an arc in numbers: D is the square of the distance of the ends, U that of the length of the sum of the ways to them, Q the cross product of these ways, E the difference of the squares of their lengths.
use Rattle.std.proofs.Common.{◌≡◌, inl, inr, ℕ, zero, suc, ◌+◌, ◌*◌, ◌≤◌, ◌<◌, arith}
use Rattle.std.proofs.Math.Nat.{mul-le-mul_left}
use Rattle.std.proofs.lemmas.Nat.{mul-le, mul-lt}
use Rattle.std.proofs.lemmas.Bool.{cases_lt}
use Rattle.apt_num.proofs.Squares.{four_le}

-- ---- what is cut is long: q is the radius less the sag, t the sag less 3
constant : (q t : ℕ) → 5 ≤ t → 3 * t + 9 ≤ q → 4 * ((t + 3) * (q + t + 3)) ≤ 4 * (2 * (q * t) + t * t)
constant q t a b = omega (arith, mul-le-mul_left q a)

pub near_piece : (D A B X j k q t : ℕ) → j * k * D + X ≡ (j + k) * (k * A + j * B)
    → (q + t) * (q + t) ≤ A → (q + t) * (q + t) ≤ B → X < (j + k) * (j + k) * (q * q) → 5 ≤ t → 3 * t + 9 ≤ q
    → 4 * ((t + 3) * (q + t + 3)) < D
near_piece D A B X j k q t e a b n c d = elim (cases_lt (4 * ((t + 3) * (q + t + 3))) D) [
  | inl past ↦ past
  | inr small ↦
      absurd (omega (
        arith,
        mul-le-mul_left ((j + k) * k) a,
        mul-le-mul_left ((j + k) * j) b,
        mul-le-mul_left (j * k) small,
        mul-le-mul_left (j * k) (constant q t c d),
        mul-le-mul_left (2 * (q * t) + t * t) (four_le j k),
      ))
]

-- ---- and turns far: p is the radius less 3
pub across_core : (p U D Q E : ℕ) → U * D ≡ 4 * (Q * Q) + E * E → 2 * (p * p) ≤ U → E ≤ 12 * (p + 3) → 32 * (p + 3) < D → 97 ≤ p → 38 * (p + 3) ≤ Q
across_core p U D Q E h u e d lo = elim (cases_lt Q (38 * (p + 3))) [
  | inl small ↦
      absurd (omega (
        arith,
        h,
        mul-lt Q Q (38 * (p + 3)) (38 * (p + 3)) small small,
        mul-le E E (12 * (p + 3)) (12 * (p + 3)) e e,
        mul-le-mul_left D u,
        mul-le-mul_left (p * p) d,
        mul-le-mul_left (p * p) lo,
        mul-le-mul_left p lo,
      ))
  | inr big ↦ big
]

-- ---- the point half way: X along the sum of the ways to the ends, Y across it, M the square of its distance
steep_square : (U M X Y r : ℕ) → U * M ≡ X * X + Y * Y → 2 * (Y * Y) ≤ U → 2 * (r * r) ≤ 2 * M + 3 * r → 100 ≤ r → X ≤ r * Y → Y * Y ≤ 0
steep_square U M X Y r e short radius least past = elim (cases_lt 0 (Y * Y)) [
  | inl some ↦
      absurd (omega (
        arith,
        e,
        mul-le-mul_left M short,
        mul-le-mul_left (Y * Y) radius,
        mul-le X X (r * Y) (r * Y) past past,
        mul-le-mul_left (Y * Y * r) least,
        mul-le-mul_left (Y * Y) least,
        some,
      ))
  | inr none ↦ none
]

pub steep_core : (U M X Y r : ℕ) → U * M ≡ X * X + Y * Y → 2 * (Y * Y) ≤ U → 2 * (r * r) ≤ 2 * M + 3 * r → 100 ≤ r → 0 < X → r * Y < X
steep_core U M X zero r e short radius least some = omega (arith, some)
steep_core U M X (suc y) r e short radius least some = elim (cases_lt (r * suc y) X) [
  | inl fine ↦ fine
  | inr past ↦ absurd (omega (arith, steep_square U M X (suc y) r e short radius least past))
]

-- what is taken away is smaller
pub between_core : (Q X P Y r : ℕ) → r * Y < X → P ≤ r * Q → 0 < Q → P * Y < Q * X
between_core Q X P Y r s p q = elim (cases_lt (P * Y) (Q * X)) [ inl fine ↦ fine | inr past ↦ absurd (omega (arith, mul-le-mul_left Q s, mul-le-mul_left Y p, past, q)) ]
