-- A length in a frame whose unit is a root that was rounded down.
use Rattle.std.proofs.Common.{◌≡◌, ℕ, zero, suc, ◌+◌, ◌-◌, ◌*◌, ◌^◌, ◌≤◌, arith}
use Rattle.std.proofs.Math.Nat.{mul-le-mul_left}
use Rattle.apt_num.proofs.Squares.{square_le}

-- the root of n * 2^70, rounded down, against a radius
pub record IsFrame (n s r : ℕ) : Type 0 where
  pub low : s * s ≤ n * 2 ^ 70
  pub high : n * 2 ^ 70 ≤ (s + 1) * (s + 1)
  pub wide : 8 * r + 1 ≤ s

-- J is the square of a length that differs from r * 2^30 by at most an eighth of a unit
pub record IsEighth (r J : ℕ) : Type 0 where
  pub least : 2 ^ 54 * ((8 * r - 1) * (8 * r - 1)) ≤ J
  pub most : J ≤ 2 ^ 54 * ((8 * r + 1) * (8 * r + 1))

rounded_up : (r s : ℕ) → 8 * r + 1 ≤ s → (s + 1) * (8 * r + 1) ≤ (8 * r + 2) * s
rounded_up r s h = omega (arith, h)

squares_up : (s r : ℕ) → 8 * r + 1 ≤ s → ((s + 1) * (s + 1)) * ((8 * r + 1) * (8 * r + 1)) ≤ ((8 * r + 2) * s) * ((8 * r + 2) * s)
squares_up s r h = omega (arith, square_le ((s + 1) * (8 * r + 1)) ((8 * r + 2) * s) (rounded_up r s h))

pub framed_high : (n s r J : ℕ) → IsFrame n s r → IsEighth r J → 16 * (2 ^ 10 * n * J) ≤ ((4 * r + 1) * s) * ((4 * r + 1) * s)
framed_high n s r J at is =
    let up = squares_up s r at.wide in
    let long = mul-le-mul_left (n * 2 ^ 16) is.most in
    let square = (8 * r + 1) * (8 * r + 1) in
    let scaled : n * 2 ^ 70 * square ≤ (s + 1) * (s + 1) * square = omega (arith, mul-le-mul_left square at.high) in
    omega (arith, up, long, scaled)

pub framed_low : (n s r J : ℕ) → IsFrame n s r → IsEighth r J → ((4 * r - 1) * s) * ((4 * r - 1) * s) ≤ 16 * (2 ^ 10 * n * J)
framed_low n s zero J at is = omega arith
framed_low n s (suc t) J at is =
    let thin : 8 * suc t - 1 ≡ 8 * t + 7 = omega arith in
    let same : 4 * suc t - 1 ≡ 4 * t + 3 = omega arith in
    let least : 2 ^ 54 * ((8 * t + 7) * (8 * t + 7)) ≤ J = rw thin at is.least in
    let square = (8 * t + 7) * (8 * t + 7) in
    let long = mul-le-mul_left (n * 2 ^ 16) least in
    let scaled : s * s * square ≤ n * 2 ^ 70 * square = omega (arith, mul-le-mul_left square at.low) in
    let less = square_le ((8 * t + 6) * s) ((8 * t + 7) * s) (omega arith) in
    rw same (omega (arith, long, scaled, less))

-- what a frame keeps: at most a quarter of a unit is lost
pub record IsFramed (r s n : ℕ) : Type 0 where
  pub high : 16 * n ≤ ((4 * r + 1) * s) * ((4 * r + 1) * s)
  pub low : ((4 * r - 1) * s) * ((4 * r - 1) * s) ≤ 16 * n

pub framed : (n s r J : ℕ) → IsFrame n s r → IsEighth r J → IsFramed r s (2 ^ 10 * n * J)
framed n s r J at is = record { high = framed_high n s r J at is; low = framed_low n s r J at is }
