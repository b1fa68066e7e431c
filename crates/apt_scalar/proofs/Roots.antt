-- The root of a scalar is a scalar.
use Rattle.std.proofs.Common.{ℕ, ◌-◌, ◌*◌, ◌^◌, ◌≤◌, ◌<◌, arith}
use Rattle.apt_num.specs.Root.{IsNearestRoot}

short_side : (n m : ℕ) → n ≤ 10 ^ 18 → m * m < 4 * n → m ≤ 10 ^ 12
short_side n m h square = grind arith

pub root_is_scalar : (n q : ℕ) → IsNearestRoot n q → n ≤ 10 ^ 18 → q ≤ 10 ^ 12
root_is_scalar n q nearest h = grind (arith, short_side n (2 * q - 1), nearest.below)
