-- Square roots in whole numbers.
use Rattle.std.specs.Prelude.{ℕ, zero, suc, ◌+◌, ◌-◌, ◌*◌, ◌^◌, ◌≤◌, ◌<◌, nat_le, if◌then◌else◌}

-- q is the greatest whole number whose square is at most n
pub record IsRoot (n q : ℕ) : Type 0 where
  pub low : q * q ≤ n
  pub high : n < (q + 1) * (q + 1)

-- q with the power of two added, if the square of that is at most n
abbrev pub root_bit : ℕ → ℕ → ℕ → ℕ
root_bit power n q = if nat_le ((q + power) * (q + power)) n then q + power else q

-- the bits of the root below q, from the highest down
abbrev pub root_bits : ℕ → ℕ → ℕ → ℕ
root_bits zero n q = q
root_bits (suc k) n q = root_bits k n (root_bit (2 ^ k) n q)

-- the greatest whole number whose square is at most n, for n below 2^128
unfoldable pub root : ℕ → ℕ
root n = root_bits 64 n 0

-- the whole number nearest to the root of n
abbrev pub root_near : ℕ → ℕ
root_near n = if nat_le (n - root n * root n) (root n) then root n else root n + 1

-- q is nearest to the root of n: twice the root lies between 2q - 1 and 2q + 1
pub record IsNearestRoot (n q : ℕ) : Type 0 where
  pub above : 4 * n < (2 * q + 1) * (2 * q + 1)
  pub below : 0 < q → (2 * q - 1) * (2 * q - 1) < 4 * n
