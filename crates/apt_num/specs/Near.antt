-- The nearest whole number.
use Rattle.std.specs.Prelude.{◌≡◌, ℕ, ◌+◌, ◌*◌, ◌/◌, ◌≤◌, ◌<◌, ℤ, pos, neg_ℤ, ◌*ℤ◌, ◌-ℤ◌, int_lt, unsigned_abs, if◌then◌else◌}

-- the whole number nearest to a quotient of naturals, a half going up
abbrev pub half_up : ℕ → ℕ → ℕ
half_up a b = (2 * a + b) / (2 * b)

-- the whole number nearest to a / b, a half going away from zero
abbrev pub near : ℤ → ℤ → ℤ
near a b =
    let size = half_up (unsigned_abs a) (unsigned_abs b) in
    if int_lt a (pos 0) then (if int_lt b (pos 0) then pos size else neg_ℤ (pos size)) else (if int_lt b (pos 0) then neg_ℤ (pos size) else pos size)

-- q is nearest to a / b: b times q is at most half of b away from a, and at exactly half it is further from zero than a
pub record IsNear (a b q : ℤ) : Type 0 where
  pub nearest : 2 * unsigned_abs ((b *ℤ q) -ℤ a) ≤ unsigned_abs b
  pub half_away : 2 * unsigned_abs ((b *ℤ q) -ℤ a) ≡ unsigned_abs b → unsigned_abs a < unsigned_abs (b *ℤ q)
