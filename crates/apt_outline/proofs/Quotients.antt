-- The square of a fraction against a whole number, in numbers that are no greater than the square of its whole part.
use Rattle.std.proofs.Common.{◌≡◌, ◌↔◌, inl, inr, ℕ, ◌+◌, ◌*◌, ◌≤◌, ◌<◌, arith, ap}
use Rattle.std.proofs.Math.Nat.{mul-le-mul_left}
use Rattle.std.proofs.lemmas.Bool.{cases_lt}

-- z = a m + b, b b = c m + d, 2 a b + c = e m + f
pub record IsSplit (z m a b c d e f : ℕ) : Type 0 where
  pub first : z ≡ a * m + b
  pub second : b * b ≡ c * m + d
  pub third : 2 * a * b + c ≡ e * m + f
  pub d_less : d < m
  pub f_less : f < m

square_is : (z m a b c d e f : ℕ) → IsSplit z m a b c d e f → z * z ≡ (a * a + e) * (m * m) + (f * m + d)
square_is z m a b c d e f is = omega (arith, is.second, ap (λ n. n * n) is.first, ap (λ n. n * m) is.third)

rest_less : (m d f : ℕ) → d < m → f < m → f * m + d < m * m
rest_less m d f dl fl = omega (arith, dl, mul-le-mul_left m fl)

pub square_below : (z m a b c d e f t : ℕ) → IsSplit z m a b c d e f → (a * a + e < t) ↔ (z * z < t * (m * m))
square_below z m a b c d e f t is =
    let whole = square_is z m a b c d e f is in
    let rest = rest_less m d f is.d_less is.f_less in (
      λ less.
          let up : a * a + e + 1 ≤ t = omega (arith, less) in
          omega (arith, whole, rest, mul-le-mul_left (m * m) up),
      λ below. elim (cases_lt (a * a + e) t) [
        | inl fine ↦ fine
        | inr past ↦ absurd (omega (arith, whole, below, mul-le-mul_left (m * m) past))
      ],
    )
