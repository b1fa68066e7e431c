-- How far a way lies from an axis, without angles: f is its part along the axis, in lengths of the axis, n the square of its length.
use Rattle.std.proofs.Common.{◌≡◌, ◌⊎◌, inl, inr, ℕ, zero, suc, ◌+◌, ◌*◌, ◌≤◌, ◌<◌, ap, arith, ℤ, pos, negsuc, neg_ℤ, ◌*ℤ◌, ◌≤ℤ◌, ◌<ℤ◌, unsigned_abs}
use Rattle.std.proofs.Math.Nat.{mul-le-mul_left}
use Rattle.std.proofs.lemmas.Nat.{mul-le, mul-lt}
use Rattle.std.proofs.lemmas.Int.{ints}
use Rattle.std.proofs.lemmas.Bool.{cases_lt}
use Rattle.apt_num.specs.Sign.{signed_square}
use Rattle.apt_num.proofs.Ring.{neg-*ℤ}
use Rattle.apt_num.proofs.Squares.{cancel_le}

-- the second is at least as far from the axis as the first: g / sqrt(m) is at most f / sqrt(n)
abbrev pub IsFarther : ℤ → ℕ → ℤ → ℕ → Type 0
IsFarther (pos f) n (pos g) m = g * g * n ≤ f * f * m
IsFarther (pos f) n (negsuc g) m = Unit {0}
IsFarther (negsuc f) n (pos g) m = ⊥
IsFarther (negsuc f) n (negsuc g) m = suc f * suc f * m ≤ suc g * suc g * n

-- the same with half a unit of give
abbrev pub IsHardlyNearer : ℤ → ℕ → ℤ → ℕ → Type 0
IsHardlyNearer (pos f) n (pos g) m = 2 * (g * g * n) ≤ 2 * (f * f * m) + g * g
IsHardlyNearer (pos f) n (negsuc g) m = Unit {0}
IsHardlyNearer (negsuc f) n (pos g) m = ⊥
IsHardlyNearer (negsuc f) n (negsuc g) m = 2 * (suc f * suc f * m) ≤ 2 * (suc g * suc g * n) + suc f * suc f

pub farther_hardly : (f : ℤ) (n : ℕ) (g : ℤ) (m : ℕ) → IsFarther f n g m → IsHardlyNearer f n g m
farther_hardly (pos f) n (pos g) m h = omega (arith, h)
farther_hardly (pos f) n (negsuc g) m h = tt
farther_hardly (negsuc f) n (pos g) m h = h
farther_hardly (negsuc f) n (negsuc g) m h = omega (arith, h)

-- in signed squares
pub farther_signed : (f : ℤ) (n : ℕ) (g : ℤ) (m : ℕ) → IsFarther f n g m → (signed_square g *ℤ pos n) ≤ℤ (signed_square f *ℤ pos m)
farther_signed (pos f) n (pos g) m h = omega (arith, ints, h)
farther_signed (pos f) n (negsuc g) m h = rw (neg-*ℤ (pos (suc g * suc g)) (pos n)) (omega (arith, ints))
farther_signed (negsuc f) n (pos g) m h = absurd h
farther_signed (negsuc f) n (negsuc g) m h = rw (neg-*ℤ (pos (suc g * suc g)) (pos n), neg-*ℤ (pos (suc f * suc f)) (pos m)) (omega (arith, ints, h))

-- ---- y and z are the parts across the axis
squares : (B n m f g y z : ℕ) → 0 < B → B * n ≡ f * f + y * y → B * m ≡ g * g + z * z → y * g ≤ z * f → g * g * n ≤ f * f * m
squares B n m f g y z some u v h = elim (cases_lt (f * f * m) (g * g * n)) [
  | inl past ↦ absurd (omega (arith, mul-le-mul_left B past, some, mul-le (y * g) (y * g) (z * f) (z * f) h h, ap (λ k. g * g * k) u, ap (λ k. f * f * k) v))
  | inr fine ↦ fine
]

no_part : (B m g : ℕ) → B * m ≡ g * g + 0 * 0 → 0 < B → 0 < m → 0 < g
no_part (suc B) (suc m) zero e p q = absurd (omega (arith, e))
no_part B m (suc g) e p q = omega arith
no_part zero m g e p q = absurd (omega arith)
no_part B zero g e p q = absurd (omega arith)

-- not both on the axis
abbrev IsAcross : ℕ → ℕ → ℕ → Type 0
IsAcross y z m = (0 < z) ⊎ ((0 < y) × (0 < m))

never : (B m f g y z : ℕ) → 0 < B → B * m ≡ g * g + z * z → IsAcross y z m → (pos y *ℤ pos g) ≤ℤ (pos z *ℤ negsuc f) → ⊥
never B m f g y (suc z) some v across h = omega (arith, ints, h)
never B m f g y zero some v (inl across) h = omega (arith, across)
never B m f g y zero some v (inr across) h = omega (arith, ints, h, mul-lt 0 0 y g across.0 (no_part B m g v some across.1))

pub farther_of : (B n m : ℕ) (f g : ℤ) (y z : ℕ) → 0 < B → B * n ≡ unsigned_abs f * unsigned_abs f + y * y → B * m ≡ unsigned_abs g * unsigned_abs g + z * z → IsAcross y z m
    → (pos y *ℤ g) ≤ℤ (pos z *ℤ f) → IsFarther f n g m
farther_of B n m (pos f) (pos g) y z some u v across h = squares B n m f g y z some u v (omega (arith, ints, h))
farther_of B n m (pos f) (negsuc g) y z some u v across h = tt
farther_of B n m (negsuc f) (pos g) y z some u v across h = absurd (never B m f g y z some v across h)
farther_of B n m (negsuc f) (negsuc g) y z some u v across h = squares B m n (suc g) (suc f) z y some v u (omega (arith, ints, h))

-- ---- a way on the ray of the axis, up to half a unit across, is hardly farther than any, and one on the ray behind hardly nearer
pub on_ray : (B n m : ℕ) (f : ℤ) (y : ℕ) (g : ℤ) → 0 < B → pos 0 ≤ℤ f → B * n ≡ unsigned_abs f * unsigned_abs f + y * y → 2 * (y * y) ≤ B → unsigned_abs g * unsigned_abs g ≤ B * m → IsHardlyNearer f n g m
on_ray B n m (pos f) y (pos g) some ahead u small v = elim (cases_lt (2 * (f * f * m) + g * g) (2 * (g * g * n))) [
  | inl past ↦ absurd (omega (arith, mul-le-mul_left B past, some, ap (λ k. g * g * k) u, mul-le-mul_left (g * g) small, mul-le-mul_left (f * f) v))
  | inr fine ↦ fine
]
on_ray B n m (pos f) y (negsuc g) some ahead u small v = tt
on_ray B n m (negsuc f) y g some ahead u small v = absurd (omega (arith, ints, ahead))

pub on_ray_behind : (B n m : ℕ) (f g : ℤ) (z : ℕ) → 0 < B → g <ℤ pos 0 → unsigned_abs f * unsigned_abs f ≤ B * n → B * m ≡ unsigned_abs g * unsigned_abs g + z * z → 2 * (z * z) ≤ B → IsHardlyNearer f n g m
on_ray_behind B n m (pos f) (negsuc g) z some behind u v small = tt
on_ray_behind B n m (negsuc f) (negsuc g) z some behind u v small = elim (cases_lt (2 * (suc g * suc g * n) + suc f * suc f) (2 * (suc f * suc f * m))) [
  | inl past ↦ absurd (omega (arith, mul-le-mul_left B past, some, ap (λ k. suc f * suc f * k) v, mul-le-mul_left (suc f * suc f) small, mul-le-mul_left (suc g * suc g) u))
  | inr fine ↦ fine
]
on_ray_behind B n m f (pos g) z some behind u v small = absurd (omega (arith, ints, behind))

-- ---- seen from the other side of the axis the two change places
no_size : (n k : ℕ) → 0 < n → 2 * (suc k * suc k * n) ≤ 2 * (0 * 0 * 0) + suc k * suc k → ⊥
no_size n k some h = omega (arith, h, mul-le-mul_left (suc k * suc k) some)

pub hardly_back : (f : ℤ) (n : ℕ) (g : ℤ) (m : ℕ) → 0 < n → IsHardlyNearer f n g m → IsHardlyNearer (neg_ℤ g) m (neg_ℤ f) n
hardly_back (pos zero) n (pos zero) m some h = omega arith
hardly_back (pos zero) n (pos (suc g)) m some h = absurd (no_size n g some (omega (arith, h)))
hardly_back (pos zero) n (negsuc g) m some h = omega arith
hardly_back (pos (suc f)) n (pos zero) m some h = tt
hardly_back (pos (suc f)) n (pos (suc g)) m some h = omega (arith, h)
hardly_back (pos (suc f)) n (negsuc g) m some h = tt
hardly_back (negsuc f) n (pos g) m some h = absurd h
hardly_back (negsuc f) n (negsuc g) m some h = omega (arith, h)

-- ---- two ways in one direction are as far: d is their dot product
same_squares : (n m d f g : ℕ) → n * g ≡ f * d → n * m ≡ d * d → n * (g * g * n) ≡ n * (f * f * m)
same_squares n m d f g e u = omega (arith, ap (λ x. x * x) e, ap (λ x. f * f * x) u)

pub as_far : (n m d : ℕ) (f g : ℤ) → 0 < n → 0 < d → pos n *ℤ g ≡ f *ℤ pos d → n * m ≡ d * d → IsFarther f n g m
as_far n m d (pos f) (pos g) some more e u = cancel_le n (g * g * n) (f * f * m) some (omega (arith, same_squares n m d f g (omega (arith, ints, e)) u))
as_far n m d (pos f) (negsuc g) some more e u = tt
as_far (suc n) m (suc d) (negsuc f) (pos g) some more e u = absurd (omega (arith, ints, e))
as_far zero m d (negsuc f) (pos g) some more e u = absurd (omega (arith, some))
as_far n m zero (negsuc f) (pos g) some more e u = absurd (omega (arith, more))
as_far n m d (negsuc f) (negsuc g) some more e u = cancel_le n (suc f * suc f * m) (suc g * suc g * n) some (omega (arith, same_squares n m d (suc f) (suc g) (omega (arith, ints, e)) u))
