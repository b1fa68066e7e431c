-- The sizes of what a sign against a root squares, and of products of ways.
use Rattle.std.proofs.Common.{ℕ, ◌*◌, ◌≤◌, ◌<◌, ◌^◌, arith, inl, inr, ℤ, ◌*ℤ◌, unsigned_abs}
use Rattle.std.proofs.lemmas.Int.{ints}
use Rattle.std.proofs.lemmas.Nat.{mul-le}
use Rattle.apt_plane.specs.declared.figures.Dir.{Dir}
use Rattle.apt_plane.specs.Ranges.{IsDir, IsShort, IsSense}
use Rattle.apt_plane.proofs.Heights.{one-times}
use Rattle.apt_plane.proofs.Turned.{minus-times}
use Rattle.apt_stop.specs.Nearness.{heading}

pub product_fits : (h n : ℕ) → h ≤ 2 * 10 ^ 8 → n ≤ 2 * 10 ^ 16 → h * h * n < 10 ^ 38
product_fits h n p q = omega (arith, mul-le (h * h) n (4 * 10 ^ 16) (2 * 10 ^ 16) (mul-le h h (2 * 10 ^ 8) (2 * 10 ^ 8) p p) q)

pub short : (d : Dir) → IsDir d → IsShort d
short d is = record { dx = is.dx; dy = is.dy }

pub size_kept : (s z : ℤ) → IsSense s → unsigned_abs z ≤ 10 ^ 8 → unsigned_abs (s *ℤ z) ≤ 10 ^ 8
size_kept s z is small = elim is [
  | inl e ↦ rw (e, one-times z) small
  | inr e ↦ rw (e, minus-times z) (omega (arith, ints))
]

pub heading_short : (s : ℤ) (d : Dir) → IsSense s → IsDir d → IsShort (heading s d)
heading_short s d sense is = record { dx = size_kept s d.dx sense is.dx; dy = size_kept s d.dy sense is.dy }
