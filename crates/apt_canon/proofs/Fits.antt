-- What two tests tell: of a number that may be zero, and of a point that may leave the coordinate limit.
use Rattle.std.proofs.Common.{refl, ◌≡◌, ◌≢◌, ◌⊎◌, zero, suc, true, false, arith, inl, inr, ℤ, pos, negsuc, unsigned_abs, ◌==◌, Ok, Err, IfOk, IsErrOf}
use Rattle.std.proofs.lemmas.Int.{ints}
use Rattle.std.proofs.lemmas.Bool.Decides.{nat_tests, leb_tells}
use Rattle.apt_plane.specs.declared.figures.Pt.{Pt}
use Rattle.apt_plane.specs.Ranges.{IsPoint}
use Rattle.apt_canon.specs.declared.FormFault.{FormFault}
use Rattle.apt_canon.specs.declared.FormFault.TheVariants.{OutOfRange}
use Rattle.apt_canon.specs.Scale.{in_range}

pub not_zero-test : (z : ℤ) → z ≢ pos 0 → (unsigned_abs z == 0) ≡ false
not_zero-test z d = grind (arith, ints, nat_tests)

pub zero_tells : (z : ℤ) → ((z ≡ pos 0) × ((unsigned_abs z == 0) ≡ true)) ⊎ ((z ≢ pos 0) × ((unsigned_abs z == 0) ≡ false))
zero_tells (pos zero) = inl (refl, refl)
zero_tells (pos (suc n)) = inr (λ e. omega (arith, ints), not_zero-test (pos (suc n)) (λ e. omega (arith, ints)))
zero_tells (negsuc n) = inr (λ e. omega (arith, ints), not_zero-test (negsuc n) (λ e. omega (arith, ints)))

pub point_tells : (p : Pt) → (IsPoint p × (in_range p ≡ Ok p)) ⊎ ((¬ IsPoint p) × (in_range p ≡ Err OutOfRange))
point_tells p = elim (leb_tells (unsigned_abs p.x) 50000000) [
  | inl x ↦ elim (leb_tells (unsigned_abs p.y) 50000000) [
    | inl y ↦ inl (record { x = x.1; y = y.1 }, rw (x.0, y.0) refl)
    | inr y ↦ inr (λ is. omega (arith, y.1, is.y), rw (x.0, y.0) refl)
  ]
  | inr x ↦ inr (λ is. omega (arith, x.1, is.x), rw x.0 refl)
]

-- what holds of a point in range holds of the answer
pub if_fits : (P : Pt → Type 0) (p : Pt) → (IsPoint p → P p) → IfOk (in_range p) P
if_fits P p h = elim (point_tells p) [
  | inl is ↦ rw is.1 (h is.0)
  | inr out ↦ rw out.1 tt
]

pub in_range-IsPoint : (p : Pt) → IfOk (in_range p) (λ q. IsPoint q)
in_range-IsPoint p = if_fits (λ q. IsPoint q) p (λ is. is)

-- and the answer is no other fault
pub no_other_fault : (p : Pt) (fault : FormFault) → fault ≢ OutOfRange → ¬ IsErrOf (in_range p) fault
no_other_fault p fault other = elim (point_tells p) [
  | inl is ↦ rw is.1 (λ h. cc)
  | inr out ↦ rw out.1 (λ h. other (cc))
]
