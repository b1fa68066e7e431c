-- The circle about a centre: when it is one, and why else not.
use Rattle.std.proofs.Common.{refl, suc, ◌⊎◌, ◌≡◌, ◌↔◌, ◌+◌, ◌≤◌, arith, inl, inr, ℤ, pos, negsuc, ◌≤ℤ◌, ◌<ℤ◌, unsigned_abs, true, false, Result, Ok, Err, IfOk, IsErrOf}
use Rattle.std.proofs.lemmas.Int.{ints}
use Rattle.std.proofs.lemmas.Bool.{cases_lt}
use Rattle.std.proofs.lemmas.Bool.Decides.{leb_tells}
use Rattle.apt_plane.specs.declared.figures.Pt.{Pt}
use Rattle.apt_plane.specs.declared.figures.Circ.{Circ}
use Rattle.apt_plane.specs.Ranges.{IsCircle}
use Rattle.apt_canon.specs.declared.FormFault.{FormFault}
use Rattle.apt_canon.specs.declared.FormFault.TheVariants as faults
use Rattle.apt_canon.specs.Rounds.{circle, circle_of, is_too_small, is_too_large}
use Rattle.apt_canon.specs.RoundLaws.{IsTooLarge}

-- what the tests of a radius tell
pub small_tells : (r : ℤ) → ((is_too_small r ≡ true) × (r <ℤ pos 100)) ⊎ ((is_too_small r ≡ false) × (pos 100 ≤ℤ r))
small_tells (pos n) = elim (cases_lt n 100) [
  | inl below ↦ inl (grind (arith, ints), omega (arith, ints))
  | inr past ↦ inr (grind (arith, ints), omega (arith, ints))
]
small_tells (negsuc n) = inl (grind (arith, ints), omega (arith, ints))

large_tells : (c : Pt) (r : ℤ) → ((is_too_large c r ≡ true) × ¬ IsCircle (circle c r))
    ⊎ ((is_too_large c r ≡ false) × (unsigned_abs c.x + unsigned_abs r ≤ 49000000) × (unsigned_abs c.y + unsigned_abs r ≤ 49000000))
large_tells c r = elim (leb_tells (suc 49000000) (unsigned_abs c.x + unsigned_abs r)) [
  | inl x ↦ inl (rw x.0 refl, λ is. omega (arith, x.1, is.x))
  | inr x ↦ elim (leb_tells (suc 49000000) (unsigned_abs c.y + unsigned_abs r)) [
    | inl y ↦ inl (rw (x.0, y.0) refl, λ is. omega (arith, y.1, is.y))
    | inr y ↦ inr (rw (x.0, y.0) refl, omega (arith, x.1), omega (arith, y.1))
  ]
]

in_reach : (c : Pt) (r : ℤ) → pos 100 ≤ℤ r → unsigned_abs c.x + unsigned_abs r ≤ 49000000 → unsigned_abs c.y + unsigned_abs r ≤ 49000000 → IsCircle (circle c r)
in_reach c r least x y = record { centre = record { x = omega (arith, x); y = omega (arith, y) }; least = least; x = x; y = y }

-- the three answers
pub data Answer (c : Pt) (r : ℤ) : Type 0 where
  TooSmall : r <ℤ pos 100 → circle_of c r ≡ Err faults.Degenerate → Answer c r
  TooLarge : IsTooLarge (circle c r) → circle_of c r ≡ Err faults.TooLarge → Answer c r
  Fits : IsCircle (circle c r) → circle_of c r ≡ Ok (circle c r) → Answer c r

pub answer : (c : Pt) (r : ℤ) → Answer c r
answer c r = elim (small_tells r) [
  | inl small ↦ TooSmall small.1 (rw small.0 refl)
  | inr least ↦ elim (large_tells c r) [
    | inl large ↦ TooLarge (least.1, large.1) (rw (least.0, large.0) refl)
    | inr fits ↦ Fits (in_reach c r least.1 fits.1 fits.2) (rw (least.0, fits.0) refl)
  ]
]

pub small_or_large : (r : ℤ) → r <ℤ pos 100 → pos 100 ≤ℤ r → ⊥
small_or_large r p q = omega (arith, ints)

pub ok_or_fault : (a : Result Circ FormFault) (k : Circ) (e : FormFault) → a ≡ Ok k → a ≡ Err e → ⊥
ok_or_fault a k e p q = cc

pub faults_apart : (a : Result Circ FormFault) → a ≡ Err faults.TooLarge → a ≡ Err faults.Degenerate → ⊥
faults_apart a p q = cc

pub degenerate : (c : Pt) (r : ℤ) → IsErrOf (circle_of c r) faults.Degenerate ↔ (r <ℤ pos 100)
degenerate c r = by (answer c r)
  where
    by : Answer c r → IsErrOf (circle_of c r) faults.Degenerate ↔ (r <ℤ pos 100)
    by (TooSmall small e) = (λ h. small, λ h. e)
    by (TooLarge large e) = (λ h. absurd (faults_apart (circle_of c r) e h), λ h. absurd (small_or_large r h large.0))
    by (Fits is e) = (λ h. absurd (ok_or_fault (circle_of c r) (circle c r) faults.Degenerate e h), λ h. absurd (small_or_large r h is.least))

pub too_large : (c : Pt) (r : ℤ) → IsErrOf (circle_of c r) faults.TooLarge ↔ IsTooLarge (circle c r)
too_large c r = by (answer c r)
  where
    by : Answer c r → IsErrOf (circle_of c r) faults.TooLarge ↔ IsTooLarge (circle c r)
    by (TooSmall small e) = (λ h. absurd (faults_apart (circle_of c r) h e), λ h. absurd (small_or_large r small h.0))
    by (TooLarge large e) = (λ h. large, λ h. e)
    by (Fits is e) = (λ h. absurd (ok_or_fault (circle_of c r) (circle c r) faults.TooLarge e h), λ h. absurd (h.1 is))

-- what holds of the circle where it is one
pub if_circle : (P : Circ → Type 0) (c : Pt) (r : ℤ) → (IsCircle (circle c r) → P (circle c r)) → IfOk (circle_of c r) P
if_circle P c r h = by (answer c r)
  where
    by : Answer c r → IfOk (circle_of c r) P
    by (TooSmall small e) = rw e tt
    by (TooLarge large e) = rw e tt
    by (Fits is e) = rw e (h is)
