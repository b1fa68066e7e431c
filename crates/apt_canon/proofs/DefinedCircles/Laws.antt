-- What the answers of circles tell, as the functions say it.
use Rattle.std.proofs.Common.{refl, ◌≡◌, ◌≢◌, ◌↔◌, ◌⊎◌, ◌^◌, ◌≤◌, arith, inl, inr, ℤ, pos, ◌<ℤ◌, unsigned_abs, ◌==◌, Result, Err, IfOk, IsErrOf}
use Rattle.std.specs.Prelude.{if◌then◌else◌}
use Rattle.apt_words.specs.declared.Pick.{Pick}
use Rattle.apt_plane.specs.declared.figures.Pt.{Pt}
use Rattle.apt_plane.specs.declared.figures.Line.{Line}
use Rattle.apt_plane.specs.declared.figures.Circ.{Circ}
use Rattle.apt_plane.specs.Vectors.{displacement, cross}
use Rattle.apt_plane.specs.Ranges.{IsPoint, IsLine, IsCircle}
use Rattle.apt_canon.specs.declared.FormFault.{FormFault}
use Rattle.apt_canon.specs.declared.FormFault.TheVariants as faults
use Rattle.apt_canon.specs.Scale.{IsNearCircle}
use Rattle.apt_canon.specs.Feet.{side_picked, IsPicked}
use Rattle.apt_canon.specs.Rounds as rounds
use Rattle.apt_canon.specs.RoundLaws.{IsTooLarge, Touches, AreOnLine, IsThrough, rounded_through, IsBeside, NoCorner}
use Rattle.apt_canon.proofs.Fits.{zero_tells}
use Rattle.apt_canon.proofs.DefinedCircles.Sizes.{between_small}
use Rattle.apt_canon.proofs.DefinedCircles.Range.{degenerate, too_large, if_circle, faults_apart}
use Rattle.apt_canon.proofs.DefinedCircles.Distance.{passes, touches}
use Rattle.apt_canon.proofs.DefinedCircles.Far.{about_degenerate, about_too_large, if_about}
use Rattle.apt_canon.proofs.DefinedCircles.Three.{passes_through}
use Rattle.apt_canon.proofs.DefinedCircles.Corner.{corner_refused, corner_range, corner_radius, corner_on_a, corner_on_b, corner_sides, corner_touches}

-- ---- about a centre

pub of_degenerate : (x : Result Circ FormFault) (c : Pt) (r : ℤ) → x ≡ rounds.circle_of c r → IsErrOf x faults.Degenerate ↔ (r <ℤ pos 100)
of_degenerate x c r e = rw e (degenerate c r)

pub of_too_large : (x : Result Circ FormFault) (c : Pt) (r : ℤ) → x ≡ rounds.circle_of c r → IsErrOf x faults.TooLarge ↔ IsTooLarge (rounds.circle c r)
of_too_large x c r e = rw e (too_large c r)

pub of_range : (x : Result Circ FormFault) (c : Pt) (r : ℤ) → x ≡ rounds.circle_of c r → IfOk x (λ k. IsCircle k)
of_range x c r e = rw e (if_circle (λ k. IsCircle k) c r (λ is. is))

pub of_centre : (x : Result Circ FormFault) (c : Pt) (r : ℤ) → x ≡ rounds.circle_of c r → IfOk x (λ k. k.c ≡ c)
of_centre x c r e = rw e (if_circle (λ k. k.c ≡ c) c r (λ is. refl))

pub of_through : (x : Result Circ FormFault) (c p : Pt) → IsPoint c → IsPoint p → x ≡ rounds.circle_through c p → IfOk x (λ k. IsNearCircle k (pos 1) p)
of_through x c p at_c at_p e =
    rw e (if_circle (λ k. IsNearCircle k (pos 1) p) c (rounds.about_through c p).r (λ is. passes c p (omega (arith, between_small c p at_c at_p))))

radius_small : (c : Pt) (r : ℤ) → IsCircle (rounds.circle c r) → unsigned_abs r ≤ 49000000
radius_small c r is = omega (arith, is.x)

pub of_touching : (x : Result Circ FormFault) (c : Pt) (l : Line) → IsPoint c → IsLine l → x ≡ rounds.circle_touching c l → IfOk x (λ k. Touches k l)
of_touching x c l at is e =
    rw e (if_circle (λ k. Touches k l) c (rounds.distance_from_line c l) (λ fits. touches c l at is (radius_small c (rounds.distance_from_line c l) fits)))

-- ---- through three points

unless_zero-degenerate : (z : ℤ) (y : Result Circ FormFault) (Q : Type 0) → IsErrOf y faults.Degenerate ↔ Q
    → IsErrOf (if unsigned_abs z == 0 then Err faults.Degenerate else y) faults.Degenerate ↔ ((z ≡ pos 0) ⊎ Q)
unless_zero-degenerate z y Q h = elim (zero_tells z) [
  | inl none ↦ rw none.1 (λ p. inl none.0, λ p. refl)
  | inr some ↦ rw some.1 (λ p. inr (h.0 p), λ p. elim p [ inl e ↦ absurd (some.0 e) | inr q ↦ h.1 q ])
]

unless_zero-too_large : (z : ℤ) (y : Result Circ FormFault) (Q : Type 0) → IsErrOf y faults.TooLarge ↔ Q
    → IsErrOf (if unsigned_abs z == 0 then Err faults.Degenerate else y) faults.TooLarge ↔ ((z ≢ pos 0) × Q)
unless_zero-too_large z y Q h = elim (zero_tells z) [
  | inl none ↦ rw none.1 (λ p. absurd (faults_apart (Err faults.Degenerate) p refl), λ p. absurd (p.0 none.0))
  | inr some ↦ rw some.1 (λ p. (some.0, h.0 p), λ p. h.1 p.1)
]

unless_zero-ok : (P : Circ → Type 0) (z : ℤ) (y : Result Circ FormFault) → (z ≢ pos 0 → IfOk y P) → IfOk (if unsigned_abs z == 0 then Err faults.Degenerate else y) P
unless_zero-ok P z y h = elim (zero_tells z) [
  | inl none ↦ rw none.1 tt
  | inr some ↦ rw some.1 (h some.0)
]

pub three_degenerate : (x : Result Circ FormFault) (p q r : Pt) → x ≡ rounds.circle_three p q r → IsErrOf x faults.Degenerate ↔ (AreOnLine p q r ⊎ ((rounded_through p q r).r <ℤ pos 100))
three_degenerate x p q r e =
    let b = displacement p q in
    let c = displacement p r in
    rw e (unless_zero-degenerate (cross b c) (rounds.circle_about p (rounds.centre_from b c)) ((rounded_through p q r).r <ℤ pos 100) (about_degenerate p (rounds.centre_from b c)))

pub three_too_large : (x : Result Circ FormFault) (p q r : Pt) → IsPoint p → x ≡ rounds.circle_three p q r → IsErrOf x faults.TooLarge ↔ ((¬ AreOnLine p q r) × IsTooLarge (rounded_through p q r))
three_too_large x p q r at e =
    let b = displacement p q in
    let c = displacement p r in
    rw e (unless_zero-too_large (cross b c) (rounds.circle_about p (rounds.centre_from b c)) (IsTooLarge (rounded_through p q r)) (about_too_large p (rounds.centre_from b c) at))

pub three_range : (x : Result Circ FormFault) (p q r : Pt) → x ≡ rounds.circle_three p q r → IfOk x (λ k. IsCircle k)
three_range x p q r e =
    let b = displacement p q in
    let c = displacement p r in
    rw e (unless_zero-ok (λ k. IsCircle k) (cross b c) (rounds.circle_about p (rounds.centre_from b c)) (λ d. if_about (λ k. IsCircle k) p (rounds.centre_from b c) (λ is. is)))

pub three_through : (x : Result Circ FormFault) (p q r : Pt) → IsPoint p → x ≡ rounds.circle_three p q r → IfOk x (λ k. IsThrough p q r k)
three_through x p q r at e =
    let b = displacement p q in
    let c = displacement p r in
    rw e (unless_zero-ok (λ k. IsThrough p q r k) (cross b c) (rounds.circle_about p (rounds.centre_from b c)) (λ d. if_about (λ k. IsThrough p q r k) p (rounds.centre_from b c) (λ is. passes_through p q r at d is)))

-- ---- in a corner

pub in_refused : (x : Result Circ FormFault) (a b : Line) (pick_a pick_b : Pick) (r : ℤ) → x ≡ rounds.corner a pick_a b pick_b r
    → (e : FormFault) → IsErrOf x e ↔ NoCorner a pick_a b pick_b r e
in_refused x a b pick_a pick_b r h = λ e. rw h (corner_refused a b pick_a pick_b r e)

pub in_range : (x : Result Circ FormFault) (a b : Line) (pick_a pick_b : Pick) (r : ℤ) → x ≡ rounds.corner a pick_a b pick_b r → IfOk x (λ k. IsCircle k)
in_range x a b pick_a pick_b r h = rw h (corner_range a b pick_a pick_b r)

pub in_radius : (x : Result Circ FormFault) (a b : Line) (pick_a pick_b : Pick) (r : ℤ) → x ≡ rounds.corner a pick_a b pick_b r → IfOk x (λ k. k.r ≡ r)
in_radius x a b pick_a pick_b r h = rw h (corner_radius a b pick_a pick_b r)

pub in_on_a : (x : Result Circ FormFault) (a b : Line) (pick_a pick_b : Pick) (r : ℤ) → IsLine a → IsLine b → unsigned_abs r ≤ 10 ^ 8
    → x ≡ rounds.corner a pick_a b pick_b r → IfOk x (λ k. IsBeside (side_picked a pick_a) a r k.c)
in_on_a x a b pick_a pick_b r is_a is_b small h = rw h (corner_on_a a b pick_a pick_b r is_a is_b small)

pub in_on_b : (x : Result Circ FormFault) (a b : Line) (pick_a pick_b : Pick) (r : ℤ) → IsLine a → IsLine b → unsigned_abs r ≤ 10 ^ 8
    → x ≡ rounds.corner a pick_a b pick_b r → IfOk x (λ k. IsBeside (side_picked b pick_b) b r k.c)
in_on_b x a b pick_a pick_b r is_a is_b small h = rw h (corner_on_b a b pick_a pick_b r is_a is_b small)

pub in_sides : (x : Result Circ FormFault) (a b : Line) (pick_a pick_b : Pick) (r : ℤ) → IsLine a → IsLine b → unsigned_abs r ≤ 10 ^ 8
    → x ≡ rounds.corner a pick_a b pick_b r → IfOk x (λ k. IsPicked a pick_a k.c × IsPicked b pick_b k.c)
in_sides x a b pick_a pick_b r is_a is_b small h = rw h (corner_sides a b pick_a pick_b r is_a is_b small)

pub in_touches : (x : Result Circ FormFault) (a b : Line) (pick_a pick_b : Pick) (r : ℤ) → IsLine a → IsLine b → unsigned_abs r ≤ 10 ^ 8
    → x ≡ rounds.corner a pick_a b pick_b r → IfOk x (λ k. Touches k a × Touches k b)
in_touches x a b pick_a pick_b r is_a is_b small h = rw h (corner_touches a b pick_a pick_b r is_a is_b small)
