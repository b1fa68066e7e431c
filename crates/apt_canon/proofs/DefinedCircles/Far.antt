-- A centre far away makes its circle too large, whatever its radius.
use Rattle.std.proofs.Common.{refl, ◌≡◌, ◌↔◌, ◌⊎◌, ℕ, zero, suc, ◌+◌, ◌-◌, ◌*◌, ◌^◌, ◌≤◌, ◌<◌, arith, inl, inr, ℤ, pos, ◌+ℤ◌, ◌≤ℤ◌, ◌<ℤ◌, unsigned_abs, true, false, Err, IfOk, IsErrOf}
use Rattle.std.proofs.lemmas.Int.{ints}
use Rattle.std.proofs.lemmas.Bool.Decides.{leb_tells}
use Rattle.std.proofs.Math.Nat.{two-pow-succ}
use Rattle.apt_num.specs.Root.{root_bits, root, root_near}
use Rattle.apt_num.proofs.Squares.{root_lt, square_le}
use Rattle.apt_plane.specs.declared.figures.Pt.{Pt}
use Rattle.apt_plane.specs.declared.figures.Dir.{Dir}
use Rattle.apt_plane.specs.declared.figures.Circ.{Circ}
use Rattle.apt_plane.specs.Vectors.{length_squared}
use Rattle.apt_plane.specs.Ranges.{IsPoint, IsCircle}
use Rattle.apt_canon.specs.declared.FormFault.TheVariants as faults
use Rattle.apt_canon.specs.Scale.{from}
use Rattle.apt_canon.specs.Rounds.{circle, circle_about, is_far, length_near}
use Rattle.apt_canon.specs.RoundLaws.{IsTooLarge}
use Rattle.apt_canon.proofs.DefinedCircles.Range.{degenerate, too_large, if_circle, small_or_large, faults_apart}

-- the bits of a root pass each number whose square fits
bits_least : (k n q m : ℕ) → m * m ≤ n → m < q + 2 ^ k → m ≤ root_bits k n q
bits_least zero n q m h b = omega (arith, b)
bits_least (suc k) n q m h b =
    let double : m < q + (2 ^ k + 2 ^ k) = rw two-pow-succ at b in
    elim (leb_tells ((q + 2 ^ k) * (q + 2 ^ k)) n) [
      | inl fits ↦ rw fits.0 (bits_least k n (q + 2 ^ k) m h (omega (arith, double)))
      | inr past ↦ rw past.0 (bits_least k n q m h (root_lt m (q + 2 ^ k) (omega (arith, h, past.1))))
    ]

root_least : (n m : ℕ) → m * m ≤ n → m < 2 ^ 64 → m ≤ root n
unfolding root
root_least n m h b = bits_least 64 n 0 m h (omega (arith, b))

root_near_least : (n m : ℕ) → m * m ≤ n → m < 2 ^ 64 → m ≤ root_near n
root_near_least n m h b = elim (leb_tells (n - root n * root n) (root n)) [
  | inl close ↦ rw close.0 (root_least n m h b)
  | inr far ↦ rw far.0 (omega (arith, root_least n m h b))
]

IsFar : Dir → Type 0
IsFar v = (2 * 10 ^ 8 < unsigned_abs v.dx) ⊎ (2 * 10 ^ 8 < unsigned_abs v.dy)

far_tells : (v : Dir) → ((is_far v ≡ true) × IsFar v) ⊎ (is_far v ≡ false)
unfolding IsFar
far_tells v = elim (leb_tells (suc (2 * 10 ^ 8)) (unsigned_abs v.dx)) [
  | inl x ↦ inl (rw x.0 refl, inl x.1)
  | inr x ↦ elim (leb_tells (suc (2 * 10 ^ 8)) (unsigned_abs v.dy)) [
    | inl y ↦ inl (rw (x.0, y.0) refl, inr y.1)
    | inr y ↦ inr (rw (x.0, y.0) refl)
  ]
]

long : (a b : ℕ) → (2 * 10 ^ 8 < a) ⊎ (2 * 10 ^ 8 < b) → 100 * 100 ≤ a * a + b * b
long a b (inl h) = omega (arith, square_le 100 a (omega (arith, h)))
long a b (inr h) = omega (arith, square_le 100 b (omega (arith, h)))

far_radius : (v : Dir) → IsFar v → pos 100 ≤ℤ pos (length_near v)
unfolding IsFar
far_radius v far =
    let least = root_near_least (length_squared v) 100 (long (unsigned_abs v.dx) (unsigned_abs v.dy) far) (omega arith) in
    omega (arith, ints, least)

far_part : (p v : ℤ) → unsigned_abs p ≤ 50000000 → 2 * 10 ^ 8 < unsigned_abs v → unsigned_abs (p +ℤ v) ≤ 50000000 → ⊥
far_part p v at far to = omega (arith, ints, at, far, to)

far_centre : (p : Pt) (v : Dir) → IsPoint p → IsFar v → IsPoint (from p v) → ⊥
unfolding IsFar
far_centre p v at (inl x) is = far_part p.x v.dx at.x x is.x
far_centre p v at (inr y) is = far_part p.y v.dy at.y y is.y

far_too_large : (p : Pt) (v : Dir) → IsPoint p → IsFar v → IsTooLarge (circle (from p v) (pos (length_near v)))
far_too_large p v at far = (far_radius v far, λ is. far_centre p v at far is.centre)

pub about_degenerate : (p : Pt) (v : Dir) → IsErrOf (circle_about p v) faults.Degenerate ↔ (pos (length_near v) <ℤ pos 100)
about_degenerate p v = elim (far_tells v) [
  | inl far ↦ rw far.0 (λ h. absurd (faults_apart (Err faults.TooLarge) refl h), λ h. absurd (small_or_large (pos (length_near v)) h (far_radius v far.1)))
  | inr near ↦ rw near (degenerate (from p v) (pos (length_near v)))
]

pub about_too_large : (p : Pt) (v : Dir) → IsPoint p → IsErrOf (circle_about p v) faults.TooLarge ↔ IsTooLarge (circle (from p v) (pos (length_near v)))
about_too_large p v at = elim (far_tells v) [
  | inl far ↦ rw far.0 (λ h. far_too_large p v at far.1, λ h. refl)
  | inr near ↦ rw near (too_large (from p v) (pos (length_near v)))
]

pub if_about : (P : Circ → Type 0) (p : Pt) (v : Dir) → (IsCircle (circle (from p v) (pos (length_near v))) → P (circle (from p v) (pos (length_near v)))) → IfOk (circle_about p v) P
if_about P p v h = elim (far_tells v) [
  | inl far ↦ rw far.0 tt
  | inr near ↦ rw near (if_circle P (from p v) (pos (length_near v)) h)
]
