-- What an answer says of the curves.
use Rattle.std.proofs.Common.{refl, ◌≡◌, ◌≢◌, ◌↔◌, ◌≤◌, true, false, arith, ◌⊎◌, inl, inr, ℤ, pos, ◌+ℤ◌, ◌-ℤ◌, ◌≤ℤ◌, unsigned_abs, ◌==◌}
use Rattle.std.proofs.lemmas.Int.{ints}
use Rattle.std.proofs.lemmas.Bool.Decides.{eqb_tells}
use Rattle.apt_num.specs.Sign.{square}
use Rattle.apt_plane.specs.declared.figures.Pt.{Pt}
use Rattle.apt_plane.specs.declared.figures.Dir.{Dir}
use Rattle.apt_plane.specs.declared.figures.Line.{Line}
use Rattle.apt_plane.specs.declared.figures.Circ.{Circ}
use Rattle.apt_plane.specs.Vectors.{displacement, cross, length_squared}
use Rattle.apt_canon.specs.Scale.{IsNearLine}
use Rattle.apt_offset.specs.declared.Target.{Target}
use Rattle.apt_offset.specs.declared.Target.TheVariants as targets
use Rattle.apt_offset.specs.Ranges.{IsTarget}
use Rattle.apt_contact.specs.declared.Meeting.TheVariants.{Parallel, Apart, One}
use Rattle.apt_contact.specs.Meetings.{line_on, circle_about, meeting_of, of_lines, of_line_and_circle, of_circles}
use Rattle.apt_contact.specs.Contacts.{IsCurve, AreParallel, Meet, Touch}
use Rattle.apt_contact.proofs.Sides.{signs_in_order, apart_by_sides, one_by_sides, between_is, zero_is}
use Rattle.apt_contact.proofs.Sides as sides
use Rattle.apt_contact.proofs.Distances.{apart_by_distance, one_by_distance, radii_in_order, no_distance}
use Rattle.apt_contact.proofs.Distances as distances

-- ---- two lines

pub size_tells : (z : ℤ) → (((unsigned_abs z == 0) ≡ true) × (z ≡ pos 0)) ⊎ (((unsigned_abs z == 0) ≡ false) × (z ≢ pos 0))
size_tells z = elim (eqb_tells (unsigned_abs z) 0) [
  | inl none ↦ inl (none.0, omega (arith, ints))
  | inr some ↦ inr (some.0, λ e. some.1 (omega (arith, ints)))
]

lines_parallel : (a b : Line) → (of_lines a b ≡ Parallel) ↔ (cross a.dir b.dir ≡ pos 0)
lines_parallel a b = elim (size_tells (cross a.dir b.dir)) [
  | inl none ↦ rw none.0 (λ e. none.1, λ e. refl)
  | inr some ↦ rw some.0 (λ e. absurd cc, λ e. absurd (some.1 e))
]

lines_not_apart : (a b : Line) → of_lines a b ≢ Apart
lines_not_apart a b = elim (size_tells (cross a.dir b.dir)) [
  | inl none ↦ rw none.0 (λ e. cc)
  | inr some ↦ rw some.0 (λ e. cc)
]

lines_one : (a b : Line) → (of_lines a b ≡ One) ↔ (cross a.dir b.dir ≢ pos 0)
lines_one a b = elim (size_tells (cross a.dir b.dir)) [
  | inl none ↦ rw none.0 (λ e. absurd cc, λ d. absurd (d none.1))
  | inr some ↦ rw some.0 (λ e. some.1, λ d. refl)
]

-- ---- a line and a circle

line_circle_apart : (l : Line) (h : ℤ) (c : Circ) → pos 0 ≤ℤ c.r → (of_line_and_circle l h c ≡ Apart) ↔ (¬ IsNearLine l h c.r c.c)
line_circle_apart l h c is =
    let k = cross l.dir (displacement l.base c.c) in
    let n = length_squared l.dir in
    let signs = apart_by_sides _ _ (signs_in_order k h c.r n is) in
    let on = between_is k h c.r n in
    (λ e near. signs.0 e (on.1 near), λ far. signs.1 (λ between. far (on.0 between)))

line_circle_one : (b : Pt) (d : Dir) (h : ℤ) (c : Pt) (r : ℤ) → pos 0 ≤ℤ r
    → (of_line_and_circle (line_on b d) h (circle_about c r) ≡ One) ↔ Touch (targets.Line b d h) (targets.Circ c r)
line_circle_one b d h c r is =
    let k = cross d (displacement b c) in
    let n = length_squared d in
    let signs = one_by_sides _ _ (signs_in_order k h r n is) in
    let far = zero_is k (h +ℤ r) n in
    let near = zero_is k (h -ℤ r) n in (
      λ e. elim (signs.0 e) [ inl z ↦ inl (far.0 z) | inr z ↦ inr (near.0 z) ],
      λ t. signs.1 (elim t [ inl z ↦ inl (far.1 z) | inr z ↦ inr (near.1 z) ]),
    )

-- ---- two circles

circles_parallel : (a b : Circ) → (of_circles a b ≡ Parallel) ↔ (a.c ≡ b.c)
circles_parallel a b =
    let never = distances.never_parallel (square (a.r -ℤ b.r)) (length_squared (displacement a.c b.c)) (square (a.r +ℤ b.r)) in
    elim (eqb_tells (length_squared (displacement a.c b.c)) 0) [
      | inl one ↦ rw one.0 (λ e. (no_distance a.c b.c).0 one.1, λ e. refl)
      | inr two ↦ rw two.0 (λ e. absurd (never e), λ e. absurd (two.1 ((no_distance a.c b.c).1 e)))
    ]

circles_apart : (a b : Circ)
    → (of_circles a b ≡ Apart)
    ↔ ((a.c ≢ b.c) × (¬ ((square (a.r -ℤ b.r) ≤ length_squared (displacement a.c b.c)) × (length_squared (displacement a.c b.c) ≤ square (a.r +ℤ b.r)))))
circles_apart a b =
    let law = apart_by_distance (square (a.r -ℤ b.r)) (length_squared (displacement a.c b.c)) (square (a.r +ℤ b.r)) in
    elim (eqb_tells (length_squared (displacement a.c b.c)) 0) [
      | inl one ↦ rw one.0 (λ e. absurd cc, λ d. absurd (d.0 ((no_distance a.c b.c).0 one.1)))
      | inr two ↦ rw two.0 (λ e. (λ same. two.1 ((no_distance a.c b.c).1 same), law.0 e), λ d. law.1 d.1)
    ]

circles_one : (a b : Circ) → pos 0 ≤ℤ a.r → pos 0 ≤ℤ b.r
    → (of_circles a b ≡ One)
    ↔ ((a.c ≢ b.c) × ((length_squared (displacement a.c b.c) ≡ square (a.r -ℤ b.r)) ⊎ (length_squared (displacement a.c b.c) ≡ square (a.r +ℤ b.r))))
circles_one a b is_a is_b =
    let law = one_by_distance (square (a.r -ℤ b.r)) (length_squared (displacement a.c b.c)) (square (a.r +ℤ b.r)) (radii_in_order a.r b.r is_a is_b) in
    elim (eqb_tells (length_squared (displacement a.c b.c)) 0) [
      | inl one ↦ rw one.0 (λ e. absurd cc, λ d. absurd (d.0 ((no_distance a.c b.c).0 one.1)))
      | inr two ↦ rw two.0 (λ e. (λ same. two.1 ((no_distance a.c b.c).1 same), law.0 e), λ d. law.1 d.1)
    ]

-- ---- any two targets

pub parallel_law : (a b : Target) → (meeting_of a b ≡ Parallel) ↔ AreParallel a b
parallel_law (targets.Line b d h) (targets.Line e f k) = lines_parallel (line_on b d) (line_on e f)
parallel_law (targets.Line b d h) (targets.Circ c r) = (λ e. sides.never_parallel _ _ e, λ p. absurd p)
parallel_law (targets.Circ c r) (targets.Line b d h) = (λ e. sides.never_parallel _ _ e, λ p. absurd p)
parallel_law (targets.Circ c r) (targets.Circ d q) = circles_parallel (circle_about c r) (circle_about d q)

pub not_negative : (r : ℤ) → pos 100 ≤ℤ r → pos 0 ≤ℤ r
not_negative r h = omega (arith, ints)

pub target_is_curve : (t : Target) → IsTarget t → IsCurve t
target_is_curve (targets.Line b d h) is = is
target_is_curve (targets.Circ c r) is = record { centre = is.centre; least = not_negative r is.least; most = is.most }

pub apart_law : (a b : Target) → IsCurve a → IsCurve b → (meeting_of a b ≡ Apart) ↔ ((¬ AreParallel a b) × (¬ Meet a b))
apart_law (targets.Line b d h) (targets.Line e f k) is_a is_b =
    (λ apart. absurd (lines_not_apart (line_on b d) (line_on e f) apart), λ no. absurd (no.1 no.0))
apart_law (targets.Line b d h) (targets.Circ c r) is_a is_b =
    let law = line_circle_apart (line_on b d) h (circle_about c r) is_b.least in
    (λ e. (λ p. p, law.0 e), λ no. law.1 no.1)
apart_law (targets.Circ c r) (targets.Line b d h) is_a is_b =
    let law = line_circle_apart (line_on b d) h (circle_about c r) is_a.least in
    (λ e. (λ p. p, law.0 e), λ no. law.1 no.1)
apart_law (targets.Circ c r) (targets.Circ d q) is_a is_b = circles_apart (circle_about c r) (circle_about d q)

pub one_law : (a b : Target) → IsCurve a → IsCurve b → (meeting_of a b ≡ One) ↔ ((¬ AreParallel a b) × Touch a b)
one_law (targets.Line b d h) (targets.Line e f k) is_a is_b =
    let law = lines_one (line_on b d) (line_on e f) in
    (λ one. (law.0 one, law.0 one), λ apart. law.1 apart.0)
one_law (targets.Line b d h) (targets.Circ c r) is_a is_b =
    let law = line_circle_one b d h c r is_b.least in
    (λ e. (λ p. p, law.0 e), λ touch. law.1 touch.1)
one_law (targets.Circ c r) (targets.Line b d h) is_a is_b =
    let law = line_circle_one b d h c r is_a.least in
    (λ e. (λ p. p, law.0 e), λ touch. law.1 touch.1)
one_law (targets.Circ c r) (targets.Circ d q) is_a is_b =
    circles_one (circle_about c r) (circle_about d q) is_a.least is_b.least
