-- What the squares of a distance and of two lengths tell of two circles.
use Rattle.std.proofs.Common.{refl, ◌≡◌, ◌≢◌, ◌↔◌, ℕ, zero, suc, ◌*◌, ◌≤◌, ◌<◌, arith, ◌⊎◌, inl, inr, ℤ, pos, ◌+ℤ◌, ◌-ℤ◌, ◌≤ℤ◌, unsigned_abs}
use Rattle.std.proofs.lemmas.Int.{ints}
use Rattle.std.proofs.lemmas.Bool.Decides.{leb_tells, eqb_tells}
use Rattle.apt_num.specs.Sign.{square}
use Rattle.apt_num.proofs.Squares.{square_le}
use Rattle.apt_plane.specs.declared.figures.Pt.{Pt}
use Rattle.apt_plane.specs.declared.figures.Circ.{Circ}
use Rattle.apt_plane.specs.Vectors.{displacement, length_squared}
use Rattle.apt_contact.specs.declared.Meeting.TheVariants.{Parallel, Apart, One, Two}
use Rattle.apt_contact.specs.Meetings.{by_distance, of_circles}

-- each case of a distance: what is answered, and when
pub data Case (least n most : ℕ) : Type 0 where
  Within : n < least → by_distance least n most ≡ Apart → Case least n most
  Beyond : most < n → by_distance least n most ≡ Apart → Case least n most
  Inner : n ≡ least → n ≤ most → by_distance least n most ≡ One → Case least n most
  Outer : n ≡ most → least ≤ n → by_distance least n most ≡ One → Case least n most
  Crossing : least < n → n < most → by_distance least n most ≡ Two → Case least n most

pub cases : (least n most : ℕ) → Case least n most
cases least n most = elim (leb_tells (suc n) least) [
  | inl within ↦ Within within.1 (rw within.0 refl)
  | inr past ↦ elim (leb_tells (suc most) n) [
    | inl beyond ↦ Beyond beyond.1 (rw (past.0, beyond.0) refl)
    | inr before ↦ elim (eqb_tells n least) [
      | inl inner ↦ Inner inner.1 (omega arith) (rw (past.0, before.0, inner.0) refl)
      | inr more ↦ elim (eqb_tells n most) [
        | inl outer ↦ Outer outer.1 (omega arith) (rw (past.0, before.0, more.0, outer.0) refl)
        | inr less ↦ Crossing (omega arith) (omega arith) (rw (past.0, before.0, more.0, less.0) refl)
      ]
    ]
  ]
]

pub never_parallel : (least n most : ℕ) → by_distance least n most ≢ Parallel
never_parallel least n most = λ e. elim (cases least n most) [
  | Within h f ↦ cc
  | Beyond h f ↦ cc
  | Inner h m f ↦ cc
  | Outer h m f ↦ cc
  | Crossing h m f ↦ cc
]

pub apart_by_distance : (least n most : ℕ) → (by_distance least n most ≡ Apart) ↔ (¬ ((least ≤ n) × (n ≤ most)))
apart_by_distance least n most = elim (cases least n most) [
  | Within h f ↦ (λ e b. let low = b.0 in omega arith, λ d. f)
  | Beyond h f ↦ (λ e b. let high = b.1 in omega arith, λ d. f)
  | Inner h m f ↦ (λ e. absurd cc, λ d. absurd (d (omega arith, m)))
  | Outer h m f ↦ (λ e. absurd cc, λ d. absurd (d (m, omega arith)))
  | Crossing h m f ↦ (λ e. absurd cc, λ d. absurd (d (omega arith, omega arith)))
]

pub one_by_distance : (least n most : ℕ) → least ≤ most → (by_distance least n most ≡ One) ↔ ((n ≡ least) ⊎ (n ≡ most))
one_by_distance least n most order = elim (cases least n most) [
  | Within h f ↦ (λ e. absurd cc, λ t. absurd (elim t [ inl e ↦ omega arith | inr e ↦ omega arith ]))
  | Beyond h f ↦ (λ e. absurd cc, λ t. absurd (elim t [ inl e ↦ omega arith | inr e ↦ omega arith ]))
  | Inner h m f ↦ (λ e. inl h, λ t. f)
  | Outer h m f ↦ (λ e. inr h, λ t. f)
  | Crossing h m f ↦ (λ e. absurd cc, λ t. absurd (elim t [ inl e ↦ omega arith | inr e ↦ omega arith ]))
]

-- the difference of two radii is at most their sum
pub radii_in_order : (r q : ℤ) → pos 0 ≤ℤ r → pos 0 ≤ℤ q → square (r -ℤ q) ≤ square (r +ℤ q)
radii_in_order r q is_r is_q = square_le (unsigned_abs (r -ℤ q)) (unsigned_abs (r +ℤ q)) (omega (arith, ints))

-- ---- one centre

no_square : (x : ℕ) → x * x ≡ 0 → x ≡ 0
no_square zero e = refl
no_square (suc x) e = absurd (omega arith)

no_difference : (x y : ℤ) → unsigned_abs (y -ℤ x) ≡ 0 → x ≡ y
no_difference x y e = omega (arith, ints)

no_size : (x : ℤ) → unsigned_abs (x -ℤ x) ≡ 0
no_size x = omega (arith, ints)

abbrev point : ℤ → ℤ → Pt
point x y = record { x = x; y = y }

points_same : (p q : Pt) → p.x ≡ q.x → p.y ≡ q.y → p ≡ q
points_same p q e f = from_parts p.x p.y q.x q.y e f
  where
    from_parts : (x y u v : ℤ) → x ≡ u → y ≡ v → point x y ≡ point u v
    from_parts x y u v e f = rw (e, f) refl

pub no_distance : (p q : Pt) → (length_squared (displacement p q) ≡ 0) ↔ (p ≡ q)
no_distance p q = (
  λ e. points_same p q
      (no_difference p.x q.x (no_square (unsigned_abs (q.x -ℤ p.x)) (omega arith)))
      (no_difference p.y q.y (no_square (unsigned_abs (q.y -ℤ p.y)) (omega arith))),
  λ e. rw (e, no_size q.x, no_size q.y) refl,
)

-- circles about two centres
pub by_their_distance : (a b : Circ) → length_squared (displacement a.c b.c) ≢ 0
    → of_circles a b ≡ by_distance (square (a.r -ℤ b.r)) (length_squared (displacement a.c b.c)) (square (a.r +ℤ b.r))
by_their_distance a b two = elim (eqb_tells (length_squared (displacement a.c b.c)) 0) [
  | inl same ↦ absurd (two same.1)
  | inr apart ↦ rw apart.0 refl
]
