-- What the tests of the code tell.
use Rattle.std.proofs.Common.{refl, ◌≡◌, ◌↔◌, ◌∙◌, sym, ap, subst, ◌⊎◌, inl, inr, ℕ, ◌+◌, ◌*◌, ◌/◌, ◌%◌, ◌^◌, ◌≤◌, ◌<◌, Bool, true, false, true≢false, IsTrue, nat_le, arith, [], ◌∷◌, ℤ, pos, negsuc, ◌-ℤ◌, ◌*ℤ◌, ◌≤ℤ◌, ◌<ℤ◌, neg_ℤ, int_lt, int_le, unsigned_abs}
use Rattle.std.specs.List.{AllByRecursion}
use Rattle.std.proofs.Math.Nat.{mul-le-mul_left}
use Rattle.std.proofs.lemmas.Int.{ints}
use Rattle.std.proofs.lemmas.Nat.{mul-le}
use Rattle.std.proofs.lemmas.Bool.{cases_lt, leb-true, le-leb}
use Rattle.apt_num.proofs.Ring.{as_diff, diff-same, differences}
use Rattle.apt_num.proofs.Squares.{root_le, cancel_le}
use Rattle.apt_num.proofs.Products.{sign_cases}
use Rattle.apt_plane.specs.declared.figures.Pt.{Pt}
use Rattle.apt_plane.specs.declared.figures.Dir.{Dir}
use Rattle.apt_plane.specs.declared.figures.Spot.{Spot}
use Rattle.apt_plane.specs.Ranges.{IsPoint}
use Rattle.apt_plane.specs.Vectors.{scaled, between, displacement, cross, dot, length_squared}
use Rattle.apt_plane.proofs.Displacements.{cross_square, dot_square}
use Rattle.apt_plane.proofs.Lengths.{displacement_short}
use Rattle.apt_outline.specs.Clearances.{IsFar}
use Rattle.apt_outline.specs.Spots.{at_spot, foot, crossing, inner_by_sign}
use Rattle.apt_outline.specs.Edges.{side, IsMissed}
use Rattle.apt_outline.proofs.Tests.{point_behind, point_beyond, point_across, foot_behind, foot_beyond, foot_across}
use Rattle.apt_outline.proofs.Whole.{ends_of, foot_of, on_edge_down, on_edge_up}
use Rattle.apt_outline.proofs.Quotients.{IsSplit}

tested : (P : Type 0) (a b : ℕ) → (a ≤ b) ↔ P → IsTrue (nat_le a b) ↔ P
tested P a b is = (λ yes. is.0 (leb-true a b yes), λ p. le-leb a b (is.1 p))

-- ---- a point against an edge, as the code sees it
pub record IsSeen (a p q : Pt) (e d : Dir) (u : ℤ) (n : ℕ) : Type 0 where
  pub edge : e ≡ displacement p q
  pub way : d ≡ displacement p a
  pub along : u ≡ dot e d
  pub whole : n ≡ length_squared e

pub cross_same : (e d u v : Dir) (z : ℤ) → e ≡ u → d ≡ v → z ≡ cross e d → z ≡ cross u v
cross_same e d u v z f g h = h ∙ ap (λ (w : Dir). cross w d) f ∙ ap (λ (w : Dir). cross u w) g

pub dot_same : (e d u v : Dir) (z : ℤ) → e ≡ u → d ≡ v → z ≡ dot e d → z ≡ dot u v
dot_same e d u v z f g h = h ∙ ap (λ (w : Dir). dot w d) f ∙ ap (λ (w : Dir). dot u w) g

pub square_same : (e u : Dir) (n : ℕ) → e ≡ u → n ≡ length_squared e → n ≡ length_squared u
square_same e u n f h = h ∙ ap length_squared f

pub tells_behind : (r v n : ℕ) (a p q : Pt) (e d : Dir) (u : ℤ) → IsSeen a p q e d u n → v ≡ length_squared d → u ≤ℤ pos 0 → IsTrue (nat_le (r * r) v) ↔ IsFar r p q (scaled a)
tells_behind r v n a p q e d u is h behind =
    rw (square_same d (displacement p a) v is.way h)
    (tested (IsFar r p q (scaled a)) (r * r) (length_squared (displacement p a)) (point_behind r a p q (rw (dot_same e d _ _ u is.edge is.way is.along) at behind)))

pub tells_beyond : (r v n : ℕ) (a p q : Pt) (e d w : Dir) (u : ℤ) → IsSeen a p q e d u n → w ≡ displacement q a → v ≡ length_squared w → pos n ≤ℤ u → IsTrue (nat_le (r * r) v) ↔ IsFar r p q (scaled a)
tells_beyond r v n a p q e d w u is f h beyond =
    rw (square_same w (displacement q a) v f h)
    (tested (IsFar r p q (scaled a)) (r * r) (length_squared (displacement q a))
    (point_beyond r a p q (rw (dot_same e d _ _ u is.edge is.way is.along, square_same e _ n is.edge is.whole) at beyond)))

across_law : (P : Type 0) (b : Bool) (limit rr n m : ℕ) (g h : ℤ) → (rr * n ≤ unsigned_abs h * unsigned_abs h) ↔ P → limit ≡ rr * m → m ≡ n → g ≡ h → IsTrue b ↔ (limit ≤ unsigned_abs g * unsigned_abs g) → IsTrue b ↔ P
across_law P b limit rr n m g h is e f i test =
    let told = rw (e, f, i) at test in
    (λ yes. is.0 (told.0 yes), λ p. told.1 (is.1 p))

pub tells_across : (b : Bool) (r limit n : ℕ) (a p q : Pt) (e d : Dir) (u g : ℤ) → IsSeen a p q e d u n → limit ≡ r * r * n → g ≡ cross e d → pos 0 <ℤ u → u <ℤ pos n
    → IsTrue b ↔ (limit ≤ unsigned_abs g * unsigned_abs g) → IsTrue b ↔ IsFar r p q (scaled a)
tells_across b r limit n a p q e d u g is f h some less test =
    let along = dot_same e d _ _ u is.edge is.way is.along in
    let whole = square_same e _ n is.edge is.whole in
    across_law (IsFar r p q (scaled a)) b limit (r * r) (length_squared (displacement p q)) n g (cross (displacement p q) (displacement p a))
    (point_across r a p q (rw along at some) (rw (along, whole) at less)) f whole (cross_same e d _ _ g is.edge is.way h) test

-- ---- a foot
fraction_law : (k y m g n : ℕ) → k * k ≤ m * g → y * y ≤ m * n → g ≤ 2 * 10 ^ 16 → n ≤ 2 * 10 ^ 16 → k * y ≤ 2 * 10 ^ 16 * m
fraction_law k y m g n p q s t =
    let product = mul-le (k * k) (y * y) (m * g) (m * n) p q in
    let sizes = mul-le g n (2 * 10 ^ 16) (2 * 10 ^ 16) s t in
    root_le (k * y) (2 * 10 ^ 16 * m) (omega (arith, product, mul-le-mul_left (m * m) sizes))

pub fraction_small : (p q a b : Pt) (k y : ℤ) (m : ℕ) → IsPoint p → IsPoint q → IsPoint a → IsPoint b → k ≡ side p a b → y ≡ dot (displacement a b) (displacement p q) → m ≡ length_squared (displacement a b)
    → unsigned_abs k * unsigned_abs y ≤ 2 * 10 ^ 16 * m
fraction_small p q a b k y m ip iq ia ib e f g =
    rw (e, f, g)
    (fraction_law (unsigned_abs (side p a b)) (unsigned_abs (dot (displacement a b) (displacement p q))) (length_squared (displacement a b)) (length_squared (displacement a p)) (length_squared (displacement p q))
    (cross_square (displacement a b) (displacement a p)) (dot_square (displacement a b) (displacement p q)) (displacement_short a p ia ip) (displacement_short p q ip iq))

pub lt_true : (x y : ℤ) → x <ℤ y → int_lt x y ≡ true
lt_true x y h = grind (arith, ints)

pub lt_false : (x y : ℤ) → y ≤ℤ x → int_lt x y ≡ false
lt_false x y h = grind (arith, ints)

abbrev pub spot : ℤ → ℤ → Spot
spot j m = record { j = j; m = m }

pub foot_is : (c a b : Pt) → pos 0 <ℤ dot (displacement a b) (displacement a c) → dot (displacement a b) (displacement a c) <ℤ pos (length_squared (displacement a b))
    → foot c a b ≡ spot (dot (displacement a b) (displacement a c)) (pos (length_squared (displacement a b))) ∷ []
foot_is c a b some less = rw (lt_true _ _ some, lt_true _ _ less) refl

-- what the code tells of it
pub record IsTold (b : Bool) (r whole edge : ℕ) (k x y : ℤ) : Type 0 where
  pub behind : pos 0 ≤ℤ (k *ℤ x) → IsTrue b ↔ (r * r * whole ≤ unsigned_abs k * unsigned_abs k)
  pub beyond : (k *ℤ x) <ℤ pos 0 → whole * edge ≤ unsigned_abs (k *ℤ x) → IsTrue b ↔ (r * r * whole + 2 * unsigned_abs (k *ℤ x) ≤ whole * edge + unsigned_abs k * unsigned_abs k)
  pub across : (k *ℤ x) <ℤ pos 0 → unsigned_abs (k *ℤ x) < whole * edge → IsTrue b ↔ (r * r * edge * (whole * whole) ≤ unsigned_abs k * unsigned_abs y * (unsigned_abs k * unsigned_abs y))

both : (P Q R : Type 0) → P ↔ Q → Q ↔ R → P ↔ R
both P Q R f g = (λ p. g.0 (f.0 p), λ r. f.1 (g.1 r))

below_cases : (z : ℤ) → (pos 0 ≤ℤ z) ⊎ (z <ℤ pos 0)
below_cases (pos n) = inl (omega (arith, ints))
below_cases (negsuc n) = inr (omega (arith, ints))

foot_told_at : (b : Bool) (r : ℕ) (p q a b' : Pt) → IsTold b r (length_squared (displacement a b')) (length_squared (displacement p q)) (side p a b') (cross (displacement a b') (displacement p q)) (dot (displacement a b') (displacement p q))
    → pos 0 <ℤ dot (displacement a b') (displacement a p) → dot (displacement a b') (displacement a p) <ℤ pos (length_squared (displacement a b'))
    → IsTrue b ↔ IsFar r p q (at_spot a b' (spot (dot (displacement a b') (displacement a p)) (pos (length_squared (displacement a b')))))
foot_told_at b r p q a b' told some less =
    let foot_at = foot_of p a b' some less in
    let z = side p a b' *ℤ cross (displacement a b') (displacement p q) in
    elim (below_cases z) [
      | inl behind ↦ both _ _ _ (told.behind behind) (foot_behind r p q a b' _ _ foot_at behind)
      | inr ahead ↦ elim (cases_lt (unsigned_abs z) (length_squared (displacement a b') * length_squared (displacement p q))) [
        | inl short ↦ both _ _ _ (told.across ahead short) (foot_across r p q a b' _ _ foot_at ahead short)
        | inr long ↦ both _ _ _ (told.beyond ahead long) (foot_beyond r p q a b' _ _ foot_at ahead long)
      ]
    ]

pub foot_told : (b : Bool) (r whole edge : ℕ) (k x y u : ℤ) (p q a b' : Pt) → IsTold b r whole edge k x y → whole ≡ length_squared (displacement a b') → edge ≡ length_squared (displacement p q) → k ≡ side p a b'
    → x ≡ cross (displacement a b') (displacement p q) → y ≡ dot (displacement a b') (displacement p q) → u ≡ dot (displacement a b') (displacement a p) → pos 0 <ℤ u → u <ℤ pos whole
    → IsTrue b ↔ IsFar r p q (at_spot a b' (spot (dot (displacement a b') (displacement a p)) (pos (length_squared (displacement a b')))))
foot_told b r whole edge k x y u p q a b' told e f g h i j some less =
    foot_told_at b r p q a b' (rw (e, f, g, h, i) at told) (rw j at some) (rw (j, e) at less)

-- ---- the crossing
flip_parts : (px py ax ay ex ey : ℤ) → ((px -ℤ ax) *ℤ ey) -ℤ ((py -ℤ ay) *ℤ ex) ≡ (ex *ℤ (ay -ℤ py)) -ℤ (ey *ℤ (ax -ℤ px))
flip_parts px py ax ay ex ey = rw (as_diff px, as_diff py, as_diff ax, as_diff ay, as_diff ex, as_diff ey) (simp differences (diff-same _ _ _ _ (omega arith)))

flip : (p a : Pt) (e : Dir) → cross (displacement a p) e ≡ cross e (displacement p a)
flip p a e = flip_parts p.x p.y a.x a.y e.dx e.dy

turn_parts : (px py ax ay bx by ex ey : ℤ) → ((bx -ℤ ax) *ℤ ey) -ℤ ((by -ℤ ay) *ℤ ex) ≡ ((ex *ℤ (ay -ℤ py)) -ℤ (ey *ℤ (ax -ℤ px))) -ℤ ((ex *ℤ (by -ℤ py)) -ℤ (ey *ℤ (bx -ℤ px)))
turn_parts px py ax ay bx by ex ey =
    rw (as_diff px, as_diff py, as_diff ax, as_diff ay, as_diff bx, as_diff by, as_diff ex, as_diff ey) (simp differences (diff-same _ _ _ _ (omega arith)))

turn : (p a b : Pt) (e : Dir) → cross (displacement a b) e ≡ cross e (displacement p a) -ℤ cross e (displacement p b)
turn p a b e = turn_parts p.x p.y a.x a.y b.x b.y e.dx e.dy

inner_down : (j m g h : ℤ) → j ≡ g → m ≡ g -ℤ h → pos 0 <ℤ g → h <ℤ pos 0 → inner_by_sign j m ≡ spot g (g -ℤ h) ∷ []
inner_down j m g h e f some less = rw (e, f, lt_false (g -ℤ h) (pos 0) (omega (arith, ints, some, less)), lt_true (pos 0) g some, lt_true g (g -ℤ h) (omega (arith, ints, less))) refl

inner_up : (j m g h : ℤ) → j ≡ g → m ≡ g -ℤ h → g <ℤ pos 0 → pos 0 <ℤ h → inner_by_sign j m ≡ spot (neg_ℤ g) (neg_ℤ (g -ℤ h)) ∷ []
inner_up j m g h e f less some =
    rw (
      e,
      f,
      lt_true (g -ℤ h) (pos 0) (omega (arith, ints, some, less)),
      lt_true (pos 0) (neg_ℤ g) (omega (arith, ints, less)),
      lt_true (neg_ℤ g) (neg_ℤ (g -ℤ h)) (omega (arith, ints, some)),
    ) refl

same_spot : (j m : ℤ) (s : Spot) → s.j ≡ j → s.m ≡ m → spot j m ≡ s
same_spot j m s e f = sym (λ i. spot (e i) (f i))

same_at : (a b : Pt) (j k i h : ℕ) → j ≡ i → k ≡ h → between a b j k ≡ between a b i h
same_at a b j k i h e f = λ x. between a b (e x) (f x)

sizes_down : (s : Spot) (g h : ℤ) → s.j ≡ g → s.m ≡ g -ℤ h → unsigned_abs (s.m -ℤ s.j) ≡ unsigned_abs h
sizes_down s g h e f = rw (e, f) (omega (arith, ints))

sizes_up : (s : Spot) (g h : ℤ) → s.j ≡ neg_ℤ g → s.m ≡ neg_ℤ (g -ℤ h) → unsigned_abs (s.m -ℤ s.j) ≡ unsigned_abs h
sizes_up s g h e f = rw (e, f) (omega (arith, ints))

size_up : (s : Spot) (g : ℤ) → s.j ≡ neg_ℤ g → unsigned_abs s.j ≡ unsigned_abs g
size_up s g e = rw e (omega (arith, ints))

abbrev pub IsCrossed : Pt → Pt → Pt → Pt → Spot → Type 0
IsCrossed p q a b s = (crossing a b p q ≡ s ∷ []) × ((r : ℕ) → 0 < r → ¬ IsFar r p q (at_spot a b s))

pub crossed_down : (p q a b : Pt) (s : Spot) → s.j ≡ (ends_of p q a b).ga → s.m ≡ (ends_of p q a b).ga -ℤ (ends_of p q a b).gb → pos 0 <ℤ (ends_of p q a b).ga → (ends_of p q a b).gb <ℤ pos 0
    → side p a b ≤ℤ pos 0 → pos 0 ≤ℤ side q a b → IsCrossed p q a b s
crossed_down p q a b s e f more less first second =
    let x = ends_of p q a b in (
      inner_down _ _ x.ga x.gb (flip p a (displacement p q)) (turn p a b (displacement p q)) more less ∙ ap (λ (t : Spot). t ∷ []) (same_spot x.ga (x.ga -ℤ x.gb) s e f),
      λ r some far.
          on_edge_down r p q a b some more less first second
          (subst (λ t. IsFar r p q t) (same_at a b _ _ (unsigned_abs x.ga) (unsigned_abs x.gb) (ap unsigned_abs e) (sizes_down s x.ga x.gb e f)) far),
    )

pub crossed_up : (p q a b : Pt) (s : Spot) → s.j ≡ neg_ℤ (ends_of p q a b).ga → s.m ≡ neg_ℤ ((ends_of p q a b).ga -ℤ (ends_of p q a b).gb) → (ends_of p q a b).ga <ℤ pos 0 → pos 0 <ℤ (ends_of p q a b).gb
    → pos 0 ≤ℤ side p a b → side q a b ≤ℤ pos 0 → IsCrossed p q a b s
crossed_up p q a b s e f less more first second =
    let x = ends_of p q a b in (
      inner_up _ _ x.ga x.gb (flip p a (displacement p q)) (turn p a b (displacement p q)) less more ∙ ap (λ (t : Spot). t ∷ []) (same_spot (neg_ℤ x.ga) (neg_ℤ (x.ga -ℤ x.gb)) s e f),
      λ r some far.
          on_edge_up r p q a b some less more first second
          (subst (λ t. IsFar r p q t) (same_at a b _ _ (unsigned_abs x.ga) (unsigned_abs x.gb) (size_up s x.ga e) (sizes_up s x.ga x.gb e f)) far),
    )

-- where it misses the edge
not_both : (k l : ℤ) → ¬ ((k ≤ℤ pos 0) × (pos 0 ≤ℤ l)) → (pos 0 <ℤ k) ⊎ (l <ℤ pos 0)
not_both k l none = elim (sign_cases k) [
  | inl more ↦ inl more
  | inr first ↦ elim (below_cases l) [ inl second ↦ absurd (none (first, second)) | inr less ↦ inr less ]
]

turned_or : (k l : ℤ) → (pos 0 <ℤ l) ⊎ (k <ℤ pos 0) → (k <ℤ pos 0) ⊎ (pos 0 <ℤ l)
turned_or k l (inl more) = inr more
turned_or k l (inr less) = inl less

pub missed_down : (g h k l : ℤ) → pos 0 <ℤ g → ¬ ((k ≤ℤ pos 0) × (pos 0 ≤ℤ l)) → IsMissed g h k l
missed_down g h k l more none = record { down = λ p q. not_both k l none; up = λ p q. absurd (omega (arith, ints, more, p)) }

pub missed_up : (g h k l : ℤ) → g <ℤ pos 0 → ¬ ((l ≤ℤ pos 0) × (pos 0 ≤ℤ k)) → IsMissed g h k l
missed_up g h k l less none = record { down = λ p q. absurd (omega (arith, ints, less, p)); up = λ p q. turned_or k l (not_both l k none) }

pub missed_neither : (g h k l : ℤ) → (pos 0 <ℤ g → h <ℤ pos 0 → ⊥) → (g <ℤ pos 0 → pos 0 <ℤ h → ⊥) → IsMissed g h k l
missed_neither g h k l down up = record { down = λ p q. absurd (down p q); up = λ p q. absurd (up p q) }

-- ---- the square of a fraction
pub split_of : (z m : ℕ) → 0 < m → IsSplit z m (z / m) (z % m) (z % m * (z % m) / m) (z % m * (z % m) % m) ((2 * (z / m) * (z % m) + z % m * (z % m) / m) / m) ((2 * (z / m) * (z % m) + z % m * (z % m) / m) % m)
split_of z m some = record {
  first = divided z m some;
  second = divided (z % m * (z % m)) m some;
  third = divided (2 * (z / m) * (z % m) + z % m * (z % m) / m) m some;
  d_less = rest_less (z % m * (z % m)) m some;
  f_less = rest_less (2 * (z / m) * (z % m) + z % m * (z % m) / m) m some;
}
  where
    divided : (n m : ℕ) → 0 < m → n ≡ n / m * m + n % m
    divided n m some = omega arith

    rest_less : (n m : ℕ) → 0 < m → n % m < m
    rest_less n m some = omega arith

sizes : (z m a b c d e f : ℕ) → 1 ≤ m → m ≤ 2 * 10 ^ 16 → z ≤ 2 * 10 ^ 16 * m → b < m → IsSplit z m a b c d e f → a * a + e < 2 ^ 128
sizes z m a b c d e f some few less rest is =
    let whole : a ≤ 2 * 10 ^ 16 = cancel_le m a (2 * 10 ^ 16) some (omega (arith, is.first, less)) in
    let carried : c ≤ b = cancel_le m c b some (omega (arith, is.second, mul-le-mul_left b rest)) in
    let over : e ≤ 2 * a + 1 = cancel_le m e (2 * a + 1) some (omega (arith, is.third, carried, rest, mul-le-mul_left (2 * a) rest)) in
    omega (arith, over, whole, mul-le a a (2 * 10 ^ 16) (2 * 10 ^ 16) whole whole)

pub sum_fits : (z m : ℕ) → 1 ≤ m → m ≤ 2 * 10 ^ 16 → z ≤ 2 * 10 ^ 16 * m
    → z / m * (z / m) + (2 * (z / m) * (z % m) + z % m * (z % m) / m) / m < 2 ^ 128
sum_fits z m some few less = sizes z m _ _ _ _ _ _ some few less (rest_less z m some) (split_of z m some)
  where
    rest_less : (n m : ℕ) → 1 ≤ m → n % m < m
    rest_less n m some = omega arith

-- ---- comparisons
le_true : (x y : ℤ) → x ≤ℤ y → int_le x y ≡ true
le_true x y h = grind (arith, ints)

le_of : (x y : ℤ) → int_le x y ≡ true → x ≤ℤ y
le_of x y h = omega (arith, ints, h)

pub sides_tell : (z w k l : ℤ) → z ≡ k → w ≡ l → z ≤ℤ pos 0 → IsTrue (int_le (pos 0) w) ↔ ((k ≤ℤ pos 0) × (pos 0 ≤ℤ l))
sides_tell z w k l e f le = (λ yes. (rw e at le, rw f at (le_of (pos 0) w yes)), λ is. le_true (pos 0) w (rw f is.1))

pub neg_small : (z : ℤ) (n : ℕ) → unsigned_abs z ≤ n → unsigned_abs (pos 0 -ℤ z) ≤ n
neg_small z n h = omega (arith, ints, h)

pub neg_of : (z g j : ℤ) → j ≡ pos 0 -ℤ z → z ≡ g → j ≡ neg_ℤ g
neg_of z g j e f = e ∙ rw f (omega (arith, ints))

pub neg_difference : (z w g h m : ℤ) → m ≡ (pos 0 -ℤ z) -ℤ (pos 0 -ℤ w) → z ≡ g → w ≡ h → m ≡ neg_ℤ (g -ℤ h)
neg_difference z w g h m e f i = e ∙ rw (f, i) (omega (arith, ints))

pub difference_of : (z w g h m : ℤ) → m ≡ z -ℤ w → z ≡ g → w ≡ h → m ≡ g -ℤ h
difference_of z w g h m e f i = e ∙ rw (f, i) refl

-- ---- the foot that is found, or none
fails_of : (b : Bool) (P : Type 0) → b ≡ false → IsTrue b ↔ P → ¬ P
fails_of b P e tells = λ is. absurd (true≢false (sym (tells.1 is) ∙ e))

pub found_foot : (b : Bool) (r whole edge : ℕ) (k x y u j m : ℤ) (p q a b' : Pt) → IsTold b r whole edge k x y → whole ≡ length_squared (displacement a b') → edge ≡ length_squared (displacement p q) → k ≡ side p a b'
    → x ≡ cross (displacement a b') (displacement p q) → y ≡ dot (displacement a b') (displacement p q) → u ≡ dot (displacement a b') (displacement a p) → pos 0 <ℤ u → u <ℤ pos whole
    → b ≡ false → j ≡ dot (displacement a b') (displacement a p) → m ≡ pos (length_squared (displacement a b'))
    → (foot p a b' ≡ spot j m ∷ []) × ¬ IsFar r p q (at_spot a b' (spot j m))
found_foot b r whole edge k x y u j m p q a b' told e f g h i l some less near s t =
    rw (s, t) (foot_is p a b' (rw l at some) (rw (l, e) at less), fails_of b _ near (foot_told b r whole edge k x y u p q a b' told e f g h i l some less))

pub all_of_foot : (P : Spot → Type 0) (c a b : Pt) → pos 0 <ℤ dot (displacement a b) (displacement a c) → dot (displacement a b) (displacement a c) <ℤ pos (length_squared (displacement a b))
    → P (spot (dot (displacement a b) (displacement a c)) (pos (length_squared (displacement a b)))) → AllByRecursion P (foot c a b)
all_of_foot P c a b some less is = rw (foot_is c a b some less) (is, tt)

pub far_foot : (b : Bool) (r whole edge : ℕ) (k x y u : ℤ) (p q a b' : Pt) → IsTold b r whole edge k x y → whole ≡ length_squared (displacement a b') → edge ≡ length_squared (displacement p q) → k ≡ side p a b'
    → x ≡ cross (displacement a b') (displacement p q) → y ≡ dot (displacement a b') (displacement p q) → u ≡ dot (displacement a b') (displacement a p) → pos 0 <ℤ u → u <ℤ pos whole
    → b ≡ true → AllByRecursion (λ t. IsFar r p q (at_spot a b' t)) (foot p a b')
far_foot b r whole edge k x y u p q a b' told e f g h i l some less far =
    all_of_foot (λ t. IsFar r p q (at_spot a b' t)) p a b' (rw l at some) (rw (l, e) at less) ((foot_told b r whole edge k x y u p q a b' told e f g h i l some less).0 far)

pub order_cases : (u v : ℤ) → (u <ℤ v) ⊎ (v ≤ℤ u)
order_cases u v = elim (below_cases (u -ℤ v)) [ inl more ↦ inr (omega (arith, ints, more)) | inr less ↦ inl (omega (arith, ints, less)) ]

no_foot_law : (P : Spot → Type 0) (c a b : Pt) → ¬ ((pos 0 <ℤ dot (displacement a b) (displacement a c)) × (dot (displacement a b) (displacement a c) <ℤ pos (length_squared (displacement a b)))) → AllByRecursion P (foot c a b)
no_foot_law P c a b out =
    let u = dot (displacement a b) (displacement a c) in
    let m = pos (length_squared (displacement a b)) in
    elim (order_cases (pos 0) u) [
      | inr behind ↦ rw (lt_false (pos 0) u behind) tt
      | inl some ↦ elim (order_cases u m) [ inl less ↦ absurd (out (some, less)) | inr beyond ↦ rw (lt_true (pos 0) u some, lt_false u m beyond) tt ]
    ]

pub no_foot : (r : ℕ) (p q a b : Pt) (u : ℤ) (whole : ℕ) → u ≡ dot (displacement a b) (displacement a p) → whole ≡ length_squared (displacement a b) → ¬ ((pos 0 <ℤ u) × (u <ℤ pos whole))
    → AllByRecursion (λ t. IsFar r p q (at_spot a b t)) (foot p a b)
no_foot r p q a b u whole e f out = no_foot_law (λ t. IsFar r p q (at_spot a b t)) p a b (rw (e, f) at out)
