-- The distances of the points of a segment from a centre.
use Rattle.std.proofs.Common.{◌≡◌, ◌↔◌, ◌⊎◌, inl, inr, ℕ, zero, suc, ◌+◌, ◌-◌, ◌*◌, ◌≤◌, ◌<◌, sym, ◌∙◌, ap, subst, arith, true, ℤ, pos, negsuc, neg_ℤ, ◌*ℤ◌, ◌≤ℤ◌, ◌<ℤ◌, int_lt, unsigned_abs}
use Rattle.std.proofs.Math.Nat.{mul-le-mul_left}
use Rattle.std.proofs.lemmas.Int.{ints}
use Rattle.std.proofs.lemmas.Bool.{cases_lt}
use Rattle.apt_num.proofs.Squares.{size_mul, size_neg}
use Rattle.apt_num.proofs.Convex.{between_below, start_nearest, end_nearest, foot_nearest, foot_below}
use Rattle.apt_num.proofs.Nearest.{not_negative}
use Rattle.apt_plane.specs.declared.figures.Pt.{Pt}
use Rattle.apt_plane.specs.declared.figures.Dir.{Dir}
use Rattle.apt_plane.specs.declared.figures.Line.{Line}
use Rattle.apt_plane.specs.declared.figures.Circ.{Circ}
use Rattle.apt_plane.specs.declared.figures.Surface.{Surface}
use Rattle.apt_plane.specs.declared.figures.Surface.TheVariants as surfaces
use Rattle.apt_plane.specs.declared.figures.Band.{Band}
use Rattle.apt_plane.specs.declared.figures.Spot.{Spot}
use Rattle.apt_plane.specs.Vectors.{scaled, between, displacement, displacement_to, cross, dot, length_squared}
use Rattle.apt_plane.specs.Distances.{IsLengthAtMost, IsRootAtMost, IsAbove, IsOver, IsUnder, about, InBand, EveryPoint}
use Rattle.apt_plane.specs.Segments.{IsFoot, IsFirstFoot, IsFirstOff}
use Rattle.apt_plane.proofs.Displacements.{lagrange, cross_square, stewart, cosines, cross_between, dot_between}
use Rattle.apt_plane.proofs.Heights.{one-times}
use Rattle.apt_plane.proofs.SegmentLaws.{above-between, below-between}

below_zero : (z : ℤ) → z <ℤ pos 0 → int_lt z (pos 0) ≡ true
below_zero z h = grind (arith, ints)

negative_product : (m h : ℕ) → 0 < m → neg_ℤ (pos (m * suc h)) <ℤ pos 0
negative_product m h p = omega (arith, ints)

-- ---- m times a length against a root, by squares

pub length_at_most : (m h n : ℕ) → IsLengthAtMost (pos m *ℤ pos h) n ↔ (m * m * (h * h) ≤ n)
length_at_most m h n = rw (not_negative (m * h)) (λ p. omega (arith, p), λ p. omega (arith, p))

pub root_at_most : (m h n : ℕ) → IsRootAtMost n (pos m *ℤ pos h) ↔ (n ≤ m * m * (h * h))
root_at_most m h n = rw (not_negative (m * h)) (λ p. omega (arith, p), λ p. omega (arith, p))

-- a length below 0 is at most every root, and no root is at most it
pub negative_at_most : (m h n : ℕ) → 0 < m → IsLengthAtMost (pos m *ℤ negsuc h) n
negative_at_most m h n p = rw (below_zero (neg_ℤ (pos (m * suc h))) (negative_product m h p)) tt

pub never_at_most : (m h n : ℕ) → 0 < m → ¬ IsRootAtMost n (pos m *ℤ negsuc h)
never_at_most m h n p = rw (below_zero (neg_ℤ (pos (m * suc h))) (negative_product m h p)) (λ q. q)

-- ---- of a point, by the way to it

pub tells_over : (P : Type 0) (c p : Pt) (lo : ℤ) (d : Dir) (n : ℕ) → d ≡ displacement c p → n ≡ length_squared d → P ↔ IsLengthAtMost lo n → P ↔ IsOver (about c) lo (scaled p)
tells_over P c p lo d n e f is = rw (one-times c.x, one-times c.y, one-times lo) (rw (f, e) at is)

pub tells_under : (P : Type 0) (c p : Pt) (hi : ℤ) (d : Dir) (n : ℕ) → d ≡ displacement c p → n ≡ length_squared d → P ↔ IsRootAtMost n hi → P ↔ IsUnder (about c) hi (scaled p)
tells_under P c p hi d n e f is = rw (one-times c.x, one-times c.y, one-times hi) (rw (f, e) at is)

pub over_from : (c p : Pt) (h : ℕ) → IsOver (about c) (pos h) (scaled p) → h * h ≤ length_squared (displacement c p)
over_from c p h is = omega (arith, (length_at_most 1 h (length_squared (displacement c p))).0 (rw (one-times c.x, one-times c.y) at is))

pub under_to : (c p : Pt) (h : ℕ) → length_squared (displacement c p) ≤ h * h → IsUnder (about c) (pos h) (scaled p)
under_to c p h le = rw (one-times c.x, one-times c.y) ((root_at_most 1 h (length_squared (displacement c p))).1 (omega (arith, le)))

pub over_to : (c p : Pt) (h : ℕ) → h * h ≤ length_squared (displacement c p) → IsOver (about c) (pos h) (scaled p)
over_to c p h le = rw (one-times c.x, one-times c.y) ((length_at_most 1 h (length_squared (displacement c p))).1 (omega (arith, le)))

pub under_from : (c p : Pt) (h : ℕ) → IsUnder (about c) (pos h) (scaled p) → length_squared (displacement c p) ≤ h * h
under_from c p h is = omega (arith, (root_at_most 1 h (length_squared (displacement c p))).0 (rw (one-times c.x, one-times c.y) at is))

-- ---- at most a length from the centre at both ends: so between
pub under-between : (c p q : Pt) (hi : ℤ) → IsUnder (about c) hi (scaled p) → IsUnder (about c) hi (scaled q) → EveryPoint p q (IsUnder (about c) hi)
under-between c p q (pos h) a b = λ j k m.
    let n = length_squared (displacement_to c (between p q j k)) in
    (root_at_most (j + k) h n).1
    (between_below (length_squared (displacement c p)) (length_squared (displacement c q)) (length_squared (displacement p q)) n j k (h * h) (stewart c p q j k) (under_from c p h a) (under_from c q h b))
under-between c p q (negsuc h) a b = absurd (never_at_most 1 h _ (omega arith) a)

-- ---- at least a length at both ends: so between, but for the foot

abbrev along : Pt → Pt → Pt → ℤ
along c p q = dot (displacement p q) (displacement p c)

abbrev area : Pt → Pt → Pt → ℤ
area c p q = cross (displacement p q) (displacement p c)

-- the foot is at the start or behind it, or it is at the end or beyond, or it is far enough
abbrev IsFar : ℤ → ℕ → ℕ → ℕ → Type 0
IsFar a n x h = (a ≤ℤ pos 0) ⊎ (pos n ≤ℤ a) ⊎ ((0 < n) × (h * h * n ≤ x * x))

abbrev pub IsFootFar : Pt → Pt → Pt → ℕ → Type 0
IsFootFar c p q h = IsFar (along c p q) (length_squared (displacement p q)) (unsigned_abs (area c p q)) h

abbrev square_between : Pt → Pt → Pt → ℕ → ℕ → ℕ
square_between c p q j k = length_squared (displacement_to c (between p q j k))

far_start : (c p q : Pt) (j k : ℕ) → along c p q ≤ℤ pos 0 → (j + k) * (j + k) * length_squared (displacement c p) ≤ square_between c p q j k
far_start c p q j k behind =
    start_nearest (length_squared (displacement c p)) (length_squared (displacement c q)) (length_squared (displacement p q)) (square_between c p q j k) j k (stewart c p q j k)
    (omega (arith, ints, cosines c p q, behind))

far_end : (c p q : Pt) (j k : ℕ) → pos (length_squared (displacement p q)) ≤ℤ along c p q → (j + k) * (j + k) * length_squared (displacement c q) ≤ square_between c p q j k
far_end c p q j k beyond =
    end_nearest (length_squared (displacement c p)) (length_squared (displacement c q)) (length_squared (displacement p q)) (square_between c p q j k) j k (stewart c p q j k)
    (omega (arith, ints, cosines c p q, beyond))

size_between : (c p q : Pt) (j k : ℕ) → unsigned_abs (cross (displacement p q) (displacement_to c (between p q j k))) ≡ (j + k) * unsigned_abs (area c p q)
size_between c p q j k =
    ap unsigned_abs (cross_between c p q j k) ∙ size_neg (pos (j + k) *ℤ area c p q) ∙ size_mul (pos (j + k)) (area c p q)

area_square : (c p q : Pt) (j k : ℕ) →
    ((j + k) * unsigned_abs (area c p q)) * ((j + k) * unsigned_abs (area c p q)) ≤ length_squared (displacement p q) * square_between c p q j k
area_square c p q j k =
    subst (λ z. z * z ≤ length_squared (displacement p q) * square_between c p q j k) (size_between c p q j k) (cross_square (displacement p q) (displacement_to c (between p q j k)))

far_between : (c p q : Pt) (h j k : ℕ) → h * h ≤ length_squared (displacement c p) → h * h ≤ length_squared (displacement c q) → IsFootFar c p q h
    → (j + k) * (j + k) * (h * h) ≤ square_between c p q j k
far_between c p q h j k a b (inl behind) = omega (arith, far_start c p q j k behind, mul-le-mul_left ((j + k) * (j + k)) a)
far_between c p q h j k a b (inr (inl beyond)) = omega (arith, far_end c p q j k beyond, mul-le-mul_left ((j + k) * (j + k)) b)
far_between c p q h j k a b (inr (inr far)) =
    foot_nearest (h * h) (length_squared (displacement p q)) (unsigned_abs (area c p q)) (square_between c p q j k) (j + k) far.0 far.1 (area_square c p q j k)

pub over-between : (c p q : Pt) (h : ℕ) → IsOver (about c) (pos h) (scaled p) → IsOver (about c) (pos h) (scaled q) → IsFootFar c p q h → EveryPoint p q (IsOver (about c) (pos h))
over-between c p q h a b far = λ j k m. (length_at_most (j + k) h (square_between c p q j k)).1 (far_between c p q h j k (over_from c p h a) (over_from c q h b) far)

pub negative_over : (c p q : Pt) (h : ℕ) → EveryPoint p q (IsOver (about c) (negsuc h))
negative_over c p q h = λ j k m. negative_at_most (j + k) h (square_between c p q j k) m

-- ---- the foot

foot_dot : (c p q : Pt) (j k : ℕ) → IsFoot c p q j k → dot (displacement p q) (displacement_to c (between p q j k)) ≡ pos 0
foot_dot c p q j k foot = dot_between c p q j k ∙ rw (← foot.along, ← foot.whole) (omega (arith, ints))

-- its distance is that of the line: its square times that of the segment is the square of the area
square_alone : (n x y : ℕ) (z : ℤ) → z ≡ pos 0 → y ≡ x → n ≡ unsigned_abs z * unsigned_abs z + y * y → n ≡ x * x
square_alone n x y z e f g = omega (arith, rw (e, f) at g)

foot_square : (c p q : Pt) (j k : ℕ) → IsFoot c p q j k → length_squared (displacement p q) * square_between c p q j k
    ≡ (length_squared (displacement p q) * unsigned_abs (area c p q)) * (length_squared (displacement p q) * unsigned_abs (area c p q))
foot_square c p q j k foot =
    square_alone _ _ _ _ (foot_dot c p q j k foot) (size_between c p q j k ∙ ap (λ m. m * unsigned_abs (area c p q)) foot.whole) (lagrange (displacement p q) (displacement_to c (between p q j k)))

foot_near : (c p q : Pt) (h j k : ℕ) → IsFoot c p q j k → unsigned_abs (area c p q) * unsigned_abs (area c p q) < h * h * length_squared (displacement p q)
    → ¬ IsOver (about c) (pos h) (between p q j k)
foot_near c p q h j k foot near = λ is.
    let n = square_between c p q j k in
    let up = subst (λ m. m * m * (h * h) ≤ n) foot.whole ((length_at_most (j + k) h n).0 is) in
    omega (arith, up, foot_below (h * h) (length_squared (displacement p q)) (unsigned_abs (area c p q)) n (omega (arith, foot.whole, foot.behind_start)) near (foot_square c p q j k foot))

-- ---- what the code tells of the foot

pub all_over : (c p q : Pt) (lo : ℤ) → IsOver (about c) lo (scaled p) → IsOver (about c) lo (scaled q) → (pos 0 ≤ℤ lo → IsFootFar c p q (unsigned_abs lo))
    → EveryPoint p q (IsOver (about c) lo)
all_over c p q (pos h) a b far = over-between c p q h a b (far (omega (arith, ints)))
all_over c p q (negsuc h) a b far = negative_over c p q h

-- the foot is inside the segment, and nearer than a length
pub record IsFootNear (c p q : Pt) (lo : ℤ) : Type 0 where
  pub length : pos 0 ≤ℤ lo
  pub behind_start : pos 0 <ℤ along c p q
  pub before_end : along c p q <ℤ pos (length_squared (displacement p q))
  pub nearer : unsigned_abs (area c p q) * unsigned_abs (area c p q) < unsigned_abs lo * unsigned_abs lo * length_squared (displacement p q)

abbrev pub spot : ℤ → ℤ → Spot
spot j m = record { j = j; m = m }

same_spot : (j i m n : ℤ) → j ≡ i → m ≡ n → spot j m ≡ spot i n
same_spot j i m n e f = λ x. spot (e x) (f x)

foot_at : (c p q : Pt) (lo : ℤ) → IsFootNear c p q lo → IsFoot c p q (unsigned_abs (along c p q)) (length_squared (displacement p q) - unsigned_abs (along c p q))
foot_at c p q lo near =
    let a = near.behind_start in
    let b = near.before_end in
    record { behind_start = omega (arith, ints, a); before_end = omega (arith, ints, a, b); along = omega (arith, ints, a); whole = omega (arith, ints, a, b) }

pub foot_off : (c p q : Pt) (lo j m : ℤ) → IsFootNear c p q lo → IsOver (about c) lo (scaled p) → IsOver (about c) lo (scaled q)
    → j ≡ along c p q → m ≡ pos (length_squared (displacement p q)) → IsFirstFoot c (IsOver (about c) lo) p q (spot j m)
foot_off c p q (pos h) j m near a b e f =
    let foot = foot_at c p q (pos h) near in
    let before = unsigned_abs (along c p q) in
    let behind = length_squared (displacement p q) - unsigned_abs (along c p q) in
    record {
      j = before;
      k = behind;
      at = same_spot _ _ _ _ (e ∙ sym foot.along) (f ∙ ap (λ n. pos n) (sym foot.whole));
      foot = foot;
      start = a;
      end = b;
      fails = foot_near c p q h before behind foot near.nearer;
    }
foot_off c p q (negsuc h) j m near a b e f = absurd (omega (arith, ints, near.length))

-- ---- from the tests

abbrev IsInside : ℤ → ℕ → Type 0
IsInside a n = (pos 0 <ℤ a) × (a <ℤ pos n)

abbrev IsNearer : ℤ → ℕ → ℕ → Type 0
IsNearer lo n x = (pos 0 ≤ℤ lo) × (x * x < unsigned_abs lo * unsigned_abs lo * n)

-- what the code measures: the dot product, the square of the length and the area
pub record IsMeasured (c p q : Pt) (d e : Dir) (a : ℤ) (n : ℕ) : Type 0 where
  pub segment : d ≡ displacement p q
  pub way : e ≡ displacement p c
  pub dot : a ≡ dot d e
  pub length : n ≡ length_squared d

pub along_is : (c p q : Pt) (d e : Dir) (a : ℤ) (n : ℕ) → IsMeasured c p q d e a n → a ≡ along c p q
along_is c p q d e a n is = is.dot ∙ ap (λ z. dot z e) is.segment ∙ ap (λ z. dot (displacement p q) z) is.way

pub whole_is : (c p q : Pt) (d e : Dir) (a : ℤ) (n : ℕ) → IsMeasured c p q d e a n → n ≡ length_squared (displacement p q)
whole_is c p q d e a n is = is.length ∙ ap (λ z. length_squared z) is.segment

area_is : (c p q : Pt) (d e : Dir) (a : ℤ) (n x : ℕ) → IsMeasured c p q d e a n → x ≡ unsigned_abs (cross d e) → x ≡ unsigned_abs (area c p q)
area_is c p q d e a n x is f = f ∙ ap (λ z. unsigned_abs (cross z e)) is.segment ∙ ap (λ z. unsigned_abs (cross (displacement p q) z)) is.way

outside : (a : ℤ) (n : ℕ) → ¬ IsInside a n → (a ≤ℤ pos 0) ⊎ (pos n ≤ℤ a)
outside (pos zero) n out = inl (omega (arith, ints))
outside (negsuc a) n out = inl (omega (arith, ints))
outside (pos (suc a)) n out = elim (cases_lt (suc a) n) [ inl less ↦ absurd (out (omega (arith, ints), omega (arith, ints))) | inr past ↦ inr (omega (arith, ints)) ]

pub outside_far : (c p q : Pt) (d e : Dir) (a : ℤ) (n h : ℕ) → IsMeasured c p q d e a n → ¬ IsInside a n → IsFootFar c p q h
outside_far c p q d e a n h is out =
    let ends = rw (along_is c p q d e a n is, whole_is c p q d e a n is) at (outside a n out) in
    elim ends [ inl behind ↦ inl behind | inr beyond ↦ inr (inl beyond) ]

the_far : (a : ℤ) (n x h : ℕ) → 0 < n → h * h * n ≤ x * x → IsFar a n x h
the_far a n x h some far = inr (inr (some, far))

pub not_nearer_far : (c p q : Pt) (lo : ℤ) (d e : Dir) (a : ℤ) (n x : ℕ) → IsMeasured c p q d e a n → x ≡ unsigned_abs (cross d e) → IsInside a n → ¬ IsNearer lo n x → pos 0 ≤ℤ lo
    → IsFootFar c p q (unsigned_abs lo)
not_nearer_far c p q lo d e a n x is f inside out positive =
    let far : unsigned_abs lo * unsigned_abs lo * n ≤ x * x =
    elim (cases_lt (x * x) (unsigned_abs lo * unsigned_abs lo * n)) [ inl less ↦ absurd (out (positive, less)) | inr past ↦ past ] in
    let some : 0 < n = omega (arith, ints, inside) in
    rw (whole_is c p q d e a n is, area_is c p q d e a n x is f) at (the_far (along c p q) n x (unsigned_abs lo) some far)

pub nearer_near : (c p q : Pt) (lo : ℤ) (d e : Dir) (a : ℤ) (n x : ℕ) → IsMeasured c p q d e a n → x ≡ unsigned_abs (cross d e) → IsInside a n → IsNearer lo n x → IsFootNear c p q lo
nearer_near c p q lo d e a n x is f inside near =
    let within = rw (along_is c p q d e a n is, whole_is c p q d e a n is) at inside in
    let nearer = rw (whole_is c p q d e a n is, area_is c p q d e a n x is f) at near in
    record { length = near.0; behind_start = within.0; before_end = within.1; nearer = nearer.1 }

-- ---- the band of a ring

pub all_in_ring : (c p q : Pt) (band : Band) → InBand (about c) band (scaled p) → InBand (about c) band (scaled q) → EveryPoint p q (IsOver (about c) band.lo)
    → EveryPoint p q (InBand (about c) band)
all_in_ring c p q band a b over = λ j k m. record { lo = over j k m; hi = under-between c p q band.hi a.hi b.hi j k m }

pub foot_outside : (c p q : Pt) (band : Band) (s : Spot) → InBand (about c) band (scaled p) → InBand (about c) band (scaled q) → IsFirstFoot c (IsOver (about c) band.lo) p q s
    → IsFirstFoot c (InBand (about c) band) p q s
foot_outside c p q band s a b off = record { j = off.j; k = off.k; at = off.at; foot = off.foot; start = a; end = b; fails = λ is. off.fails is.lo }

-- ---- one edge of a surface's band

pub all_under : (surface : Surface) (hi : ℤ) (p q : Pt) → IsUnder surface hi (scaled p) → IsUnder surface hi (scaled q) → EveryPoint p q (IsUnder surface hi)
all_under (surfaces.Line l) hi p q a b = λ j k m. below-between l hi p q j k a b
all_under (surfaces.Circ c) hi p q a b = under-between c.c p q hi a b

pub all_over_line : (surface : Surface) (l : Line) (lo : ℤ) (p q : Pt) → surface ≡ surfaces.Line l → IsOver surface lo (scaled p) → IsOver surface lo (scaled q) → EveryPoint p q (IsOver surface lo)
all_over_line surface l lo p q e a b =
    let start : IsAbove l lo (scaled p) = rw e at a in
    let end : IsAbove l lo (scaled q) = rw e at b in
    rw e (λ j k m. above-between l lo p q j k start end)

pub all_over_circle : (surface : Surface) (c : Circ) (lo : ℤ) (p q : Pt) → surface ≡ surfaces.Circ c → EveryPoint p q (IsOver (about c.c) lo) → EveryPoint p q (IsOver surface lo)
all_over_circle surface c lo p q e all = rw e all

pub foot_tells : (surface : Surface) (c : Circ) (lo : ℤ) (p q : Pt) (s : Spot) → surface ≡ surfaces.Circ c → IsFirstFoot c.c (IsOver (about c.c) lo) p q s → IsFirstOff surface (IsOver surface lo) p q s
foot_tells surface c lo p q s e foot = rw e (inr foot)
