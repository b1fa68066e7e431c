-- A start that is far from an axis through the centre, and an end that is on it or across it, do not lie in one direction.
use Rattle.std.proofs.Common.{refl, ◌≡◌, ◌≢◌, ◌∙◌, sym, inl, inr, ℕ, zero, suc, ◌+◌, ◌-◌, ◌*◌, ◌≤◌, ◌<◌, ap, arith, false, ℤ, pos, negsuc, neg_ℤ, ◌+ℤ◌, ◌-ℤ◌, ◌*ℤ◌, ◌≤ℤ◌, ◌<ℤ◌, unsigned_abs}
use Rattle.std.proofs.Math.Nat.{mul-le-mul_left}
use Rattle.std.proofs.lemmas.Nat.{mul-le}
use Rattle.std.proofs.lemmas.Int.{ints}
use Rattle.std.proofs.lemmas.Bool.{and_cases}
use Rattle.apt_num.specs.Sign.{square, sign_of, is_at_least}
use Rattle.apt_num.proofs.AtLeast.{at_least_squares}
use Rattle.apt_num.proofs.Products.{no_minus, strict_each}
use Rattle.apt_num.proofs.Ring.{neg-*ℤ, *ℤ_assoc, times_swap}
use Rattle.apt_num.proofs.Squares.{size_mul, size_neg, cancel_same}
use Rattle.apt_num.proofs.Testing.{is_at_least-false}
use Rattle.apt_plane.specs.declared.figures.Pt.{Pt}
use Rattle.apt_plane.specs.declared.figures.Dir.{Dir}
use Rattle.apt_plane.specs.Ranges.{IsSense}
use Rattle.apt_plane.specs.Vectors.{displacement, cross, dot, length_squared}
use Rattle.apt_plane.proofs.Displacements.{cross_swap}
use Rattle.apt_plane.proofs.Heights.{one-times}
use Rattle.apt_plane.proofs.Turned.{minus-times, about_start, dot_about}
use Rattle.apt_canon.specs.Circles.{HasSense}
use Rattle.apt_offset.specs.Targets.{signed}
use Rattle.apt_offset.specs.Turns.{opposite}
use Rattle.apt_stop.specs.Nearness.{near_stop}
use Rattle.apt_stop.specs.Choices.{is_by_axis}
use Rattle.apt_stop.proofs.OneWay.{AreOneWay, one_way-lengths, Rounds}

-- ---- products with two ways of one direction
first_alone : (n a b c : ℤ) → n ≡ a +ℤ (b *ℤ c) → c ≡ pos 0 → n ≡ a
first_alone n a b c e f =
    let whole : n ≡ a +ℤ (b *ℤ pos 0) = rw f at e in
    whole ∙ omega (arith, ints)

pub dot_on : (s e f : Dir) → AreOneWay s e → pos (length_squared s) *ℤ dot f e ≡ dot s f *ℤ dot s e
dot_on s e f is = first_alone (pos (length_squared s) *ℤ dot f e) (dot s f *ℤ dot s e) (cross s f) (cross s e) (dot_about s f e) is.across

second_alone : (n y a c x d w : ℤ) → n *ℤ (pos 1 *ℤ y) ≡ (a *ℤ (pos 1 *ℤ c)) -ℤ ((pos 1 *ℤ x) *ℤ d) → c ≡ pos 0 → x ≡ neg_ℤ w → n *ℤ y ≡ w *ℤ d
second_alone n y a c x d w e f g =
    let whole : n *ℤ y ≡ (a *ℤ pos 0) -ℤ neg_ℤ (w *ℤ d) = rw (f, g, one-times y, one-times (neg_ℤ w), neg-*ℤ w d) at e in
    whole ∙ omega (arith, ints)

pub cross_on : (s e g : Dir) → AreOneWay s e → pos (length_squared s) *ℤ cross g e ≡ cross g s *ℤ dot s e
cross_on s e g is =
    second_alone (pos (length_squared s)) (cross g e) (dot s g) (cross s e) (cross s g) (dot s e) (cross g s) (about_start (pos 1) s g e) is.across (cross_swap g s)

-- ---- n and m are the squares of the lengths, x and y how far start and end lie along or across, and b the square of that way's length
far_core : (b n m x y d : ℕ) → n * y ≡ x * d → n * m ≡ d * d → 8 * 8 * b ≤ x * x → 2 * (y * y) ≤ b → n < 128 * m → 0 < n → 0 < b → ⊥
far_core b n m x y d e h far hardly less some way =
    let same : n * (n * (y * y)) ≡ n * (m * (x * x)) = omega (arith, ap (λ z. z * z) e, ap (λ z. x * x * z) h) in
    let level : n * (y * y) ≡ m * (x * x) = cancel_same n (n * (y * y)) (m * (x * x)) some same in
    omega (arith, level, mul-le-mul_left m far, mul-le-mul_left n hardly, mul-le-mul_left b less, less, way)

sizes_on : (n : ℕ) (x y d : ℤ) → pos n *ℤ y ≡ x *ℤ d → n * unsigned_abs y ≡ unsigned_abs x * unsigned_abs d
sizes_on n x y d e = sym (size_mul (pos n) y) ∙ ap unsigned_abs e ∙ size_mul x d

pub start_some : (o : Pt) (r : ℕ) (p q : Pt) → Rounds o r p q → 0 < length_squared (displacement o p)
start_some o r p q is = omega (arith, is.start_least, mul-le 97 97 (r - 3) (r - 3) (omega (arith, is.radius)) (omega (arith, is.radius)))

level_lengths : (r n m : ℕ) → 100 ≤ r → n ≤ (r + 3) * (r + 3) → (r - 1) * (r - 1) ≤ m → n < 128 * m
level_lengths r n m large most least =
    let same : r - 1 + 4 ≡ r + 3 = omega (arith, large) in
    let up : n ≤ (r - 1 + 4) * (r - 1 + 4) = rw same most in
    omega (arith, up, least, large, mul-le 99 (r - 1) (r - 1) (r - 1) (omega (arith, large)) (omega arith))

-- the end is not within a unit of the axis
pub not_hardly : (o : Pt) (r : ℕ) (p q : Pt) (x y : ℤ) (b : ℕ) → Rounds o r p q → AreOneWay (displacement o p) (displacement o q) → 0 < b → 8 * 8 * b ≤ square x
    → pos (length_squared (displacement o p)) *ℤ y ≡ x *ℤ dot (displacement o p) (displacement o q) → 2 * square y ≤ b → ⊥
not_hardly o r p q x y b is way some far e hardly =
    let s = displacement o p in
    let t = displacement o q in
    far_core b (length_squared s) (length_squared t) (unsigned_abs x) (unsigned_abs y) (unsigned_abs (dot s t)) (sizes_on (length_squared s) x y (dot s t) e) (one_way-lengths s t way) far hardly
    (level_lengths r (length_squared s) (length_squared t) is.radius is.start_most is.end_least) (start_some o r p q is) some

-- and not on the other side of it

pub not_across : (n : ℕ) (sigma x y d : ℤ) → pos n *ℤ y ≡ x *ℤ d → (sigma *ℤ x) <ℤ pos 0 → pos 0 <ℤ d → pos 0 ≤ℤ (sigma *ℤ y) → ⊥
not_across n sigma x y d e below ahead above =
    let up = no_minus (pos n) (sigma *ℤ y) (omega (arith, ints)) above in
    let same : pos n *ℤ (sigma *ℤ y) ≡ d *ℤ (sigma *ℤ x) = times_swap (pos n) sigma y ∙ ap (λ z. sigma *ℤ z) e ∙ sym (*ℤ_assoc sigma x d) ∙ omega (arith, ints) in
    omega (arith, ints, up, same, strict_each d (sigma *ℤ x) ahead below)

pub not_on_axis : (o : Pt) (r : ℕ) (p q : Pt) (sigma x y : ℤ) (b : ℕ) → Rounds o r p q → AreOneWay (displacement o p) (displacement o q) → 0 < b → 8 * 8 * b ≤ square x
    → pos (length_squared (displacement o p)) *ℤ y ≡ x *ℤ dot (displacement o p) (displacement o q) → (sigma *ℤ x) <ℤ pos 0 → HasSense sigma y b → ⊥
not_on_axis o r p q sigma x y b is way some far e below (inl above) = not_across (length_squared (displacement o p)) sigma x y (dot (displacement o p) (displacement o q)) e below way.along above
not_on_axis o r p q sigma x y b is way some far e below (inr hardly) = not_hardly o r p q x y b is way some far e hardly

-- ---- by the tests

-- at least 8 off the axis
pub far_aside : (k : ℤ) (n : ℕ) → is_by_axis k n ≡ false → 8 * 8 * n ≤ square k
far_aside k n e = elim (and_cases (is_at_least k (pos 0 -ℤ near_stop) n) (is_at_least (neg_ℤ k) (neg_ℤ (pos 0) -ℤ near_stop) n) e) [
  | inl lower ↦ rw (size_neg k) at (((at_least_squares (neg_ℤ k) 8 n).0 (is_at_least-false k (pos 0 -ℤ near_stop) n lower)).1)
  | inr higher ↦ rw (size_neg (neg_ℤ k), size_neg k) at (((at_least_squares (neg_ℤ (neg_ℤ k)) 8 n).0 (is_at_least-false (neg_ℤ k) (neg_ℤ (pos 0) -ℤ near_stop) n higher)).1)
]

pub none_far : (b : ℕ) (x : ℤ) → 0 < b → 8 * 8 * b ≤ square x → x ≢ pos 0
none_far b x some far e =
    let none : 8 * 8 * b ≤ 0 * 0 = rw e at far in
    omega (arith, none, some)

-- a motion that heads to a side of a line meets it on the other side of the axis
pub back_from_start : (sense x : ℤ) → IsSense sense → x ≢ pos 0 → (signed (opposite (sign_of (sense *ℤ x))) sense *ℤ x) <ℤ pos 0
back_from_start sense (pos zero) is some = absurd (some refl)
back_from_start sense (pos (suc n)) (inl e) some = rw (e, one-times (pos (suc n))) (omega (arith, ints))
back_from_start sense (pos (suc n)) (inr e) some = rw (e, minus-times (pos (suc n))) (omega (arith, ints))
back_from_start sense (negsuc n) (inl e) some = rw (e, one-times (negsuc n)) (omega (arith, ints))
back_from_start sense (negsuc n) (inr e) some = rw (e, minus-times (negsuc n)) (omega (arith, ints))

back_of : (sense z : ℤ) → IsSense sense → z ≢ pos 0 → (signed (sign_of (sense *ℤ z)) sense *ℤ neg_ℤ z) <ℤ pos 0
back_of sense (pos zero) is some = absurd (some refl)
back_of sense (pos (suc n)) (inl e) some = rw (e, one-times (pos (suc n))) (omega (arith, ints))
back_of sense (pos (suc n)) (inr e) some = rw (e, minus-times (pos (suc n))) (omega (arith, ints))
back_of sense (negsuc n) (inl e) some = rw (e, one-times (negsuc n)) (omega (arith, ints))
back_of sense (negsuc n) (inr e) some = rw (e, minus-times (negsuc n)) (omega (arith, ints))

-- and of a circle
pub back_from_way : (sense z x : ℤ) → IsSense sense → x ≡ neg_ℤ z → x ≢ pos 0 → (signed (sign_of (sense *ℤ z)) sense *ℤ x) <ℤ pos 0
back_from_way sense z x is e some = rw e (back_of sense z is (λ f. some (omega (arith, ints, e, f))))
