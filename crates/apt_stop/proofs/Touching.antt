-- The end of a motion along a line that touches a circle: the foot of the centre on the track lies within 4 units of the stop, and on the axis.
use Rattle.std.proofs.Common.{refl, ◌≡◌, ℕ, zero, suc, ◌+◌, ◌-◌, ◌*◌, ◌≤◌, ◌<◌, subst, arith, true, ℤ, pos, negsuc, neg_ℤ, ◌+ℤ◌, ◌-ℤ◌, ◌≤ℤ◌, unsigned_abs}
use Rattle.std.proofs.lemmas.Int.{ints}
use Rattle.std.proofs.lemmas.Nat.{mul-le}
use Rattle.std.proofs.lemmas.Bool.{and_parts}
use Rattle.apt_num.specs.declared.Sign.{Sign}
use Rattle.apt_num.specs.declared.Sign.TheVariants as signs
use Rattle.apt_num.specs.Sign.{AtLeast, OnLine, square, is_at_least, sign_of}
use Rattle.apt_num.proofs.Squares.{size_neg}
use Rattle.apt_num.proofs.Sums.{at_least-sum}
use Rattle.apt_num.proofs.AtLeast.{at_least_squares}
use Rattle.apt_num.proofs.Testing.{is_at_least-true}
use Rattle.apt_num.proofs.Nearest.{not_negative}
use Rattle.apt_plane.specs.declared.figures.Pt.{Pt}
use Rattle.apt_plane.specs.declared.figures.Dir.{Dir}
use Rattle.apt_plane.specs.declared.figures.Line.{Line}
use Rattle.apt_plane.specs.declared.figures.Circ.{Circ}
use Rattle.apt_plane.specs.declared.figures.Surface.TheVariants as surfaces
use Rattle.apt_plane.specs.Vectors.{displacement, cross, dot, length_squared, perp}
use Rattle.apt_plane.specs.Axes.{IsOnAxis}
use Rattle.apt_plane.proofs.Displacements.{lagrange, turned_cross, turned_length}
use Rattle.apt_canon.specs.Scale.{IsNearLine, IsNearCircle}
use Rattle.apt_canon.proofs.TangentLines.Laws.{two_less}
use Rattle.apt_offset.specs.Targets.{signed}
use Rattle.apt_offset.specs.Sides.{side_at_tangency, inside_or_outside}
use Rattle.apt_offset.specs.Turns.{opposite}
use Rattle.apt_contact.specs.Meetings.{circle_about}
use Rattle.apt_stop.specs.Gaps.{gap, size, is_within, line_touches}
use Rattle.apt_stop.specs.Tangencies.{axis}
use Rattle.apt_stop.proofs.Reach.{touch_far, touch_near}
use Rattle.apt_stop.proofs.Onwards.{cross_step}

-- at most three units from a length of r
abbrev IsAbout : ℤ → ℤ → ℕ → Type 0
IsAbout x r n = AtLeast x (r -ℤ pos 3) n × AtLeast (neg_ℤ x) (neg_ℤ r -ℤ pos 3) n

pub add_bounds : (a b x h i k : ℤ) (n : ℕ) → a +ℤ b ≡ x → h +ℤ i ≡ k → AtLeast a h n → AtLeast b i n → AtLeast x k n
add_bounds a b x h i k n e f p q = subst (λ (z : ℤ). AtLeast z k n) e (subst (λ (z : ℤ). AtLeast (a +ℤ b) z n) f (at_least-sum a b h i n p q))

-- s is how far the centre is from the line, w how far the end is, both to its left, and a the difference
from_left : (s w a r h : ℤ) (n : ℕ) → w ≡ s +ℤ a → OnLine s r n (pos 2) → OnLine w h n (pos 1) → IsAbout (neg_ℤ a) (r -ℤ h) n
from_left s w a r h n e centre end = (
  add_bounds s (neg_ℤ w) (neg_ℤ a) (r -ℤ pos 2) (neg_ℤ h -ℤ pos 1) ((r -ℤ h) -ℤ pos 3) n (omega (arith, ints, e)) (omega (arith, ints)) centre.right end.left,
  add_bounds (neg_ℤ s) w (neg_ℤ (neg_ℤ a)) (neg_ℤ r -ℤ pos 2) (h -ℤ pos 1) (neg_ℤ (r -ℤ h) -ℤ pos 3) n (omega (arith, ints, e)) (omega (arith, ints)) centre.left end.right,
)

from_right : (s w a r h : ℤ) (n : ℕ) → w ≡ s +ℤ a → OnLine (neg_ℤ s) r n (pos 2) → OnLine w h n (pos 1) → IsAbout a (r +ℤ h) n
from_right s w a r h n e centre end = (
  add_bounds (neg_ℤ s) w a (r -ℤ pos 2) (h -ℤ pos 1) ((r +ℤ h) -ℤ pos 3) n (omega (arith, ints, e)) (omega (arith, ints)) centre.right end.right,
  add_bounds (neg_ℤ (neg_ℤ s)) (neg_ℤ w) (neg_ℤ a) (neg_ℤ r -ℤ pos 2) (neg_ℤ h -ℤ pos 1) (neg_ℤ (r +ℤ h) -ℤ pos 3) n (omega (arith, ints, e)) (omega (arith, ints)) centre.left end.left,
)

-- ---- as squares
most_size : (x : ℤ) (h n : ℕ) → pos 0 ≤ℤ x → AtLeast (neg_ℤ x) (neg_ℤ (pos h)) n → square x ≤ h * h * n
most_size (pos zero) h n some at = omega arith
most_size (pos (suc x)) zero n some at = absurd at
most_size (pos (suc x)) (suc h) n some at = at
most_size (negsuc x) h n some at = absurd (omega (arith, ints, some))

-- a number that is r lengths, up to g
pub within_squares : (x : ℤ) (r g n : ℕ) → g ≤ r → OnLine x (pos r) n (pos g) → ((r - g) * (r - g) * n ≤ square x) × (square x ≤ (r + g) * (r + g) * n)
within_squares x r g n less is =
    let up = (at_least_squares x (r - g) n).0 (subst (λ (z : ℤ). AtLeast x z n) (lower r g less) is.right) in
    (up.1, most_size x (r + g) n up.0 (subst (λ (z : ℤ). AtLeast (neg_ℤ x) z n) (upper r g) is.left))
  where
    lower : (r g : ℕ) → g ≤ r → pos r -ℤ pos g ≡ pos (r - g)
    lower r g less = omega (arith, ints)

    upper : (r g : ℕ) → neg_ℤ (pos r) -ℤ pos g ≡ neg_ℤ (pos (r + g))
    upper r g = omega (arith, ints)

four_less : (r : ℕ) → 4 ≤ r → pos r -ℤ pos 4 ≡ pos (r - 4)
four_less r least = omega (arith, ints)

pub four_off : (o : Pt) (r : ℕ) (q : Pt) → 4 ≤ r → (r - 4) * (r - 4) ≤ length_squared (displacement o q) → length_squared (displacement o q) ≤ (r + 4) * (r + 4) → IsNearCircle (circle_about o (pos r)) (pos 4) q
four_off o r q least low high = record { outside = rw (four_less r least, not_negative (r - 4)) low; inside = rw (not_negative (r + 4)) high }

pub record Foots (d : Dir) (o q : Pt) : Type 0 where
  pub some : 0 < length_squared d
  pub along : 2 * square (dot d (displacement o q)) ≤ length_squared d

near_stop_by : (d : Dir) (o q : Pt) (r : ℕ) → 100 ≤ r → Foots d o q → (r - 3) * (r - 3) * length_squared d ≤ square (cross d (displacement o q)) → square (cross d (displacement o q)) ≤ (r + 3) * (r + 3) * length_squared d
    → IsNearCircle (circle_about o (pos r)) (pos 4) q
near_stop_by d o q r least is low high =
    let v = displacement o q in
    let whole = lagrange d v in
    let far : (r - 3) * (r - 3) ≤ length_squared v = touch_far (length_squared d) (r - 3) (length_squared v) (unsigned_abs (dot d v)) (unsigned_abs (cross d v)) is.some whole low in
    let near : length_squared v ≤ (r + 3 + 1) * (r + 3 + 1) = touch_near (length_squared d) (r + 3) (length_squared v) (unsigned_abs (dot d v)) (unsigned_abs (cross d v)) is.some whole is.along high in
    four_off o r q (omega (arith, least)) (omega (arith, far, mul-le (r - 4) (r - 4) (r - 3) (r - 3) (omega arith) (omega arith))) (omega (arith, near))

about_near : (d : Dir) (o q : Pt) (x r : ℤ) → pos 100 ≤ℤ r → Foots d o q → square x ≡ square (cross d (displacement o q)) → IsAbout x r (length_squared d) → IsNearCircle (circle_about o r) (pos 4) q
about_near d o q x (pos r) least is same at =
    let squares = within_squares x r 3 (length_squared d) (omega (arith, ints, least)) (record { right = at.0; left = at.1 }) in
    near_stop_by d o q r (omega (arith, ints, least)) is (rw same at squares.0) (rw same at squares.1)
about_near d o q x (negsuc r) least is same at = absurd (omega (arith, ints, least))

-- ---- by the test of the gap
pub touches_by : (k r : ℤ) (n : ℕ) → is_within k r gap n ≡ true → OnLine k r n (pos 2)
touches_by k r n e =
    let both = and_parts (is_at_least k (r -ℤ gap) n) (is_at_least (neg_ℤ k) (neg_ℤ r -ℤ gap) n) e in
    record { right = is_at_least-true k (r -ℤ gap) n both.0; left = is_at_least-true (neg_ℤ k) (neg_ℤ r -ℤ gap) n both.1 }

pub neg_square : (a : ℤ) → square (neg_ℤ a) ≡ square a
neg_square a = rw (size_neg a) refl

-- ---- the place at the circle, by the side of the line on which its centre is
abbrev place : Sign → Sign → Sign
place signs.Plus s = inside_or_outside s
place signs.Zero s = signs.Zero
place signs.Minus s = inside_or_outside (opposite s)

place_is : (l : Line) (c : Circ) (v : Sign) → side_at_tangency (surfaces.Line l) (surfaces.Circ c) v ≡ place v (sign_of (cross l.dir (displacement l.base c.c)))
place_is l c signs.Plus = refl
place_is l c signs.Zero = refl
place_is l c signs.Minus = refl

left_place : (v : Sign) → place v signs.Plus ≡ v
left_place signs.Plus = refl
left_place signs.Zero = refl
left_place signs.Minus = refl

right_place : (v : Sign) (r m : ℤ) → r -ℤ signed (place v signs.Minus) m ≡ r +ℤ signed v m
right_place signs.Plus r m = omega (arith, ints)
right_place signs.Zero r m = omega (arith, ints)
right_place signs.Minus r m = omega (arith, ints)

no_gap : (r : ℤ) (n : ℕ) → pos 100 ≤ℤ r → 0 < n → AtLeast (pos 0) (r -ℤ pos 2) n → ⊥
no_gap (pos (suc (suc t))) n least some at =
    let high : t * t * n ≤ 0 * 0 = subst (λ (z : ℤ). AtLeast (pos 0) z n) (two_less t) at in
    omega (arith, high, mul-le 1 1 (t * t) n (mul-le 1 1 t t (omega (arith, ints, least)) (omega (arith, ints, least))) some)
no_gap (pos (suc zero)) n least some at = omega (arith, ints, least)
no_gap (pos zero) n least some at = omega (arith, ints, least)
no_gap (negsuc r) n least some at = omega (arith, ints, least)

touch_by : (d : Dir) (o q : Pt) (v : Sign) (k w r m : ℤ) → Foots d o q → w ≡ k +ℤ cross d (displacement o q) → pos 100 ≤ℤ r → OnLine (size k) r (length_squared d) (pos 2) → OnLine w (signed v m) (length_squared d) (pos 1)
    → pos 100 ≤ℤ (r -ℤ signed (place v (sign_of k)) m) → IsNearCircle (circle_about o (r -ℤ signed (place v (sign_of k)) m)) (pos 4) q
touch_by d o q v (pos zero) w r m is e least gap end room = absurd (no_gap r (length_squared d) least is.some gap.right)
touch_by d o q v (pos (suc k)) w r m is e least gap end room =
    let a = cross d (displacement o q) in
    rw (left_place v)
    (about_near d o q (neg_ℤ a) (r -ℤ signed v m) (rw (left_place v) at room) is (neg_square a) (from_left (pos (suc k)) w a r (signed v m) (length_squared d) e gap end))
touch_by d o q v (negsuc k) w r m is e least gap end room =
    let a = cross d (displacement o q) in
    rw (right_place v r m)
    (about_near d o q a (r +ℤ signed v m) (rw (right_place v r m) at room) is refl (from_right (negsuc k) w a r (signed v m) (length_squared d) e gap end))

pub touches_stop : (l : Line) (c : Circ) (v : Sign) (m : ℤ) (q : Pt) → Foots l.dir c.c q → pos 100 ≤ℤ c.r → pos 100 ≤ℤ (c.r -ℤ signed (side_at_tangency (surfaces.Line l) (surfaces.Circ c) v) m) → line_touches l c ≡ true
    → IsNearLine l (signed v m) (pos 1) q → IsNearCircle (circle_about c.c (c.r -ℤ signed (side_at_tangency (surfaces.Line l) (surfaces.Circ c) v) m)) (pos 4) q
touches_stop l c v m q is least room e end =
    let k = cross l.dir (displacement l.base c.c) in
    rw (place_is l c v)
    (touch_by l.dir c.c q v k (cross l.dir (displacement l.base q)) c.r m is (cross_step l.dir l.base c.c q) least (touches_by (size k) c.r (length_squared l.dir) e) end (rw (place_is l c v) at room))

-- ---- the axis
pub within_eight : (z : ℤ) (n : ℕ) → 2 * square z ≤ n → AtLeast z (negsuc 7) n
within_eight (pos z) n h = tt
within_eight (negsuc z) n h = omega (arith, h)

pub foot_on_axis : (d : Dir) (o q : Pt) → 2 * square (dot d (displacement o q)) ≤ length_squared d → IsOnAxis (axis o (perp d) signs.Zero) q
foot_on_axis d o q h =
    let l = dot d (displacement o q) in
    let on : OnLine (neg_ℤ l) (pos 0) (length_squared d) (pos 8) =
    record { right = within_eight (neg_ℤ l) (length_squared d) (rw (neg_square l) h); left = within_eight (neg_ℤ (neg_ℤ l)) (length_squared d) (rw (neg_square (neg_ℤ l), neg_square l) h) } in
    (rw (turned_cross d (displacement o q), turned_length d) on, tt)
