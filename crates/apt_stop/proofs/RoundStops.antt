-- The end of a motion round a circle that touches a line or a circle lies within 4 units of its stop, by the test of the gap.
use Rattle.std.proofs.Common.{refl, ◌≡◌, ◌≢◌, sym, subst, inl, inr, ℕ, ◌+◌, ◌-◌, ◌*◌, ◌≤◌, ◌<◌, arith, Bool, true, false, ℤ, pos, negsuc, neg_ℤ, ◌+ℤ◌, ◌-ℤ◌, ◌*ℤ◌, ◌≤ℤ◌, unsigned_abs}
use Rattle.std.specs.Prelude.{int_le, if◌then◌else◌}
use Rattle.std.proofs.lemmas.Int.{ints}
use Rattle.apt_num.specs.declared.Sign.{Sign}
use Rattle.apt_num.specs.declared.Sign.TheVariants as signs
use Rattle.apt_num.specs.Sign.{OnLine, square, sign_of}
use Rattle.apt_plane.specs.declared.figures.Pt.{Pt}
use Rattle.apt_plane.specs.declared.figures.Dir.{Dir}
use Rattle.apt_plane.specs.declared.figures.Line.{Line}
use Rattle.apt_plane.specs.declared.figures.Circ.{Circ}
use Rattle.apt_plane.specs.declared.figures.Surface.TheVariants as surfaces
use Rattle.apt_plane.specs.Vectors.{displacement, cross, dot, length_squared, perp}
use Rattle.apt_plane.proofs.Displacements.{lagrange, cross_self, turned_dot, turned_length, square_length_squared}
use Rattle.apt_canon.specs.Scale.{IsNearLine, IsNearCircle}
use Rattle.apt_offset.specs.Turns.{opposite}
use Rattle.apt_offset.specs.Sides.{side_or_left, times as place_times, touch_outside, side_at_tangency}
use Rattle.apt_offset.specs.Targets.{signed}
use Rattle.apt_contact.specs.Meetings.{line_on, circle_about}
use Rattle.apt_stop.specs.Gaps.{size, touching_distance, line_touches, circles_touch}
use Rattle.apt_stop.specs.Tangencies.{half_towards, touching_half}
use Rattle.apt_stop.proofs.Onwards.{dot_step, cross_step}
use Rattle.apt_stop.proofs.Reach.{touch_far, touch_within}
use Rattle.apt_stop.proofs.Touching.{within_squares, four_off, touches_by, neg_square}
use Rattle.apt_stop.proofs.OnRays.{LiesOnAxis}
use Rattle.apt_stop.proofs.RoundGaps.{IsAboutSize, ray_length, about_length, touches_line_by, touches_circle_by}

-- ---- by the products with an axis

sizes_of : (y : ℤ) (r n : ℕ) → 4 ≤ r → IsAboutSize y (pos r) n → ((r - 4) * (r - 4) * n ≤ square y) × (square y ≤ (r + 4) * (r + 4) * n)
sizes_of y r n least (inl is) = within_squares y r 4 n least is
sizes_of y r n least (inr is) = rw (neg_square y) at (within_squares (neg_ℤ y) r 4 n least is)

other_order : (k a b : ℕ) → k ≡ a + b → k ≡ b + a
other_order k a b e = omega (arith, e)

near_by_size : (g : Dir) (o q : Pt) (h : ℤ) → pos 100 ≤ℤ h → 0 < length_squared g → 2 * square (cross g (displacement o q)) ≤ length_squared g
    → IsAboutSize (dot g (displacement o q)) h (length_squared g) → IsNearCircle (circle_about o h) (pos 4) q
near_by_size g o q (pos h) large some off is =
    let v = displacement o q in
    let n = length_squared g in
    let x = unsigned_abs (cross g v) in
    let y = unsigned_abs (dot g v) in
    let least : 4 ≤ h = omega (arith, ints, large) in
    let both = sizes_of (dot g v) h n least is in
    let whole = other_order (n * length_squared v) (y * y) (x * x) (lagrange g v) in
    four_off o h q least (touch_far n (h - 4) (length_squared v) x y some whole both.0) (touch_within n (h + 4) (length_squared v) x y some whole off both.1)
near_by_size g o q (negsuc h) large some off is = absurd (omega (arith, ints, large))

-- ---- a line

none_turned : (s : Sign) → signs.Zero ≡ place_times s signs.Zero
none_turned signs.Plus = refl
none_turned signs.Zero = refl
none_turned signs.Minus = refl

line_place : (k : Circ) (l : Line) (v : Sign) → place_times (side_or_left (sign_of (cross l.dir (displacement l.base k.c)))) v ≡ side_at_tangency (surfaces.Circ k) (surfaces.Line l) v
line_place k l signs.Plus = refl
line_place k l signs.Zero = sym (none_turned (side_or_left (sign_of (cross l.dir (displacement l.base k.c)))))
line_place k l signs.Minus = refl

across_turned : (d v : Dir) (half : Sign) (r : ℤ) → OnLine (signed half (pos 1) *ℤ dot (perp d) v) r (length_squared (perp d)) (pos 2) → OnLine (signed half (pos 1) *ℤ cross d v) r (length_squared d) (pos 2)
across_turned d v half r is = rw (turned_dot d v, turned_length d) at is

pub near_line_stop : (k : Circ) (l : Line) (v : Sign) (m : ℤ) (q : Pt) → pos 100 ≤ℤ (k.r -ℤ signed v m) → half_towards l k ≢ signs.Zero → line_touches l k ≡ true
    → LiesOnAxis (perp l.dir) (half_towards l k) (displacement k.c q) → IsNearCircle (circle_about k.c (k.r -ℤ signed v m)) (pos 1) q
    → IsNearLine (line_on l.base l.dir) (signed (side_at_tangency (surfaces.Circ k) (surfaces.Line l) v) m) (pos 4) q
near_line_stop k l v m q least there touching ray near =
    let d = l.dir in
    let e = displacement k.c q in
    let height = cross d (displacement l.base k.c) in
    let centre = touches_by (size height) k.r (length_squared d) touching in
    let end = across_turned d e (half_towards l k) (k.r -ℤ signed v m) (ray_length k.c (k.r -ℤ signed v m) (perp d) (half_towards l k) q least there ray near) in
    let both = touches_line_by height (cross d e) k.r (k.r -ℤ signed v m) m v (length_squared d) refl centre end in
    subst (λ (w : Sign). OnLine (cross d (displacement l.base q)) (signed w m) (length_squared d) (pos 4)) (line_place k l v)
    (subst (λ (z : ℤ). OnLine z (signed (place_times (side_or_left (sign_of height)) v) m) (length_squared d) (pos 4)) (sym (cross_step d l.base k.c q)) both)

-- ---- a circle

some_distance : (outside : Bool) (a b : ℤ) → pos 0 ≤ℤ a → pos 0 ≤ℤ b → pos 0 ≤ℤ (if outside then a +ℤ b else size (a -ℤ b))
some_distance true a b p q = omega (arith, ints, p, q)
some_distance false a b p q = omega (arith, ints)

none_opposite : (outside : Bool) → (if outside then opposite signs.Zero else signs.Zero) ≡ signs.Zero
none_opposite true = refl
none_opposite false = refl

circle_place : (k j : Circ) (v : Sign) → (if touch_outside k j then opposite v else v) ≡ side_at_tangency (surfaces.Circ k) (surfaces.Circ j) v
circle_place k j signs.Plus = refl
circle_place k j signs.Zero = none_opposite (touch_outside k j)
circle_place k j signs.Minus = refl

step_by_none : (a b c : ℤ) → a ≡ b +ℤ c → b ≡ pos 0 → c ≡ a
step_by_none a b c e f = omega (arith, ints, e, f)

step_by : (a b c g : ℤ) → a ≡ b +ℤ c → g ≡ b → a ≡ g +ℤ c
step_by a b c g e f = rw f e

pub near_circle_stop : (k j : Circ) (v : Sign) (m : ℤ) (q : Pt) → pos 0 ≤ℤ k.r → pos 0 ≤ℤ j.r → 0 < length_squared (displacement k.c j.c) → pos 100 ≤ℤ (k.r -ℤ signed v m)
    → pos 100 ≤ℤ (j.r -ℤ signed (side_at_tangency (surfaces.Circ k) (surfaces.Circ j) v) m) → touching_half k j ≢ signs.Zero → circles_touch k j ≡ true
    → LiesOnAxis (displacement k.c j.c) (touching_half k j) (displacement k.c q) → IsNearCircle (circle_about k.c (k.r -ℤ signed v m)) (pos 1) q
    → IsNearCircle (circle_about j.c (j.r -ℤ signed (side_at_tangency (surfaces.Circ k) (surfaces.Circ j) v) m)) (pos 4) q
near_circle_stop k j v m q some_k some_j apart least room there touching ray near =
    let g = displacement k.c j.c in
    let e = displacement k.c q in
    let x = displacement j.c q in
    let n = length_squared g in
    let centre = about_length (touching_distance k j) n (some_distance (touch_outside k j) k.r j.r some_k some_j) apart touching in
    let end = ray_length k.c (k.r -ℤ signed v m) g (touching_half k j) q least there ray near in
    let whole = step_by (dot g e) (dot g g) (dot g x) (pos n) (dot_step g j.c k.c q) (square_length_squared g) in
    let same = step_by_none (cross g e) (cross g g) (cross g x) (cross_step g k.c j.c q) (cross_self g) in
    let sizes = touches_circle_by (touch_outside k j) (int_le j.r k.r) k.r j.r (k.r -ℤ signed v m) m (dot g e) (dot g x) v n refl refl whole end centre in
    near_by_size g j.c q (j.r -ℤ signed (side_at_tangency (surfaces.Circ k) (surfaces.Circ j) v) m) room apart (rw same ray.across)
    (subst (λ (w : Sign). IsAboutSize (dot g x) (j.r -ℤ signed w m) n) (circle_place k j v) sizes)
