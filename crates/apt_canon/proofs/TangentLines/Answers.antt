-- What the answers of the tangents tell: which faults they are, and that a line touches its circles.
use Rattle.std.proofs.Common.{refl, ◌≡◌, ◌≢◌, ◌↔◌, ℕ, ◌+◌, ◌-◌, ◌*◌, ◌^◌, ◌≤◌, ◌<◌, ◌∙◌, Bool, arith, inl, inr, ℤ, pos, neg_ℤ, ◌+ℤ◌, ◌-ℤ◌, ◌*ℤ◌, ◌≤ℤ◌, unsigned_abs, ◌==◌, nat_lt, Result, Ok, Err, IfOk, IsErrOf}
use Rattle.std.specs.Prelude.{◌&&◌, if◌then◌else◌}
use Rattle.std.proofs.lemmas.Int.{ints}
use Rattle.std.proofs.lemmas.Bool.{cases_lt, lt-ltb, le-ltb}
use Rattle.apt_num.specs.Sign.{square}
use Rattle.apt_num.proofs.Squares.{root_le, square_le, size_neg}
use Rattle.apt_plane.specs.declared.figures.Pt.{Pt}
use Rattle.apt_plane.specs.declared.figures.Dir.{Dir}
use Rattle.apt_plane.specs.declared.figures.Line.{Line}
use Rattle.apt_plane.specs.declared.figures.Circ.{Circ}
use Rattle.apt_plane.specs.Vectors.{displacement, cross, length_squared, perp}
use Rattle.apt_plane.specs.Ranges.{IsPoint, IsDir, IsLine, IsCircle}
use Rattle.apt_plane.proofs.Displacements.{cross_swap, no_way, turned_length}
use Rattle.apt_plane.proofs.Lengths.{IsInRing}
use Rattle.apt_plane.proofs.Heights.{length_squared_small}
use Rattle.apt_canon.specs.declared.FormFault.{FormFault}
use Rattle.apt_canon.specs.declared.FormFault.TheVariants.{NoMeeting, Degenerate}
use Rattle.apt_canon.specs.Scale.{IsNearLine, IsNearCircle}
use Rattle.apt_canon.specs.Tangents.{PassesBy, RunsAlong, side_of_circle, falling, falling_dir, fall_divisor, tangent_line, tangent_from, drop, touch_point, common_tangent, tangent_two}
use Rattle.apt_canon.proofs.Ways.{there_and_back, no_square, one_point, way_is_dir}
use Rattle.apt_canon.proofs.CircleMeetings.Near.{near_circle}
use Rattle.apt_canon.proofs.Shares.{share_small}
use Rattle.apt_canon.proofs.TangentLines.Frame.{falling_small}
use Rattle.apt_canon.proofs.TangentLines.Calls.{apart_test, same_test, side_size, radius_large, outside_apart}
use Rattle.apt_canon.proofs.TangentLines.Laws.{divisor_apart, stretched, falling_dir_long, lag, lag_small, touching_back}
use Rattle.apt_canon.proofs.TangentLines.Ways.{if_passes, falling_onwards, point_to_centre, centre_to_centre, less_than}
use Rattle.apt_canon.proofs.TangentLines.TwoLaws.{touch_way, touches_first, touches_second}

-- ---- the tests

no_fault : (t : Line) (e : FormFault) → IsErrOf {E = FormFault} (Ok t) e → ⊥
no_fault t e h = cc

found_none : (n m : ℕ) (t : Line) → IsErrOf (if nat_lt n m then Err NoMeeting else Ok t) NoMeeting ↔ (n < m)
found_none n m t = elim (cases_lt n m) [
  | inl below ↦ rw (lt-ltb n m below) (λ h. below, λ h. refl)
  | inr past ↦ rw (le-ltb n m past) (λ h. absurd (no_fault t NoMeeting h), λ h. absurd (omega arith))
]

if_found : (P : Line → Type 0) (n m : ℕ) (t : Line) → (m ≤ n → P t) → IfOk (if nat_lt n m then Err NoMeeting else Ok t) P
if_found P n m t h = elim (cases_lt n m) [
  | inl below ↦ rw (lt-ltb n m below) tt
  | inr past ↦ rw (le-ltb n m past) (h past)
]

-- ---- from a point

pub from_no_meeting : (r : Result Line FormFault) (p : Pt) (left : Bool) (c : Circ) → r ≡ tangent_from p left c
    → IsErrOf r NoMeeting ↔ (length_squared (displacement p c.c) < square c.r)
from_no_meeting r p left c e = rw e (found_none (length_squared (displacement p c.c)) (square c.r) (tangent_line p left c))

if_from : (P : Line → Type 0) (r : Result Line FormFault) (p : Pt) (left : Bool) (c : Circ) → r ≡ tangent_from p left c
    → (square c.r ≤ length_squared (displacement p c.c) → P (tangent_line p left c)) → IfOk r P
if_from P r p left c e h = rw e (if_found P (length_squared (displacement p c.c)) (square c.r) (tangent_line p left c) h)

pub from_base : (r : Result Line FormFault) (p : Pt) (left : Bool) (c : Circ) → r ≡ tangent_from p left c → IfOk r (λ t. t.base ≡ p)
from_base r p left c e = if_from (λ t. t.base ≡ p) r p left c e (λ h. refl)

-- the direction of a tangent is one
pub falling_dir_is : (a : Dir) (p : ℤ) → IsDir a → square p ≤ length_squared a → IsDir (falling_dir a p)
falling_dir_is a p is fits =
    let parts = falling_small a p is fits in
    let x = share_small (pos 99999000) (falling a p).dx (fall_divisor a) (divisor_apart a is) parts.0 in
    let y = share_small (pos 99999000) (falling a p).dy (fall_divisor a) (divisor_apart a is) parts.1 in
    let ring = falling_dir_long a p is fits in
    record { dx = omega (arith, x); dy = omega (arith, y); length = omega (arith, ring.least) }

-- a surface lies so that its radius is short
radius_short : (c : Circ) → IsCircle c → unsigned_abs c.r ≤ 49000000
radius_short c is = omega (arith, is.x)

back_size : (left : Bool) (r : ℤ) → unsigned_abs (neg_ℤ (side_of_circle left *ℤ r)) ≡ unsigned_abs r
back_size left r = size_neg (side_of_circle left *ℤ r) ∙ side_size left r

from_fits : (left : Bool) (r : ℤ) (n : ℕ) → square r ≤ n → square (neg_ℤ (side_of_circle left *ℤ r)) ≤ n
from_fits left r n h = rw (back_size left r) h

lag_short : (l n : ℕ) → 2 * l * l ≤ n → n ≤ 2 * 10 ^ 16 → l ≤ 10 ^ 8
lag_short l n p q = root_le l (10 ^ 8) (omega (arith, p, q))

from_height : (f p : ℤ) → neg_ℤ f ≡ (pos 99999000 *ℤ p) +ℤ neg_ℤ (f +ℤ (pos 99999000 *ℤ p))
from_height f p = omega (arith, ints)

from_room : (l r : ℕ) → l ≤ 10 ^ 8 → r ≤ 49000000 → l + r + 2 ≤ 2 * 99999000
from_room l r p q = omega (arith, p, q)

two_at_least : (r : ℕ) → 100 ≤ r → 2 ≤ r
two_at_least r h = omega (arith, h)

tangent_line-touches : (p : Pt) (left : Bool) (c : Circ) → IsPoint p → IsCircle c → square c.r ≤ length_squared (displacement p c.c)
    → IsNearLine (tangent_line p left c) (neg_ℤ (side_of_circle left *ℤ c.r)) (pos 2) c.c
tangent_line-touches p left c is_p is outside =
    let a = displacement p c.c in
    let s = neg_ℤ (side_of_circle left *ℤ c.r) in
    let is_dir = way_is_dir p c.c is_p is.centre (outside_apart p c is outside) in
    let fits = from_fits left c.r (length_squared a) outside in
    let t = falling_dir a s in
    let short = lag_short (unsigned_abs (lag a s)) (length_squared a) (lag_small a s is_dir) (length_squared_small a is_dir) in
    let room = from_room (unsigned_abs (lag a s)) (unsigned_abs c.r) short (radius_short c is) in
    rw (cross_swap a t, from_height (cross a t) s)
    (touching_back s (lag a s) (length_squared t) (unsigned_abs c.r) (back_size left c.r) (two_at_least (unsigned_abs c.r) (radius_large c is)) room (falling_dir_long a s is_dir fits))

pub from_touches : (r : Result Line FormFault) (p : Pt) (left : Bool) (c : Circ) → IsPoint p → IsCircle c → r ≡ tangent_from p left c
    → IfOk r (λ t. IsNearLine t (neg_ℤ (side_of_circle left *ℤ c.r)) (pos 2) c.c)
from_touches r p left c is_p is e =
    if_from (λ t. IsNearLine t (neg_ℤ (side_of_circle left *ℤ c.r)) (pos 2) c.c) r p left c e (tangent_line-touches p left c is_p is)

pub from_range : (r : Result Line FormFault) (p : Pt) (left : Bool) (c : Circ) → IsPoint p → IsCircle c → r ≡ tangent_from p left c → IfOk r (λ t. IsLine t)
from_range r p left c is_p is e = if_from (λ t. IsLine t) r p left c e (λ outside. record {
  base = is_p;
  dir = falling_dir_is (displacement p c.c) (neg_ℤ (side_of_circle left *ℤ c.r)) (way_is_dir p c.c is_p is.centre (outside_apart p c is outside)) (from_fits left c.r (length_squared (displacement p c.c)) outside);
})

-- the circle lies on the other side of the tangent than the tangent of the circle
pub from_side : (r : Result Line FormFault) (p : Pt) (left : Bool) (c : Circ) → IsPoint p → IsCircle c → r ≡ tangent_from p left c → IfOk r (λ t. PassesBy left t c)
from_side r p left c is_p is e = if_passes left c r is (from_range r p left c is_p is e) (from_touches r p left c is_p is e)

-- from a point that is not on the circle it runs towards the circle
pub from_onwards : (r : Result Line FormFault) (p : Pt) (left : Bool) (c : Circ) → IsPoint p → IsCircle c → r ≡ tangent_from p left c
    → IfOk r (λ t. length_squared (displacement p c.c) ≢ square c.r → RunsAlong (displacement p c.c) t)
from_onwards r p left c is_p is e =
    if_from (λ t. length_squared (displacement p c.c) ≢ square c.r → RunsAlong (displacement p c.c) t) r p left c e (λ outside apart.
    falling_onwards (displacement p c.c) (neg_ℤ (side_of_circle left *ℤ c.r)) (way_is_dir p c.c is_p is.centre (outside_apart p c is outside)) (point_to_centre p c is_p is)
    (rw (back_size left c.r) (less_than (length_squared (displacement p c.c)) (square c.r) outside apart)))

-- ---- of two circles

unlike : IsErrOf {T = Line} (Err Degenerate) NoMeeting → ⊥
unlike h = cc

unlike_back : IsErrOf {T = Line} (Err NoMeeting) Degenerate → ⊥
unlike_back h = cc

other_fault : (n m : ℕ) (t : Line) → IsErrOf (if nat_lt n m then Err NoMeeting else Ok t) Degenerate → ⊥
other_fault n m t h = elim (cases_lt n m) [
  | inl below ↦ unlike_back (rw (lt-ltb n m below) at h)
  | inr past ↦ no_fault t Degenerate (rw (le-ltb n m past) at h)
]

degenerate_is : (n m : ℕ) (t : Line) → IsErrOf (if (n == 0) && (m == 0) then Err Degenerate else (if nat_lt n m then Err NoMeeting else Ok t)) Degenerate ↔ (n + m ≤ 0)
degenerate_is n m t = elim (cases_lt 0 (n + m)) [
  | inl apart ↦ rw (apart_test n m apart) (λ h. absurd (other_fault n m t h), λ h. absurd (omega arith))
  | inr same ↦ rw (same_test n m same) (λ h. same, λ h. refl)
]

no_meeting_is : (n m : ℕ) (t : Line) → IsErrOf (if (n == 0) && (m == 0) then Err Degenerate else (if nat_lt n m then Err NoMeeting else Ok t)) NoMeeting ↔ (n < m)
no_meeting_is n m t = elim (cases_lt 0 (n + m)) [
  | inl apart ↦ rw (apart_test n m apart) (found_none n m t)
  | inr same ↦ rw (same_test n m same) (λ h. absurd (unlike h), λ h. absurd (omega arith))
]

if_found_two : (P : Line → Type 0) (n m : ℕ) (t : Line) → (1 ≤ n → m ≤ n → P t) → IfOk (if (n == 0) && (m == 0) then Err Degenerate else (if nat_lt n m then Err NoMeeting else Ok t)) P
if_found_two P n m t h = elim (cases_lt 0 (n + m)) [
  | inl apart ↦ rw (apart_test n m apart) (if_found P n m t (λ past. h (omega arith) past))
  | inr same ↦ rw (same_test n m same) tt
]

no_drop : (z : ℤ) → square z ≤ 0 → z ≡ pos 0
no_drop z h =
    let none = no_square (unsigned_abs z) h in
    omega (arith, ints, none)

drop_none : (z : ℤ) → z ≡ pos 0 → square z ≤ 0
drop_none z e = rw e (omega arith)

pub two_degenerate : (r : Result Line FormFault) (a : Circ) (left_a : Bool) (b : Circ) (left_b : Bool) → r ≡ tangent_two a left_a b left_b
    → IsErrOf r Degenerate ↔ ((a.c ≡ b.c) × (drop a left_a b left_b ≡ pos 0))
two_degenerate r a left_a b left_b e =
    let n = length_squared (displacement a.c b.c) in
    let z = drop a left_a b left_b in
    let is = degenerate_is n (square z) (common_tangent a left_a b left_b) in
    rw e (
      λ h. let none = is.0 h in (one_point a.c b.c (omega (arith, none)), no_drop z (omega (arith, none))),
      λ h. is.1 (omega (arith, no_way a.c b.c h.0, drop_none z h.1)),
    )

pub two_no_meeting : (r : Result Line FormFault) (a : Circ) (left_a : Bool) (b : Circ) (left_b : Bool) → r ≡ tangent_two a left_a b left_b
    → IsErrOf r NoMeeting ↔ (length_squared (displacement a.c b.c) < square (drop a left_a b left_b))
two_no_meeting r a left_a b left_b e = rw e (no_meeting_is (length_squared (displacement a.c b.c)) (square (drop a left_a b left_b)) (common_tangent a left_a b left_b))

if_two : (P : Line → Type 0) (r : Result Line FormFault) (a : Circ) (left_a : Bool) (b : Circ) (left_b : Bool) → r ≡ tangent_two a left_a b left_b
    → (1 ≤ length_squared (displacement a.c b.c) → square (drop a left_a b left_b) ≤ length_squared (displacement a.c b.c) → P (common_tangent a left_a b left_b)) → IfOk r P
if_two P r a left_a b left_b e h = rw e (if_found_two P (length_squared (displacement a.c b.c)) (square (drop a left_a b left_b)) (common_tangent a left_a b left_b) h)

pub two_touches_first : (r : Result Line FormFault) (a : Circ) (left_a : Bool) (b : Circ) (left_b : Bool) → IsCircle a → IsCircle b → r ≡ tangent_two a left_a b left_b
    → IfOk r (λ t. IsNearLine t (neg_ℤ (side_of_circle left_a *ℤ a.r)) (pos 2) a.c)
two_touches_first r a left_a b left_b is_a is_b e =
    if_two (λ t. IsNearLine t (neg_ℤ (side_of_circle left_a *ℤ a.r)) (pos 2) a.c) r a left_a b left_b e (λ apart fits.
    let s = side_of_circle left_a *ℤ a.r in
    touches_first (displacement a.c b.c) (drop a left_a b left_b) s a.c (way_is_dir a.c b.c is_a.centre is_b.centre apart) fits
    (rw (side_size left_a a.r) (two_at_least (unsigned_abs a.r) (radius_large a is_a))) (rw (side_size left_a a.r) (radius_short a is_a)))

-- centres of surfaces are not far apart
part_short : (x y : ℤ) (r s : ℕ) → unsigned_abs x + r ≤ 49000000 → unsigned_abs y + s ≤ 49000000 → unsigned_abs (y -ℤ x) ≤ (49000000 - r) + (49000000 - s)
part_short x y r s p q = omega (arith, ints, p, q)

way_short : (x y z : ℕ) → x ≤ z → y ≤ z → x * x + y * y ≤ 2 * z * z
way_short x y z p q = omega (arith, square_le x z p, square_le y z q)

lag_shorter : (l n z : ℕ) → 2 * l * l ≤ n → n ≤ 2 * z * z → l ≤ z
lag_shorter l n z p q = root_le l z (omega (arith, p, q))

two_room : (l r s : ℕ) → l ≤ (49000000 - r) + (49000000 - s) → r ≤ 49000000 → s ≤ 49000000 → l + r + s ≤ 98000000
two_room l r s p q t = omega (arith, p, q, t)

lag_of_two : (a b : Circ) (p : ℤ) → IsCircle a → IsCircle b → IsDir (displacement a.c b.c)
    → unsigned_abs (lag (displacement a.c b.c) p) + unsigned_abs a.r + unsigned_abs b.r ≤ 98000000
lag_of_two a b p is_a is_b is =
    let v = displacement a.c b.c in
    let r = unsigned_abs a.r in
    let s = unsigned_abs b.r in
    let far = way_short (unsigned_abs v.dx) (unsigned_abs v.dy) ((49000000 - r) + (49000000 - s)) (part_short a.c.x b.c.x r s is_a.x is_b.x) (part_short a.c.y b.c.y r s is_a.y is_b.y) in
    two_room (unsigned_abs (lag v p)) r s (lag_shorter (unsigned_abs (lag v p)) (length_squared v) ((49000000 - r) + (49000000 - s)) (lag_small v p is) far) (radius_short a is_a) (radius_short b is_b)

pub two_touches_second : (r : Result Line FormFault) (a : Circ) (left_a : Bool) (b : Circ) (left_b : Bool) → IsCircle a → IsCircle b → r ≡ tangent_two a left_a b left_b
    → IfOk r (λ t. IsNearLine t (neg_ℤ (side_of_circle left_b *ℤ b.r)) (pos 2) b.c)
two_touches_second r a left_a b left_b is_a is_b e =
    if_two (λ t. IsNearLine t (neg_ℤ (side_of_circle left_b *ℤ b.r)) (pos 2) b.c) r a left_a b left_b e (λ apart fits.
    let s = side_of_circle left_a *ℤ a.r in
    let u = side_of_circle left_b *ℤ b.r in
    let is = way_is_dir a.c b.c is_a.centre is_b.centre apart in
    touches_second s u a.c b.c is fits (rw (side_size left_b b.r) (two_at_least (unsigned_abs b.r) (radius_large b is_b)))
    (rw (side_size left_a a.r, side_size left_b b.r) (lag_of_two a b (s -ℤ u) is_a is_b is)))

-- ---- the base

positive_radius : (c : Circ) → IsCircle c → pos 0 ≤ℤ c.r
positive_radius c is = omega (arith, ints, is.least)

base_in_ring : (a : Circ) (left : Bool) (v : Dir) (m : ℤ) → IsCircle a → IsDir v → square m ≤ length_squared v
    → IsInRing (unsigned_abs a.r) (length_squared (displacement a.c (touch_point a left v m)))
base_in_ring a left v m is_a is fits =
    let b = touch_way v m (side_of_circle left *ℤ a.r) in
    rw (there_and_back a.c.x b.dx, there_and_back a.c.y b.dy)
    (stretched v (perp (falling v m)) m (side_of_circle left *ℤ a.r) (unsigned_abs a.r) is fits (turned_length (falling v m)) (side_size left a.r)
    (omega (arith, radius_large a is_a)) (omega (arith, radius_short a is_a)))

pub two_base : (r : Result Line FormFault) (a : Circ) (left_a : Bool) (b : Circ) (left_b : Bool) → IsCircle a → IsCircle b → r ≡ tangent_two a left_a b left_b
    → IfOk r (λ t. IsNearCircle a (pos 1) t.base)
two_base r a left_a b left_b is_a is_b e =
    if_two (λ t. IsNearCircle a (pos 1) t.base) r a left_a b left_b e (λ apart fits.
    near_circle a (touch_point a left_a (displacement a.c b.c) (drop a left_a b left_b)) (positive_radius a is_a)
    (base_in_ring a left_a (displacement a.c b.c) (drop a left_a b left_b) is_a (way_is_dir a.c b.c is_a.centre is_b.centre apart) fits))

moved_part : (x q n : ℤ) (r : ℕ) → unsigned_abs x + r ≤ 49000000 → unsigned_abs n ≡ r → unsigned_abs q ≤ unsigned_abs n → unsigned_abs (x +ℤ q) ≤ 50000000
moved_part x q n r p e f = omega (arith, ints, p, e, f)

base_is_point : (a : Circ) (left : Bool) (v : Dir) (m : ℤ) → IsCircle a → IsDir v → square m ≤ length_squared v → IsPoint (touch_point a left v m)
base_is_point a left v m is_a is fits =
    let w = falling v m in
    let s = side_of_circle left *ℤ a.r in
    let parts = falling_small v m is fits in
    let x = share_small s (neg_ℤ w.dy) (fall_divisor v) (divisor_apart v is) (rw (size_neg w.dy) parts.1) in
    let y = share_small s w.dx (fall_divisor v) (divisor_apart v is) parts.0 in
    record {
      x = moved_part a.c.x _ s (unsigned_abs a.r) is_a.x (side_size left a.r) x;
      y = moved_part a.c.y _ s (unsigned_abs a.r) is_a.y (side_size left a.r) y;
    }

common_tangent_is : (a : Circ) (left_a : Bool) (b : Circ) (left_b : Bool) → IsCircle a → IsDir (displacement a.c b.c) → square (drop a left_a b left_b) ≤ length_squared (displacement a.c b.c)
    → IsLine (common_tangent a left_a b left_b)
common_tangent_is a left_a b left_b is_a is fits = record {
  base = base_is_point a left_a (displacement a.c b.c) (drop a left_a b left_b) is_a is fits;
  dir = falling_dir_is (displacement a.c b.c) (drop a left_a b left_b) is fits;
}

pub two_range : (r : Result Line FormFault) (a : Circ) (left_a : Bool) (b : Circ) (left_b : Bool) → IsCircle a → IsCircle b → r ≡ tangent_two a left_a b left_b → IfOk r (λ t. IsLine t)
two_range r a left_a b left_b is_a is_b e =
    if_two (λ t. IsLine t) r a left_a b left_b e (λ apart fits.
    let is = way_is_dir a.c b.c is_a.centre is_b.centre apart in
    common_tangent_is a left_a b left_b is_a is fits)

-- ---- which of the tangents of two circles

pub two_side_first : (r : Result Line FormFault) (a : Circ) (left_a : Bool) (b : Circ) (left_b : Bool) → IsCircle a → IsCircle b → r ≡ tangent_two a left_a b left_b
    → IfOk r (λ t. PassesBy left_a t a)
two_side_first r a left_a b left_b is_a is_b e =
    if_passes left_a a r is_a (two_range r a left_a b left_b is_a is_b e) (two_touches_first r a left_a b left_b is_a is_b e)

pub two_side_second : (r : Result Line FormFault) (a : Circ) (left_a : Bool) (b : Circ) (left_b : Bool) → IsCircle a → IsCircle b → r ≡ tangent_two a left_a b left_b
    → IfOk r (λ t. PassesBy left_b t b)
two_side_second r a left_a b left_b is_a is_b e =
    if_passes left_b b r is_b (two_range r a left_a b left_b is_a is_b e) (two_touches_second r a left_a b left_b is_a is_b e)

-- of circles that do not touch it runs from the first to the second
pub two_onwards : (r : Result Line FormFault) (a : Circ) (left_a : Bool) (b : Circ) (left_b : Bool) → IsCircle a → IsCircle b → r ≡ tangent_two a left_a b left_b
    → IfOk r (λ t. length_squared (displacement a.c b.c) ≢ square (drop a left_a b left_b) → RunsAlong (displacement a.c b.c) t)
two_onwards r a left_a b left_b is_a is_b e =
    let v = displacement a.c b.c in
    let m = drop a left_a b left_b in
    if_two (λ t. length_squared v ≢ square m → RunsAlong v t) r a left_a b left_b e (λ some fits apart.
    falling_onwards v m (way_is_dir a.c b.c is_a.centre is_b.centre some) (centre_to_centre a b is_a is_b) (less_than (length_squared v) (square m) fits apart))
