-- The tests that come before a tangent, and the answer after them.
use Rattle.std.proofs.Common.{refl, ◌∙◌, ap, ◌≡◌, ℕ, ◌+◌, ◌^◌, ◌≤◌, ◌<◌, Bool, true, false, arith, ℤ, pos, neg_ℤ, ◌-ℤ◌, ◌*ℤ◌, unsigned_abs, to_z, of_z, w64, ◌==◌, FitsSigned, Ok, Err}
use Rattle.std.specs.Prelude.{◌&&◌}
use Rattle.std.proofs.lemmas.Bool.{lt-ltb, le-ltb}
use Rattle.std.proofs.lemmas.Int.{ints}
use Rattle.std.proofs.lemmas.Bool.Decides.{nat_tests}
use Rattle.apt_num.specs.Sign.{square}
use Rattle.apt_num.proofs.Squares.{size_neg, square_le}
use Rattle.apt_plane.specs.declared.figures.Pt.{Pt}
use Rattle.apt_plane.specs.declared.figures.Dir.{Dir}
use Rattle.apt_plane.specs.declared.figures.Circ.{Circ}
use Rattle.apt_plane.specs.Vectors.{displacement, length_squared}
use Rattle.apt_plane.specs.Ranges.{IsCircle}
use Rattle.apt_canon.specs.Tangents.{side_of_circle, falling_dir, tangent_from, drop, touch_point, tangent_two}
use Rattle.apt_canon.specs.declared.FormFault.TheVariants.{NoMeeting, Degenerate}
use Rattle.apt_canon.proofs.Products.{zero-minus}
use Rattle.apt_canon.proofs.Shares.{side_kept}

pub side_size : (left : Bool) (r : ℤ) → unsigned_abs (side_of_circle left *ℤ r) ≡ unsigned_abs r
side_size true r = omega (arith, ints)
side_size false r = omega (arith, ints)

-- a surface has a radius from 100
pub radius_large : (c : Circ) → IsCircle c → 100 ≤ unsigned_abs c.r
radius_large c is = omega (arith, ints, is.least)

pub radius_square : (c : Circ) → IsCircle c → 10000 ≤ square c.r
radius_square c is = omega (arith, square_le 100 (unsigned_abs c.r) (radius_large c is))

pub outside_apart : (p : Pt) (c : Circ) → IsCircle c → square c.r ≤ length_squared (displacement p c.c) → 1 ≤ length_squared (displacement p c.c)
outside_apart p c is h = omega (arith, radius_square c is, h)

-- the radius to the other side
pub back_kept : (s : ℤ) → unsigned_abs s ≤ 10 ^ 8 → to_z w64 (of_z w64 (pos 0 -ℤ to_z w64 (of_z w64 s))) ≡ neg_ℤ s
back_kept s h = rw (side_kept s h, zero-minus s) (side_kept (neg_ℤ s) (rw (size_neg s) h))

pub same_dir : (a b : Dir) (p q : ℤ) (d : Dir) → d ≡ falling_dir a p → a ≡ b → p ≡ q → d ≡ falling_dir b q
same_dir a b p q d h e f = h ∙ ap (λ v. falling_dir v p) e ∙ ap (λ z. falling_dir b z) f

pub found_from : (p : Pt) (left : Bool) (c : Circ) (d : Dir) → square c.r ≤ length_squared (displacement p c.c)
    → d ≡ falling_dir (displacement p c.c) (neg_ℤ (side_of_circle left *ℤ c.r)) → Ok (record { base = p; dir = d }) ≡ tangent_from p left c
found_from p left c d h e = rw (e, le-ltb (length_squared (displacement p c.c)) (square c.r) h) refl

-- ---- of two circles

pub apart_test : (n m : ℕ) → 0 < n + m → ((n == 0) && (m == 0)) ≡ false
apart_test n m h = grind (arith, nat_tests)

pub same_test : (n m : ℕ) → n + m ≤ 0 → ((n == 0) && (m == 0)) ≡ true
same_test n m h = grind (arith, nat_tests)

pub two_below : (a : Circ) (left_a : Bool) (b : Circ) (left_b : Bool) → length_squared (displacement a.c b.c) < square (drop a left_a b left_b) → Err NoMeeting ≡ tangent_two a left_a b left_b
two_below a left_a b left_b h =
    let n = length_squared (displacement a.c b.c) in
    let m = square (drop a left_a b left_b) in
    rw (apart_test n m (omega (arith, h)), lt-ltb n m h) refl

pub two_same : (a : Circ) (left_a : Bool) (b : Circ) (left_b : Bool) → square (drop a left_a b left_b) ≤ length_squared (displacement a.c b.c) → length_squared (displacement a.c b.c) ≤ 0 → Err Degenerate ≡ tangent_two a left_a b left_b
two_same a left_a b left_b h e =
    let n = length_squared (displacement a.c b.c) in
    let m = square (drop a left_a b left_b) in
    rw (same_test n m (omega (arith, h, e))) refl

pub two_found : (a : Circ) (left_a : Bool) (b : Circ) (left_b : Bool) (p : Pt) (d : Dir) → square (drop a left_a b left_b) ≤ length_squared (displacement a.c b.c) → 1 ≤ length_squared (displacement a.c b.c)
    → p ≡ touch_point a left_a (displacement a.c b.c) (drop a left_a b left_b) → d ≡ falling_dir (displacement a.c b.c) (drop a left_a b left_b)
    → Ok (record { base = p; dir = d }) ≡ tangent_two a left_a b left_b
two_found a left_a b left_b p d h apart e f =
    let n = length_squared (displacement a.c b.c) in
    let m = square (drop a left_a b left_b) in
    rw (e, f, apart_test n m (omega (arith, apart)), le-ltb n m h) refl

pub same_touch : (a : Circ) (left : Bool) (v w : Dir) (m n : ℤ) (p : Pt) → p ≡ touch_point a left v m → v ≡ w → m ≡ n → p ≡ touch_point a left w n
same_touch a left v w m n p h e f = h ∙ ap (λ u. touch_point a left u m) e ∙ ap (λ z. touch_point a left w z) f

-- the difference of two radii on their sides
pub drop_fits : (x y : ℤ) → unsigned_abs x ≤ 49000000 → unsigned_abs y ≤ 49000000 → FitsSigned w64 (to_z w64 (of_z w64 x) -ℤ to_z w64 (of_z w64 y))
drop_fits x y p q = rw (side_kept x (omega arith), side_kept y (omega arith)) (omega (arith, ints))

pub drop_kept : (x y : ℤ) → unsigned_abs x ≤ 49000000 → unsigned_abs y ≤ 49000000 → to_z w64 (of_z w64 (to_z w64 (of_z w64 x) -ℤ to_z w64 (of_z w64 y))) ≡ x -ℤ y
drop_kept x y p q = rw (side_kept x (omega arith), side_kept y (omega arith)) (side_kept (x -ℤ y) (omega (arith, ints)))

pub drop_small : (x y : ℤ) → unsigned_abs x ≤ 49000000 → unsigned_abs y ≤ 49000000 → unsigned_abs (x -ℤ y) ≤ 10 ^ 8
drop_small x y p q = omega (arith, ints, p, q)
