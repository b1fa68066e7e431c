-- Heights over a line, their sizes, and the heights of the points between two.
use Rattle.std.proofs.Common.{refl, ◌≡◌, ℕ, ◌+◌, ◌*◌, ◌≤◌, ◌<◌, ◌^◌, arith, ℤ, pos, ◌+ℤ◌, ◌-ℤ◌, ◌*ℤ◌, unsigned_abs}
use Rattle.std.proofs.lemmas.Int.{ints}
use Rattle.std.proofs.lemmas.Nat.{mul-le}
use Rattle.apt_num.proofs.Ring.{as_diff, diff-pos, diff-same, differences}
use Rattle.apt_num.proofs.Squares.{size_mul, size_minus}
use Rattle.apt_plane.specs.declared.figures.Pt.{Pt}
use Rattle.apt_plane.specs.declared.figures.Dir.{Dir}
use Rattle.apt_plane.specs.declared.figures.Line.{Line}
use Rattle.apt_plane.specs.Vectors.{displacement, cross, dot, length_squared, scaled, between, height}
use Rattle.apt_plane.specs.Ranges.{IsPoint, IsDir, IsShort}

pub one-times : (z : ℤ) → pos 1 *ℤ z ≡ z
one-times z = omega (arith, ints)

-- the height of a point is that of the way to it
pub height_of_point : (l : Line) (p : Pt) → height l (scaled p) ≡ cross l.dir (displacement l.base p)
height_of_point l p = rw (one-times l.base.x, one-times l.base.y) refl

sum_small : (a b c d : ℤ) → unsigned_abs a ≤ 10 ^ 8 → unsigned_abs b ≤ 10 ^ 8 → unsigned_abs c ≤ 10 ^ 8 → unsigned_abs d ≤ 10 ^ 8
    → unsigned_abs ((a *ℤ b) +ℤ (c *ℤ d)) ≤ 2 * 10 ^ 16
sum_small a b c d p q r s =
    let first : unsigned_abs (a *ℤ b) ≤ 10 ^ 16 = rw (size_mul a b) (omega (arith, mul-le _ _ (10 ^ 8) (10 ^ 8) p q)) in
    let second : unsigned_abs (c *ℤ d) ≤ 10 ^ 16 = rw (size_mul c d) (omega (arith, mul-le _ _ (10 ^ 8) (10 ^ 8) r s)) in
    omega (arith, ints)

difference_small : (a b c d : ℤ) → unsigned_abs a ≤ 10 ^ 8 → unsigned_abs b ≤ 10 ^ 8 → unsigned_abs c ≤ 10 ^ 8 → unsigned_abs d ≤ 10 ^ 8
    → unsigned_abs ((a *ℤ b) -ℤ (c *ℤ d)) ≤ 2 * 10 ^ 16
difference_small a b c d p q r s =
    let first : unsigned_abs (a *ℤ b) ≤ 10 ^ 16 = rw (size_mul a b) (omega (arith, mul-le _ _ (10 ^ 8) (10 ^ 8) p q)) in
    let second : unsigned_abs (c *ℤ d) ≤ 10 ^ 16 = rw (size_mul c d) (omega (arith, mul-le _ _ (10 ^ 8) (10 ^ 8) r s)) in
    omega (arith, size_minus (a *ℤ b) (c *ℤ d))

pub cross_small : (u v : Dir) → IsDir u → IsDir v → unsigned_abs (cross u v) ≤ 2 * 10 ^ 16
cross_small u v p q = difference_small u.dx v.dy u.dy v.dx p.dx q.dy p.dy q.dx

pub displacement_height_small : (base : Pt) (dir : Dir) (p : Pt) → IsPoint base → IsDir dir → IsPoint p → unsigned_abs (cross dir (displacement base p)) ≤ 2 * 10 ^ 16
displacement_height_small base dir p at is point =
    difference_small dir.dx (p.y -ℤ base.y) dir.dy (p.x -ℤ base.x) is.dx (omega (arith, ints)) is.dy (omega (arith, ints))

pub length_squared_small : (d : Dir) → IsDir d → length_squared d ≤ 2 * 10 ^ 16
length_squared_small d is = omega (arith, mul-le _ _ (10 ^ 8) (10 ^ 8) is.dx is.dx, mul-le _ _ (10 ^ 8) (10 ^ 8) is.dy is.dy)

pub short_cross_small : (u v : Dir) → IsShort u → IsShort v → unsigned_abs (cross u v) ≤ 2 * 10 ^ 16
short_cross_small u v p q = difference_small u.dx v.dy u.dy v.dx p.dx q.dy p.dy q.dx

pub short_dot_small : (u v : Dir) → IsShort u → IsShort v → unsigned_abs (dot u v) ≤ 2 * 10 ^ 16
short_dot_small u v p q = sum_small u.dx v.dx u.dy v.dy p.dx q.dx p.dy q.dy

pub short_square_small : (d : Dir) → IsShort d → length_squared d ≤ 2 * 10 ^ 16
short_square_small d is = omega (arith, mul-le _ _ (10 ^ 8) (10 ^ 8) is.dx is.dx, mul-le _ _ (10 ^ 8) (10 ^ 8) is.dy is.dy)

-- the form of a line at a point between, times j + k: the part for P and the part for Q
form_between : (dx dy bx by px py qx qy : ℤ) (j k : ℕ) →
    (dx *ℤ (((pos k *ℤ py) +ℤ (pos j *ℤ qy)) -ℤ (pos (j + k) *ℤ by))) -ℤ (dy *ℤ (((pos k *ℤ px) +ℤ (pos j *ℤ qx)) -ℤ (pos (j + k) *ℤ bx)))
    ≡ (pos k *ℤ ((dx *ℤ (py -ℤ by)) -ℤ (dy *ℤ (px -ℤ bx)))) +ℤ (pos j *ℤ ((dx *ℤ (qy -ℤ by)) -ℤ (dy *ℤ (qx -ℤ bx))))
form_between dx dy bx by px py qx qy j k =
    rw (as_diff dx, as_diff dy, as_diff bx, as_diff by, as_diff px, as_diff py, as_diff qx, as_diff qy, diff-pos k, diff-pos j, diff-pos (j + k))
    (simp differences (diff-same _ _ _ _ (omega arith)))

pub height_between : (l : Line) (p q : Pt) (j k : ℕ) → height l (between p q j k) ≡ (pos k *ℤ height l (scaled p)) +ℤ (pos j *ℤ height l (scaled q))
height_between l p q j k =
    rw (height_of_point l p, height_of_point l q) (form_between l.dir.dx l.dir.dy l.base.x l.base.y p.x p.y q.x q.y j k)

-- what the sign against a root squares and multiplies
pub product_fits : (h n : ℕ) → h ≤ 4 * 10 ^ 8 → n ≤ 2 * 10 ^ 16 → h * h * n < 10 ^ 38
product_fits h n p q = omega (arith, mul-le (h * h) n (16 * 10 ^ 16) (2 * 10 ^ 16) (mul-le h h (4 * 10 ^ 8) (4 * 10 ^ 8) p p) q)
