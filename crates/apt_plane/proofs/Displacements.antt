-- Laws of ways in the plane: their cross products, dot products and lengths.
use Rattle.std.proofs.Common.{refl, ◌≡◌, ℕ, ◌+◌, ◌*◌, ◌≤◌, arith, ℤ, pos, ◌+ℤ◌, ◌-ℤ◌, ◌*ℤ◌, neg_ℤ, unsigned_abs}
use Rattle.std.proofs.lemmas.Int.{ints}
use Rattle.apt_num.proofs.Ring.{as_diff, diff-pos, diff-same, differences}
use Rattle.apt_num.proofs.Squares.{size_neg, size_square}
use Rattle.apt_plane.specs.declared.figures.Dir.{Dir}
use Rattle.apt_plane.specs.declared.figures.Pt.{Pt}
use Rattle.apt_plane.specs.Vectors.{displacement, cross, dot, length_squared, perp, between, displacement_to}

-- a way of parts x and y
abbrev pub to : ℤ → ℤ → Dir
to x y = record { dx = x; dy = y }

-- the square of a length, as a whole number
pub square_length_squared : (u : Dir) → pos (length_squared u) ≡ (u.dx *ℤ u.dx) +ℤ (u.dy *ℤ u.dy)
square_length_squared u = rw (← size_square u.dx, ← size_square u.dy) (omega (arith, ints))

to_itself : (z : ℤ) → z -ℤ z ≡ pos 0
to_itself z = omega (arith, ints)

-- the way from a point to itself has no length
pub no_way : (p q : Pt) → p ≡ q → length_squared (displacement p q) ≡ 0
no_way p q e = rw (e, to_itself q.x, to_itself q.y) refl

lagrange_parts : (a b c d : ℤ) → ((a *ℤ a) +ℤ (b *ℤ b)) *ℤ ((c *ℤ c) +ℤ (d *ℤ d))
    ≡ (((a *ℤ c) +ℤ (b *ℤ d)) *ℤ ((a *ℤ c) +ℤ (b *ℤ d))) +ℤ (((a *ℤ d) -ℤ (b *ℤ c)) *ℤ ((a *ℤ d) -ℤ (b *ℤ c)))
lagrange_parts a b c d = rw (as_diff a, as_diff b, as_diff c, as_diff d) (simp differences (diff-same _ _ _ _ (omega arith)))

-- the squares of the dot product and of the cross product make the product of the squares of the lengths
pub lagrange : (u v : Dir) → length_squared u * length_squared v ≡ unsigned_abs (dot u v) * unsigned_abs (dot u v) + unsigned_abs (cross u v) * unsigned_abs (cross u v)
lagrange u v =
    let whole = rw (← square_length_squared u, ← square_length_squared v, ← size_square (dot u v), ← size_square (cross u v)) at (lagrange_parts u.dx u.dy v.dx v.dy) in
    omega (arith, ints, whole)

pub cross_square : (u v : Dir) → unsigned_abs (cross u v) * unsigned_abs (cross u v) ≤ length_squared u * length_squared v
cross_square u v = omega (arith, lagrange u v)

pub dot_square : (u v : Dir) → unsigned_abs (dot u v) * unsigned_abs (dot u v) ≤ length_squared u * length_squared v
dot_square u v = omega (arith, lagrange u v)

linear_parts : (a b x p q y r s : ℤ) → (a *ℤ ((x *ℤ q) +ℤ (y *ℤ s))) -ℤ (b *ℤ ((x *ℤ p) +ℤ (y *ℤ r)))
    ≡ (x *ℤ ((a *ℤ q) -ℤ (b *ℤ p))) +ℤ (y *ℤ ((a *ℤ s) -ℤ (b *ℤ r)))
linear_parts a b x p q y r s =
    rw (as_diff a, as_diff b, as_diff x, as_diff p, as_diff q, as_diff y, as_diff r, as_diff s) (simp differences (diff-same _ _ _ _ (omega arith)))

minus_parts : (a b x p q y r s : ℤ) → (a *ℤ ((q *ℤ x) -ℤ (s *ℤ y))) -ℤ (b *ℤ ((p *ℤ x) -ℤ (r *ℤ y)))
    ≡ (((a *ℤ q) -ℤ (b *ℤ p)) *ℤ x) -ℤ (((a *ℤ s) -ℤ (b *ℤ r)) *ℤ y)
minus_parts a b x p q y r s =
    rw (as_diff a, as_diff b, as_diff x, as_diff p, as_diff q, as_diff y, as_diff r, as_diff s) (simp differences (diff-same _ _ _ _ (omega arith)))

sum_parts : (a b p q r s : ℤ) → (a *ℤ (q +ℤ s)) -ℤ (b *ℤ (p +ℤ r)) ≡ ((a *ℤ q) -ℤ (b *ℤ p)) +ℤ ((a *ℤ s) -ℤ (b *ℤ r))
sum_parts a b p q r s = rw (as_diff a, as_diff b, as_diff p, as_diff q, as_diff r, as_diff s) (simp differences (diff-same _ _ _ _ (omega arith)))

pub times_parts : (a b m p q : ℤ) → (a *ℤ (m *ℤ q)) -ℤ (b *ℤ (m *ℤ p)) ≡ m *ℤ ((a *ℤ q) -ℤ (b *ℤ p))
times_parts a b m p q = rw (as_diff a, as_diff b, as_diff m, as_diff p, as_diff q) (simp differences (diff-same _ _ _ _ (omega arith)))

self_parts : (a b : ℤ) → (a *ℤ b) -ℤ (b *ℤ a) ≡ pos 0
self_parts a b = rw (as_diff a, as_diff b, diff-pos 0) (simp differences (diff-same _ _ _ _ (omega arith)))

swap_parts : (a b p q : ℤ) → (p *ℤ b) -ℤ (q *ℤ a) ≡ neg_ℤ ((a *ℤ q) -ℤ (b *ℤ p))
swap_parts a b p q = rw (as_diff a, as_diff b, as_diff p, as_diff q) (simp differences (diff-same _ _ _ _ (omega arith)))

pub turn_parts : (a b p q : ℤ) → (a *ℤ p) -ℤ (b *ℤ neg_ℤ q) ≡ (a *ℤ p) +ℤ (b *ℤ q)
turn_parts a b p q = rw (as_diff a, as_diff b, as_diff p, as_diff q) (simp differences (diff-same _ _ _ _ (omega arith)))

turned_cross_parts : (a b p q : ℤ) → (neg_ℤ b *ℤ q) -ℤ (a *ℤ p) ≡ neg_ℤ ((a *ℤ p) +ℤ (b *ℤ q))
turned_cross_parts a b p q = rw (as_diff a, as_diff b, as_diff p, as_diff q) (simp differences (diff-same _ _ _ _ (omega arith)))

turned_dot_parts : (a b p q : ℤ) → (neg_ℤ b *ℤ p) +ℤ (a *ℤ q) ≡ (a *ℤ q) -ℤ (b *ℤ p)
turned_dot_parts a b p q = rw (as_diff a, as_diff b, as_diff p, as_diff q) (simp differences (diff-same _ _ _ _ (omega arith)))

-- the cross product of a sum of ways
pub cross_linear : (d v w : Dir) (x y : ℤ) → cross d (to ((x *ℤ v.dx) +ℤ (y *ℤ w.dx)) ((x *ℤ v.dy) +ℤ (y *ℤ w.dy))) ≡ (x *ℤ cross d v) +ℤ (y *ℤ cross d w)
cross_linear d v w x y = linear_parts d.dx d.dy x v.dx v.dy y w.dx w.dy

pub cross_minus : (d v w : Dir) (x y : ℤ) → cross d (to ((v.dx *ℤ x) -ℤ (w.dx *ℤ y)) ((v.dy *ℤ x) -ℤ (w.dy *ℤ y))) ≡ (cross d v *ℤ x) -ℤ (cross d w *ℤ y)
cross_minus d v w x y = minus_parts d.dx d.dy x v.dx v.dy y w.dx w.dy

pub cross_sum : (d v w : Dir) → cross d (to (v.dx +ℤ w.dx) (v.dy +ℤ w.dy)) ≡ cross d v +ℤ cross d w
cross_sum d v w = sum_parts d.dx d.dy v.dx v.dy w.dx w.dy

pub cross_times : (d v : Dir) (m : ℤ) → cross d (to (m *ℤ v.dx) (m *ℤ v.dy)) ≡ m *ℤ cross d v
cross_times d v m = times_parts d.dx d.dy m v.dx v.dy

dot_parts : (a b p q r s : ℤ) → (a *ℤ (p +ℤ r)) +ℤ (b *ℤ (q +ℤ s)) ≡ ((a *ℤ p) +ℤ (b *ℤ q)) +ℤ ((a *ℤ r) +ℤ (b *ℤ s))
dot_parts a b p q r s = rw (as_diff a, as_diff b, as_diff p, as_diff q, as_diff r, as_diff s) (simp differences (diff-same _ _ _ _ (omega arith)))

dot_times_parts : (a b m p q : ℤ) → (a *ℤ (m *ℤ p)) +ℤ (b *ℤ (m *ℤ q)) ≡ m *ℤ ((a *ℤ p) +ℤ (b *ℤ q))
dot_times_parts a b m p q = rw (as_diff a, as_diff b, as_diff m, as_diff p, as_diff q) (simp differences (diff-same _ _ _ _ (omega arith)))

-- and the dot product
pub dot_sum : (d v w : Dir) → dot d (to (v.dx +ℤ w.dx) (v.dy +ℤ w.dy)) ≡ dot d v +ℤ dot d w
dot_sum d v w = dot_parts d.dx d.dy v.dx v.dy w.dx w.dy

pub dot_times : (d v : Dir) (m : ℤ) → dot d (to (m *ℤ v.dx) (m *ℤ v.dy)) ≡ m *ℤ dot d v
dot_times d v m = dot_times_parts d.dx d.dy m v.dx v.dy

swap_dot_parts : (a b p q : ℤ) → (a *ℤ p) +ℤ (b *ℤ q) ≡ (p *ℤ a) +ℤ (q *ℤ b)
swap_dot_parts a b p q = omega (arith, ints)

pub dot_swap : (u v : Dir) → dot u v ≡ dot v u
dot_swap u v = swap_dot_parts u.dx u.dy v.dx v.dy

pub cross_self : (d : Dir) → cross d d ≡ pos 0
cross_self d = self_parts d.dx d.dy

pub cross_swap : (u v : Dir) → cross v u ≡ neg_ℤ (cross u v)
cross_swap u v = swap_parts u.dx u.dy v.dx v.dy

-- with a way that is turned by a quarter
pub cross_turn : (t w : Dir) → cross t (perp w) ≡ dot t w
cross_turn t w = turn_parts t.dx t.dy w.dx w.dy

pub back_length : (p q : Pt) → length_squared (displacement q p) ≡ length_squared (displacement p q)
back_length p q = rw (turn_part p.x q.x, turn_part p.y q.y, size_neg (q.x -ℤ p.x), size_neg (q.y -ℤ p.y)) refl
  where
    turn_part : (a b : ℤ) → a -ℤ b ≡ neg_ℤ (b -ℤ a)
    turn_part a b = omega (arith, ints)

pub turned_cross : (d v : Dir) → cross (perp d) v ≡ neg_ℤ (dot d v)
turned_cross d v = turned_cross_parts d.dx d.dy v.dx v.dy

pub turned_dot : (d v : Dir) → dot (perp d) v ≡ cross d v
turned_dot d v = turned_dot_parts d.dx d.dy v.dx v.dy

pub turned_length : (d : Dir) → length_squared (perp d) ≡ length_squared d
turned_length d = rw (size_neg d.dy) (omega arith)

-- ---- ways from a point c to the ends P and Q of a segment, and to a point between them

pub between_part : (c p q : ℤ) (j k : ℕ) → ((pos k *ℤ p) +ℤ (pos j *ℤ q)) -ℤ (pos (j + k) *ℤ c) ≡ (pos k *ℤ (p -ℤ c)) +ℤ (pos j *ℤ (q -ℤ c))
between_part c p q j k =
    rw (as_diff c, as_diff p, as_diff q, diff-pos k, diff-pos j, diff-pos (j + k)) (simp differences (diff-same _ _ _ _ (omega arith)))

pub step_part : (c p q : ℤ) → q -ℤ p ≡ (q -ℤ c) -ℤ (p -ℤ c)
step_part c p q = omega (arith, ints)

stewart_parts : (ux uy vx vy : ℤ) (j k : ℕ) →
    (pos (j * k) *ℤ (((vx -ℤ ux) *ℤ (vx -ℤ ux)) +ℤ ((vy -ℤ uy) *ℤ (vy -ℤ uy))))
    +ℤ ((((pos k *ℤ ux) +ℤ (pos j *ℤ vx)) *ℤ ((pos k *ℤ ux) +ℤ (pos j *ℤ vx))) +ℤ (((pos k *ℤ uy) +ℤ (pos j *ℤ vy)) *ℤ ((pos k *ℤ uy) +ℤ (pos j *ℤ vy))))
    ≡ pos (j + k) *ℤ ((pos k *ℤ ((ux *ℤ ux) +ℤ (uy *ℤ uy))) +ℤ (pos j *ℤ ((vx *ℤ vx) +ℤ (vy *ℤ vy))))
stewart_parts ux uy vx vy j k =
    rw (as_diff ux, as_diff uy, as_diff vx, as_diff vy, diff-pos k, diff-pos j, diff-pos (j + k), diff-pos (j * k))
    (simp differences (diff-same _ _ _ _ (omega arith)))

stewart_of : (u v : Dir) (j k : ℕ) →
    j * k * length_squared (to (v.dx -ℤ u.dx) (v.dy -ℤ u.dy)) + length_squared (to ((pos k *ℤ u.dx) +ℤ (pos j *ℤ v.dx)) ((pos k *ℤ u.dy) +ℤ (pos j *ℤ v.dy)))
    ≡ (j + k) * (k * length_squared u + j * length_squared v)
stewart_of u v j k =
    let step = to (v.dx -ℤ u.dx) (v.dy -ℤ u.dy) in
    let point = to ((pos k *ℤ u.dx) +ℤ (pos j *ℤ v.dx)) ((pos k *ℤ u.dy) +ℤ (pos j *ℤ v.dy)) in
    let whole = rw (← square_length_squared step, ← square_length_squared point, ← square_length_squared u, ← square_length_squared v) at (stewart_parts u.dx u.dy v.dx v.dy j k) in
    omega (arith, ints, whole)

-- Stewart's law
pub stewart : (c p q : Pt) (j k : ℕ) →
    j * k * length_squared (displacement p q) + length_squared (displacement_to c (between p q j k))
    ≡ (j + k) * (k * length_squared (displacement c p) + j * length_squared (displacement c q))
stewart c p q j k =
    rw (step_part c.x p.x q.x, step_part c.y p.y q.y, between_part c.x p.x q.x j k, between_part c.y p.y q.y j k) (stewart_of (displacement c p) (displacement c q) j k)

cosine_parts : (cx cy px py qx qy : ℤ) →
    (((qx -ℤ cx) *ℤ (qx -ℤ cx)) +ℤ ((qy -ℤ cy) *ℤ (qy -ℤ cy))) +ℤ (pos 2 *ℤ (((qx -ℤ px) *ℤ (cx -ℤ px)) +ℤ ((qy -ℤ py) *ℤ (cy -ℤ py))))
    ≡ (((px -ℤ cx) *ℤ (px -ℤ cx)) +ℤ ((py -ℤ cy) *ℤ (py -ℤ cy))) +ℤ (((qx -ℤ px) *ℤ (qx -ℤ px)) +ℤ ((qy -ℤ py) *ℤ (qy -ℤ py)))
cosine_parts cx cy px py qx qy =
    rw (as_diff cx, as_diff cy, as_diff px, as_diff py, as_diff qx, as_diff qy, diff-pos 2) (simp differences (diff-same _ _ _ _ (omega arith)))

-- the law of cosines, of the angle at P
pub cosines : (c p q : Pt) →
    pos (length_squared (displacement c q)) +ℤ (pos 2 *ℤ dot (displacement p q) (displacement p c))
    ≡ pos (length_squared (displacement c p)) +ℤ pos (length_squared (displacement p q))
cosines c p q =
    rw (← square_length_squared (displacement c q), ← square_length_squared (displacement c p), ← square_length_squared (displacement p q)) at (cosine_parts c.x c.y p.x p.y q.x q.y)

area_parts : (cx cy px py qx qy : ℤ) (j k : ℕ) →
    ((qx -ℤ px) *ℤ (((pos k *ℤ py) +ℤ (pos j *ℤ qy)) -ℤ (pos (j + k) *ℤ cy))) -ℤ ((qy -ℤ py) *ℤ (((pos k *ℤ px) +ℤ (pos j *ℤ qx)) -ℤ (pos (j + k) *ℤ cx)))
    ≡ neg_ℤ (pos (j + k) *ℤ (((qx -ℤ px) *ℤ (cy -ℤ py)) -ℤ ((qy -ℤ py) *ℤ (cx -ℤ px))))
area_parts cx cy px py qx qy j k =
    rw (as_diff cx, as_diff cy, as_diff px, as_diff py, as_diff qx, as_diff qy, diff-pos k, diff-pos j, diff-pos (j + k)) (simp differences (diff-same _ _ _ _ (omega arith)))

-- the cross product with the segment is the same for all its points
pub cross_between : (c p q : Pt) (j k : ℕ) →
    cross (displacement p q) (displacement_to c (between p q j k)) ≡ neg_ℤ (pos (j + k) *ℤ cross (displacement p q) (displacement p c))
cross_between c p q j k = area_parts c.x c.y p.x p.y q.x q.y j k

foot_parts : (cx cy px py qx qy : ℤ) (j k : ℕ) →
    ((qx -ℤ px) *ℤ (((pos k *ℤ px) +ℤ (pos j *ℤ qx)) -ℤ (pos (j + k) *ℤ cx))) +ℤ ((qy -ℤ py) *ℤ (((pos k *ℤ py) +ℤ (pos j *ℤ qy)) -ℤ (pos (j + k) *ℤ cy)))
    ≡ (pos j *ℤ (((qx -ℤ px) *ℤ (qx -ℤ px)) +ℤ ((qy -ℤ py) *ℤ (qy -ℤ py)))) -ℤ (pos (j + k) *ℤ (((qx -ℤ px) *ℤ (cx -ℤ px)) +ℤ ((qy -ℤ py) *ℤ (cy -ℤ py))))
foot_parts cx cy px py qx qy j k =
    rw (as_diff cx, as_diff cy, as_diff px, as_diff py, as_diff qx, as_diff qy, diff-pos k, diff-pos j, diff-pos (j + k)) (simp differences (diff-same _ _ _ _ (omega arith)))

-- and the dot product grows with them
pub dot_between : (c p q : Pt) (j k : ℕ) →
    dot (displacement p q) (displacement_to c (between p q j k))
    ≡ (pos j *ℤ pos (length_squared (displacement p q))) -ℤ (pos (j + k) *ℤ dot (displacement p q) (displacement p c))
dot_between c p q j k = rw (← square_length_squared (displacement p q)) at (foot_parts c.x c.y p.x p.y q.x q.y j k)
