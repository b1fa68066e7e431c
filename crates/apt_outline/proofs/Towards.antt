-- The way from a fraction to a point of an edge, along the edge and across it.
use Rattle.std.proofs.Common.{refl, ◌≡◌, ◌∙◌, sym, ap, ℕ, ◌+◌, ◌*◌, ◌≤◌, arith, ℤ, pos, ◌+ℤ◌, ◌-ℤ◌, ◌*ℤ◌, ◌≤ℤ◌, neg_ℤ, unsigned_abs, subst}
use Rattle.std.proofs.lemmas.Int.{ints}
use Rattle.apt_num.proofs.Ring.{as_diff, diff-pos, diff-same, differences}
use Rattle.apt_num.proofs.Squares.{size_mul, size_neg}
use Rattle.apt_num.proofs.Products.{other_each}
use Rattle.apt_plane.specs.declared.figures.Pt.{Pt}
use Rattle.apt_plane.specs.declared.figures.Dir.{Dir}
use Rattle.apt_plane.specs.Vectors.{Scaled, between, displacement, displacement_to, cross, dot, length_squared}
use Rattle.apt_plane.proofs.Displacements.{to, square_length_squared, lagrange, cross_square}
use Rattle.apt_outline.specs.Clearances.{displacement_scaled}

-- c of an edge's way, less m of a way
abbrev pub less : ℕ → Dir → ℕ → Dir → Dir
less c e m v = to ((pos c *ℤ e.dx) -ℤ (pos m *ℤ v.dx)) ((pos c *ℤ e.dy) -ℤ (pos m *ℤ v.dy))

way_part : (s p q : ℤ) (m j k : ℕ) → (pos m *ℤ ((pos k *ℤ p) +ℤ (pos j *ℤ q))) -ℤ (pos (j + k) *ℤ s) ≡ (pos (m * j) *ℤ (q -ℤ p)) -ℤ (pos (j + k) *ℤ (s -ℤ (pos m *ℤ p)))
way_part s p q m j k = rw (as_diff s, as_diff p, as_diff q, diff-pos m, diff-pos j, diff-pos k, diff-pos (j + k), diff-pos (m * j)) (simp differences (diff-same _ _ _ _ (omega arith)))

pub way_to_edge : (s : Scaled) (p q : Pt) (j k : ℕ) → displacement_scaled s (between p q j k) ≡ less (s.m * j) (displacement p q) (j + k) (displacement_to p s)
way_to_edge s p q j k = rw (way_part s.x p.x q.x s.m j k, way_part s.y p.y q.y s.m j k) refl

-- ---- its length, and what it has along the edge and across it
length_parts : (a b c d x m : ℤ) →
    ((((x *ℤ a) -ℤ (m *ℤ c)) *ℤ ((x *ℤ a) -ℤ (m *ℤ c))) +ℤ (((x *ℤ b) -ℤ (m *ℤ d)) *ℤ ((x *ℤ b) -ℤ (m *ℤ d)))) +ℤ (((pos 2 *ℤ x) *ℤ m) *ℤ ((a *ℤ c) +ℤ (b *ℤ d)))
    ≡ ((x *ℤ x) *ℤ ((a *ℤ a) +ℤ (b *ℤ b))) +ℤ ((m *ℤ m) *ℤ ((c *ℤ c) +ℤ (d *ℤ d)))
length_parts a b c d x m = rw (as_diff a, as_diff b, as_diff c, as_diff d, as_diff x, as_diff m, diff-pos 2) (simp differences (diff-same _ _ _ _ (omega arith)))

length_of_less : (x m : ℕ) (e v : Dir) →
    pos (length_squared (less x e m v)) +ℤ (((pos 2 *ℤ pos x) *ℤ pos m) *ℤ dot e v)
    ≡ ((pos x *ℤ pos x) *ℤ pos (length_squared e)) +ℤ ((pos m *ℤ pos m) *ℤ pos (length_squared v))
length_of_less x m e v =
    rw (← square_length_squared (less x e m v), ← square_length_squared e, ← square_length_squared v) at (length_parts e.dx e.dy v.dx v.dy (pos x) (pos m))

dot_parts : (a b c d x m : ℤ) → (a *ℤ ((x *ℤ a) -ℤ (m *ℤ c))) +ℤ (b *ℤ ((x *ℤ b) -ℤ (m *ℤ d)))
    ≡ (x *ℤ ((a *ℤ a) +ℤ (b *ℤ b))) -ℤ (m *ℤ ((a *ℤ c) +ℤ (b *ℤ d)))
dot_parts a b c d x m = rw (as_diff a, as_diff b, as_diff c, as_diff d, as_diff x, as_diff m) (simp differences (diff-same _ _ _ _ (omega arith)))

pub dot_of_less : (x m : ℕ) (e v : Dir) → dot e (less x e m v) ≡ (pos x *ℤ pos (length_squared e)) -ℤ (pos m *ℤ dot e v)
dot_of_less x m e v = rw (← square_length_squared e) at (dot_parts e.dx e.dy v.dx v.dy (pos x) (pos m))

cross_parts : (a b c d x m : ℤ) → (a *ℤ ((x *ℤ b) -ℤ (m *ℤ d))) -ℤ (b *ℤ ((x *ℤ a) -ℤ (m *ℤ c))) ≡ neg_ℤ (m *ℤ ((a *ℤ d) -ℤ (b *ℤ c)))
cross_parts a b c d x m = rw (as_diff a, as_diff b, as_diff c, as_diff d, as_diff x, as_diff m) (simp differences (diff-same _ _ _ _ (omega arith)))

pub cross_of_less : (x m : ℕ) (e v : Dir) → unsigned_abs (cross e (less x e m v)) ≡ m * unsigned_abs (cross e v)
cross_of_less x m e v = ap unsigned_abs (cross_parts e.dx e.dy v.dx v.dy (pos x) (pos m)) ∙ size_neg (pos m *ℤ cross e v) ∙ size_mul (pos m) (cross e v)

-- ---- where the way does not lead along the edge, its start is nearest
shorter : (x m n g w : ℕ) (u p : ℤ) → pos w +ℤ p ≡ ((pos x *ℤ pos x) *ℤ pos n) +ℤ ((pos m *ℤ pos m) *ℤ pos g) → p ≤ℤ pos 0 → m * m * g ≤ w
shorter x m n g w u p e h = omega (arith, ints, e, h)

pub start_is_nearest : (x m : ℕ) (e v : Dir) → dot e v ≤ℤ pos 0 → m * m * length_squared v ≤ length_squared (less x e m v)
start_is_nearest x m e v behind =
    shorter x m (length_squared e) (length_squared v) (length_squared (less x e m v)) (dot e v) _ (length_of_less x m e v)
    (other_each ((pos 2 *ℤ pos x) *ℤ pos m) (dot e v) (omega (arith, ints)) behind)

-- and no point is nearer than the line
pub line_is_nearest : (x m : ℕ) (e v : Dir) → m * unsigned_abs (cross e v) * (m * unsigned_abs (cross e v)) ≤ length_squared e * length_squared (less x e m v)
line_is_nearest x m e v = subst (λ z. z * z ≤ length_squared e * length_squared (less x e m v)) (cross_of_less x m e v) (cross_square e (less x e m v))

-- where the way is as long along the edge as the edge's own, it leads straight to the line
straight_alone : (n w g h : ℕ) (z : ℤ) → z ≡ pos 0 → g ≡ h → n * w ≡ unsigned_abs z * unsigned_abs z + g * g → n * w ≡ h * h
straight_alone n w g h z e f is = omega (arith, rw (e, f) at is)

pub straight : (x m : ℕ) (e v : Dir) → pos x *ℤ pos (length_squared e) ≡ pos m *ℤ dot e v
    → length_squared e * length_squared (less x e m v) ≡ m * unsigned_abs (cross e v) * (m * unsigned_abs (cross e v))
straight x m e v same =
    straight_alone (length_squared e) (length_squared (less x e m v)) (unsigned_abs (cross e (less x e m v))) (m * unsigned_abs (cross e v)) (dot e (less x e m v))
    (dot_of_less x m e v ∙ rw same (no_difference (pos m *ℤ dot e v))) (cross_of_less x m e v) (lagrange e (less x e m v))
  where
    no_difference : (z : ℤ) → z -ℤ z ≡ pos 0
    no_difference z = omega (arith, ints)

-- ---- the edge from its other end
sum_swap : (x y : ℤ) → x +ℤ y ≡ y +ℤ x
sum_swap x y = omega (arith, ints)

natural_swap : (j k : ℕ) → j + k ≡ k + j
natural_swap j k = omega arith

abbrev scaled_at : ℤ → ℤ → ℕ → Scaled
scaled_at x y m = record { x = x; y = y; m = m }

same_scaled : (x y u v : ℤ) (m n : ℕ) → x ≡ u → y ≡ v → m ≡ n → scaled_at x y m ≡ scaled_at u v n
same_scaled x y u v m n e f g = λ i. scaled_at (e i) (f i) (g i)

pub between_turned : (p q : Pt) (j k : ℕ) → between p q j k ≡ between q p k j
between_turned p q j k = same_scaled _ _ _ _ _ _ (sum_swap (pos k *ℤ p.x) (pos j *ℤ q.x)) (sum_swap (pos k *ℤ p.y) (pos j *ℤ q.y)) (natural_swap j k)

length_turned_parts : (px py qx qy : ℤ) → ((px -ℤ qx) *ℤ (px -ℤ qx)) +ℤ ((py -ℤ qy) *ℤ (py -ℤ qy)) ≡ ((qx -ℤ px) *ℤ (qx -ℤ px)) +ℤ ((qy -ℤ py) *ℤ (qy -ℤ py))
length_turned_parts px py qx qy = rw (as_diff px, as_diff py, as_diff qx, as_diff qy) (simp differences (diff-same _ _ _ _ (omega arith)))

natural_same : (m n : ℕ) → pos m ≡ pos n → m ≡ n
natural_same m n e = omega (arith, ints)

pub length_turned : (p q : Pt) → length_squared (displacement q p) ≡ length_squared (displacement p q)
length_turned p q =
    natural_same _ _ (square_length_squared (displacement q p) ∙ length_turned_parts p.x p.y q.x q.y ∙ sym (square_length_squared (displacement p q)))

dot_turned_parts : (px py qx qy x y m : ℤ) → ((px -ℤ qx) *ℤ (x -ℤ (m *ℤ qx))) +ℤ ((py -ℤ qy) *ℤ (y -ℤ (m *ℤ qy)))
    ≡ (m *ℤ (((qx -ℤ px) *ℤ (qx -ℤ px)) +ℤ ((qy -ℤ py) *ℤ (qy -ℤ py)))) -ℤ (((qx -ℤ px) *ℤ (x -ℤ (m *ℤ px))) +ℤ ((qy -ℤ py) *ℤ (y -ℤ (m *ℤ py))))
dot_turned_parts px py qx qy x y m = rw (as_diff px, as_diff py, as_diff qx, as_diff qy, as_diff x, as_diff y, as_diff m) (simp differences (diff-same _ _ _ _ (omega arith)))

-- seen from its end, a way leads back along the edge by what is left of it
pub dot_turned : (s : Scaled) (p q : Pt) →
    dot (displacement q p) (displacement_to q s) ≡ (pos s.m *ℤ pos (length_squared (displacement p q))) -ℤ dot (displacement p q) (displacement_to p s)
dot_turned s p q = rw (← square_length_squared (displacement p q)) at (dot_turned_parts p.x p.y q.x q.y s.x s.y (pos s.m))

cross_turned_parts : (px py qx qy x y m : ℤ) → ((px -ℤ qx) *ℤ (y -ℤ (m *ℤ qy))) -ℤ ((py -ℤ qy) *ℤ (x -ℤ (m *ℤ qx)))
    ≡ neg_ℤ (((qx -ℤ px) *ℤ (y -ℤ (m *ℤ py))) -ℤ ((qy -ℤ py) *ℤ (x -ℤ (m *ℤ px))))
cross_turned_parts px py qx qy x y m = rw (as_diff px, as_diff py, as_diff qx, as_diff qy, as_diff x, as_diff y, as_diff m) (simp differences (diff-same _ _ _ _ (omega arith)))

-- and as far to the other side
pub cross_turned : (s : Scaled) (p q : Pt) → unsigned_abs (cross (displacement q p) (displacement_to q s)) ≡ unsigned_abs (cross (displacement p q) (displacement_to p s))
cross_turned s p q = ap unsigned_abs (cross_turned_parts p.x p.y q.x q.y s.x s.y (pos s.m)) ∙ size_neg (cross (displacement p q) (displacement_to p s))
