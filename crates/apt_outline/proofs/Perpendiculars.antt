-- The foot of a point on a segment: how it lies to an edge that begins at the point.
use Rattle.std.proofs.Common.{◌≡◌, ◌∙◌, ap, ℕ, ◌+◌, ◌*◌, arith, ℤ, pos, ◌+ℤ◌, ◌-ℤ◌, ◌*ℤ◌, neg_ℤ, unsigned_abs}
use Rattle.apt_num.proofs.Ring.{as_diff, diff-pos, diff-same, differences}
use Rattle.apt_num.proofs.Squares.{size_mul, size_neg}
use Rattle.apt_plane.specs.declared.figures.Pt.{Pt}
use Rattle.apt_plane.specs.declared.figures.Dir.{Dir}
use Rattle.apt_plane.specs.Vectors.{Scaled, between, displacement, displacement_to, cross, dot, length_squared}
use Rattle.apt_plane.specs.Segments.{IsFoot}
use Rattle.apt_plane.proofs.Displacements.{to, square_length_squared}

-- k of a way turned by a quarter to the right
abbrev pub aside : ℤ → Dir → Dir
aside k d = to (k *ℤ d.dy) (neg_ℤ k *ℤ d.dx)

from_start : (a b p : ℤ) (j k : ℕ) → ((pos k *ℤ a) +ℤ (pos j *ℤ b)) -ℤ (pos (j + k) *ℤ p) ≡ (pos j *ℤ (b -ℤ a)) -ℤ (pos (j + k) *ℤ (p -ℤ a))
from_start a b p j k = rw (as_diff a, as_diff b, as_diff p, diff-pos k, diff-pos j, diff-pos (j + k)) (simp differences (diff-same _ _ _ _ (omega arith)))

foot_x : (a b x y : ℤ) → (((a *ℤ x) +ℤ (b *ℤ y)) *ℤ a) -ℤ (((a *ℤ a) +ℤ (b *ℤ b)) *ℤ x) ≡ ((a *ℤ y) -ℤ (b *ℤ x)) *ℤ b
foot_x a b x y = rw (as_diff a, as_diff b, as_diff x, as_diff y) (simp differences (diff-same _ _ _ _ (omega arith)))

foot_y : (a b x y : ℤ) → (((a *ℤ x) +ℤ (b *ℤ y)) *ℤ b) -ℤ (((a *ℤ a) +ℤ (b *ℤ b)) *ℤ y) ≡ neg_ℤ ((a *ℤ y) -ℤ (b *ℤ x)) *ℤ a
foot_y a b x y = rw (as_diff a, as_diff b, as_diff x, as_diff y) (simp differences (diff-same _ _ _ _ (omega arith)))

part_is : (j m f g d t w : ℤ) → j ≡ f → m ≡ g → (f *ℤ d) -ℤ (g *ℤ t) ≡ w → (j *ℤ d) -ℤ (m *ℤ t) ≡ w
part_is j m f g d t w e h is = rw (e, h) is

whole_square : (d : Dir) (m : ℕ) → m ≡ length_squared d → pos m ≡ (d.dx *ℤ d.dx) +ℤ (d.dy *ℤ d.dy)
whole_square d m e = ap (λ n. pos n) e ∙ square_length_squared d

same_dir : (x y u v : ℤ) → x ≡ u → y ≡ v → to x y ≡ to u v
same_dir x y u v e f = λ i. to (e i) (f i)

-- from the point to its foot
pub foot_way : (p a b : Pt) (j k : ℕ) → IsFoot p a b j k → displacement_to p (between a b j k) ≡ aside (cross (displacement a b) (displacement a p)) (displacement a b)
foot_way p a b j k foot =
    let d = displacement a b in
    let t = displacement a p in
    let whole = whole_square d (j + k) foot.whole in
    same_dir _ _ _ _
    (from_start a.x b.x p.x j k ∙ part_is (pos j) (pos (j + k)) _ _ d.dx t.dx _ foot.along whole (foot_x d.dx d.dy t.dx t.dy))
    (from_start a.y b.y p.y j k ∙ part_is (pos j) (pos (j + k)) _ _ d.dy t.dy _ foot.along whole (foot_y d.dx d.dy t.dx t.dy))

-- ---- along an edge e, across it, and its length
aside_dot : (a b c d k : ℤ) → (a *ℤ (k *ℤ d)) +ℤ (b *ℤ (neg_ℤ k *ℤ c)) ≡ neg_ℤ (k *ℤ ((c *ℤ b) -ℤ (d *ℤ a)))
aside_dot a b c d k = rw (as_diff a, as_diff b, as_diff c, as_diff d, as_diff k) (simp differences (diff-same _ _ _ _ (omega arith)))

pub dot_aside : (e d : Dir) (k : ℤ) → dot e (aside k d) ≡ neg_ℤ (k *ℤ cross d e)
dot_aside e d k = aside_dot e.dx e.dy d.dx d.dy k

aside_cross : (a b c d k : ℤ) → (a *ℤ (neg_ℤ k *ℤ c)) -ℤ (b *ℤ (k *ℤ d)) ≡ neg_ℤ (k *ℤ ((c *ℤ a) +ℤ (d *ℤ b)))
aside_cross a b c d k = rw (as_diff a, as_diff b, as_diff c, as_diff d, as_diff k) (simp differences (diff-same _ _ _ _ (omega arith)))

pub cross_aside : (e d : Dir) (k : ℤ) → unsigned_abs (cross e (aside k d)) ≡ unsigned_abs k * unsigned_abs (dot d e)
cross_aside e d k = ap unsigned_abs (aside_cross e.dx e.dy d.dx d.dy k) ∙ size_neg (k *ℤ dot d e) ∙ size_mul k (dot d e)

pub length_aside : (d : Dir) (k : ℤ) → length_squared (aside k d) ≡ unsigned_abs k * unsigned_abs k * length_squared d
length_aside d k = rw (size_mul k d.dy, size_mul (neg_ℤ k) d.dx, size_neg k) (omega arith)

-- ---- from the end of the edge
end_parts : (px py qx qy x y m : ℤ) →
    (((x -ℤ (m *ℤ qx)) *ℤ (x -ℤ (m *ℤ qx))) +ℤ ((y -ℤ (m *ℤ qy)) *ℤ (y -ℤ (m *ℤ qy))))
    +ℤ ((pos 2 *ℤ m) *ℤ (((qx -ℤ px) *ℤ (x -ℤ (m *ℤ px))) +ℤ ((qy -ℤ py) *ℤ (y -ℤ (m *ℤ py)))))
    ≡ (((x -ℤ (m *ℤ px)) *ℤ (x -ℤ (m *ℤ px))) +ℤ ((y -ℤ (m *ℤ py)) *ℤ (y -ℤ (m *ℤ py)))) +ℤ ((m *ℤ m) *ℤ (((qx -ℤ px) *ℤ (qx -ℤ px)) +ℤ ((qy -ℤ py) *ℤ (qy -ℤ py))))
end_parts px py qx qy x y m =
    rw (as_diff px, as_diff py, as_diff qx, as_diff qy, as_diff x, as_diff y, as_diff m, diff-pos 2) (simp differences (diff-same _ _ _ _ (omega arith)))

pub length_to_end : (s : Scaled) (p q : Pt) →
    pos (length_squared (displacement_to q s)) +ℤ ((pos 2 *ℤ pos s.m) *ℤ dot (displacement p q) (displacement_to p s))
    ≡ pos (length_squared (displacement_to p s)) +ℤ ((pos s.m *ℤ pos s.m) *ℤ pos (length_squared (displacement p q)))
length_to_end s p q =
    rw (← square_length_squared (displacement_to q s), ← square_length_squared (displacement_to p s), ← square_length_squared (displacement p q)) at (end_parts p.x p.y q.x q.y s.x s.y (pos s.m))

dot_end_parts : (px py qx qy x y m : ℤ) → ((qx -ℤ px) *ℤ (x -ℤ (m *ℤ qx))) +ℤ ((qy -ℤ py) *ℤ (y -ℤ (m *ℤ qy)))
    ≡ (((qx -ℤ px) *ℤ (x -ℤ (m *ℤ px))) +ℤ ((qy -ℤ py) *ℤ (y -ℤ (m *ℤ py)))) -ℤ ((((qx -ℤ px) *ℤ (qx -ℤ px)) +ℤ ((qy -ℤ py) *ℤ (qy -ℤ py))) *ℤ m)
dot_end_parts px py qx qy x y m = rw (as_diff px, as_diff py, as_diff qx, as_diff qy, as_diff x, as_diff y, as_diff m) (simp differences (diff-same _ _ _ _ (omega arith)))

pub dot_to_end : (s : Scaled) (p q : Pt) → dot (displacement p q) (displacement_to q s) ≡ dot (displacement p q) (displacement_to p s) -ℤ (pos (length_squared (displacement p q)) *ℤ pos s.m)
dot_to_end s p q = rw (← square_length_squared (displacement p q)) at (dot_end_parts p.x p.y q.x q.y s.x s.y (pos s.m))

cross_end_parts : (px py qx qy x y m : ℤ) → ((qx -ℤ px) *ℤ (y -ℤ (m *ℤ qy))) -ℤ ((qy -ℤ py) *ℤ (x -ℤ (m *ℤ qx)))
    ≡ ((qx -ℤ px) *ℤ (y -ℤ (m *ℤ py))) -ℤ ((qy -ℤ py) *ℤ (x -ℤ (m *ℤ px)))
cross_end_parts px py qx qy x y m = rw (as_diff px, as_diff py, as_diff qx, as_diff qy, as_diff x, as_diff y, as_diff m) (simp differences (diff-same _ _ _ _ (omega arith)))

pub cross_to_end : (s : Scaled) (p q : Pt) → cross (displacement p q) (displacement_to q s) ≡ cross (displacement p q) (displacement_to p s)
cross_to_end s p q = cross_end_parts p.x p.y q.x q.y s.x s.y (pos s.m)
