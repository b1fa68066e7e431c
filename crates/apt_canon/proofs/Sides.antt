-- On which side of a line a point lies: by its distance, and by its coordinates.
use Rattle.std.proofs.Common.{refl, ◌≡◌, ◌≢◌, ◌∙◌, ℕ, zero, suc, ◌≤◌, ◌<◌, sym, arith, ℤ, pos, negsuc, neg_ℤ, ◌+ℤ◌, ◌-ℤ◌, ◌*ℤ◌, ◌<ℤ◌, unsigned_abs}
use Rattle.std.proofs.lemmas.Int.{ints}
use Rattle.apt_num.specs.declared.Sign.TheVariants.{Minus, Zero, Plus}
use Rattle.apt_num.specs.Sign.{sign_of, AtLeast, OnLine}
use Rattle.apt_num.proofs.Ring.{as_diff, diff-pos, diff-same, differences, neg-*ℤ-neg, double_neg}
use Rattle.apt_words.specs.declared.Pick.{Pick}
use Rattle.apt_words.specs.declared.Pick.TheVariants as picks
use Rattle.apt_plane.specs.declared.figures.Pt.{Pt}
use Rattle.apt_plane.specs.declared.figures.Line.{Line}
use Rattle.apt_plane.specs.Vectors.{Scaled, displacement, cross, height}
use Rattle.apt_canon.specs.Scale.{side_of_line}
use Rattle.apt_canon.specs.Feet.{side_picked, IsPicked}
use Rattle.apt_canon.proofs.FootPoints.Sharp.{no_more}

-- ---- by the distance

-- what is at least a length above 0 is above 0
plus_of : (k h : ℤ) (n : ℕ) → AtLeast k h n → pos 0 <ℤ h → 1 ≤ n → sign_of k ≡ Plus
plus_of (pos zero) (pos zero) n at more one = absurd (omega (arith, ints, more))
plus_of (pos zero) (pos (suc h)) n at more one = absurd (omega (arith, at, one))
plus_of (pos (suc k)) h n at more one = refl
plus_of (negsuc k) (pos h) n at more one = absurd at
plus_of k (negsuc h) n at more one = absurd (omega (arith, ints, more))

minus_of : (k : ℤ) → sign_of (neg_ℤ k) ≡ Plus → sign_of k ≡ Minus
minus_of (pos zero) e = absurd (cc)
minus_of (pos (suc k)) e = absurd (cc)
minus_of (negsuc k) e = refl

-- a point further to the left than its distance is uncertain lies to the left, and one to the right to the right
pub left_at : (k h g : ℤ) (n : ℕ) → OnLine k h n g → g <ℤ h → 1 ≤ n → sign_of k ≡ Plus
left_at k h g n at more one = plus_of k (h -ℤ g) n at.right (omega (arith, ints, more)) one

pub right_at : (k h g : ℤ) (n : ℕ) → OnLine k (neg_ℤ h) n g → g <ℤ h → 1 ≤ n → sign_of k ≡ Minus
right_at k h g n at more one = minus_of k (plus_of (neg_ℤ k) (neg_ℤ (neg_ℤ h) -ℤ g) n at.left (omega (arith, ints, more)) one)

-- its distance is the same without the side
pub away_left : (k d g : ℤ) (n : ℕ) → sign_of k ≡ Plus → OnLine k d n g → OnLine (pos (unsigned_abs k)) d n g
away_left (pos k) d g n e at = at
away_left (negsuc k) d g n e at = absurd (cc)

pub away_right : (k d g : ℤ) (n : ℕ) → sign_of k ≡ Minus → OnLine k (neg_ℤ d) n g → OnLine (pos (unsigned_abs k)) d n g
away_right (pos zero) d g n e at = absurd (cc)
away_right (pos (suc k)) d g n e at = absurd (cc)
away_right (negsuc k) d g n e at = record { right = rw (double_neg d) at at.left; left = at.right }

-- ---- by the coordinates

-- of two products that are one, with factors of one sign, the other factors have one sign
same_way : (k e z : ℤ) (m : ℕ) → sign_of k ≡ sign_of e → sign_of e ≢ Zero → 0 < m → pos m *ℤ k ≡ e *ℤ z → pos 0 <ℤ z
same_way (pos zero) e z m same some positive parts = absurd (some (sym same))
same_way (pos (suc k)) (pos zero) z m same some positive parts = absurd (some refl)
same_way (pos (suc k)) (negsuc e) z m same some positive parts = absurd (cc)
same_way (pos (suc k)) (pos (suc e)) (pos zero) m same some positive parts = absurd (omega (arith, ints, parts, positive))
same_way (pos (suc k)) (pos (suc e)) (pos (suc z)) m same some positive parts = omega (arith, ints)
same_way (pos (suc k)) (pos (suc e)) (negsuc z) m same some positive parts = absurd (omega (arith, ints, parts, positive))
same_way (negsuc k) (pos zero) z m same some positive parts = absurd (some refl)
same_way (negsuc k) (pos (suc e)) z m same some positive parts = absurd (cc)
same_way (negsuc k) (negsuc e) (pos zero) m same some positive parts = absurd (omega (arith, ints, parts, positive))
same_way (negsuc k) (negsuc e) (pos (suc z)) m same some positive parts = omega (arith, ints)
same_way (negsuc k) (negsuc e) (negsuc z) m same some positive parts = absurd (omega (arith, ints, parts, positive))

level_parts : (a b px py bx by x : ℤ) (m : ℕ) → pos m *ℤ ((a *ℤ (py -ℤ by)) -ℤ (b *ℤ (px -ℤ bx)))
    ≡ ((a *ℤ ((pos m *ℤ py) -ℤ (pos m *ℤ by))) -ℤ (b *ℤ (x -ℤ (pos m *ℤ bx)))) +ℤ (neg_ℤ b *ℤ ((pos m *ℤ px) -ℤ x))
level_parts a b px py bx by x m =
    rw (as_diff a, as_diff b, as_diff px, as_diff py, as_diff bx, as_diff by, as_diff x, diff-pos m) (simp differences (diff-same _ _ _ _ (omega arith)))

upright_parts : (a b px py bx by y : ℤ) (m : ℕ) → pos m *ℤ ((a *ℤ (py -ℤ by)) -ℤ (b *ℤ (px -ℤ bx)))
    ≡ ((a *ℤ (y -ℤ (pos m *ℤ by))) -ℤ (b *ℤ ((pos m *ℤ px) -ℤ (pos m *ℤ bx)))) +ℤ (a *ℤ ((pos m *ℤ py) -ℤ y))
upright_parts a b px py bx by y m =
    rw (as_diff a, as_diff b, as_diff px, as_diff py, as_diff bx, as_diff by, as_diff y, diff-pos m) (simp differences (diff-same _ _ _ _ (omega arith)))

-- the cross product of a point, by the point of the line that is level with it, or upright
level : (l : Line) (p : Pt) (s : Scaled) → height l s ≡ pos 0 → s.y ≡ pos s.m *ℤ p.y
    → pos s.m *ℤ cross l.dir (displacement l.base p) ≡ neg_ℤ l.dir.dy *ℤ ((pos s.m *ℤ p.x) -ℤ s.x)
level l p s on same =
    level_parts l.dir.dx l.dir.dy p.x p.y l.base.x l.base.y s.x s.m ∙ rw (rw same at on, no_more (neg_ℤ l.dir.dy *ℤ ((pos s.m *ℤ p.x) -ℤ s.x))) refl

upright : (l : Line) (p : Pt) (s : Scaled) → height l s ≡ pos 0 → s.x ≡ pos s.m *ℤ p.x
    → pos s.m *ℤ cross l.dir (displacement l.base p) ≡ l.dir.dx *ℤ ((pos s.m *ℤ p.y) -ℤ s.y)
upright l p s on same =
    upright_parts l.dir.dx l.dir.dy p.x p.y l.base.x l.base.y s.y s.m ∙ rw (rw same at on, no_more (l.dir.dx *ℤ ((pos s.m *ℤ p.y) -ℤ s.y))) refl

less_of : (x y : ℤ) → pos 0 <ℤ (y -ℤ x) → x <ℤ y
less_of x y h = omega (arith, ints, h)

more_of : (x y : ℤ) → pos 0 <ℤ neg_ℤ (y -ℤ x) → y <ℤ x
more_of x y h = omega (arith, ints, h)

-- a point on the side of a line that a modifier names lies past the line's point
pub picked : (l : Line) (pick : Pick) (p : Pt) → side_picked l pick ≢ Zero → side_of_line l p ≡ side_picked l pick → IsPicked l pick p
picked l picks.XLarge p some same = λ s more on beside.
    less_of s.x (pos s.m *ℤ p.x) (same_way (cross l.dir (displacement l.base p)) (neg_ℤ l.dir.dy) ((pos s.m *ℤ p.x) -ℤ s.x) s.m same some more (level l p s on beside))
picked l picks.XSmall p some same = λ s more on beside.
    more_of s.x (pos s.m *ℤ p.x)
    (same_way (cross l.dir (displacement l.base p)) (neg_ℤ (neg_ℤ l.dir.dy)) (neg_ℤ ((pos s.m *ℤ p.x) -ℤ s.x)) s.m same some more
    (level l p s on beside ∙ sym (neg-*ℤ-neg (neg_ℤ l.dir.dy) ((pos s.m *ℤ p.x) -ℤ s.x))))
picked l picks.YLarge p some same = λ s more on beside.
    less_of s.y (pos s.m *ℤ p.y) (same_way (cross l.dir (displacement l.base p)) l.dir.dx ((pos s.m *ℤ p.y) -ℤ s.y) s.m same some more (upright l p s on beside))
picked l picks.YSmall p some same = λ s more on beside.
    more_of s.y (pos s.m *ℤ p.y)
    (same_way (cross l.dir (displacement l.base p)) (neg_ℤ l.dir.dx) (neg_ℤ ((pos s.m *ℤ p.y) -ℤ s.y)) s.m same some more
    (upright l p s on beside ∙ sym (neg-*ℤ-neg l.dir.dx ((pos s.m *ℤ p.y) -ℤ s.y))))
