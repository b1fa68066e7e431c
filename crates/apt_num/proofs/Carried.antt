-- What is at most a share at one point is so at every point that lies farther from the axis: in signed squares.
use Rattle.std.proofs.Common.{refl, sym, ◌≡◌, ℕ, ◌<◌, arith, ℤ, pos, ◌-ℤ◌, ◌*ℤ◌, ◌≤ℤ◌}
use Rattle.std.proofs.lemmas.Int.{ints}
use Rattle.apt_num.proofs.Ring.{as_diff, diff-same, differences, scaled_le, *ℤ-minus}
use Rattle.apt_num.proofs.Products.{no_minus_of}

-- a factor from 1 is left out
cancel : (n : ℕ) (x y : ℤ) → 0 < n → (pos n *ℤ x) ≤ℤ (pos n *ℤ y) → x ≤ℤ y
cancel n x y some h =
    let parts = *ℤ-minus (pos n) y x in
    omega (arith, ints, no_minus_of n (y -ℤ x) some (rw parts (omega (arith, ints, h))))

-- x at the point, y at the other

turn : (c y n : ℤ) → (n *ℤ (c *ℤ y)) ≡ (c *ℤ (y *ℤ n))
turn c y n = rw (as_diff c, as_diff y, as_diff n) (simp differences (diff-same _ _ _ _ (omega arith)))

swap : (z a n : ℤ) → (n *ℤ (z *ℤ a)) ≡ (a *ℤ (z *ℤ n))
swap z a n = rw (as_diff z, as_diff a, as_diff n) (simp differences (diff-same _ _ _ _ (omega arith)))

below : (u v w : ℤ) → u ≤ℤ v → v ≤ℤ w → u ≤ℤ w
below u v w p q = omega (arith, ints, p, q)

same_below : (u v w x : ℤ) → u ≡ v → v ≤ℤ w → w ≡ x → u ≤ℤ x
same_below u v w x e h f = omega (arith, ints, e, h, f)

pub carried : (c a n : ℕ) (x y z : ℤ) → 0 < a → (x *ℤ pos a) ≤ℤ (y *ℤ pos n) → (pos c *ℤ y) ≤ℤ (z *ℤ pos a) → (pos c *ℤ x) ≤ℤ (z *ℤ pos n)
carried c a n x y z some far at =
    cancel a (pos c *ℤ x) (z *ℤ pos n) some
    (below (pos a *ℤ (pos c *ℤ x)) (pos n *ℤ (pos c *ℤ y)) (pos a *ℤ (z *ℤ pos n))
    (same_below (pos a *ℤ (pos c *ℤ x)) (pos c *ℤ (x *ℤ pos a)) (pos c *ℤ (y *ℤ pos n)) (pos n *ℤ (pos c *ℤ y))
    (turn (pos c) x (pos a)) (scaled_le c (x *ℤ pos a) (y *ℤ pos n) far) (sym (turn (pos c) y (pos n))))
    (same_below (pos n *ℤ (pos c *ℤ y)) (pos n *ℤ (pos c *ℤ y)) (pos n *ℤ (z *ℤ pos a)) (pos a *ℤ (z *ℤ pos n))
    refl (scaled_le n (pos c *ℤ y) (z *ℤ pos a) at) (swap z (pos a) (pos n))))
