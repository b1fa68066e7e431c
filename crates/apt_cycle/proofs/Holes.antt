-- Holes are just their three acts.
use Rattle.std.proofs.Common.{◌≡◌, ℤ, int_lt, ◌&&◌, Bool, true, false, [], ◌∷◌, Option, Some, None, refl, ap}
use Rattle.std.specs.Ordering.{int_eq}
use Rattle.std.proofs.lemmas.Bool.{and_parts}
use Rattle.std.proofs.lemmas.Bool.Decides.{Decides-int_eq}
use Rattle.apt_control.specs.declared.Act.TheVariants as acts
use Rattle.apt_post.specs.Blocks.{IsCoordinate, IsUpTo}
use Rattle.apt_circular.specs.declared.ArcAct.{ArcAct}
use Rattle.apt_circular.specs.declared.ArcAct.TheVariants as arcs
use Rattle.apt_cycle.specs.declared.hole.Hole.{Hole}
use Rattle.apt_cycle.specs.Holes.{rapid_of, cut_of, is_over, is_down, is_back, hole_if, hole_by, as_hole, hole_of}

-- a hole whose numbers a block has room for, and whose bottom is below where it begins
pub record CanBore (h : Hole) : Type 0 where
  pub x : IsCoordinate h.x
  pub y : IsCoordinate h.y
  pub bottom : IsCoordinate h.bottom
  pub top : IsCoordinate h.top
  pub feed : IsUpTo 9999 h.feed
  pub below : int_lt h.bottom h.top ≡ true

-- three acts that are a hole, whose bottom is below where it begins
pub record IsBored (h : Hole) (a b c : ArcAct) : Type 0 where
  pub acts : hole_of h ≡ a ∷ b ∷ c ∷ []
  pub below : int_lt h.bottom h.top ≡ true

same_int : (a b : ℤ) → int_eq a b ≡ true → a ≡ b
same_int a b e = (Decides-int_eq a b).0 e

hole_there : (t : Bool) (k h : Hole) → hole_if t k ≡ Some h → (t ≡ true) × (h ≡ k)
hole_there true k h e = (refl, cc)
hole_there false k h e = absurd cc

bored_by : (x y top u v bottom feed p q height : ℤ) (h : Hole)
    → hole_by (Some (x, y, top)) (Some (u, v, bottom, feed)) (Some (p, q, height)) ≡ Some h
    → IsBored h (arcs.Plain (acts.Rapid x y top)) (arcs.Plain (acts.Cut u v bottom feed)) (arcs.Plain (acts.Rapid p q height))
bored_by x y top u v bottom feed p q height h e =
    let b = hole_there (is_down u v bottom x y top && is_back p q height x y top) (record { x = x; y = y; bottom = bottom; top = top; feed = feed }) h e in
    let all = and_parts (is_down u v bottom x y top) (is_back p q height x y top) b.0 in
    let down = and_parts (is_over u v x y) (int_lt bottom top) all.0 in
    let back = and_parts (is_over p q x y) (int_eq height top) all.1 in
    let first = and_parts (int_eq u x) (int_eq v y) down.0 in
    let second = and_parts (int_eq p x) (int_eq q y) back.0 in
    rw (b.1, same_int u x first.0, same_int v y first.1, same_int p x second.0, same_int q y second.1, same_int height top back.1) (record { acts = refl; below = down.1 })

rapid_is : (a : ArcAct) (m : ℤ × ℤ × ℤ) → rapid_of a ≡ Some m → a ≡ arcs.Plain (acts.Rapid m.0 m.1 m.2)
rapid_is (arcs.Plain (acts.Rapid x y z)) m e = let same : (x, y, z) ≡ m = cc in ap (λ (n : ℤ × ℤ × ℤ). arcs.Plain (acts.Rapid n.0 n.1 n.2)) same
rapid_is (arcs.Plain (acts.Units u)) m e = absurd cc
rapid_is (arcs.Plain (acts.Cut x y z feed)) m e = absurd cc
rapid_is (arcs.Plain (acts.Do command)) m e = absurd cc
rapid_is (arcs.Plain acts.End) m e = absurd cc
rapid_is (arcs.Arc turn x y z cx cy feed) m e = absurd cc

cut_is : (a : ArcAct) (m : ℤ × ℤ × ℤ × ℤ) → cut_of a ≡ Some m → a ≡ arcs.Plain (acts.Cut m.0 m.1 m.2 m.3)
cut_is (arcs.Plain (acts.Cut x y z feed)) m e = let same : (x, y, z, feed) ≡ m = cc in ap (λ (n : ℤ × ℤ × ℤ × ℤ). arcs.Plain (acts.Cut n.0 n.1 n.2 n.3)) same
cut_is (arcs.Plain (acts.Units u)) m e = absurd cc
cut_is (arcs.Plain (acts.Rapid x y z)) m e = absurd cc
cut_is (arcs.Plain (acts.Do command)) m e = absurd cc
cut_is (arcs.Plain acts.End) m e = absurd cc
cut_is (arcs.Arc turn x y z cx cy feed) m e = absurd cc

pub bored : (a b c : ArcAct) (h : Hole) → as_hole a b c ≡ Some h → IsBored h a b c
bored a b c h e = by (rapid_of a) (cut_of b) (rapid_of c) refl refl refl e
  where
    by : (k : Option (ℤ × ℤ × ℤ)) (l : Option (ℤ × ℤ × ℤ × ℤ)) (m : Option (ℤ × ℤ × ℤ)) → rapid_of a ≡ k → cut_of b ≡ l → rapid_of c ≡ m → hole_by k l m ≡ Some h → IsBored h a b c
    by None l m p q r e = absurd cc
    by (Some (x, y, top)) None m p q r e = absurd cc
    by (Some (x, y, top)) (Some (u, v, bottom, feed)) None p q r e = absurd cc
    by (Some (x, y, top)) (Some (u, v, bottom, feed)) (Some (w, z, height)) p q r e =
        rw (rapid_is a (x, y, top) p, cut_is b (u, v, bottom, feed) q, rapid_is c (w, z, height) r) (bored_by x y top u v bottom feed w z height h e)
