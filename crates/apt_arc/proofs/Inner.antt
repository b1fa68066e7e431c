-- The points inside the chords of an arc are met before its end, as its vertices are.
use Rattle.std.proofs.Common.{refl, ◌≡◌, ℕ, ◌<◌, ◌∙◌, ap, arith, ℤ, pos, neg_ℤ, ◌+ℤ◌, ◌*ℤ◌, ◌<ℤ◌}
use Rattle.std.proofs.lemmas.Int.{ints}
use Rattle.apt_num.proofs.Ring.{as_diff, diff-same, differences}
use Rattle.apt_num.proofs.Products.{both_plus}
use Rattle.apt_plane.specs.declared.figures.Pt.{Pt}
use Rattle.apt_plane.specs.declared.figures.Dir.{Dir}
use Rattle.apt_plane.specs.declared.figures.Circ.{Circ}
use Rattle.apt_plane.specs.Vectors.{between, displacement, displacement_to, cross, length_squared}
use Rattle.apt_plane.specs.Ranges.{IsSense}
use Rattle.apt_plane.proofs.Displacements.{to, between_part, cross_linear, cross_self}
use Rattle.apt_plane.proofs.Turned.{turned_by, turned_other}
use Rattle.apt_plane.proofs.Around.{Cyc, before_cyc, before_between}
use Rattle.apt_plane.proofs.Cones.{class_behind}
use Rattle.apt_arc.specs.Steps.{IsStep}
use Rattle.apt_arc.proofs.Vertices.{IsUpToEnd, both_long, up_to_end}

-- the way to a point between two, in the ways to them
abbrev pub mixed : ℕ → ℕ → Dir → Dir → Dir
mixed j k u v = to ((pos k *ℤ u.dx) +ℤ (pos j *ℤ v.dx)) ((pos k *ℤ u.dy) +ℤ (pos j *ℤ v.dy))

pub way_between : (c a b : Pt) (j k : ℕ) → displacement_to c (between a b j k) ≡ mixed j k (displacement c a) (displacement c b)
way_between c a b j k = rw (between_part c.x a.x b.x j k, between_part c.y a.y b.y j k) refl

turned_parts : (z j k x y : ℤ) → z *ℤ ((k *ℤ x) +ℤ (j *ℤ y)) ≡ (k *ℤ (z *ℤ x)) +ℤ (j *ℤ (z *ℤ y))
turned_parts z j k x y = rw (as_diff z, as_diff j, as_diff k, as_diff x, as_diff y) (simp differences (diff-same _ _ _ _ (omega arith)))

turned_mixed : (sense : ℤ) (d u v : Dir) (j k : ℕ) → turned_by sense d (mixed j k u v) ≡ (pos k *ℤ turned_by sense d u) +ℤ (pos j *ℤ turned_by sense d v)
turned_mixed sense d u v j k = ap (λ z. sense *ℤ z) (cross_linear d u v (pos k) (pos j)) ∙ turned_parts sense (pos j) (pos k) (cross d u) (cross d v)

self_none : (sense : ℤ) (u : Dir) → turned_by sense u u ≡ pos 0
self_none sense u = rw (cross_self u) (omega (arith, ints))

only_second : (j k : ℕ) (x y w : ℤ) → w ≡ (pos k *ℤ x) +ℤ (pos j *ℤ y) → x ≡ pos 0 → 0 < j → pos 0 <ℤ y → pos 0 <ℤ w
only_second j k x y w e none some h =
    let whole = rw none at e in
    omega (arith, ints, whole, both_plus (pos j) y (omega (arith, ints, some)) h)

only_first : (j k : ℕ) (x y w : ℤ) → w ≡ (pos k *ℤ x) +ℤ (pos j *ℤ y) → y ≡ pos 0 → 0 < k → pos 0 <ℤ x → pos 0 <ℤ w
only_first j k x y w e none some h =
    let whole = rw none at e in
    omega (arith, ints, whole, both_plus (pos k) x (omega (arith, ints, some)) h)

-- the point lies onwards from the first, and the second from it
from_first : (sense : ℤ) (u v : Dir) (j k : ℕ) → 0 < j → pos 0 <ℤ turned_by sense u v → pos 0 <ℤ turned_by sense u (mixed j k u v)
from_first sense u v j k some h = only_second j k (turned_by sense u u) (turned_by sense u v) (turned_by sense u (mixed j k u v)) (turned_mixed sense u u v j k) (self_none sense u) some h

from_second : (sense : ℤ) (u v : Dir) (j k : ℕ) → 0 < k → pos 0 <ℤ turned_by sense u v → pos 0 <ℤ turned_by sense (mixed j k u v) v
from_second sense u v j k some h =
    let back : pos 0 <ℤ turned_by (neg_ℤ sense) v (mixed j k u v) =
    only_first j k (turned_by (neg_ℤ sense) v u) (turned_by (neg_ℤ sense) v v) (turned_by (neg_ℤ sense) v (mixed j k u v)) (turned_mixed (neg_ℤ sense) v u v j k) (self_none (neg_ℤ sense) v) some (rw (turned_other sense u v) h) in
    rw (turned_other sense (mixed j k u v) v) at back

pub mixed_up_to_end : (t : Circ) (sense : ℤ) (s a b e : Pt) (j k : ℕ) → IsSense sense → 0 < length_squared (displacement t.c s) → IsStep t sense s a b → IsUpToEnd t sense s e b → 0 < j → 0 < k
    → Cyc (displacement t.c s) sense (mixed j k (displacement t.c a) (displacement t.c b)) (displacement t.c e)
mixed_up_to_end t sense s a b e j k turn some step met more rest =
    let vs = displacement t.c s in
    let va = displacement t.c a in
    let vb = displacement t.c b in
    let v = mixed j k va vb in
    let first = from_first sense va vb j k more step.0 in
    let second = from_second sense va vb j k rest step.0 in
    let long = both_long sense va vb step.0 in
    let long_v = (both_long sense va v first).1 in
    let order = before_between sense vs va v vb turn some long.0 long_v long.1 step.0 first second step.2 in
    up_to_end t sense s e b v turn ((before_cyc sense vs v vb turn some long_v long.1 (class_behind vs sense va v order.0)).0 order.1) met
