-- Where the centre, the start and the end of an arc are all moved alike, its vertices are.
use Rattle.std.proofs.Common.{refl, ◌≡◌, ℕ, zero, suc, ◌*◌, sym, ◌∙◌, Bool, true, false, List, [], ◌∷◌, ◌++◌, map, arith, ℤ, pos, negsuc, ◌+ℤ◌, ◌-ℤ◌}
use Rattle.std.specs.Prelude.{nat_le, nat_lt, ◌*ℤ◌, int_lt, int_le, not, ◌&&◌, unsigned_abs, if◌then◌else◌}
use Rattle.std.proofs.lemmas.List.{map-append}
use Rattle.std.proofs.lemmas.Int.{ints}
use Rattle.apt_plane.specs.declared.figures.Pt.{Pt}
use Rattle.apt_plane.specs.declared.figures.Dir.{Dir}
use Rattle.apt_plane.specs.declared.figures.Circ.{Circ}
use Rattle.apt_plane.specs.Vectors.{displacement, cross, dot, length_squared}
use Rattle.apt_plane.specs.Order.{is_before}
use Rattle.apt_canon.specs.Scale.{way, sum, from}
use Rattle.apt_canon.specs.Feet.{ray_point}
use Rattle.apt_arc.specs.declared.arc.Arc.{Arc}
use Rattle.apt_arc.specs.Cuts.{middle}
use Rattle.apt_arc.specs.Made.{is_over, is_clear, pieces, chain, onward, is_behind, first_past, is_on_the_way, quarters_from, stations, vertices, divided}
use Rattle.apt_arc.proofs.Lists.{both}

-- ---- points, circles and arcs moved by a way
abbrev pub moved : Dir → Pt → Pt
moved v p = from p v

abbrev pub moved_circle : Dir → Circ → Circ
moved_circle v t = record { c = moved v t.c; r = t.r }

abbrev pub moved_arc : Dir → Arc → Arc
moved_arc v a = record { track = moved_circle v a.track; sense = a.sense; axis = a.axis; sag = a.sag; start = moved v a.start; end = moved v a.end }

-- ---- the ways between them stay
cancelled : (p q v : ℤ) → (q +ℤ v) -ℤ (p +ℤ v) ≡ q -ℤ p
cancelled p q v = omega (arith, ints)

exchanged : (p v u : ℤ) → (p +ℤ v) +ℤ u ≡ (p +ℤ u) +ℤ v
exchanged p v u = omega (arith, ints)

pub displacement_moved : (v : Dir) (p q : Pt) → displacement (moved v p) (moved v q) ≡ displacement p q
displacement_moved v p q i = way (cancelled p.x q.x v.dx i) (cancelled p.y q.y v.dy i)

pub from_moved : (v : Dir) (p : Pt) (u : Dir) → from (moved v p) u ≡ moved v (from p u)
from_moved v p u i = record { x = exchanged p.x v.dx u.dx i; y = exchanged p.y v.dy u.dy i }

pub ray_moved : (v : Dir) (t : Circ) (u : Dir) → ray_point (moved_circle v t) u ≡ moved v (ray_point t u)
ray_moved v t u = from_moved v t.c _

pub middle_moved : (v : Dir) (t : Circ) (a b : Pt) → middle (moved_circle v t) (moved v a) (moved v b) ≡ moved v (middle t a b)
middle_moved v t a b =
    (λ i. ray_point (moved_circle v t) (sum (displacement_moved v t.c a i) (displacement_moved v t.c b i)))
    ∙ ray_moved v t (sum (displacement t.c a) (displacement t.c b))

-- ---- so what is clear stays clear

-- the tests of a chord by the ways from the centre to its ends, along it, and from its start to the centre
abbrev is_near_by : ℕ → Dir → Dir → Bool
is_near_by h u w =
    int_lt (pos 0) (dot u w)
    && (int_lt (dot u w) (pos (length_squared u)) && nat_lt (unsigned_abs (cross u w) * unsigned_abs (cross u w)) (h * h * length_squared u))

abbrev is_over_by : ℕ → Dir → Dir → Dir → Dir → Bool
is_over_by h a b u w = nat_le (h * h) (length_squared a) && (nat_le (h * h) (length_squared b) && not (is_near_by h u w))

over_moved : (v : Dir) (c : Pt) (h : ℤ) (a b : Pt) → is_over (moved v c) h (moved v a) (moved v b) ≡ is_over c h a b
over_moved v c (pos h) a b =
    λ i. is_over_by h (displacement_moved v c a i) (displacement_moved v c b i) (displacement_moved v a b i) (displacement_moved v a c i)
over_moved v c (negsuc h) a b = refl

pub clear_moved : (v : Dir) (t : Circ) (sag : ℤ) (a b : Pt) → is_clear (moved_circle v t) sag (moved v a) (moved v b) ≡ is_clear t sag a b
unfolding is_clear
clear_moved v t sag a b = over_moved v t.c (t.r -ℤ sag) a b

-- ---- the pieces

map_either : (test : Bool) (f : Pt → Pt) (l k : List Pt) → map f (if test then l else k) ≡ (if test then map f l else map f k)
map_either true f l k = refl
map_either false f l k = refl

-- a map of points that keeps what is clear, and the points half way, carries the pieces
pub pieces_carried : (f : Pt → Pt) (t u : Circ) (sag : ℤ)
    → ((a b : Pt) → is_clear u sag (f a) (f b) ≡ is_clear t sag a b)
    → ((a b : Pt) → middle u (f a) (f b) ≡ f (middle t a b))
    → (n : ℕ) (a b : Pt) → pieces n u sag (f a) (f b) ≡ map f (pieces n t sag a b)
unfolding pieces
pieces_carried f t u sag clear half zero a b = refl
pieces_carried f t u sag clear half (suc n) a b =
    let m = middle t a b in
    let halves = both _ _ _ _ (pieces_carried f t u sag clear half n a m) (pieces_carried f t u sag clear half n m b) ∙ sym (map-append f (pieces n t sag a m) (pieces n t sag m b)) in
    (λ i. if clear a b i then f b ∷ [] else pieces n u sag (f a) (half a b i) ++ pieces n u sag (half a b i) (f b))
    ∙ (λ i. if is_clear t sag a b then f b ∷ [] else halves i)
    ∙ sym (map_either (is_clear t sag a b) f (b ∷ []) (pieces n t sag a m ++ pieces n t sag m b))

pub pieces_moved : (v : Dir) (t : Circ) (sag : ℤ) (n : ℕ) (a b : Pt) → pieces n (moved_circle v t) sag (moved v a) (moved v b) ≡ map (moved v) (pieces n t sag a b)
pieces_moved v t sag = pieces_carried (moved v) t (moved_circle v t) sag (clear_moved v t sag) (middle_moved v t)

pub chain_moved : (v : Dir) (n : ℕ) (t : Circ) (sag : ℤ) (a : Pt) (qs : List Pt) → chain n (moved_circle v t) sag (moved v a) (map (moved v) qs) ≡ map (moved v) (chain n t sag a qs)
unfolding chain
chain_moved v n t sag a [] = refl
chain_moved v n t sag a (q ∷ qs) =
    both _ _ _ _ (pieces_moved v t sag n a q) (chain_moved v n t sag q qs) ∙ sym (map-append (moved v) (pieces n t sag a q) (chain n t sag q qs))

-- ---- the quarter points

-- from the centre to a point in a direction
toward_moved : (v : Dir) (t : Circ) (u : Dir) → displacement (moved v t.c) (ray_point (moved_circle v t) u) ≡ displacement t.c (ray_point t u)
toward_moved v t u = (λ i. displacement (moved v t.c) (ray_moved v t u i)) ∙ displacement_moved v t.c (ray_point t u)

behind_moved : (v : Dir) (t : Circ) (sense : ℤ) (s : Pt) (u : Dir) → is_behind (moved_circle v t) sense (moved v s) u ≡ is_behind t sense s u
behind_moved v t sense s u i =
    let x = toward_moved v t u i in
    let y = displacement_moved v t.c s i in
    int_lt (pos 0) (dot x y) && int_le (pos 0) (sense *ℤ cross x y)

pub first_past_moved : (v : Dir) (n : ℕ) (t : Circ) (sense : ℤ) (s : Pt) (u : Dir) → first_past n (moved_circle v t) sense (moved v s) u ≡ first_past n t sense s u
unfolding first_past
first_past_moved v zero t sense s u = refl
first_past_moved v (suc n) t sense s u = λ i. if behind_moved v t sense s u i then onward sense u else first_past_moved v n t sense s (onward sense u) i

on_the_way_moved : (v : Dir) (t : Circ) (sense : ℤ) (s e q : Pt) → is_on_the_way (moved_circle v t) sense (moved v s) (moved v e) (moved v q) ≡ is_on_the_way t sense s e q
on_the_way_moved v t sense s e q i =
    let x = displacement_moved v t.c s i in
    let y = displacement_moved v t.c q i in
    is_before x sense x y && is_before x sense y (displacement_moved v t.c e i)

pub quarters_moved : (v : Dir) (n : ℕ) (t : Circ) (sense : ℤ) (s e : Pt) (u : Dir) → quarters_from n (moved_circle v t) sense (moved v s) (moved v e) u ≡ map (moved v) (quarters_from n t sense s e u)
unfolding quarters_from
quarters_moved v zero t sense s e u = refl
quarters_moved v (suc n) t sense s e u =
    let w = moved_circle v t in
    let q = ray_point t u in
    (λ i. if is_on_the_way w sense (moved v s) (moved v e) (ray_moved v t u i) then ray_moved v t u i ∷ quarters_moved v n t sense s e (onward sense u) i else [])
    ∙ (λ i. if on_the_way_moved v t sense s e q i then moved v q ∷ map (moved v) (quarters_from n t sense s e (onward sense u)) else [])
    ∙ sym (map_either (is_on_the_way t sense s e q) (moved v) (q ∷ quarters_from n t sense s e (onward sense u)) [])

-- ---- the whole arc
pub stations_moved : (v : Dir) (n : ℕ) (a : Arc) (u : Dir) → stations n (moved_arc v a) u ≡ map (moved v) (stations n a u)
unfolding stations
stations_moved v n a u =
    (λ i. quarters_moved v n a.track a.sense a.start a.end u i ++ moved v a.end ∷ [])
    ∙ sym (map-append (moved v) (quarters_from n a.track a.sense a.start a.end u) (a.end ∷ []))

pub vertices_moved : (v : Dir) (n : ℕ) (a : Arc) (p : Pt) (u : Dir) → vertices n (moved_arc v a) (moved v p) u ≡ map (moved v) (vertices n a p u)
unfolding vertices
vertices_moved v n a p u =
    (λ i. chain 24 (moved_circle v a.track) a.sag (moved v p) (stations_moved v n a u i)) ∙ chain_moved v 24 a.track a.sag p (stations n a u)

pub divided_moved : (v : Dir) (a : Arc) → divided (moved_arc v a) ≡ map (moved v) (divided a)
unfolding divided
divided_moved v a =
    (λ i. vertices 4 (moved_arc v a) (moved v a.start) (first_past_moved v 3 a.track a.sense a.start a.axis i))
    ∙ vertices_moved v 4 a a.start (first_past 3 a.track a.sense a.start a.axis)
