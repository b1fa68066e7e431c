-- The division of an arc as it is made: the quarter points on the way, and between them halves of halves.
use Rattle.std.specs.Prelude.{◌*◌, ◌++◌, ◌∷◌, [], List, ℕ, zero, suc, nat_le, nat_lt, ℤ, pos, negsuc, neg_ℤ, ◌-ℤ◌, ◌*ℤ◌, int_lt, int_le, Bool, true, not, ◌&&◌, unsigned_abs, if◌then◌else◌}
use Rattle.apt_plane.specs.declared.figures.Pt.{Pt}
use Rattle.apt_plane.specs.declared.figures.Dir.{Dir}
use Rattle.apt_plane.specs.declared.figures.Circ.{Circ}
use Rattle.apt_plane.specs.Vectors.{displacement, cross, dot, length_squared, perp}
use Rattle.apt_plane.specs.Order.{is_before}
use Rattle.apt_canon.specs.Feet.{ray_point}
use Rattle.apt_arc.specs.declared.arc.Arc.{Arc}
use Rattle.apt_arc.specs.Cuts.{middle}

-- ---- pieces

-- the point of a segment that is nearest to c lies between its ends, and nearer than h
abbrev pub is_foot_near : Pt → ℕ → Pt → Pt → Bool
is_foot_near c h p q =
    int_lt (pos 0) (dot (displacement p q) (displacement p c))
    && (int_lt (dot (displacement p q) (displacement p c)) (pos (length_squared (displacement p q)))
    && nat_lt (unsigned_abs (cross (displacement p q) (displacement p c)) * unsigned_abs (cross (displacement p q) (displacement p c))) (h * h * length_squared (displacement p q)))

abbrev pub is_over : Pt → ℤ → Pt → Pt → Bool
is_over c (pos h) p q = nat_le (h * h) (length_squared (displacement c p)) && (nat_le (h * h) (length_squared (displacement c q)) && not (is_foot_near c h p q))
is_over c (negsuc h) p q = true

-- whether a chord is clear
unfoldable pub is_clear : Circ → ℤ → Pt → Pt → Bool
is_clear t sag a b = is_over t.c (t.r -ℤ sag) a b

-- a piece, halved at most so deep
unfoldable pub pieces : ℕ → Circ → ℤ → Pt → Pt → List Pt
pieces zero t sag a b = b ∷ []
pieces (suc n) t sag a b = if is_clear t sag a b then b ∷ [] else pieces n t sag a (middle t a b) ++ pieces n t sag (middle t a b) b

-- the pieces between a point and each of a list, one behind the other
unfoldable pub chain : ℕ → Circ → ℤ → Pt → List Pt → List Pt
chain n t sag a [] = []
chain n t sag a (q ∷ qs) = pieces n t sag a q ++ chain n t sag q qs

-- ---- quarter points

-- a quarter turn on
abbrev pub onward : ℤ → Dir → Dir
onward sense u = if int_lt sense (pos 0) then record { dx = u.dy; dy = neg_ℤ u.dx } else perp u

-- the point in a direction lies up to a quarter turn behind the start
abbrev pub is_behind : Circ → ℤ → Pt → Dir → Bool
is_behind t sense s u =
    int_lt (pos 0) (dot (displacement t.c (ray_point t u)) (displacement t.c s))
    && int_le (pos 0) (sense *ℤ cross (displacement t.c (ray_point t u)) (displacement t.c s))

-- the direction of the first quarter point past the start
unfoldable pub first_past : ℕ → Circ → ℤ → Pt → Dir → Dir
first_past zero t sense s u = onward sense u
first_past (suc n) t sense s u = if is_behind t sense s u then onward sense u else first_past n t sense s (onward sense u)

abbrev pub is_on_the_way : Circ → ℤ → Pt → Pt → Pt → Bool
is_on_the_way t sense s e q = is_before (displacement t.c s) sense (displacement t.c s) (displacement t.c q) && is_before (displacement t.c s) sense (displacement t.c q) (displacement t.c e)

-- the quarter points from a direction on, while they are on the way
unfoldable pub quarters_from : ℕ → Circ → ℤ → Pt → Pt → Dir → List Pt
quarters_from zero t sense s e u = []
quarters_from (suc n) t sense s e u = if is_on_the_way t sense s e (ray_point t u) then ray_point t u ∷ quarters_from n t sense s e (onward sense u) else []

abbrev pub quarters : Circ → ℤ → Pt → Pt → Dir → List Pt
quarters t sense s e u = quarters_from 4 t sense s e (first_past 3 t sense s u)

-- ---- an arc

-- the quarter points from a direction on, and the end
unfoldable pub stations : ℕ → Arc → Dir → List Pt
stations n a u = quarters_from n a.track a.sense a.start a.end u ++ a.end ∷ []

-- the vertices from a point near the track through these
unfoldable pub vertices : ℕ → Arc → Pt → Dir → List Pt
vertices n a from u = chain 24 a.track a.sag from (stations n a u)

-- the vertices of an arc behind its start
unfoldable pub divided : Arc → List Pt
divided a = vertices 4 a a.start (first_past 3 a.track a.sense a.start a.axis)
