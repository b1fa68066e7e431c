-- Whether the ends of a segment and the feet on it are far from an edge, by the numbers that are at hand.
use Rattle.std.proofs.Common.{refl, ◌≡◌, ◌↔◌, ◌∙◌, sym, ap, subst, ℕ, zero, suc, ◌+◌, ◌-◌, ◌*◌, ◌≤◌, ◌<◌, arith, ℤ, pos, negsuc, ◌+ℤ◌, ◌*ℤ◌, ◌≤ℤ◌, ◌<ℤ◌, neg_ℤ, unsigned_abs}
use Rattle.std.proofs.Math.Nat.{mul-le-mul_left}
use Rattle.std.proofs.lemmas.Int.{ints}
use Rattle.apt_num.proofs.Squares.{cancel_le}
use Rattle.apt_plane.specs.declared.figures.Pt.{Pt}
use Rattle.apt_plane.specs.declared.figures.Dir.{Dir}
use Rattle.apt_plane.specs.Vectors.{Scaled, scaled, between, displacement, displacement_to, cross, dot, length_squared}
use Rattle.apt_plane.specs.Segments.{IsFoot}
use Rattle.apt_plane.proofs.Heights.{one-times}
use Rattle.apt_outline.specs.Clearances.{IsFar}
use Rattle.apt_outline.specs.Edges.{side}
use Rattle.apt_outline.proofs.Far.{far_behind, far_beyond, far_across, from_start, from_end, from_across}
use Rattle.apt_outline.proofs.Perpendiculars.{foot_way, dot_aside, cross_aside, length_aside, length_to_end}

-- ---- of a fraction: behind the start of the edge, beyond its end, or across from it
pub behind_is : (r : ℕ) (s : Scaled) (p q : Pt) → dot (displacement p q) (displacement_to p s) ≤ℤ pos 0 → (s.m * s.m * (r * r) ≤ length_squared (displacement_to p s)) ↔ IsFar r p q s
behind_is r s p q behind = (far_behind r s p q behind, from_start r s p q)

pub beyond_is : (r : ℕ) (s : Scaled) (p q : Pt) → pos (s.m * length_squared (displacement p q)) ≤ℤ dot (displacement p q) (displacement_to p s)
    → (s.m * s.m * (r * r) ≤ length_squared (displacement_to q s)) ↔ IsFar r p q s
beyond_is r s p q beyond = (far_beyond r s p q beyond, from_end r s p q)

some_length : (u : ℤ) (m n : ℕ) → pos 0 <ℤ u → u <ℤ pos (m * n) → 0 < n
some_length u m zero p q = absurd (omega (arith, ints, p, q))
some_length u m (suc n) p q = omega arith

positive : (u : ℤ) → pos 0 <ℤ u → u ≡ pos (unsigned_abs u)
positive u p = omega (arith, ints, p)

rest : (u : ℤ) (m n : ℕ) → pos 0 <ℤ u → u <ℤ pos (m * n) → unsigned_abs u + (n * m - unsigned_abs u) ≡ n * m
rest u m n p q = omega (arith, ints, p, q)

some_rest : (u : ℤ) (l : ℕ) → pos 0 <ℤ u → 0 < unsigned_abs u + l
some_rest u l p = omega (arith, ints, p)

pub across_is : (r : ℕ) (s : Scaled) (p q : Pt) → pos 0 <ℤ dot (displacement p q) (displacement_to p s) → dot (displacement p q) (displacement_to p s) <ℤ pos (s.m * length_squared (displacement p q))
    → (r * r * length_squared (displacement p q) * (s.m * s.m) ≤ unsigned_abs (cross (displacement p q) (displacement_to p s)) * unsigned_abs (cross (displacement p q) (displacement_to p s))) ↔ IsFar r p q s
across_is r s p q some less =
    let u = dot (displacement p q) (displacement_to p s) in
    let n = length_squared (displacement p q) in (
      far_across r s p q (some_length u s.m n some less),
      from_across r s p q (unsigned_abs u) (n * s.m - unsigned_abs u) (positive u some) (rest u s.m n some less) (some_rest u (n * s.m - unsigned_abs u) some),
    )

-- ---- of a point
to_point : (p a : Pt) → displacement_to p (scaled a) ≡ displacement p a
to_point p a = rw (one-times p.x, one-times p.y) refl

pub point_behind : (r : ℕ) (a p q : Pt) → dot (displacement p q) (displacement p a) ≤ℤ pos 0 → (r * r ≤ length_squared (displacement p a)) ↔ IsFar r p q (scaled a)
point_behind r a p q behind =
    let is = behind_is r (scaled a) p q (subst (λ (d : Dir). dot (displacement p q) d ≤ℤ pos 0) (sym (to_point p a)) behind) in
    let same = ap length_squared (to_point p a) in
    (λ le. is.0 (omega (arith, le, same)), λ far. omega (arith, is.1 far, same))

pub point_beyond : (r : ℕ) (a p q : Pt) → pos (length_squared (displacement p q)) ≤ℤ dot (displacement p q) (displacement p a) → (r * r ≤ length_squared (displacement q a)) ↔ IsFar r p q (scaled a)
point_beyond r a p q beyond =
    let is = beyond_is r (scaled a) p q (subst (λ (d : Dir). pos (1 * length_squared (displacement p q)) ≤ℤ dot (displacement p q) d) (sym (to_point p a)) (omega (arith, ints, beyond))) in
    let same = ap length_squared (to_point q a) in
    (λ le. is.0 (omega (arith, le, same)), λ far. omega (arith, is.1 far, same))

pub point_across : (r : ℕ) (a p q : Pt) → pos 0 <ℤ dot (displacement p q) (displacement p a) → dot (displacement p q) (displacement p a) <ℤ pos (length_squared (displacement p q))
    → (r * r * length_squared (displacement p q) ≤ unsigned_abs (cross (displacement p q) (displacement p a)) * unsigned_abs (cross (displacement p q) (displacement p a))) ↔ IsFar r p q (scaled a)
point_across r a p q some less =
    let e = displacement p q in
    let is =
    across_is r (scaled a) p q (subst (λ (d : Dir). pos 0 <ℤ dot e d) (sym (to_point p a)) some)
    (subst (λ (d : Dir). dot e d <ℤ pos (1 * length_squared e)) (sym (to_point p a)) (omega (arith, ints, less))) in
    let same = ap (λ (d : Dir). unsigned_abs (cross e d) * unsigned_abs (cross e d)) (to_point p a) in
    (λ le. is.0 (omega (arith, le, same)), λ far. omega (arith, is.1 far, same))

-- ---- of a foot: w is the cross product of the segment with the way to the edge's start, x and y the cross and the dot product of segment and edge
foot_dot : (p q a b : Pt) (j k : ℕ) → IsFoot p a b j k → dot (displacement p q) (displacement_to p (between a b j k)) ≡ neg_ℤ (side p a b *ℤ cross (displacement a b) (displacement p q))
foot_dot p q a b j k foot = ap (λ (d : Dir). dot (displacement p q) d) (foot_way p a b j k foot) ∙ dot_aside (displacement p q) (displacement a b) (side p a b)

foot_cross : (p q a b : Pt) (j k : ℕ) → IsFoot p a b j k
    → unsigned_abs (cross (displacement p q) (displacement_to p (between a b j k))) ≡ unsigned_abs (side p a b) * unsigned_abs (dot (displacement a b) (displacement p q))
foot_cross p q a b j k foot =
    ap (λ (d : Dir). unsigned_abs (cross (displacement p q) d)) (foot_way p a b j k foot) ∙ cross_aside (displacement p q) (displacement a b) (side p a b)

foot_length : (p a b : Pt) (j k : ℕ) → IsFoot p a b j k → length_squared (displacement_to p (between a b j k)) ≡ unsigned_abs (side p a b) * unsigned_abs (side p a b) * length_squared (displacement a b)
foot_length p a b j k foot = ap length_squared (foot_way p a b j k foot) ∙ length_aside (displacement a b) (side p a b)

not_along : (z u : ℤ) → u ≡ neg_ℤ z → pos 0 ≤ℤ z → u ≤ℤ pos 0
not_along z u e h = omega (arith, ints, e, h)

pub foot_behind : (r : ℕ) (p q a b : Pt) (j k : ℕ) → IsFoot p a b j k → pos 0 ≤ℤ (side p a b *ℤ cross (displacement a b) (displacement p q))
    → (r * r * length_squared (displacement a b) ≤ unsigned_abs (side p a b) * unsigned_abs (side p a b)) ↔ IsFar r p q (between a b j k)
foot_behind r p q a b j k foot behind =
    let m = length_squared (displacement a b) in
    let w = unsigned_abs (side p a b) in
    let is = behind_is r (between a b j k) p q (not_along _ _ (foot_dot p q a b j k foot) behind) in
    let some : 0 < m = omega (arith, foot.whole, foot.behind_start) in (
      λ le. is.0 (subst (λ n. n * n * (r * r) ≤ length_squared (displacement_to p (between a b j k))) (sym foot.whole) (omega (arith, foot_length p a b j k foot, mul-le-mul_left m le))),
      λ far.
          let least = subst (λ n. n * n * (r * r) ≤ length_squared (displacement_to p (between a b j k))) foot.whole (is.1 far) in
          cancel_le m (r * r * m) (w * w) some (omega (arith, least, foot_length p a b j k foot)),
    )

-- beyond the end
long_along : (z u : ℤ) (m n l : ℕ) → u ≡ neg_ℤ z → z <ℤ pos 0 → m * n ≤ unsigned_abs z → l ≡ m → pos (l * n) ≤ℤ u
long_along z u m n l e h less f = rw f (omega (arith, ints, e, h, less))

end_length : (N g : ℕ) (z u : ℤ) (m n w l : ℕ) → pos N +ℤ ((pos 2 *ℤ pos l) *ℤ u) ≡ pos g +ℤ ((pos l *ℤ pos l) *ℤ pos n) → u ≡ neg_ℤ z → z <ℤ pos 0 → g ≡ w * w * m → l ≡ m
    → N + 2 * m * unsigned_abs z ≡ w * w * m + m * m * n
end_length N g (pos z) u m n w l e f h i k = absurd (omega (arith, ints, h))
end_length N g (negsuc z) u m n w l e f h i k = omega (arith, ints, rw (f, i, k) at e)

beyond_law : (N m n w z rr : ℕ) → 0 < m → N + 2 * m * z ≡ w * w * m + m * m * n → (rr * m + 2 * z ≤ m * n + w * w) ↔ (m * m * rr ≤ N)
beyond_law N m n w z rr some e = (
  λ le. omega (arith, e, mul-le-mul_left m le),
  λ far. cancel_le m (rr * m + 2 * z) (m * n + w * w) some (omega (arith, e, far)),
)

pub foot_beyond : (r : ℕ) (p q a b : Pt) (j k : ℕ) → IsFoot p a b j k → (side p a b *ℤ cross (displacement a b) (displacement p q)) <ℤ pos 0
    → length_squared (displacement a b) * length_squared (displacement p q) ≤ unsigned_abs (side p a b *ℤ cross (displacement a b) (displacement p q))
    → (r * r * length_squared (displacement a b) + 2 * unsigned_abs (side p a b *ℤ cross (displacement a b) (displacement p q))
    ≤ length_squared (displacement a b) * length_squared (displacement p q) + unsigned_abs (side p a b) * unsigned_abs (side p a b))
    ↔ IsFar r p q (between a b j k)
foot_beyond r p q a b j k foot ahead beyond =
    let s = between a b j k in
    let m = length_squared (displacement a b) in
    let n = length_squared (displacement p q) in
    let w = unsigned_abs (side p a b) in
    let z = side p a b *ℤ cross (displacement a b) (displacement p q) in
    let u = dot (displacement p q) (displacement_to p s) in
    let along = foot_dot p q a b j k foot in
    let some : 0 < m = omega (arith, foot.whole, foot.behind_start) in
    let is = beyond_is r s p q (long_along z u m n (j + k) along ahead beyond foot.whole) in
    let law =
    beyond_law (length_squared (displacement_to q s)) m n w (unsigned_abs z) (r * r) some
    (end_length _ _ z u m n w (j + k) (length_to_end s p q) along ahead (foot_length p a b j k foot) foot.whole) in (
      λ le. is.0 (subst (λ l. l * l * (r * r) ≤ length_squared (displacement_to q s)) (sym foot.whole) (law.0 le)),
      λ far. law.1 (subst (λ l. l * l * (r * r) ≤ length_squared (displacement_to q s)) foot.whole (is.1 far)),
    )

-- across from the edge
ahead_is : (z u : ℤ) → u ≡ neg_ℤ z → z <ℤ pos 0 → pos 0 <ℤ u
ahead_is z u e h = omega (arith, ints, e, h)

short_is : (z u : ℤ) (m n l : ℕ) → u ≡ neg_ℤ z → z <ℤ pos 0 → unsigned_abs z < m * n → l ≡ m → u <ℤ pos (l * n)
short_is z u m n l e h less f = rw f (omega (arith, ints, e, h, less))

pub foot_across : (r : ℕ) (p q a b : Pt) (j k : ℕ) → IsFoot p a b j k → (side p a b *ℤ cross (displacement a b) (displacement p q)) <ℤ pos 0
    → unsigned_abs (side p a b *ℤ cross (displacement a b) (displacement p q)) < length_squared (displacement a b) * length_squared (displacement p q)
    → (r * r * length_squared (displacement p q) * (length_squared (displacement a b) * length_squared (displacement a b))
    ≤ unsigned_abs (side p a b) * unsigned_abs (dot (displacement a b) (displacement p q)) * (unsigned_abs (side p a b) * unsigned_abs (dot (displacement a b) (displacement p q))))
    ↔ IsFar r p q (between a b j k)
foot_across r p q a b j k foot ahead short =
    let s = between a b j k in
    let m = length_squared (displacement a b) in
    let n = length_squared (displacement p q) in
    let z = side p a b *ℤ cross (displacement a b) (displacement p q) in
    let u = dot (displacement p q) (displacement_to p s) in
    let along = foot_dot p q a b j k foot in
    let is = across_is r s p q (ahead_is z u along ahead) (short_is z u m n (j + k) along ahead short foot.whole) in
    let g = unsigned_abs (cross (displacement p q) (displacement_to p s)) in
    let h = unsigned_abs (side p a b) * unsigned_abs (dot (displacement a b) (displacement p q)) in
    let same = foot_cross p q a b j k foot in (
      λ le. is.0 (subst (λ l. r * r * n * (l * l) ≤ g * g) (sym foot.whole) (subst (λ i. r * r * n * (m * m) ≤ i * i) (sym same) le)),
      λ far. subst (λ i. r * r * n * (m * m) ≤ i * i) same (subst (λ l. r * r * n * (l * l) ≤ g * g) foot.whole (is.1 far)),
    )
