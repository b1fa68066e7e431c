-- Where a fraction is at least r from every point of an edge.
use Rattle.std.proofs.Common.{refl, ◌≡◌, ◌↔◌, ◌∙◌, sym, ap, subst, ℕ, ◌+◌, ◌*◌, ◌≤◌, ◌<◌, arith, ℤ, pos, ◌-ℤ◌, ◌*ℤ◌, ◌≤ℤ◌, neg_ℤ, unsigned_abs}
use Rattle.std.proofs.Math.Nat.{mul-le-mul_left}
use Rattle.std.proofs.lemmas.Int.{ints}
use Rattle.std.proofs.lemmas.Nat.{mul-le}
use Rattle.apt_num.proofs.Squares.{cancel_le, size_neg}
use Rattle.apt_plane.specs.declared.figures.Pt.{Pt}
use Rattle.apt_plane.specs.declared.figures.Dir.{Dir}
use Rattle.apt_plane.specs.Vectors.{Scaled, scaled, between, displacement, displacement_to, cross, dot, length_squared}
use Rattle.apt_plane.specs.Distances.{IsLengthAtMost}
use Rattle.apt_plane.proofs.SegmentLaws.{at_start, at_end}
use Rattle.apt_plane.proofs.RingLaws.{length_at_most}
use Rattle.apt_outline.specs.Clearances.{displacement_scaled, AreApart, IsFar}
use Rattle.apt_outline.proofs.Towards.{less, way_to_edge, start_is_nearest, line_is_nearest, straight, between_turned, dot_turned}

-- by squares
abbrev way : Scaled → Pt → Pt → ℕ → ℕ → Dir
way s p q j k = less (s.m * j) (displacement p q) (j + k) (displacement_to p s)

apart_is : (r : ℕ) (s : Scaled) (p q : Pt) (j k : ℕ) → AreApart (pos r) s (between p q j k) ↔ (s.m * (j + k) * (s.m * (j + k)) * (r * r) ≤ length_squared (way s p q j k))
apart_is r s p q j k =
    subst (λ (d : Dir). IsLengthAtMost (pos (s.m * (j + k)) *ℤ pos r) (length_squared d) ↔ (s.m * (j + k) * (s.m * (j + k)) * (r * r) ≤ length_squared (way s p q j k)))
    (sym (way_to_edge s p q j k)) (length_at_most (s.m * (j + k)) r (length_squared (way s p q j k)))

-- ---- so far from the point of it that is nearest
pub far_behind : (r : ℕ) (s : Scaled) (p q : Pt) → dot (displacement p q) (displacement_to p s) ≤ℤ pos 0 → s.m * s.m * (r * r) ≤ length_squared (displacement_to p s) → IsFar r p q s
far_behind r s p q behind far = λ j k some.
    (apart_is r s p q j k).1
    (omega (arith, start_is_nearest (s.m * j) (j + k) (displacement p q) (displacement_to p s) behind, mul-le-mul_left ((j + k) * (j + k)) far))

swapped : (j k : ℕ) → 0 < j + k → 0 < k + j
swapped j k h = omega (arith, h)

pub far_turned : (r : ℕ) (s : Scaled) (p q : Pt) → IsFar r q p s → IsFar r p q s
far_turned r s p q far = λ j k some. subst (λ (t : Scaled). AreApart (pos r) s t) (between_turned q p k j) (far k j (swapped j k some))

back : (m n : ℕ) (u v : ℤ) → v ≡ (pos m *ℤ pos n) -ℤ u → pos (m * n) ≤ℤ u → v ≤ℤ pos 0
back m n u v e h = omega (arith, ints, e, h)

pub far_beyond : (r : ℕ) (s : Scaled) (p q : Pt) → pos (s.m * length_squared (displacement p q)) ≤ℤ dot (displacement p q) (displacement_to p s)
    → s.m * s.m * (r * r) ≤ length_squared (displacement_to q s) → IsFar r p q s
far_beyond r s p q beyond far =
    far_turned r s p q
    (far_behind r s q p (back s.m (length_squared (displacement p q)) (dot (displacement p q) (displacement_to p s)) (dot (displacement q p) (displacement_to q s)) (dot_turned s p q) beyond) far)

pub far_across : (r : ℕ) (s : Scaled) (p q : Pt) → 0 < length_squared (displacement p q)
    → r * r * length_squared (displacement p q) * (s.m * s.m) ≤ unsigned_abs (cross (displacement p q) (displacement_to p s)) * unsigned_abs (cross (displacement p q) (displacement_to p s))
    → IsFar r p q s
far_across r s p q some far = λ j k positive.
    let n = length_squared (displacement p q) in
    (apart_is r s p q j k).1
    (cancel_le n (s.m * (j + k) * (s.m * (j + k)) * (r * r)) (length_squared (way s p q j k)) some
    (omega (arith, line_is_nearest (s.m * j) (j + k) (displacement p q) (displacement_to p s), mul-le-mul_left ((j + k) * (j + k)) far)))

-- ---- and back: what is far from every point is far from its ends
point_part : (x y : ℤ) → y -ℤ (pos 1 *ℤ x) ≡ neg_ℤ (x -ℤ y)
point_part x y = omega (arith, ints)

negated : (x y : ℤ) → unsigned_abs (y -ℤ (pos 1 *ℤ x)) ≡ unsigned_abs (x -ℤ y)
negated x y = ap unsigned_abs (point_part x y) ∙ size_neg (x -ℤ y)

pub length_to_point : (s : Scaled) (p : Pt) → length_squared (displacement_scaled s (scaled p)) ≡ length_squared (displacement_to p s)
length_to_point s p = rw (negated s.x (pos s.m *ℤ p.x), negated s.y (pos s.m *ℤ p.y)) refl

from_point : (r : ℕ) (s : Scaled) (p : Pt) → AreApart (pos r) s (scaled p) → s.m * s.m * (r * r) ≤ length_squared (displacement_to p s)
from_point r s p apart = omega (arith, length_to_point s p, (length_at_most (s.m * 1) r (length_squared (displacement_scaled s (scaled p)))).0 apart)

pub from_start : (r : ℕ) (s : Scaled) (p q : Pt) → IsFar r p q s → s.m * s.m * (r * r) ≤ length_squared (displacement_to p s)
from_start r s p q far = from_point r s p (at_start (λ t. AreApart (pos r) s t) p q far)

pub from_end : (r : ℕ) (s : Scaled) (p q : Pt) → IsFar r p q s → s.m * s.m * (r * r) ≤ length_squared (displacement_to q s)
from_end r s p q far = from_point r s q (at_end (λ t. AreApart (pos r) s t) p q far)

-- and from the point over which it stands
along_same : (m j n l : ℕ) (u : ℤ) → u ≡ pos j → l ≡ n * m → pos (m * j) *ℤ pos n ≡ pos l *ℤ u
along_same m j n l u e f = rw (e, f) (omega (arith, ints))

over_law : (m l n rr w g : ℕ) → 0 < l → n * w ≡ l * g * (l * g) → m * l * (m * l) * rr ≤ w → rr * n * (m * m) ≤ g * g
over_law m l n rr w g some e h = cancel_le (l * l) (rr * n * (m * m)) (g * g) (omega (arith, mul-le 1 1 l l some some)) (omega (arith, e, mul-le-mul_left n h))

pub from_across : (r : ℕ) (s : Scaled) (p q : Pt) (j k : ℕ) → dot (displacement p q) (displacement_to p s) ≡ pos j → j + k ≡ length_squared (displacement p q) * s.m → 0 < j + k → IsFar r p q s
    → r * r * length_squared (displacement p q) * (s.m * s.m) ≤ unsigned_abs (cross (displacement p q) (displacement_to p s)) * unsigned_abs (cross (displacement p q) (displacement_to p s))
from_across r s p q j k along whole some far =
    let e = displacement p q in
    let v = displacement_to p s in
    over_law s.m (j + k) (length_squared e) (r * r) (length_squared (way s p q j k)) (unsigned_abs (cross e v)) some
    (straight (s.m * j) (j + k) e v (along_same s.m j (length_squared e) (j + k) (dot e v) along whole))
    ((apart_is r s p q j k).0 (far j k some))
