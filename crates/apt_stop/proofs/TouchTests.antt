-- The tests tell exactly whether surfaces touch.
use Rattle.std.specs.Prelude.{◌↔◌, nat_le, if◌then◌else◌}
use Rattle.std.proofs.Common.{refl, ◌≡◌, ◌⊎◌, inl, inr, ℕ, zero, suc, ◌+◌, ◌-◌, ◌*◌, ◌≤◌, ◌<◌, arith, Bool, true, false, ◌&&◌, max, ℤ, pos, negsuc, neg_ℤ, ◌+ℤ◌, ◌-ℤ◌, ◌≤ℤ◌, ◌<ℤ◌, unsigned_abs}
use Rattle.std.proofs.lemmas.Int.{ints}
use Rattle.std.proofs.lemmas.Nat.{mul-le, mul-lt}
use Rattle.std.proofs.lemmas.Bool.{and_parts, leb-true, leb-false, le-leb}
use Rattle.apt_num.specs.Sign.{OnLine, square}
use Rattle.apt_num.proofs.AtLeast.{at_least_squares}
use Rattle.apt_num.proofs.Testing.{is_at_least-from}
use Rattle.apt_num.proofs.Ring.{double_neg}
use Rattle.apt_num.proofs.Nearest.{not_negative}
use Rattle.apt_plane.specs.declared.figures.Pt.{Pt}
use Rattle.apt_plane.specs.declared.figures.Line.{Line}
use Rattle.apt_plane.specs.declared.figures.Circ.{Circ}
use Rattle.apt_plane.specs.declared.figures.Surface.{Surface}
use Rattle.apt_plane.specs.declared.figures.Surface.TheVariants as surfaces
use Rattle.apt_plane.specs.Distances.{IsLengthAtMost, IsRootAtMost}
use Rattle.apt_plane.specs.Ranges.{IsSurface, IsLine, IsCircle}
use Rattle.apt_plane.specs.Vectors.{displacement, cross, length_squared}
use Rattle.apt_canon.specs.Scale.{IsNearCircle}
use Rattle.apt_canon.proofs.TangentLines.Laws.{two_less}
use Rattle.apt_contact.specs.Meetings.{circle_about}
use Rattle.apt_stop.specs.Gaps.{gap, size, is_within, is_about, line_touches, circles_touch, is_touching}
use Rattle.apt_stop.specs.Touching.{LineTouches, CirclesTouch, AreTouching}
use Rattle.apt_stop.proofs.Touching.{touches_by}
use Rattle.apt_stop.proofs.RoundGaps.{from_zero}

-- ---- a line and a circle

mirrored : (k h g : ℤ) (n : ℕ) → OnLine k h n g → OnLine (neg_ℤ k) (neg_ℤ h) n g
mirrored k h g n on = record { right = on.left; left = rw (double_neg k, double_neg h) on.right }

within : (k h : ℤ) (n : ℕ) → OnLine k h n (pos 2) → is_within k h gap n ≡ true
within k h n on = rw (is_at_least-from k (h -ℤ pos 2) n on.right, is_at_least-from (neg_ℤ k) (neg_ℤ h -ℤ pos 2) n on.left) refl

-- what is as far to the left as a radius, up to 2, is on the left
is_left : (k r : ℤ) (n : ℕ) → pos 100 ≤ℤ r → 1 ≤ n → OnLine k r n (pos 2) → pos 0 <ℤ k
is_left k r n large some on =
    let less : r -ℤ pos 2 ≡ pos (98 + (unsigned_abs r - 100)) = omega (arith, ints, large) in
    let at = (at_least_squares k (98 + (unsigned_abs r - 100)) n).0 (rw less at on.right) in
    positive k (unsigned_abs r - 100) n some at.0 at.1
  where
    positive : (k : ℤ) (s n : ℕ) → 1 ≤ n → pos 0 ≤ℤ k → (98 + s) * (98 + s) * n ≤ square k → pos 0 <ℤ k
    positive (pos zero) s n some is h = absurd (omega (arith, h, mul-le 1 1 ((98 + s) * (98 + s)) n (omega arith) some))
    positive (pos (suc k)) s n some is h = omega (arith, ints)
    positive (negsuc k) s n some is h = absurd (omega (arith, ints, is))

strip_tells : (k r : ℤ) (n : ℕ) → pos 100 ≤ℤ r → 1 ≤ n → (is_within (size k) r gap n ≡ true) ↔ (OnLine k r n (pos 2) ⊎ OnLine k (neg_ℤ r) n (pos 2))
strip_tells (pos k) r n large some = (
  λ e. inl (touches_by (pos k) r n e),
  λ on. elim on [
    | inl left ↦ within (pos k) r n left
    | inr right ↦
        let turned : OnLine (neg_ℤ (pos k)) r n (pos 2) = rw (double_neg r) at (mirrored (pos k) (neg_ℤ r) (pos 2) n right) in
        let is : pos 0 <ℤ neg_ℤ (pos k) = is_left (neg_ℤ (pos k)) r n large some turned in
        absurd (omega (arith, ints, is))
  ],
)
strip_tells (negsuc k) r n large some = (
  λ e. inr (mirrored (pos (suc k)) r (pos 2) n (touches_by (pos (suc k)) r n e)),
  λ on. elim on [
    | inl left ↦
        let is : pos 0 <ℤ negsuc k = is_left (negsuc k) r n large some left in
        absurd (omega (arith, ints, is))
    | inr right ↦ within (pos (suc k)) r n (rw (double_neg r) at (mirrored (negsuc k) (neg_ℤ r) (pos 2) n right))
  ],
)

line_tells : (l : Line) (c : Circ) → IsLine l → IsCircle c → (line_touches l c ≡ true) ↔ LineTouches l c
line_tells l c line circle = strip_tells (cross l.dir (displacement l.base c.c)) c.r (length_squared l.dir) circle.least line.dir.length

-- ---- two circles

-- the root of n is a length, up to 2
abbrev IsAbout : ℕ → ℕ → Type 0
IsAbout a n = ((a - 2) * (a - 2) ≤ n) × (n ≤ (a + 2) * (a + 2))

both_tell : (x y n : ℕ) → ((nat_le x n && nat_le n y) ≡ true) ↔ ((x ≤ n) × (n ≤ y))
both_tell x y n = (
  λ e. let both = and_parts (nat_le x n) (nat_le n y) e in (leb-true x n both.0, leb-true n y both.1),
  λ is. rw (le-leb x n is.0, le-leb n y is.1) refl,
)

same_less : (a : ℕ) → suc (suc a) - 2 ≡ a
same_less a = omega arith

about_tells : (a n : ℕ) → (is_about (pos a) n ≡ true) ↔ IsAbout a n
about_tells zero n = both_tell 0 4 n
about_tells (suc zero) n = both_tell 0 9 n
about_tells (suc (suc a)) n = rw (two_less a, from_zero a, same_less a) (both_tell (a * a) ((suc (suc a) + 2) * (suc (suc a) + 2)) n)

outside_tells : (a n : ℕ) → ((a - 2) * (a - 2) ≤ n) ↔ IsLengthAtMost (pos a -ℤ pos 2) n
outside_tells zero n = (λ le. tt, λ any. omega arith)
outside_tells (suc zero) n = (λ le. tt, λ any. omega arith)
outside_tells (suc (suc a)) n = rw (two_less a, not_negative a, same_less a) (λ le. le, λ le. le)

inside_tells : (a n : ℕ) → (n ≤ (a + 2) * (a + 2)) ↔ IsRootAtMost n (pos a +ℤ pos 2)
inside_tells a n = rw (not_negative (a + 2)) (λ le. le, λ le. le)

near_tells : (o q : Pt) (a : ℕ) → IsAbout a (length_squared (displacement o q)) ↔ IsNearCircle (circle_about o (pos a)) (pos 2) q
near_tells o q a =
    let outside = outside_tells a (length_squared (displacement o q)) in
    let inside = inside_tells a (length_squared (displacement o q)) in
    (λ is. record { outside = outside.0 is.0; inside = inside.0 is.1 }, λ near. (outside.1 near.outside, inside.1 near.inside))

-- apart at least the greater radius, the centres are not the difference apart, and less than that apart not the sum
not_inside : (r s n : ℕ) → 100 ≤ r → 100 ≤ s → max r s * max r s ≤ n → ¬ IsAbout (unsigned_abs (pos r -ℤ pos s)) n
not_inside r s n large also out is =
    let w = unsigned_abs (pos r -ℤ pos s) in
    let less : w + 2 < max r s = omega (arith, ints, large, also) in
    omega (arith, out, is.1, mul-lt (w + 2) (w + 2) (max r s) (max r s) less less)

not_outside : (r s n : ℕ) → 100 ≤ r → 100 ≤ s → n < max r s * max r s → ¬ IsAbout (r + s) n
not_outside r s n large also inner is =
    let less : max r s < r + s - 2 = omega (arith, large, also) in
    omega (arith, inner, is.0, mul-lt (max r s) (max r s) (r + s - 2) (r + s - 2) less less)

abbrev AboutEither : ℕ → ℕ → ℕ → Type 0
AboutEither r s n = IsAbout (r + s) n ⊎ IsAbout (unsigned_abs (pos r -ℤ pos s)) n

either_tells : (r s n : ℕ) (outside : Bool) → 100 ≤ r → 100 ≤ s → nat_le (max r s * max r s) n ≡ outside → (is_about (if outside then pos (r + s) else size (pos r -ℤ pos s)) n ≡ true) ↔ AboutEither r s n
either_tells r s n true large also out = (
  λ e. inl ((about_tells (r + s) n).0 e),
  λ is. elim is [ inl sum ↦ (about_tells (r + s) n).1 sum | inr less ↦ absurd (not_inside r s n large also (leb-true (max r s * max r s) n out) less) ],
)
either_tells r s n false large also out = (
  λ e. inr ((about_tells (unsigned_abs (pos r -ℤ pos s)) n).0 e),
  λ is. elim is [ inl sum ↦ absurd (not_outside r s n large also (leb-false (max r s * max r s) n out) sum) | inr less ↦ (about_tells (unsigned_abs (pos r -ℤ pos s)) n).1 less ],
)

centres_tell : (o q : Pt) (r s : ℕ)
    → AboutEither r s (length_squared (displacement o q)) ↔ (IsNearCircle (circle_about o (pos (r + s))) (pos 2) q ⊎ IsNearCircle (circle_about o (pos (unsigned_abs (pos r -ℤ pos s)))) (pos 2) q)
centres_tell o q r s =
    let sum = near_tells o q (r + s) in
    let less = near_tells o q (unsigned_abs (pos r -ℤ pos s)) in
    (λ is. elim is [ inl a ↦ inl (sum.0 a) | inr a ↦ inr (less.0 a) ], λ near. elim near [ inl a ↦ inl (sum.1 a) | inr a ↦ inr (less.1 a) ])

both_ways : {P Q R : Type 0} → P ↔ Q → Q ↔ R → P ↔ R
both_ways one other = (λ p. other.0 (one.0 p), λ r. one.1 (other.1 r))

round_tells : (o q : Pt) (r s : ℤ) → pos 100 ≤ℤ r → pos 100 ≤ℤ s → (circles_touch (circle_about o r) (circle_about q s) ≡ true) ↔ CirclesTouch (circle_about o r) (circle_about q s)
round_tells o q (pos r) (pos s) large also =
    let n = length_squared (displacement o q) in
    both_ways (either_tells r s n (nat_le (max r s * max r s) n) (omega (arith, ints, large)) (omega (arith, ints, also)) refl) (centres_tell o q r s)
round_tells o q (negsuc r) s large also = absurd (omega (arith, ints, large))
round_tells o q (pos r) (negsuc s) large also = absurd (omega (arith, ints, also))

circles_tell : (c d : Circ) → IsCircle c → IsCircle d → (circles_touch c d ≡ true) ↔ CirclesTouch c d
circles_tell c d is also = round_tells c.c d.c c.r d.r is.least also.least

-- ---- any two surfaces

pub touching_tells : (s t : Surface) → IsSurface s → IsSurface t → (is_touching s t ≡ true) ↔ AreTouching s t
touching_tells (surfaces.Line l) (surfaces.Line k) line other = (λ e. cc, λ never. absurd never)
touching_tells (surfaces.Line l) (surfaces.Circ c) line circle = line_tells l c line circle
touching_tells (surfaces.Circ c) (surfaces.Line l) circle line = line_tells l c line circle
touching_tells (surfaces.Circ c) (surfaces.Circ d) circle other = circles_tell c d circle other

pub tells_touch : (r : Bool) (s t : Surface) → IsSurface s → IsSurface t → r ≡ is_touching s t → (r ≡ true) ↔ AreTouching s t
tells_touch r s t is also e = rw e (touching_tells s t is also)
