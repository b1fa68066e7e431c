-- The point that the formula gives for two circles that meet is at most one unit from both.
use Rattle.std.proofs.Common.{refl, ◌≡◌, ℕ, ◌+◌, ◌-◌, ◌*◌, ◌^◌, ◌≤◌, ◌<◌, ◌∙◌, ap, arith, inl, inr, ℤ, pos, ◌+ℤ◌, ◌-ℤ◌, ◌*ℤ◌, unsigned_abs}
use Rattle.std.proofs.lemmas.Int.{ints}
use Rattle.std.proofs.lemmas.Bool.{cases_lt}
use Rattle.apt_num.specs.Root.{IsRoot, root}
use Rattle.apt_num.specs.Sign.{square}
use Rattle.apt_num.proofs.Ring.{as_diff, diff-pos, diff-same, differences, *ℤ-minus}
use Rattle.apt_num.proofs.Nearest.{near_remainder}
use Rattle.apt_num.proofs.Squares.{size_mul, size_add, square_le, root_le}
use Rattle.apt_num.proofs.Framed.{IsEighth, IsFramed}
use Rattle.apt_num.proofs.Chords.{Apart, Meeting, sum_square, IsChord, end_square, end_square-is, within_edge, chord_end, on_second}
use Rattle.apt_plane.specs.declared.figures.Circ.{Circ}
use Rattle.apt_plane.specs.Vectors.{displacement, length_squared, perp}
use Rattle.apt_plane.specs.Ranges.{IsDir, IsSense}
use Rattle.apt_plane.proofs.Displacements.{to}
use Rattle.apt_plane.proofs.Lengths.{IsRounded, IsInRing, on_circle}
use Rattle.apt_plane.proofs.Frames.{in_frame, length_in_frame}
use Rattle.apt_plane.proofs.Rounding.{near_displacement, displacement_rest}
use Rattle.apt_plane.proofs.Turned.{size_sense}
use Rattle.apt_canon.specs.Scale.{IsNearCircle}
use Rattle.apt_canon.specs.Circles.{half_chord, chord_depth, circle_circle_point}
use Rattle.apt_canon.proofs.Depths.{length_facts, length_positive}
use Rattle.apt_canon.proofs.CircleMeetings.Near.{near_circle}
use Rattle.apt_canon.proofs.Frames.{frame_way, framed_on_circle}
use Rattle.apt_canon.proofs.CircleMeetings.LineCircle.{half_of, half_chord-is, half_of-IsRoot, ends}

-- ---- two circles that meet: their radii, and the way from the first centre to the second
pub record TwoCircles (a b : Circ) (r q : ℕ) : Type 0 where
  pub first : a.r ≡ pos r
  pub second : b.r ≡ pos q
  pub first_least : 2 ≤ r
  pub first_most : r ≤ 10 ^ 8
  pub second_least : 2 ≤ q
  pub second_most : q ≤ 10 ^ 8
  pub way : IsDir (displacement a.c b.c)
  pub inside : square (pos r -ℤ pos q) ≤ length_squared (displacement a.c b.c)
  pub outside : length_squared (displacement a.c b.c) ≤ (r + q) * (r + q)

-- a difference and its size
pub size_Apart : (m n : ℕ) → Apart m n (unsigned_abs (pos m -ℤ pos n))
size_Apart m n = elim (cases_lt m n) [ inl below ↦ inl (omega (arith, ints)) | inr past ↦ inr (omega (arith, ints)) ]

-- what is left of the square of the distance, and to the square of the sum of the radii
meeting : (n r q d : ℕ) → Apart r q d → d * d ≤ n → n ≤ (r + q) * (r + q) → Meeting n r q d (n - d * d) ((r + q) * (r + q) - n)
meeting n r q d apart inside outside = record { apart = apart; least = omega (arith, inside); most = omega (arith, inside, outside, sum_square r q d apart) }

-- how far the chord is from the first centre, before its division
chord_number : ℕ → ℕ → ℕ → ℤ
chord_number n r q = pos (n + r * r) -ℤ pos (q * q)

number_is : (n r q : ℕ) → (pos n +ℤ (pos r *ℤ pos r)) -ℤ (pos q *ℤ pos q) ≡ chord_number n r q
unfolding chord_number
number_is n r q = refl

depth_size : (s : ℕ) (x l e : ℤ) → pos s *ℤ x ≡ (l *ℤ pos (2 ^ 64)) +ℤ e → 2 * unsigned_abs e ≤ s → 2 * (s * unsigned_abs x) ≤ 2 ^ 65 * unsigned_abs l + s
depth_size s x l e equal short = omega (arith, size_mul (pos s) x, ap unsigned_abs equal, size_add (l *ℤ pos (2 ^ 64)) e, size_mul l (pos (2 ^ 64)), short)

-- the depth of the chord, with what its rounding leaves
pub chord_rest : (a b : Circ) (r q : ℕ) → TwoCircles a b r q → let n = length_squared (displacement a.c b.c) in let s = root (n * 2 ^ 70) in
    (e : ℤ) × (pos s *ℤ chord_depth a b ≡ (((pos n +ℤ (pos r *ℤ pos r)) -ℤ (pos q *ℤ pos q)) *ℤ pos (2 ^ 64)) +ℤ e) × (2 * unsigned_abs e ≤ s)
chord_rest a b r q is =
    let n = length_squared (displacement a.c b.c) in
    let s = root (n * 2 ^ 70) in
    rw (is.first, is.second) (near_remainder (((pos n +ℤ (pos r *ℤ pos r)) -ℤ (pos q *ℤ pos q)) *ℤ pos (2 ^ 64)) (pos s) (length_positive (displacement a.c b.c) is.way))

-- the chord lies within the first circle
pub chord_within : (a b : Circ) (r q : ℕ) → TwoCircles a b r q → unsigned_abs (chord_depth a b) ≤ r * 2 ^ 30
chord_within a b r q is =
    let n = length_squared (displacement a.c b.c) in
    let s = root (n * 2 ^ 70) in
    let d = unsigned_abs (pos r -ℤ pos q) in
    let l = (pos n +ℤ (pos r *ℤ pos r)) -ℤ (pos q *ℤ pos q) in
    let rest = chord_rest a b r q is in
    within_edge n r q d (n - d * d) ((r + q) * (r + q) - n) s (unsigned_abs l) (unsigned_abs (chord_depth a b)) (length_facts (displacement a.c b.c) is.way) is.way.length
    (omega (arith, is.first_least)) (omega (arith, is.second_least)) (meeting n r q d (size_Apart r q) is.inside is.outside) (size_Apart (n + r * r) (q * q))
    (depth_size s (chord_depth a b) l rest.0 rest.1 rest.2)

pub chord_root : (a b : Circ) (r q : ℕ) → TwoCircles a b r q → let g = unsigned_abs (chord_depth a b) in let t = half_of r (chord_depth a b) in
    (g * g ≤ r * r * 2 ^ 60) × IsRoot (r * r * 2 ^ 60 - g * g) t
chord_root a b r q is = (omega (arith, square_le (unsigned_abs (chord_depth a b)) (r * 2 ^ 30) (chord_within a b r q is)), half_of-IsRoot r (chord_depth a b) is.first_most)

-- the part of the point to the left of the way
pub half_size : (a : Circ) (x sigma : ℤ) (r : ℕ) → a.r ≡ pos r → IsSense sigma → unsigned_abs (sigma *ℤ half_chord a.r x) ≡ half_of r x
half_size a x sigma r e sense =
    let chord : half_chord a.r x ≡ pos (half_of r x) = rw e (half_chord-is r x) in
    size_sense sigma (half_chord a.r x) sense ∙ ap unsigned_abs chord

swapped : (r g t : ℕ) → IsEighth r (g * g + t * t) → IsEighth r (t * t + g * g)
swapped r g t is = record { least = omega (arith, is.least); most = omega (arith, is.most) }

pub point_on_first : (a b : Circ) (sigma : ℤ) (r q : ℕ) → TwoCircles a b r q → IsSense sigma → IsNearCircle a (pos 1) (circle_circle_point a b sigma)
point_on_first a b sigma r q is sense =
    let d = displacement a.c b.c in
    let x = chord_depth a b in
    let y = sigma *ℤ half_chord a.r x in
    let whole = chord_root a b r q is in
    let eighth = ends r (half_of r x) (unsigned_abs x) x y refl (half_size a x sigma r is.first sense) (swapped r (unsigned_abs x) (half_of r x) (chord_end r (unsigned_abs x) (half_of r x) whole.0 whole.1)) in
    let same : unsigned_abs a.r ≡ r = ap unsigned_abs is.first in
    near_circle a (circle_circle_point a b sigma) (rw is.first (omega (arith, ints))) (rw same (framed_on_circle a.c d x y r is.way (omega (arith, is.first_most)) eighth))

-- ---- from the second centre
second_ring : (s x y p q e : ℤ) → ((pos 32 *ℤ ((x *ℤ p) +ℤ (y *ℤ q))) +ℤ e) -ℤ (s *ℤ p) ≡ ((((pos 32 *ℤ x) -ℤ s) *ℤ p) +ℤ ((pos 32 *ℤ y) *ℤ q)) +ℤ e
second_ring s x y p q e = rw (as_diff s, as_diff x, as_diff y, as_diff p, as_diff q, as_diff e, diff-pos 32) (simp differences (diff-same _ _ _ _ (omega arith)))

second_parts : (s x y p q e v : ℤ) → s *ℤ v ≡ (pos 32 *ℤ ((x *ℤ p) +ℤ (y *ℤ q))) +ℤ e
    → s *ℤ (v -ℤ p) ≡ ((((pos 32 *ℤ x) -ℤ s) *ℤ p) +ℤ ((pos 32 *ℤ y) *ℤ q)) +ℤ e
second_parts s x y p q e v h = *ℤ-minus s v p ∙ rw h (second_ring s x y p q e)

from_second : (p v r : ℤ) → (p +ℤ v) -ℤ r ≡ v -ℤ (r -ℤ p)
from_second p v r = omega (arith, ints)

-- the square of half the chord, and what its root leaves over
left_over : (r g t : ℕ) → g * g ≤ r * r * 2 ^ 60 → IsRoot (r * r * 2 ^ 60 - g * g) t
    → (g * g + t * t + (r * r * 2 ^ 60 - g * g - t * t) ≡ r * r * 2 ^ 60) × (r * r * 2 ^ 60 - g * g - t * t ≤ 2 * t) × (t ≤ r * 2 ^ 30)
left_over r g t inside at =
    (omega (arith, inside, at.low), omega (arith, at.high), root_le t (r * 2 ^ 30) (omega (arith, at.low)))

second_framed : (a b : Circ) (r q : ℕ) → TwoCircles a b r q → let n = length_squared (displacement a.c b.c) in let s = root (n * 2 ^ 70) in
    IsFramed q s (end_square (chord_depth a b) (half_of r (chord_depth a b)) s n)
second_framed a b r q is =
    let n = length_squared (displacement a.c b.c) in
    let s = root (n * 2 ^ 70) in
    let x = chord_depth a b in
    let g = unsigned_abs x in
    let t = half_of r x in
    let at = length_facts (displacement a.c b.c) is.way in
    let rest = chord_rest a b r q is in
    let whole = chord_root a b r q is in
    let left = left_over r g t whole.0 whole.1 in
    let chord : IsChord n r q s t (r * r * 2 ^ 60 - g * g - t * t) (n * 2 ^ 70 - s * s) x rest.0 = record { depth = rest.1; root = omega (arith, at.low); chord = left.0 } in
    on_second n r q s t (r * r * 2 ^ 60 - g * g - t * t) (n * 2 ^ 70 - s * s) x rest.0 at is.first_most is.second_least is.second_most chord rest.2 at.rest left.1 left.2

pub point_on_second : (a b : Circ) (sigma : ℤ) (r q : ℕ) → TwoCircles a b r q → IsSense sigma → IsNearCircle b (pos 1) (circle_circle_point a b sigma)
point_on_second a b sigma r q is sense =
    let d = displacement a.c b.c in
    let n = length_squared d in
    let s = root (n * 2 ^ 70) in
    let at = length_facts d is.way in
    let x = chord_depth a b in
    let y = sigma *ℤ half_chord a.r x in
    let t = half_of r x in
    let v = near_displacement (frame_way d x y) (pos s) in
    let rest = displacement_rest (frame_way d x y) (pos s) (length_positive d is.way) in
    let way = in_frame d ((pos 32 *ℤ x) -ℤ pos s) (pos 32 *ℤ y) in
    let back = to (v.dx -ℤ d.dx) (v.dy -ℤ d.dy) in
    let rounded : IsRounded way back rest.0 (pos s) = record {
      dx = second_parts (pos s) x y d.dx (perp d).dx rest.0.dx v.dx rest.1.dx;
      dy = second_parts (pos s) x y d.dy (perp d).dy rest.0.dy v.dy rest.1.dy;
      short = rest.1.short;
    } in
    let long : length_squared way ≡ end_square x t s n = length_in_frame d ((pos 32 *ℤ x) -ℤ pos s) (pos 32 *ℤ y) ∙ end_square-is x y t s n (half_size a x sigma r is.first sense) in
    let kept = second_framed a b r q is in
    let positive : 0 < s = omega (arith, at.large) in
    let ring : IsInRing q (length_squared back) = on_circle way back rest.0 (pos s) q rounded positive (rw long kept.high) (rw long kept.low) in
    let same : unsigned_abs b.r ≡ q = ap unsigned_abs is.second in
    near_circle b (circle_circle_point a b sigma) (rw is.second (omega (arith, ints))) (rw (same, from_second a.c.x v.dx b.c.x, from_second a.c.y v.dy b.c.y) ring)
