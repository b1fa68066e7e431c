-- Feet on a line, and parallels, lie within one unit of the line moved.
use Rattle.std.proofs.Common.{refl, ◌≡◌, ℕ, zero, suc, ◌*◌, ◌^◌, ◌≤◌, ◌<◌, ◌∙◌, ap, sym, subst, arith, ℤ, pos, negsuc, neg_ℤ, ◌+ℤ◌, ◌-ℤ◌, ◌*ℤ◌, ◌<ℤ◌, unsigned_abs}
use Rattle.std.proofs.lemmas.Nat.{mul-le}
use Rattle.std.proofs.lemmas.Int.{ints}
use Rattle.apt_num.specs.Root.{root}
use Rattle.apt_num.specs.declared.Sign.TheVariants.{Minus, Plus}
use Rattle.apt_num.specs.Sign.{sign_of}
use Rattle.apt_num.proofs.Ring.{as_diff, diff-pos, diff-same, differences, *ℤ-neg}
use Rattle.apt_num.proofs.Squares.{size_mul, size_neg}
use Rattle.apt_num.proofs.Footed.{footed}
use Rattle.apt_plane.specs.declared.figures.Pt.{Pt}
use Rattle.apt_plane.specs.declared.figures.Dir.{Dir}
use Rattle.apt_plane.specs.declared.figures.Line.{Line}
use Rattle.apt_plane.specs.Vectors.{displacement, cross, dot, length_squared, perp}
use Rattle.apt_plane.specs.Ranges.{IsPoint, IsLine}
use Rattle.apt_plane.proofs.Displacements.{cross_times, square_length_squared, cross_turn, dot_times}
use Rattle.apt_plane.proofs.Lengths.{times}
use Rattle.apt_plane.proofs.Frames.{in_frame, dot_in_frame}
use Rattle.apt_plane.proofs.Rounding.{near_displacement, moved, moved_dot}
use Rattle.apt_canon.specs.Scale.{unit, length_of, IsNearLine, side_of_line}
use Rattle.apt_canon.specs.Circles.{depth}
use Rattle.apt_canon.specs.Feet.{foot_point, parallel_point}
use Rattle.apt_canon.proofs.Ways.{displacement_from, height_at_first}
use Rattle.apt_canon.proofs.Depths.{length_facts, length_positive}
use Rattle.apt_canon.proofs.Frames.{frame_way, framed_on_line, in_range-lag}
use Rattle.apt_canon.proofs.FootPoints.Sharp.{rest_alone, rest_core, forward_core, as_natural}

pub foot_near : (p : Pt) (l : Line) (h : ℤ) → IsPoint p → IsLine l → unsigned_abs h ≤ 10 ^ 8 → IsNearLine l h (pos 1) (foot_point p l h)
foot_near p l h point is small = framed_on_line l h p (pos 0) is small (in_range-lag l h p is point small)

square_below : (d : Dir) (y : ℤ) → dot d (frame_way d (pos 0) y) ≡ pos 0
square_below d y = dot_times d (in_frame d (pos 0) y) (pos 32) ∙ rw (dot_in_frame d (pos 0) y) (omega (arith, ints))

-- square to the line, up to less than a unit
pub foot_across : (p : Pt) (l : Line) (h : ℤ) → IsLine l
    → 2 * (unsigned_abs (dot l.dir (displacement p (foot_point p l h))) * unsigned_abs (dot l.dir (displacement p (foot_point p l h)))) ≤ length_squared l.dir
foot_across p l h is =
    let d = l.dir in
    let y = neg_ℤ (depth d (cross d (displacement l.base p)) h) in
    let s = length_of d in
    let u = frame_way d (pos 0) y in
    let v = near_displacement u s in
    let rounded = moved_dot d u s (length_positive d is.dir) in
    let along : s *ℤ dot d v ≡ pos 0 +ℤ rounded.0 = rounded.1 ∙ ap (λ z. z +ℤ rounded.0) (square_below d y) in
    subst (λ (w : Dir). 2 * (unsigned_abs (dot d w) * unsigned_abs (dot d w)) ≤ length_squared d) (sym (displacement_from p v))
    (rest_alone d s (dot d v) rounded.0 (omega (arith, (length_facts d is.dir).large)) along rounded.2)

-- ---- a parallel: its depth is -h, exactly

turned_height : (d : Dir) (h : ℤ) → cross d (times (h *ℤ unit) (perp d)) ≡ (h *ℤ unit) *ℤ pos (length_squared d)
turned_height d h = cross_times d (perp d) (h *ℤ unit) ∙ rw (cross_turn d d, square_length_squared d) refl

exact_depth : (s h p u : ℤ) → s *ℤ neg_ℤ (h *ℤ p) ≡ (p *ℤ ((u *ℤ pos 0) -ℤ (h *ℤ s))) +ℤ pos 0
exact_depth s h p u = rw (as_diff s, as_diff h, as_diff p, as_diff u, diff-pos 0) (simp differences (diff-same _ _ _ _ (omega arith)))

exact_height : (s h p q n rest : ℤ) → ((h *ℤ (q *ℤ p)) *ℤ n) +ℤ rest ≡ ((s *ℤ pos 0) -ℤ (q *ℤ (neg_ℤ (h *ℤ p) *ℤ n))) +ℤ rest
exact_height s h p q n rest = rw (as_diff s, as_diff h, as_diff p, as_diff q, as_diff n, as_diff rest, diff-pos 0) (simp differences (diff-same _ _ _ _ (omega arith)))

offset_lag : (h s : ℤ) → unsigned_abs h ≤ 10 ^ 8 → unsigned_abs ((pos (2 ^ 35) *ℤ pos 0) -ℤ (h *ℤ s)) ≤ 2 ^ 28 * unsigned_abs s
offset_lag h s small =
    let same : unsigned_abs ((pos (2 ^ 35) *ℤ pos 0) -ℤ (h *ℤ s)) ≡ unsigned_abs (h *ℤ s) = omega (arith, ints) in
    rw (same, size_mul h s) (mul-le (unsigned_abs h) (unsigned_abs s) (2 ^ 28) (unsigned_abs s) (omega (arith, small)) (omega arith))

pub parallel_near : (l : Line) (h : ℤ) → IsLine l → unsigned_abs h ≤ 10 ^ 8 → IsNearLine l h (pos 1) (parallel_point l h)
parallel_near l h is small =
    let d = l.dir in
    let n = length_squared d in
    let s = root (n * 2 ^ 70) in
    let root = length_facts d is.dir in
    let u = times (h *ℤ unit) (perp d) in
    let v = near_displacement u (length_of d) in
    let rounded = moved d u (length_of d) (length_positive d is.dir) in
    let height : pos s *ℤ cross d v ≡ ((h *ℤ unit) *ℤ pos n) +ℤ rounded.0 = rounded.1 ∙ ap (λ z. z +ℤ rounded.0) (turned_height d h) in
    rw (height_at_first d l.base v)
    (footed n s (pos 0) h (cross d v) (neg_ℤ (h *ℤ pos (2 ^ 30))) (pos 0) rounded.0 root (record {
      depth = exact_depth (pos s) h (pos (2 ^ 30)) (pos (2 ^ 35));
      depth_short = omega arith;
      height = height ∙ exact_height (pos s) h (pos (2 ^ 30)) (pos 32) (pos n) rounded.0;
      height_short = rounded.2;
      near = offset_lag h (pos s) small;
    }) (omega (arith, root.large, small)))

-- ---- its side

side_of_turn : (l : Line) (h : ℤ) → side_of_line l (parallel_point l h) ≡ sign_of (cross l.dir (near_displacement (times (h *ℤ unit) (perp l.dir)) (length_of l.dir)))
side_of_turn l h = ap sign_of (height_at_first l.dir l.base (near_displacement (times (h *ℤ unit) (perp l.dir)) (length_of l.dir)))

plus_sign : (k : ℤ) → pos 0 <ℤ k → sign_of k ≡ Plus
plus_sign (pos zero) h = absurd (omega (arith, ints, h))
plus_sign (pos (suc k)) h = refl
plus_sign (negsuc k) h = absurd (omega (arith, ints, h))

minus_sign : (k : ℤ) → pos 0 <ℤ neg_ℤ k → sign_of k ≡ Minus
minus_sign (pos k) h = absurd (omega (arith, ints, h))
minus_sign (negsuc k) h = refl

-- the product with a line moved to the left, by a natural that it is scaled with
record Turned (n s : ℕ) (h k : ℤ) : Type 0 where
  rest : ℤ
  whole : pos s *ℤ k ≡ ((h *ℤ unit) *ℤ pos n) +ℤ rest
  short : unsigned_abs rest < n * 2 ^ 35

turned : (l : Line) (h : ℤ) → IsLine l
    → Turned (length_squared l.dir) (root (length_squared l.dir * 2 ^ 70)) h (cross l.dir (near_displacement (times (h *ℤ unit) (perp l.dir)) (length_of l.dir)))
turned l h is =
    let d = l.dir in
    let n = length_squared d in
    let s = root (n * 2 ^ 70) in
    let rounded = moved d (times (h *ℤ unit) (perp d)) (length_of d) (length_positive d is.dir) in
    record {
      rest = rounded.0;
      whole = rounded.1 ∙ ap (λ z. z +ℤ rounded.0) (turned_height d h);
      short = rest_core s n (unsigned_abs rounded.0) is.dir.length (length_facts d is.dir).low rounded.2;
    }

turned_parts : (h u n rest : ℤ) → neg_ℤ (((neg_ℤ h *ℤ u) *ℤ n) +ℤ rest) ≡ ((h *ℤ u) *ℤ n) +ℤ neg_ℤ rest
turned_parts h u n rest = rw (as_diff h, as_diff u, as_diff n, as_diff rest) (simp differences (diff-same _ _ _ _ (omega arith)))

back_parts : (s k h u n rest : ℤ) → s *ℤ k ≡ ((neg_ℤ h *ℤ u) *ℤ n) +ℤ rest → s *ℤ neg_ℤ k ≡ ((h *ℤ u) *ℤ n) +ℤ neg_ℤ rest
back_parts s k h u n rest e = *ℤ-neg s k ∙ ap neg_ℤ e ∙ turned_parts h u n rest

-- moved to its left it lies on its left, and to its right on its right
pub parallel_left : (l : Line) (h : ℤ) → IsLine l → pos 0 <ℤ h → side_of_line l (parallel_point l h) ≡ Plus
parallel_left l h is more =
    let n = length_squared l.dir in
    let at = turned l h is in
    side_of_turn l h ∙ plus_sign _
    (forward_core (root (n * 2 ^ 70)) (unsigned_abs h) n _ at.rest (omega (arith, ints, more)) (at.whole ∙ ap (λ z. z +ℤ at.rest) (as_natural h n (omega (arith, ints, more)))) at.short)

pub parallel_right : (l : Line) (h : ℤ) → IsLine l → pos 0 <ℤ h → side_of_line l (parallel_point l (neg_ℤ h)) ≡ Minus
parallel_right l h is more =
    let n = length_squared l.dir in
    let at = turned l (neg_ℤ h) is in
    side_of_turn l (neg_ℤ h) ∙ minus_sign _
    (forward_core (root (n * 2 ^ 70)) (unsigned_abs h) n _ (neg_ℤ at.rest) (omega (arith, ints, more))
    (back_parts (pos (root (n * 2 ^ 70))) _ h unit (pos n) at.rest at.whole ∙ ap (λ z. z +ℤ neg_ℤ at.rest) (as_natural h n (omega (arith, ints, more)))) (rw (size_neg at.rest) at.short))
