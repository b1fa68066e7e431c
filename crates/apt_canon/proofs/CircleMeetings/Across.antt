-- On which side of a centre a meeting point lies: on the one that sigma names, or less than a unit off.
use Rattle.std.proofs.Common.{◌≡◌, inl, inr, ℕ, suc, ◌*◌, ◌^◌, ◌≤◌, ◌<◌, ◌∙◌, ap, sym, subst, arith, ℤ, pos, negsuc, neg_ℤ, ◌+ℤ◌, ◌*ℤ◌, unsigned_abs}
use Rattle.std.proofs.lemmas.Nat.{mul-lt}
use Rattle.std.proofs.lemmas.Int.{ints}
use Rattle.apt_num.specs.Root.{root}
use Rattle.apt_num.proofs.Ring.{as_diff, diff-same, differences, pos-*ℤ}
use Rattle.apt_num.proofs.Squares.{square_le, cancel_le}
use Rattle.apt_plane.specs.declared.figures.Pt.{Pt}
use Rattle.apt_plane.specs.declared.figures.Dir.{Dir}
use Rattle.apt_plane.specs.declared.figures.Line.{Line}
use Rattle.apt_plane.specs.declared.figures.Circ.{Circ}
use Rattle.apt_plane.specs.Vectors.{displacement, cross, dot, length_squared}
use Rattle.apt_plane.specs.Ranges.{IsDir, IsLine, IsSense}
use Rattle.apt_plane.proofs.Displacements.{cross_times, dot_times}
use Rattle.apt_plane.proofs.Frames.{in_frame, cross_in_frame, dot_in_frame}
use Rattle.apt_plane.proofs.Rounding.{near_displacement, moved, moved_dot}
use Rattle.apt_canon.specs.Scale.{length_of}
use Rattle.apt_canon.specs.Circles.{depth, half_chord, line_circle_point, chord_depth, circle_circle_point, HasSense, IsFurther, IsBeyond}
use Rattle.apt_canon.proofs.Ways.{displacement_from}
use Rattle.apt_canon.proofs.Depths.{length_facts, length_positive}
use Rattle.apt_canon.proofs.Frames.{frame_way}

small_core : (s c n r : ℕ) → 0 < s → s * c ≤ r → 2 * r * r ≤ n * (s * s) → 2 * (c * c) ≤ n
small_core s c n r positive h short =
    cancel_le (s * s) (2 * (c * c)) n (mul-lt 0 0 s s positive positive) (omega (arith, square_le (s * c) r h, short))

-- s times k is a length, turned by sigma, and a rest
turned_on : (s t n : ℕ) (k rest : ℤ) → 0 < s → pos s *ℤ k ≡ (pos 1 *ℤ pos t) +ℤ rest → 2 * unsigned_abs rest * unsigned_abs rest ≤ n * (s * s) → HasSense (pos 1) k n
turned_on s t n (pos c) rest positive e short = inl (omega (arith, ints))
turned_on s t n (negsuc c) rest positive e short =
    let below : s * suc c ≤ unsigned_abs rest = omega (arith, ints, e) in
    inr (small_core s (suc c) n (unsigned_abs rest) positive below short)

turned_back : (s t n : ℕ) (k rest : ℤ) → 0 < s → pos s *ℤ k ≡ (negsuc 0 *ℤ pos t) +ℤ rest → 2 * unsigned_abs rest * unsigned_abs rest ≤ n * (s * s) → HasSense (negsuc 0) k n
turned_back s t n (pos c) rest positive e short =
    let below : s * c ≤ unsigned_abs rest = omega (arith, ints, e) in
    inr (small_core s c n (unsigned_abs rest) positive below short)
turned_back s t n (negsuc c) rest positive e short = inl (omega (arith, ints))

turned_or_small : (s t n : ℕ) (sigma k rest : ℤ) → IsSense sigma → 0 < s → pos s *ℤ k ≡ (sigma *ℤ pos t) +ℤ rest
    → 2 * unsigned_abs rest * unsigned_abs rest ≤ n * (s * s) → HasSense sigma k n
turned_or_small s t n sigma k rest (inl one) positive e short =
    subst (λ (z : ℤ). HasSense z k n) (sym one) (turned_on s t n k rest positive (e ∙ ap (λ z. (z *ℤ pos t) +ℤ rest) one) short)
turned_or_small s t n sigma k rest (inr one) positive e short =
    subst (λ (z : ℤ). HasSense z k n) (sym one) (turned_back s t n k rest positive (e ∙ ap (λ z. (z *ℤ pos t) +ℤ rest) one) short)

regroup : (m a b c : ℤ) → m *ℤ ((a *ℤ b) *ℤ c) ≡ a *ℤ (m *ℤ (b *ℤ c))
regroup m a b c = rw (as_diff m, as_diff a, as_diff b, as_diff c) (simp differences (diff-same _ _ _ _ (omega arith)))

stretched : (sigma : ℤ) (t n : ℕ) → pos 32 *ℤ ((sigma *ℤ pos t) *ℤ pos n) ≡ sigma *ℤ pos (32 * (t * n))
stretched sigma t n = regroup (pos 32) sigma (pos t) (pos n) ∙ ap (λ z. sigma *ℤ z) (ap (λ z. pos 32 *ℤ z) (pos-*ℤ t n) ∙ pos-*ℤ 32 (t * n))

-- the part along, and the part across, of a point in a frame
along_frame : (c : Pt) (d : Dir) (sigma y : ℤ) (t : ℕ) → IsSense sigma → IsDir d
    → HasSense sigma (dot d (near_displacement (frame_way d (sigma *ℤ pos t) y) (length_of d))) (length_squared d)
along_frame c d sigma y t sense is =
    let n = length_squared d in
    let u = frame_way d (sigma *ℤ pos t) y in
    let v = near_displacement u (length_of d) in
    let rounded = moved_dot d u (length_of d) (length_positive d is) in
    let whole : pos (root (n * 2 ^ 70)) *ℤ dot d v ≡ (sigma *ℤ pos (32 * (t * n))) +ℤ rounded.0 =
    rounded.1 ∙ ap (λ z. z +ℤ rounded.0) (dot_times d (in_frame d (sigma *ℤ pos t) y) (pos 32) ∙ ap (λ z. pos 32 *ℤ z) (dot_in_frame d (sigma *ℤ pos t) y) ∙ stretched sigma t n) in
    turned_or_small (root (n * 2 ^ 70)) (32 * (t * n)) n sigma (dot d v) rounded.0 sense (omega (arith, (length_facts d is).large)) whole rounded.2

across_frame : (c : Pt) (d : Dir) (sigma x : ℤ) (t : ℕ) → IsSense sigma → IsDir d
    → HasSense sigma (cross d (near_displacement (frame_way d x (sigma *ℤ pos t)) (length_of d))) (length_squared d)
across_frame c d sigma x t sense is =
    let n = length_squared d in
    let u = frame_way d x (sigma *ℤ pos t) in
    let v = near_displacement u (length_of d) in
    let rounded = moved d u (length_of d) (length_positive d is) in
    let whole : pos (root (n * 2 ^ 70)) *ℤ cross d v ≡ (sigma *ℤ pos (32 * (t * n))) +ℤ rounded.0 =
    rounded.1 ∙ ap (λ z. z +ℤ rounded.0) (cross_times d (in_frame d x (sigma *ℤ pos t)) (pos 32) ∙ ap (λ z. pos 32 *ℤ z) (cross_in_frame d x (sigma *ℤ pos t)) ∙ stretched sigma t n) in
    turned_or_small (root (n * 2 ^ 70)) (32 * (t * n)) n sigma (cross d v) rounded.0 sense (omega (arith, (length_facts d is).large)) whole rounded.2

-- of a line and a circle: along the line
pub point_further : (l : Line) (h : ℤ) (c : Circ) (sigma : ℤ) → IsLine l → IsSense sigma → IsFurther l c sigma (line_circle_point l h c sigma)
point_further l h c sigma is sense =
    let d = l.dir in
    let g = depth d (cross d (displacement l.base c.c)) h in
    let x = sigma *ℤ half_chord c.r g in
    subst (λ (w : Dir). HasSense sigma (dot d w) (length_squared d)) (sym (displacement_from c.c (near_displacement (frame_way d x (neg_ℤ g)) (length_of d))))
    (along_frame c.c d sigma (neg_ℤ g) (unsigned_abs (half_chord c.r g)) sense is.dir)

-- of two circles: across the way between the centres
pub point_beyond : (a b : Circ) (sigma : ℤ) → IsDir (displacement a.c b.c) → IsSense sigma → IsBeyond a b sigma (circle_circle_point a b sigma)
point_beyond a b sigma is sense =
    let g = displacement a.c b.c in
    let x = chord_depth a b in
    subst (λ (w : Dir). HasSense sigma (cross g w) (length_squared g)) (sym (displacement_from a.c (near_displacement (frame_way g x (sigma *ℤ half_chord a.r x)) (length_of g))))
    (across_frame a.c g sigma x (unsigned_abs (half_chord a.r x)) sense is)
