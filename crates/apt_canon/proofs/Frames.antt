-- What rounding leaves of a point in a frame: its distances from a line and from a circle.
use Rattle.std.proofs.Common.{◌≡◌, ℕ, ◌+◌, ◌-◌, ◌*◌, ◌^◌, ◌≤◌, ◌∙◌, ap, sym, subst, arith, ℤ, pos, neg_ℤ, ◌+ℤ◌, ◌-ℤ◌, ◌*ℤ◌, unsigned_abs}
use Rattle.std.proofs.lemmas.Int.{ints}
use Rattle.apt_num.specs.Root.{root}
use Rattle.apt_num.proofs.Ring.{as_diff, diff-pos, diff-same, differences, *ℤ-+ℤ}
use Rattle.apt_num.proofs.Framed.{IsFrame, IsEighth, framed_high, framed_low}
use Rattle.apt_num.proofs.Footed.{lag, lag_small, footed}
use Rattle.apt_plane.specs.declared.figures.Pt.{Pt}
use Rattle.apt_plane.specs.declared.figures.Dir.{Dir}
use Rattle.apt_plane.specs.declared.figures.Line.{Line}
use Rattle.apt_plane.specs.Vectors.{displacement, cross, length_squared}
use Rattle.apt_plane.specs.Ranges.{IsPoint, IsDir, IsLine}
use Rattle.apt_plane.proofs.Displacements.{cross_times}
use Rattle.apt_plane.proofs.Lengths.{times, length_of_times, height_square, IsInRing, on_circle}
use Rattle.apt_plane.proofs.Frames.{in_frame, cross_in_frame, length_in_frame}
use Rattle.apt_plane.proofs.Rounding.{near_displacement, displacement_rest, moved}
use Rattle.apt_canon.specs.Scale.{length_of, IsNearLine}
use Rattle.apt_canon.specs.Circles.{depth, framed}
use Rattle.apt_canon.proofs.Ways.{displacement_from, height_at_second}
use Rattle.apt_canon.proofs.Depths.{length_facts, length_positive, depth_rest}

-- the way to a point in a frame, times the length of the direction
abbrev pub frame_way : Dir → ℤ → ℤ → Dir
frame_way d x y = times (pos 32) (in_frame d x y)

scaled_height : (g n : ℤ) → pos 32 *ℤ (neg_ℤ g *ℤ n) ≡ neg_ℤ (pos 32 *ℤ (g *ℤ n))
scaled_height g n = rw (as_diff g, as_diff n, diff-pos 32) (simp differences (diff-same _ _ _ _ (omega arith)))

pub frame_height : (d : Dir) (x g : ℤ) → cross d (frame_way d x (neg_ℤ g)) ≡ neg_ℤ (pos 32 *ℤ (g *ℤ pos (length_squared d)))
frame_height d x g = cross_times d (in_frame d x (neg_ℤ g)) (pos 32) ∙ rw (cross_in_frame d x (neg_ℤ g)) (scaled_height g (pos (length_squared d)))

pub frame_length : (d : Dir) (x y : ℤ) → length_squared (frame_way d x y) ≡ 2 ^ 10 * length_squared d * (unsigned_abs x * unsigned_abs x + unsigned_abs y * unsigned_abs y)
frame_length d x y = rw (length_of_times (pos 32) (in_frame d x y), length_in_frame d x y) (omega arith)

-- a way of nearly the length of a radius, rounded, is as long as that up to one unit
pub rounded_in_ring : (u d : Dir) (r J : ℕ) → IsDir d → 8 * r + 1 ≤ 2 ^ 35 → IsEighth r J → length_squared u ≡ 2 ^ 10 * length_squared d * J
    → IsInRing r (length_squared (near_displacement u (length_of d)))
rounded_in_ring u d r J is small eighth long =
    let n = length_squared d in
    let s = root (n * 2 ^ 70) in
    let root = length_facts d is in
    let left = displacement_rest u (pos s) (length_positive d is) in
    let frame : IsFrame n s r = record { low = root.low; high = root.high; wide = omega (arith, root.large, small) } in
    let high : 16 * length_squared u ≤ ((4 * r + 1) * s) * ((4 * r + 1) * s) = rw long (framed_high n s r J frame eighth) in
    let low : ((4 * r - 1) * s) * ((4 * r - 1) * s) ≤ 16 * length_squared u = rw long (framed_low n s r J frame eighth) in
    on_circle u (near_displacement u (pos s)) left.0 (pos s) r left.1 (omega (arith, root.large)) high low

-- a point whose parts in a frame make nearly a radius lies within one unit of the circle
pub framed_on_circle : (c : Pt) (d : Dir) (x y : ℤ) (r : ℕ) → IsDir d → 8 * r + 1 ≤ 2 ^ 35
    → IsEighth r (unsigned_abs x * unsigned_abs x + unsigned_abs y * unsigned_abs y) → IsInRing r (length_squared (displacement c (framed c d x y)))
framed_on_circle c d x y r is small eighth =
    subst (λ (w : Dir). IsInRing r (length_squared w)) (sym (displacement_from c (near_displacement (frame_way d x y) (length_of d))))
    (rounded_in_ring (frame_way d x y) d r (unsigned_abs x * unsigned_abs x + unsigned_abs y * unsigned_abs y) is small eighth (frame_length d x y))

height_parts : (s c w u rest : ℤ) → s *ℤ w ≡ neg_ℤ u +ℤ rest → s *ℤ (c +ℤ w) ≡ ((s *ℤ c) -ℤ u) +ℤ rest
height_parts s c w u rest e = *ℤ-+ℤ s c w ∙ rw e (omega (arith, ints))

-- a point at the depth of another, which is not too far from the line, lies within one unit of it, wherever along it
pub framed_on_line : (l : Line) (h : ℤ) (p : Pt) (x : ℤ) → IsLine l → unsigned_abs h ≤ 10 ^ 8
    → unsigned_abs (lag (root (length_squared l.dir * 2 ^ 70)) (cross l.dir (displacement l.base p)) h) ≤ 2 ^ 28 * root (length_squared l.dir * 2 ^ 70)
    → IsNearLine l h (pos 1) (framed p l.dir x (neg_ℤ (depth l.dir (cross l.dir (displacement l.base p)) h)))
framed_on_line l h p x is small near =
    let d = l.dir in
    let n = length_squared d in
    let s = root (n * 2 ^ 70) in
    let root = length_facts d is.dir in
    let c = cross d (displacement l.base p) in
    let g = depth d c h in
    let u = frame_way d x (neg_ℤ g) in
    let v = near_displacement u (length_of d) in
    let left = depth_rest d c h is.dir in
    let rounded = moved d u (length_of d) (length_positive d is.dir) in
    let height : pos s *ℤ cross d v ≡ neg_ℤ (pos 32 *ℤ (g *ℤ pos n)) +ℤ rounded.0 = rounded.1 ∙ ap (λ z. z +ℤ rounded.0) (frame_height d x g) in
    rw (height_at_second d p l.base v)
    (footed n s c h (c +ℤ cross d v) g left.0 rounded.0 root (record {
      depth = left.1;
      depth_short = left.2;
      height = height_parts (pos s) c (cross d v) (pos 32 *ℤ (g *ℤ pos n)) rounded.0 height;
      height_short = rounded.2;
      near = near;
    }) (omega (arith, root.large, small)))

-- no point in range is too far from it
pub in_range-lag : (l : Line) (h : ℤ) (p : Pt) → IsLine l → IsPoint p → unsigned_abs h ≤ 10 ^ 8
    → unsigned_abs (lag (root (length_squared l.dir * 2 ^ 70)) (cross l.dir (displacement l.base p)) h) ≤ 2 ^ 28 * root (length_squared l.dir * 2 ^ 70)
in_range-lag l h p is point small =
    lag_small (length_squared l.dir) (root (length_squared l.dir * 2 ^ 70)) (cross l.dir (displacement l.base p)) h (length_facts l.dir is.dir) (height_square l.dir l.base p is.base point) small
