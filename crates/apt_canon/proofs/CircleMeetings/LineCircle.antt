-- The point that the formula gives for a moved line and a circle that meet is at most one unit from both.
use Rattle.std.proofs.Common.{refl, ◌≡◌, ℕ, ◌+◌, ◌-◌, ◌*◌, ◌^◌, ◌≤◌, ◌∙◌, ap, arith, inl, inr, ℤ, pos, negsuc, neg_ℤ, ◌+ℤ◌, ◌-ℤ◌, ◌*ℤ◌, ◌≤ℤ◌, unsigned_abs}
use Rattle.std.proofs.Math.Nat.{mul-le-mul_left}
use Rattle.std.proofs.lemmas.Int.{ints}
use Rattle.std.proofs.lemmas.Bool.{cases_lt}
use Rattle.apt_num.specs.Root.{IsRoot, root}
use Rattle.apt_num.proofs.RootLaws.{root-IsRoot}
use Rattle.apt_num.proofs.Squares.{size_mul, size_neg, size_add, size_square, square_le}
use Rattle.apt_num.proofs.Framed.{IsEighth}
use Rattle.apt_num.proofs.Footed.{lag}
use Rattle.apt_num.proofs.Chords.{meet_near, depth_bound, half_chord_end}
use Rattle.apt_plane.specs.declared.figures.Pt.{Pt}
use Rattle.apt_plane.specs.declared.figures.Line.{Line}
use Rattle.apt_plane.specs.declared.figures.Circ.{Circ}
use Rattle.apt_plane.specs.Vectors.{displacement, cross, length_squared}
use Rattle.apt_plane.specs.Ranges.{IsLine, IsSense}
use Rattle.apt_plane.proofs.Turned.{size_sense}
use Rattle.apt_canon.specs.Scale.{positive_part, IsNearLine, IsNearCircle}
use Rattle.apt_canon.specs.Circles.{depth, half_chord, line_circle_point}
use Rattle.apt_canon.proofs.Depths.{length_facts, depth_rest}
use Rattle.apt_canon.proofs.CircleMeetings.Near.{near_circle}
use Rattle.apt_canon.proofs.Frames.{framed_on_line, framed_on_circle}

-- ---- half of a chord
positive_difference : (m n : ℕ) → positive_part (pos m -ℤ pos n) ≡ m - n
positive_difference m n = elim (cases_lt m n) [
  | inl below ↦
      let negative : pos m -ℤ pos n ≡ negsuc (n - m - 1) = omega (arith, ints) in
      rw negative (omega arith)
  | inr past ↦
      let plain : pos m -ℤ pos n ≡ pos (m - n) = omega (arith, ints) in
      rw plain refl
]

radicand : (r : ℕ) (g : ℤ) → positive_part (((pos r *ℤ pos r) *ℤ pos (2 ^ 60)) -ℤ (g *ℤ g)) ≡ r * r * 2 ^ 60 - unsigned_abs g * unsigned_abs g
radicand r g = rw (← size_square g) (positive_difference (r * r * 2 ^ 60) (unsigned_abs g * unsigned_abs g))

pub half_of : ℕ → ℤ → ℕ
half_of r g = root (r * r * 2 ^ 60 - unsigned_abs g * unsigned_abs g)

pub half_chord-is : (r : ℕ) (g : ℤ) → half_chord (pos r) g ≡ pos (half_of r g)
unfolding half_of
half_chord-is r g = ap (λ m. pos (root m)) (radicand r g)

pub half_chord-root : (r g : ℤ) → pos 0 ≤ℤ r → half_chord r g ≡ pos (root (unsigned_abs r * unsigned_abs r * 2 ^ 60 - unsigned_abs g * unsigned_abs g))
half_chord-root (pos r) g least = ap (λ m. pos (root m)) (radicand r g)
half_chord-root (negsuc r) g least = absurd (omega (arith, ints))

pub half_of-IsRoot : (r : ℕ) (g : ℤ) → r ≤ 10 ^ 8 → IsRoot (r * r * 2 ^ 60 - unsigned_abs g * unsigned_abs g) (half_of r g)
unfolding half_of
half_of-IsRoot r g small = root-IsRoot (r * r * 2 ^ 60 - unsigned_abs g * unsigned_abs g) (omega (arith, square_le r (10 ^ 8) small))

-- ---- the depth of a line that meets the circle
pub lag_near : (l : Line) (h : ℤ) (c : Pt) (r : ℕ) → IsLine l → IsNearLine l h (pos r) c → let s = root (length_squared l.dir * 2 ^ 70) in
    unsigned_abs (lag s (cross l.dir (displacement l.base c)) h) ≤ r * s + unsigned_abs h + r
lag_near l h c r is near = meet_near (cross l.dir (displacement l.base c)) h r (length_squared l.dir) (root (length_squared l.dir * 2 ^ 70)) (length_facts l.dir is.dir).root near

lag_below : (r h s k : ℕ) → k ≤ r * s + h + r → r ≤ 10 ^ 8 → h ≤ 10 ^ 8 → 2 ^ 35 ≤ s → k ≤ 2 ^ 28 * s
lag_below r h s k near small_r small_h large = omega (arith, near, mul-le-mul_left s small_r, small_h, large, small_r)

depth_size : (s : ℕ) (g k e : ℤ) → pos s *ℤ g ≡ (pos (2 ^ 30) *ℤ k) +ℤ e → s * unsigned_abs g ≤ 2 ^ 30 * unsigned_abs k + unsigned_abs e
depth_size s g k e equal = omega (arith, size_mul (pos s) g, ap unsigned_abs equal, size_add (pos (2 ^ 30) *ℤ k) e, size_mul (pos (2 ^ 30)) k)

pub depth_near : (l : Line) (h : ℤ) (c : Pt) (r : ℕ) → IsLine l → unsigned_abs h ≤ 10 ^ 8 → r ≤ 10 ^ 8 → IsNearLine l h (pos r) c
    → unsigned_abs (depth l.dir (cross l.dir (displacement l.base c)) h) ≤ r * 2 ^ 30 + 2 ^ 23
depth_near l h c r is small_h small_r near =
    let s = root (length_squared l.dir * 2 ^ 70) in
    let k = cross l.dir (displacement l.base c) in
    let rest = depth_rest l.dir k h is.dir in
    depth_bound (unsigned_abs (depth l.dir k h)) (unsigned_abs (lag s k h)) (unsigned_abs rest.0) (unsigned_abs h) r s
    (depth_size s (depth l.dir k h) (lag s k h) rest.0 rest.1) rest.2 (lag_near l h c r is near) small_h small_r (length_facts l.dir is.dir).large

-- ---- the point
pub point_on_line : (l : Line) (h : ℤ) (c : Circ) (sigma : ℤ) (r : ℕ) → c.r ≡ pos r → r ≤ 10 ^ 8 → IsLine l → unsigned_abs h ≤ 10 ^ 8 → IsNearLine l h (pos r) c.c
    → IsNearLine l h (pos 1) (line_circle_point l h c sigma)
point_on_line l h c sigma r e small_r is small_h near =
    let s = root (length_squared l.dir * 2 ^ 70) in
    let k = cross l.dir (displacement l.base c.c) in
    framed_on_line l h c.c (sigma *ℤ half_chord c.r (depth l.dir k h)) is small_h
    (lag_below r (unsigned_abs h) s (unsigned_abs (lag s k h)) (lag_near l h c.c r is near) small_r small_h (length_facts l.dir is.dir).large)

pub ends : (r g t : ℕ) (x y : ℤ) → unsigned_abs x ≡ t → unsigned_abs y ≡ g → IsEighth r (g * g + t * t) → IsEighth r (unsigned_abs x * unsigned_abs x + unsigned_abs y * unsigned_abs y)
ends r g t x y e f is = rw (e, f) (record { least = omega (arith, is.least); most = omega (arith, is.most) })

pub point_on_circle : (l : Line) (h : ℤ) (c : Circ) (sigma : ℤ) (r : ℕ) → c.r ≡ pos r → r ≤ 10 ^ 8 → IsSense sigma → IsLine l → unsigned_abs h ≤ 10 ^ 8 → IsNearLine l h (pos r) c.c
    → IsNearCircle c (pos 1) (line_circle_point l h c sigma)
point_on_circle l h c sigma r e small_r sense is small_h near =
    let k = cross l.dir (displacement l.base c.c) in
    let g = depth l.dir k h in
    let t = half_of r g in
    let x = sigma *ℤ half_chord c.r g in
    let chord : half_chord c.r g ≡ pos t = rw e (half_chord-is r g) in
    let along : unsigned_abs x ≡ t = size_sense sigma (half_chord c.r g) sense ∙ ap unsigned_abs chord in
    let eighth = ends r (unsigned_abs g) t x (neg_ℤ g) along (size_neg g) (half_chord_end r (unsigned_abs g) t (depth_near l h c.c r is small_h small_r near) (half_of-IsRoot r g small_r)) in
    let same : unsigned_abs c.r ≡ r = ap unsigned_abs e in
    near_circle c (line_circle_point l h c sigma) (rw e (omega (arith, ints))) (rw same (framed_on_circle c.c l.dir x (neg_ℤ g) r is.dir (omega (arith, small_r)) eighth))
