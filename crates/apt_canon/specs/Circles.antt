-- Where a moved line, or a circle, meets a circle.
use Rattle.std.specs.Prelude.{◌⊎◌, ℕ, ◌*◌, ◌^◌, ◌≤◌, nat_le, ℤ, pos, neg_ℤ, ◌+ℤ◌, ◌-ℤ◌, ◌*ℤ◌, ◌≤ℤ◌, ◌==◌, ◌&&◌, Bool, Result, Err, if◌then◌else◌}
use Rattle.apt_num.specs.Root.{root}
use Rattle.apt_num.specs.Near.{near}
use Rattle.apt_num.specs.Sign.{square, is_at_least}
use Rattle.apt_plane.specs.declared.figures.Pt.{Pt}
use Rattle.apt_plane.specs.declared.figures.Dir.{Dir}
use Rattle.apt_plane.specs.declared.figures.Line.{Line}
use Rattle.apt_plane.specs.declared.figures.Circ.{Circ}
use Rattle.apt_plane.specs.Vectors.{displacement, cross, dot, length_squared, perp}
use Rattle.apt_canon.specs.declared.FormFault.{FormFault}
use Rattle.apt_canon.specs.declared.FormFault.TheVariants as faults
use Rattle.apt_canon.specs.Scale.{length_of, times, sum, nearest, from, positive_part, in_range}

-- how far a point lies to the left of a line moved h, in units of 2^-30, where its cross product is k
abbrev pub depth : Dir → ℤ → ℤ → ℤ
depth d k h = near (k *ℤ pos (2 ^ 65)) (length_of d) -ℤ (h *ℤ pos (2 ^ 30))

-- half of the chord that a line at this depth cuts out of a circle: none where rounding brought it past the edge
abbrev pub half_chord : ℤ → ℤ → ℤ
half_chord r g = pos (root (positive_part (((r *ℤ r) *ℤ pos (2 ^ 60)) -ℤ (g *ℤ g))))

-- the point at a depth below another along a direction, and a part to its left: x and y are in units of 2^-30
abbrev pub framed : Pt → Dir → ℤ → ℤ → Pt
framed c d x y = from c (nearest (times (pos 32) (sum (times x d) (times y (perp d)))) (length_of d))

-- ---- a line and a circle

-- they meet where the centre is at most the radius away from the moved line
abbrev pub reaches : Line → ℤ → Circ → Bool
reaches l h c =
    let k = cross l.dir (displacement l.base c.c) in
    is_at_least k (h -ℤ c.r) (length_squared l.dir) && is_at_least (neg_ℤ k) (neg_ℤ h -ℤ c.r) (length_squared l.dir)

-- on the line, half a chord onwards for 1 and back for -1 from the foot of the centre
abbrev pub line_circle_point : Line → ℤ → Circ → ℤ → Pt
line_circle_point l h c sigma =
    let g = depth l.dir (cross l.dir (displacement l.base c.c)) h in
    framed c.c l.dir (sigma *ℤ half_chord c.r g) (neg_ℤ g)

abbrev pub line_circle : Line → ℤ → Circ → ℤ → Result Pt FormFault
line_circle l h c sigma = if reaches l h c then in_range (line_circle_point l h c sigma) else Err faults.NoMeeting

-- ---- two circles

abbrev pub are_concentric : Circ → Circ → Bool
are_concentric a b = length_squared (displacement a.c b.c) == 0

-- they meet where their centres are at most the sum of the radii apart, and at least their difference
abbrev pub overlap : Circ → Circ → Bool
overlap a b =
    let n = length_squared (displacement a.c b.c) in
    nat_le (square (a.r -ℤ b.r)) n && nat_le n (square (a.r +ℤ b.r))

-- the same as a fact
pub record DoMeet (a b : Circ) : Type 0 where
  pub inside : square (a.r -ℤ b.r) ≤ length_squared (displacement a.c b.c)
  pub outside : length_squared (displacement a.c b.c) ≤ square (a.r +ℤ b.r)

-- how far from the first centre their common chord lies, towards the second, in units of 2^-30
abbrev pub chord_depth : Circ → Circ → ℤ
chord_depth a b =
    let v = displacement a.c b.c in
    near (((pos (length_squared v) +ℤ (a.r *ℤ a.r)) -ℤ (b.r *ℤ b.r)) *ℤ pos (2 ^ 64)) (length_of v)

-- on the chord, half of it to the left of the way to the second centre for 1, and to the right for -1
abbrev pub circle_circle_point : Circ → Circ → ℤ → Pt
circle_circle_point a b sigma =
    let x = chord_depth a b in
    framed a.c (displacement a.c b.c) x (sigma *ℤ half_chord a.r x)

abbrev pub circle_circle : Circ → Circ → ℤ → Result Pt FormFault
circle_circle a b sigma =
    if are_concentric a b then Err faults.Degenerate
    else (if overlap a b then in_range (circle_circle_point a b sigma) else Err faults.NoMeeting)

-- ---- which of the two points

-- k over the root of n is a length in a sense, or less than a unit
abbrev pub HasSense : ℤ → ℤ → ℕ → Type 0
HasSense sense k n = (pos 0 ≤ℤ (sense *ℤ k)) ⊎ (2 * square k ≤ n)

-- a point lies further along a line than the centre of a circle for 1, and back for -1, or less than a unit off
abbrev pub IsFurther : Line → Circ → ℤ → Pt → Type 0
IsFurther l c sigma p = HasSense sigma (dot l.dir (displacement c.c p)) (length_squared l.dir)

-- a point lies to the left of the way from one centre to another for 1, and to the right for -1, or less than a unit off
abbrev pub IsBeyond : Circ → Circ → ℤ → Pt → Type 0
IsBeyond a b sigma p =
    let v = displacement a.c b.c in
    HasSense sigma (cross v (displacement a.c p)) (length_squared v)
