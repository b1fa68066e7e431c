-- The point of a circle in a direction, the foot of a point on a line, and parallels at a distance.
use Rattle.std.specs.Prelude.{◌≡◌, ◌<◌, ℤ, pos, neg_ℤ, ◌*ℤ◌, ◌<ℤ◌, int_lt, Result, Ok, Err, if◌then◌else◌}
use Rattle.apt_num.specs.declared.Sign.{Sign}
use Rattle.apt_num.specs.declared.Sign.TheVariants as signs
use Rattle.apt_num.specs.Sign.{sign_of}
use Rattle.apt_words.specs.declared.Pick.{Pick}
use Rattle.apt_words.specs.declared.Pick.TheVariants as picks
use Rattle.apt_words.specs.Chains.{◌>>=◌}
use Rattle.apt_plane.specs.declared.figures.Pt.{Pt}
use Rattle.apt_plane.specs.declared.figures.Dir.{Dir}
use Rattle.apt_plane.specs.declared.figures.Line.{Line}
use Rattle.apt_plane.specs.declared.figures.Circ.{Circ}
use Rattle.apt_plane.specs.Vectors.{Scaled, displacement, cross, perp, height}
use Rattle.apt_canon.specs.declared.FormFault.{FormFault}
use Rattle.apt_canon.specs.declared.FormFault.TheVariants as faults
use Rattle.apt_canon.specs.Scale.{unit, length_of, times, nearest, from, in_range}
use Rattle.apt_canon.specs.Circles.{depth, framed}

-- the point of a circle in a direction from its centre
abbrev pub ray_point : Circ → Dir → Pt
ray_point c u = from c.c (nearest (times (c.r *ℤ unit) u) (length_of u))

abbrev pub ray : Circ → Dir → Result Pt FormFault
ray c u = in_range (ray_point c u)

-- the foot of a point on a line moved to its left
abbrev pub foot_point : Pt → Line → ℤ → Pt
foot_point p l h = framed p l.dir (pos 0) (neg_ℤ (depth l.dir (cross l.dir (displacement l.base p)) h))

abbrev pub foot : Pt → Line → ℤ → Result Pt FormFault
foot p l h = in_range (foot_point p l h)

-- ---- parallels

-- the part of a normal that decides a modifier: the greater or the smaller x, or y
abbrev pub deciding : Pick → Dir → ℤ
deciding picks.XLarge u = u.dx
deciding picks.XSmall u = neg_ℤ u.dx
deciding picks.YLarge u = u.dy
deciding picks.YSmall u = neg_ℤ u.dy

-- the side of a line that a modifier names: Plus is its left; none where the line runs along the axis of the modifier
abbrev pub side_picked : Line → Pick → Sign
side_picked l pick = sign_of (deciding pick (perp l.dir))

-- how far a line is moved to its left, for a distance to the side that a modifier names
abbrev pub offset_picked : Sign → ℤ → Result ℤ FormFault
offset_picked signs.Plus d = Ok d
offset_picked signs.Zero d = Err faults.Degenerate
offset_picked signs.Minus d = Ok (neg_ℤ d)

-- a point at a distance to the left of a line's base, square to the line
abbrev pub parallel_point : Line → ℤ → Pt
parallel_point l h = from l.base (nearest (times (h *ℤ unit) (perp l.dir)) (length_of l.dir))

abbrev pub based_on : Dir → Pt → Result Line FormFault
based_on d p = Ok (record { base = p; dir = d })

abbrev pub parallel_at : Line → Pick → ℤ → Result Line FormFault
parallel_at l pick d =
    if int_lt d (pos 0) then Err faults.Degenerate
    else (offset_picked (side_picked l pick) d >>= λ h. in_range (parallel_point l h) >>= based_on l.dir)

-- ---- the side that a modifier names, by coordinates

-- a point has a greater, or a smaller, coordinate than a fraction, as a modifier names it, where they share the other one
abbrev pub IsPast : Pick → Scaled → Pt → Type 0
IsPast picks.XLarge s p = (s.y ≡ pos s.m *ℤ p.y) → s.x <ℤ (pos s.m *ℤ p.x)
IsPast picks.XSmall s p = (s.y ≡ pos s.m *ℤ p.y) → (pos s.m *ℤ p.x) <ℤ s.x
IsPast picks.YLarge s p = (s.x ≡ pos s.m *ℤ p.x) → s.y <ℤ (pos s.m *ℤ p.y)
IsPast picks.YSmall s p = (s.x ≡ pos s.m *ℤ p.x) → (pos s.m *ℤ p.y) <ℤ s.y

-- a point lies on the side of a line that a modifier names: it is past each point of the line that shares the other coordinate
abbrev pub IsPicked : Line → Pick → Pt → Type 0
IsPicked l pick p = (s : Scaled) → 0 < s.m → height l s ≡ pos 0 → IsPast pick s p
