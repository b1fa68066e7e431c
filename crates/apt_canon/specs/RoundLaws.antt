-- What a circle that figures determine has to do with them, and which figures determine none.
use Rattle.std.specs.Prelude.{◌≡◌, ◌≢◌, ◌⊎◌, ◌*◌, ◌≤◌, ℤ, pos, neg_ℤ, ◌+ℤ◌, ◌-ℤ◌, ◌*ℤ◌, ◌≤ℤ◌, ◌<ℤ◌, unsigned_abs}
use Rattle.apt_num.specs.declared.Sign.{Sign}
use Rattle.apt_num.specs.declared.Sign.TheVariants as signs
use Rattle.apt_words.specs.declared.Pick.{Pick}
use Rattle.apt_plane.specs.declared.figures.Pt.{Pt}
use Rattle.apt_plane.specs.declared.figures.Dir.{Dir}
use Rattle.apt_plane.specs.declared.figures.Line.{Line}
use Rattle.apt_plane.specs.declared.figures.Circ.{Circ}
use Rattle.apt_plane.specs.Vectors.{displacement, cross, dot, length_squared}
use Rattle.apt_plane.specs.Ranges.{IsPoint, IsCircle}
use Rattle.apt_plane.specs.Distances.{IsLengthAtMost, IsRootAtMost}
use Rattle.apt_canon.specs.declared.FormFault.{FormFault}
use Rattle.apt_canon.specs.declared.FormFault.TheVariants as faults
use Rattle.apt_canon.specs.Scale.{times, sum, from, IsNearLine, IsAway}
use Rattle.apt_canon.specs.Meeting.{meeting_point}
use Rattle.apt_canon.specs.Feet.{side_picked}
use Rattle.apt_canon.specs.Rounds.{circle, length_near, centre_from}

-- a circle whose radius is one, and that leaves its range
abbrev pub IsTooLarge : Circ → Type 0
IsTooLarge k = (pos 100 ≤ℤ k.r) × ¬ IsCircle k

-- a circle touches a line: its radius is the distance of its centre from the line, up to one unit
abbrev pub Touches : Circ → Line → Type 0
Touches k l = IsAway l k.r k.c

-- ---- through three points

abbrev pub AreOnLine : Pt → Pt → Pt → Type 0
AreOnLine p q r = cross (displacement p q) (displacement p r) ≡ pos 0

-- the way u / m leads to a point that is as far away as it is from where b and c lead
pub record IsEquidistant (b c u : Dir) (m : ℤ) : Type 0 where
  pub divisor : m ≢ pos 0
  pub first : pos 2 *ℤ dot u b ≡ m *ℤ pos (length_squared b)
  pub second : pos 2 *ℤ dot u c ≡ m *ℤ pos (length_squared c)

-- a circle passes through three points: its centre is at most one unit from the exact one, to which u / m leads from the first point, and its radius at most two units from the exact one
pub record IsThrough (p q r : Pt) (k : Circ) : Type 0 where
  pub u : Dir
  pub m : ℤ
  pub exact : IsEquidistant (displacement p q) (displacement p r) u m
  pub centre : length_squared (sum u (times (neg_ℤ m) (displacement p k.c))) ≤ unsigned_abs m * unsigned_abs m
  pub least : IsLengthAtMost ((k.r -ℤ pos 2) *ℤ pos (unsigned_abs m)) (length_squared u)
  pub most : IsRootAtMost (length_squared u) ((k.r +ℤ pos 2) *ℤ pos (unsigned_abs m))

-- the circle through three points that are not on one line, its centre and its radius rounded
abbrev pub rounded_through : Pt → Pt → Pt → Circ
rounded_through p q r =
    let way = centre_from (displacement p q) (displacement p r) in
    circle (from p way) (pos (length_near way))

-- ---- in a corner

-- a point is a distance away from a line, on a side of it, up to one unit
abbrev pub IsBeside : Sign → Line → ℤ → Pt → Type 0
IsBeside signs.Plus l d p = IsNearLine l d (pos 1) p
IsBeside signs.Zero l d p = ⊥
IsBeside signs.Minus l d p = IsNearLine l (neg_ℤ d) (pos 1) p

abbrev pub offset_to : Sign → ℤ → ℤ
offset_to signs.Plus d = d
offset_to signs.Zero d = pos 0
offset_to signs.Minus d = neg_ℤ d

-- where both lines meet, each moved by a distance to the side that its modifier names
abbrev pub corner_centre : Line → Pick → Line → Pick → ℤ → Pt
corner_centre a pick_a b pick_b d = meeting_point a (offset_to (side_picked a pick_a) d) b (offset_to (side_picked b pick_b) d)

-- the radius is one, and the modifiers name sides
pub record HasSides (a : Line) (pick_a : Pick) (b : Line) (pick_b : Pick) (r : ℤ) : Type 0 where
  pub radius : pos 100 ≤ℤ r
  pub side_a : side_picked a pick_a ≢ signs.Zero
  pub side_b : side_picked b pick_b ≢ signs.Zero

-- why lines have no circle in their corner
abbrev pub NoCorner : Line → Pick → Line → Pick → ℤ → FormFault → Type 0
NoCorner a pick_a b pick_b r faults.Degenerate = (r <ℤ pos 100) ⊎ (side_picked a pick_a ≡ signs.Zero) ⊎ (side_picked b pick_b ≡ signs.Zero)
NoCorner a pick_a b pick_b r faults.NoMeeting = HasSides a pick_a b pick_b r × (cross a.dir b.dir ≡ pos 0)
NoCorner a pick_a b pick_b r faults.OutOfRange = HasSides a pick_a b pick_b r × (cross a.dir b.dir ≢ pos 0) × ¬ IsPoint (corner_centre a pick_a b pick_b r)
NoCorner a pick_a b pick_b r faults.TooLarge =
    HasSides a pick_a b pick_b r × (cross a.dir b.dir ≢ pos 0) × IsPoint (corner_centre a pick_a b pick_b r) × ¬ IsCircle (circle (corner_centre a pick_a b pick_b r) r)
