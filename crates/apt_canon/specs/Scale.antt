-- What all formulas share: lengths in small units, nearest quotients, and the coordinate limit.
use Rattle.std.specs.Prelude.{ℕ, ◌*◌, ◌^◌, nat_le, ℤ, pos, negsuc, ◌+ℤ◌, ◌*ℤ◌, ◌-ℤ◌, unsigned_abs, ◌&&◌, Bool, Result, Ok, Err, if◌then◌else◌}
use Rattle.apt_num.specs.Root.{root}
use Rattle.apt_num.specs.Near.{near}
use Rattle.apt_num.specs.declared.Sign.{Sign}
use Rattle.apt_num.specs.Sign.{sign_of, OnLine}
use Rattle.apt_plane.specs.declared.figures.Pt.{Pt}
use Rattle.apt_plane.specs.declared.figures.Dir.{Dir}
use Rattle.apt_plane.specs.declared.figures.Line.{Line}
use Rattle.apt_plane.specs.declared.figures.Circ.{Circ}
use Rattle.apt_plane.specs.Vectors.{displacement, cross, length_squared}
use Rattle.apt_plane.specs.Distances.{IsLengthAtMost, IsRootAtMost}
use Rattle.apt_canon.specs.declared.FormFault.{FormFault}
use Rattle.apt_canon.specs.declared.FormFault.TheVariants as faults

-- one unit of length in the formulas
abbrev pub unit : ℤ
unit = pos (2 ^ 35)

-- the length of a direction in these units, rounded down
abbrev pub length_of : Dir → ℤ
length_of d = pos (root (length_squared d * 2 ^ 70))

abbrev pub way : ℤ → ℤ → Dir
way x y = record { dx = x; dy = y }

-- a way times a number
abbrev pub times : ℤ → Dir → Dir
times m u = way (m *ℤ u.dx) (m *ℤ u.dy)

abbrev pub sum : Dir → Dir → Dir
sum u v = way (u.dx +ℤ v.dx) (u.dy +ℤ v.dy)

-- a way divided by a number, each part to the nearest whole number
abbrev pub nearest : Dir → ℤ → Dir
nearest u m = way (near u.dx m) (near u.dy m)

-- where a way leads from a point
abbrev pub from : Pt → Dir → Pt
from p u = record { x = p.x +ℤ u.dx; y = p.y +ℤ u.dy }

-- a number below 0 counts as 0
abbrev pub positive_part : ℤ → ℕ
positive_part (pos n) = n
positive_part (negsuc n) = 0

abbrev pub is_in_range : Pt → Bool
is_in_range p = nat_le (unsigned_abs p.x) 50000000 && nat_le (unsigned_abs p.y) 50000000

abbrev pub in_range : Pt → Result Pt FormFault
in_range p = if is_in_range p then Ok p else Err faults.OutOfRange

-- ---- near

-- a point is at most so far from a line moved to its left
abbrev pub IsNearLine : Line → ℤ → ℤ → Pt → Type 0
IsNearLine l h g p = OnLine (cross l.dir (displacement l.base p)) h (length_squared l.dir) g

-- a point is a distance away from a line, on whichever side, up to one unit
abbrev pub IsAway : Line → ℤ → Pt → Type 0
IsAway l d p = OnLine (pos (unsigned_abs (cross l.dir (displacement l.base p)))) d (length_squared l.dir) (pos 1)

-- the side of a line on which a point lies: Plus is its left
abbrev pub side_of_line : Line → Pt → Sign
side_of_line l p = sign_of (cross l.dir (displacement l.base p))

-- a point is at most so far from a circle
pub record IsNearCircle (c : Circ) (g : ℤ) (p : Pt) : Type 0 where
  pub outside : IsLengthAtMost (c.r -ℤ g) (length_squared (displacement c.c p))
  pub inside : IsRootAtMost (length_squared (displacement c.c p)) (c.r +ℤ g)
