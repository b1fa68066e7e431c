-- What the calls take and give, in grid units.
use Rattle.std.specs.Prelude.{◌^◌, ◌≤◌, ℤ, pos, ◌≤ℤ◌, unsigned_abs}
use Rattle.apt_plane.specs.declared.figures.Pt.{Pt}
use Rattle.apt_plane.specs.declared.figures.Dir.{Dir}
use Rattle.apt_plane.specs.Ranges.{IsPoint, IsDir}
use Rattle.apt_offset.specs.declared.Target.{Target}
use Rattle.apt_offset.specs.declared.Target.TheVariants as targets

-- the radius of a cutter
pub record IsRadius (r : ℤ) : Type 0 where
  pub least : pos 0 ≤ℤ r
  pub most : r ≤ℤ pos 500000

pub record IsTolerance (t : ℤ) : Type 0 where
  pub least : pos 0 ≤ℤ t
  pub most : t ≤ℤ pos 10000

-- a line that is moved to its left
pub record IsLineTarget (b : Pt) (d : Dir) (h : ℤ) : Type 0 where
  pub base : IsPoint b
  pub dir : IsDir d
  pub off : unsigned_abs h ≤ 10 ^ 8

pub record IsCircleTarget (c : Pt) (r : ℤ) : Type 0 where
  pub centre : IsPoint c
  pub least : pos 100 ≤ℤ r
  pub most : r ≤ℤ pos (10 ^ 8)

abbrev pub IsTarget : Target → Type 0
IsTarget (targets.Line base dir off) = IsLineTarget base dir off
IsTarget (targets.Circ c r) = IsCircleTarget c r
