-- What a start-up is given, in grid units.
use Rattle.std.specs.Prelude.{◌*◌, ◌^◌, ◌≤◌, unsigned_abs, IfSome}
use Rattle.apt_plane.specs.declared.figures.Pt.{Pt}
use Rattle.apt_plane.specs.Ranges.{IsPoint, IsSurface}
use Rattle.apt_offset.specs.Ranges.{IsRadius}
use Rattle.apt_startup.specs.declared.Goal.{Goal}
use Rattle.apt_startup.specs.declared.StartUp.{StartUp}

pub record IsGoal (g : Goal) : Type 0 where
  pub surface : IsSurface g.surface

pub record IsStartUp (u : StartUp) : Type 0 where
  pub start : IsPoint u.start
  pub first : IsGoal u.first
  pub second : IfSome u.second IsGoal
  pub radius : IsRadius u.radius

-- a point that is at most so far off that its distance from a position can be told
pub record IsInSight (p : Pt) : Type 0 where
  pub x : unsigned_abs p.x ≤ 2 * 10 ^ 8
  pub y : unsigned_abs p.y ≤ 2 * 10 ^ 8
