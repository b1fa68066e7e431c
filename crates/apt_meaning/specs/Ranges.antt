-- The ranges of situations and effects.
use Rattle.std.specs.Prelude.{◌≡◌, ◌^◌, ◌≤◌, ℤ, pos, ◌≤ℤ◌, unsigned_abs, Option, Some, None}
use Rattle.apt_plane.specs.declared.figures.Dir.{Dir}
use Rattle.apt_plane.specs.Ranges.{IsSurface, IsSense}
use Rattle.apt_words.specs.declared.Stop.TheVariants as stops
use Rattle.apt_offset.specs.Ranges.{IsRadius, IsTolerance}
use Rattle.apt_offset.specs.Sides.{side_at_tangency}
use Rattle.apt_records.specs.Ranges.{IsPosition, IsNote}
use Rattle.apt_records.specs.declared.record.Position.{Position}
use Rattle.apt_defs.specs.Figures.{IsFigure, AreFigures}
use Rattle.apt_meaning.specs.declared.situation.Settings.{Settings}
use Rattle.apt_meaning.specs.declared.situation.Situation.{Situation}
use Rattle.apt_meaning.specs.declared.motion.Motion.{Motion}
use Rattle.apt_meaning.specs.Motions.{drive_side}
use Rattle.apt_meaning.specs.declared.effect.Change.{Change}
use Rattle.apt_meaning.specs.declared.effect.Change.TheVariants as changes
use Rattle.apt_meaning.specs.declared.effect.Effect.{Effect}
use Rattle.apt_meaning.specs.declared.effect.Effect.TheVariants as effects

abbrev pub IsPositionOrNone : Option Position → Type 0
IsPositionOrNone None = Unit {0}
IsPositionOrNone (Some p) = IsPosition p

-- a feed in tenths, 0 for none
pub record IsFeed (f : ℤ) : Type 0 where
  pub least : pos 0 ≤ℤ f
  pub most : f ≤ℤ pos 2147483647

pub record IsForward (d : Dir) : Type 0 where
  pub dx : unsigned_abs d.dx ≤ 10 ^ 8
  pub dy : unsigned_abs d.dy ≤ 10 ^ 8

pub record AreSettings (s : Settings) : Type 0 where
  pub radius : IsRadius s.radius
  pub intol : IsTolerance s.intol
  pub outtol : IsTolerance s.outtol
  pub feed : IsFeed s.feed

pub record IsSituation (here : Situation) : Type 0 where
  pub settings : AreSettings here.settings
  pub position : IsPositionOrNone here.position
  pub forward : IsForward here.forward
  pub table : AreFigures here.table

-- a tolerance that counts as at least a grid step
pub record IsAllowance (t : ℤ) : Type 0 where
  pub least : pos 8 ≤ℤ t
  pub most : t ≤ℤ pos 10000

pub record IsMotion (m : Motion) : Type 0 where
  pub start : IsPosition m.start
  pub drive : IsSurface m.drive
  pub sense : IsSense m.sense
  pub check : IsSurface m.check
  pub touching : m.how ≡ stops.Tanto → m.check_side ≡ side_at_tangency m.drive m.check (drive_side m)
  pub radius : IsRadius m.radius
  pub inner : IsAllowance m.inner
  pub outer : IsAllowance m.outer

abbrev pub IsChange : Change → Type 0
IsChange (changes.Said note) = IsNote note
IsChange (changes.Side side) = Unit {0}
IsChange changes.Nothing = Unit {0}

abbrev pub IsEffect : Effect → Type 0
IsEffect (effects.Defines n f) = IsFigure f
IsEffect (effects.Sets change) = IsChange change
IsEffect (effects.Moves reach to) = IsPosition to
IsEffect (effects.Cuts m legs) = IsMotion m

-- the motion of a contour is in range
abbrev pub HasMotion : Effect → Type 0
HasMotion (effects.Defines n f) = Unit {0}
HasMotion (effects.Sets change) = Unit {0}
HasMotion (effects.Moves reach to) = Unit {0}
HasMotion (effects.Cuts m legs) = IsMotion m
