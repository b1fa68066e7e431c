-- What a course is given.
use Rattle.std.specs.Prelude.{◌≡◌, ℤ, true, false}
use Rattle.apt_num.specs.declared.Sign.{Sign}
use Rattle.apt_words.specs.declared.Stop.TheVariants as stops
use Rattle.apt_plane.specs.Ranges.{IsPoint, IsSurface, IsSense}
use Rattle.apt_offset.specs.Ranges.{IsRadius}
use Rattle.apt_offset.specs.Sides.{side_at_tangency}
use Rattle.apt_offset.specs.Targets.{offset_surface, lacks_room}
use Rattle.apt_stop.specs.declared.course.Course.{Course}
use Rattle.apt_stop.specs.Nearness.{is_near, off_track}

-- the track and the stop are its surfaces, moved by one cutter's radius to the cutter's places; where it touches, the place at the check surface follows from that at the drive surface
pub record AreMoved (c : Course) : Type 0 where
  pub at_drive : Sign
  pub at_check : Sign
  pub radius : ℤ
  pub cutter : IsRadius radius
  pub track : c.track ≡ offset_surface c.drive at_drive radius
  pub stop : c.stop ≡ offset_surface c.check at_check radius
  pub touching : c.how ≡ stops.Tanto → at_check ≡ side_at_tangency c.drive c.check at_drive

-- in range, with room for the cutter, and with a start that is hardly off its track
pub record IsCourse (c : Course) : Type 0 where
  pub start : IsPoint c.start
  pub drive : IsSurface c.drive
  pub sense : IsSense c.sense
  pub check : IsSurface c.check
  pub moved : AreMoved c
  pub track_room : lacks_room c.track ≡ false
  pub stop_room : lacks_room c.stop ≡ false
  pub near : is_near c.track off_track c.start ≡ true
