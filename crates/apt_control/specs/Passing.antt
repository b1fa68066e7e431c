-- While the words of a block are read: what holds, with coordinates as they are given, and what does not hold behind it.
use Rattle.std.specs.Prelude.{◌<◌, ◌^◌, unsigned_abs, unwrap_or, is_some, IfSome}
use Rattle.std.specs.Option.{option_or}
use Rattle.apt_control.specs.declared.held.Held.{Held}
use Rattle.apt_control.specs.declared.held.Said.{Said}
use Rattle.apt_control.specs.declared.held.Passing.{Passing}

-- what holds with what some words say, where ways are not added yet
abbrev pub as_given : Held → Said → Held
as_given held said = record {
  motion = option_or said.motion held.motion;
  units = option_or said.units held.units;
  incremental = unwrap_or said.incremental held.incremental;
  feed = option_or said.feed held.feed;
  x = option_or said.x held.x;
  y = option_or said.y held.y;
  z = option_or said.z held.z;
}

-- what they say that does not hold behind the block
abbrev pub passing : Said → Passing
passing said = record {
  x = is_some said.x;
  y = is_some said.y;
  z = is_some said.z;
  units = said.units;
  speed = said.speed;
  tool = said.tool;
  code = said.code;
  foreign = said.foreign;
}

-- coordinates of at most eight digits
pub record IsShort (held : Held) : Type 0 where
  pub x : IfSome held.x (λ v. unsigned_abs v < 10 ^ 8)
  pub y : IfSome held.y (λ v. unsigned_abs v < 10 ^ 8)
  pub z : IfSome held.z (λ v. unsigned_abs v < 10 ^ 8)
