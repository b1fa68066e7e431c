use Rattle.std.proofs.Common.{rules}
use Rattle.apt_meaning.proofs.motion.Motion.inner_margin.Goals as goal

pub returns : goal.returns
returns c = rw (← c.drive_side.ensures, c.band_at-band.ensures.value) (search rules)
