-- On which side of its check surface a motion ends.
use Rattle.std.proofs.Common.{refl, ◌≡◌, pos}
use Rattle.apt_num.specs.declared.Sign.{Sign}
use Rattle.apt_words.specs.declared.Stop.{Stop}
use Rattle.apt_plane.specs.declared.figures.Surface.{Surface}
use Rattle.apt_plane.specs.Ranges.{IsSurface}
use Rattle.apt_offset.specs.Sides.{side_at_drive}
use Rattle.apt_offset.specs.Targets.{signed, greater}
use Rattle.apt_offset.proofs.Aside.{stops_aside}
use Rattle.apt_records.specs.declared.record.Position.{Position}
use Rattle.apt_meaning.specs.declared.situation.Settings.{Settings}
use Rattle.apt_meaning.specs.declared.motion.Motion.{Motion}
use Rattle.apt_meaning.specs.Motions.{motion, grid_step, EndsAside}

pub ends_aside : (m : Motion) (s : Settings) (start : Position) (drive : Surface) (turned : Sign) (how : Stop) (check : Surface) → IsSurface check
    → m ≡ motion s start drive turned how check → EndsAside m
ends_aside m s start drive turned how check is e =
    rw e (λ off less q near.
    stops_aside _ check how start.xy drive (side_at_drive s.side (signed turned (pos 1))) is refl off s.radius (greater s.intol grid_step) (greater s.outtol grid_step) q less near)
