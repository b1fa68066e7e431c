-- The targets of a course are in range, and a circle on which it touches is touched on a half.
use Rattle.std.proofs.Common.{◌≡◌, ◌≢◌, Bool, true, false, ℤ, Some, None}
use Rattle.std.specs.Prelude.{if◌then◌else◌}
use Rattle.apt_num.specs.declared.Sign.{Sign}
use Rattle.apt_num.specs.declared.Sign.TheVariants as signs
use Rattle.apt_plane.specs.declared.figures.Axis.{Axis}
use Rattle.apt_plane.specs.declared.figures.Surface.{Surface}
use Rattle.apt_plane.specs.declared.figures.Surface.TheVariants as surfaces
use Rattle.apt_offset.specs.Turns.{opposite}
use Rattle.apt_offset.specs.Sides.{side_or_left}
use Rattle.apt_offset.specs.Targets.{offset_surface}
use Rattle.apt_stop.specs.declared.course.Course.{Course}
use Rattle.apt_stop.specs.Tangencies.{axis, half_towards, touching_half, tangent_axis}
use Rattle.apt_stop.specs.Ranges.{IsCourse}
use Rattle.apt_stop.specs.Steps.{IsPlaced, HasHalf}
use Rattle.apt_stop.proofs.Moved.{track_target, stop_target}

pub placed : (c : Course) → IsCourse c → IsPlaced c
placed c is = record { start = is.start; track = track_target c is; sense = is.sense; stop = stop_target c is }

-- ---- halves

not_zero : (s : Sign) → opposite (side_or_left s) ≢ signs.Zero
not_zero signs.Minus = λ e. cc
not_zero signs.Zero = λ e. cc
not_zero signs.Plus = λ e. cc

one_of : (test : Bool) → (if test then signs.Plus else signs.Minus) ≢ signs.Zero
one_of true = λ e. cc
one_of false = λ e. cc

given : (test : Bool) (x a : Axis) → x.half ≢ signs.Zero → (if test then None else Some x) ≡ Some a → a.half ≢ signs.Zero
given true x a d e = absurd cc
given false x a d e = λ z. d (cc)

half_there : (drive check : Surface) (v : Sign) (r : ℤ) (a : Axis) → tangent_axis drive check ≡ Some a → HasHalf (offset_surface drive v r) a
half_there (surfaces.Line l) check v r a e = tt
half_there (surfaces.Circ c) (surfaces.Line l) v r a e = given false (axis c.c _ (half_towards l c)) a (not_zero _) e
half_there (surfaces.Circ c) (surfaces.Circ d) v r a e = given _ (axis c.c _ (touching_half c d)) a (one_of _) e

pub has_half : (c : Course) (a : Axis) → IsCourse c → tangent_axis c.drive c.check ≡ Some a → HasHalf c.track a
has_half c a is e = rw is.moved.track (half_there c.drive c.check is.moved.at_drive is.moved.radius a e)
