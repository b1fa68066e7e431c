-- The ranges of surfaces that are moved by a cutter's radius.
use Rattle.std.proofs.Common.{◌≡◌, ℕ, ◌≤◌, sym, subst, arith, false, true, ℤ, pos, negsuc, ◌-ℤ◌, ◌≤ℤ◌, int_lt, unsigned_abs}
use Rattle.std.proofs.lemmas.Int.{ints}
use Rattle.apt_num.specs.declared.Sign.{Sign}
use Rattle.apt_num.specs.declared.Sign.TheVariants as signs
use Rattle.apt_plane.specs.declared.figures.Pt.{Pt}
use Rattle.apt_plane.specs.declared.figures.Surface.{Surface}
use Rattle.apt_plane.specs.declared.figures.Surface.TheVariants as surfaces
use Rattle.apt_words.specs.declared.Stop.TheVariants as stops
use Rattle.apt_plane.specs.Ranges.{IsPoint, IsSurface, IsSense}
use Rattle.apt_offset.specs.declared.Target.{Target}
use Rattle.apt_offset.specs.Sides.{side_at_tangency}
use Rattle.apt_stop.specs.Nearness.{is_near, off_track}
use Rattle.apt_offset.specs.Targets.{signed, offset_surface, lacks_room}
use Rattle.apt_offset.specs.Ranges.{IsRadius, IsTarget, IsCircleTarget}
use Rattle.apt_stop.specs.declared.course.Course.{Course}
use Rattle.apt_stop.specs.Ranges.{IsCourse}

signed_small : (v : Sign) (r : ℤ) → IsRadius r → unsigned_abs (signed v r) ≤ 500000
signed_small signs.Plus r is = omega (arith, ints, is.least, is.most)
signed_small signs.Zero r is = omega arith
signed_small signs.Minus r is = omega (arith, ints, is.least, is.most)

has_room : (z : ℤ) → int_lt z (pos 100) ≡ false → pos 100 ≤ℤ z
has_room z e = grind (arith, ints)

pub moved_target : (s : Surface) (v : Sign) (r : ℤ) → IsSurface s → IsRadius r → lacks_room (offset_surface s v r) ≡ false → IsTarget (offset_surface s v r)
moved_target (surfaces.Line l) v r is radius room = record { base = is.base; dir = is.dir; off = omega (arith, signed_small v r radius) }
moved_target (surfaces.Circ c) v r is radius room = record {
  centre = is.centre;
  least = has_room (c.r -ℤ signed v r) room;
  most = omega (arith, ints, signed_small v r radius, is.x, is.least);
}

pub track_target : (c : Course) → IsCourse c → IsTarget c.track
track_target c is =
    let moved = is.moved in
    subst (λ (t : Target). IsTarget t) (sym moved.track)
    (moved_target c.drive moved.at_drive moved.radius is.drive moved.cutter (subst (λ (t : Target). lacks_room t ≡ false) moved.track is.track_room))

pub stop_target : (c : Course) → IsCourse c → IsTarget c.stop
stop_target c is =
    let moved = is.moved in
    subst (λ (t : Target). IsTarget t) (sym moved.stop)
    (moved_target c.check moved.at_check moved.radius is.check moved.cutter (subst (λ (t : Target). lacks_room t ≡ false) moved.stop is.stop_room))

pub no_radius : (o : Pt) (r : ℕ) → IsCircleTarget o (negsuc r) → ⊥
no_radius o r circle = omega (arith, ints, circle.least)

-- surfaces that are moved so make a course
pub moved_course : (c : Course) (at_drive at_check : Sign) (radius : ℤ) → c.track ≡ offset_surface c.drive at_drive radius → c.stop ≡ offset_surface c.check at_check radius
    → (c.how ≡ stops.Tanto → at_check ≡ side_at_tangency c.drive c.check at_drive) → IsRadius radius → IsPoint c.start → IsSurface c.drive → IsSense c.sense → IsSurface c.check
    → lacks_room c.track ≡ false → lacks_room c.stop ≡ false → is_near c.track off_track c.start ≡ true → IsCourse c
moved_course c at_drive at_check radius track stop touching is start drive sense check track_room stop_room near = record {
  start = start;
  drive = drive;
  sense = sense;
  check = check;
  moved = record { at_drive = at_drive; at_check = at_check; radius = radius; cutter = is; track = track; stop = stop; touching = touching };
  track_room = track_room;
  stop_room = stop_room;
  near = near;
}
