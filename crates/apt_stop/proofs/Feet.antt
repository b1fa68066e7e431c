-- The end of a course along a line that touches a circle.
use Rattle.std.proofs.Common.{inr, ℕ, ◌*◌, ◌≤◌, ◌<◌, subst, arith, ℤ, pos, ◌-ℤ◌, ◌*ℤ◌, ◌<ℤ◌}
use Rattle.std.proofs.lemmas.Bool.{not-false}
use Rattle.apt_num.specs.declared.Sign.{Sign}
use Rattle.apt_num.specs.Sign.{AtLeast, square}
use Rattle.apt_plane.specs.declared.figures.Pt.{Pt}
use Rattle.apt_plane.specs.declared.figures.Dir.{Dir}
use Rattle.apt_plane.specs.declared.figures.Line.{Line}
use Rattle.apt_plane.specs.declared.figures.Circ.{Circ}
use Rattle.apt_plane.specs.declared.figures.Surface.TheVariants as surfaces
use Rattle.apt_plane.specs.Vectors.{displacement, dot, length_squared}
use Rattle.apt_plane.specs.Ranges.{IsSense, IsLine, IsCircle}
use Rattle.apt_plane.proofs.Turned.{size_sense}
use Rattle.apt_plane.proofs.Displacements.{dot_swap}
use Rattle.apt_canon.specs.Feet.{foot_point}
use Rattle.apt_canon.proofs.FootPoints.Laws.{foot_near, foot_across}
use Rattle.apt_offset.specs.Sides.{side_at_tangency}
use Rattle.apt_offset.specs.Targets.{signed}
use Rattle.apt_offset.specs.Ranges.{IsLineTarget, IsCircleTarget}
use Rattle.apt_contact.specs.Contacts.{IsNearTarget}
use Rattle.apt_stop.specs.declared.course.Course.{Course}
use Rattle.apt_stop.specs.Nearness.{heading}
use Rattle.apt_stop.specs.Choices.{way_on_to}
use Rattle.apt_stop.specs.Ranges.{IsCourse}
use Rattle.apt_stop.specs.Ends.{TouchesStop}
use Rattle.apt_stop.proofs.Moved.{track_target, stop_target}
use Rattle.apt_stop.proofs.Onwards.{Onward, near_onwards}
use Rattle.apt_stop.proofs.Tracks.{heading_dot, heading_length}
use Rattle.apt_stop.proofs.Lies.{ahead_of}
use Rattle.apt_stop.proofs.Touching.{touches_stop, foot_on_axis}
use Rattle.apt_stop.proofs.Parts.{moved, Touches}

-- it runs onwards to an end on its track, near its stop and on the axis
pub record Touched (c : Course) (d : Dir) (q : Pt) : Type 0 where
  pub ahead : pos 0 <ℤ dot (heading c.sense d) (displacement c.start q)
  pub track : IsNearTarget c.track (pos 1) q
  pub stop : TouchesStop c q

-- the foot lies beside the centre
beside : (sense l : ℤ) (n : ℕ) → IsSense sense → 2 * square l ≤ n → Onward (sense *ℤ l) n
beside sense l n is small = inr (rw (size_sense sense l is) small)

foot_ahead : (d : Dir) (sense : ℤ) (p o q : Pt) → IsSense sense → 0 < length_squared d → AtLeast (dot (displacement p o) (heading sense d)) (pos 8) (length_squared d)
    → 2 * square (dot d (displacement o q)) ≤ length_squared d → pos 0 <ℤ dot (heading sense d) (displacement p q)
foot_ahead d sense p o q is some at small =
    let m = heading sense d in
    near_onwards m o p q (rw (heading_length sense d is) some)
    (subst (λ (z : ℤ). AtLeast z (pos 8) (length_squared m)) (dot_swap (displacement p o) m) (rw (heading_length sense d is) at))
    (rw (heading_length sense d is, heading_dot sense d (displacement o q)) (beside sense (dot d (displacement o q)) (length_squared d) is small))

-- the drive surface l, moved to the place v, and the circle k that it touches, by a cutter of the radius m
pub touches_on_line : (c : Course) (l : Line) (v : Sign) (m : ℤ) (k : Circ)
    → let n = moved c (surfaces.Line l) v (surfaces.Circ k) (side_at_tangency (surfaces.Line l) (surfaces.Circ k) v) m in IsCourse n → Touches n → Touched n l.dir (foot_point k.c l (signed v m))
touches_on_line c l v m k is free =
    let w = side_at_tangency (surfaces.Line l) (surfaces.Circ k) v in
    let n = moved c (surfaces.Line l) v (surfaces.Circ k) w m in
    let q = foot_point k.c l (signed v m) in
    let line : IsLineTarget l.base l.dir (signed v m) = track_target n is in
    let circle : IsCircleTarget k.c (k.r -ℤ signed w m) = stop_target n is in
    let surface : IsLine l = is.drive in
    let round : IsCircle k = is.check in
    let some : 0 < length_squared l.dir = omega (arith, line.dir.length) in
    let across : 2 * square (dot l.dir (displacement k.c q)) ≤ length_squared l.dir = foot_across k.c l (signed v m) surface in
    let near = foot_near k.c l (signed v m) round.centre surface line.off in record {
      ahead = foot_ahead l.dir c.sense c.start k.c q is.sense some (ahead_of (way_on_to n l.dir k.c) (length_squared l.dir) free.past) across;
      track = near;
      stop = record {
        stop = touches_stop l k v m q (record { some = some; along = across }) round.least circle.least (not-false _ free.touching) near;
        axis = rw free.on (foot_on_axis l.dir k.c q across);
      };
    }
