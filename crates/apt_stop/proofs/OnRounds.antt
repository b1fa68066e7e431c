-- The end of a course round a circle: on its track, and on the stop that it meets.
use Rattle.std.proofs.Common.{refl, ◌≢◌, inl, arith, ℤ, pos}
use Rattle.std.proofs.lemmas.Int.{ints}
use Rattle.apt_num.specs.declared.Sign.{Sign}
use Rattle.apt_num.specs.declared.Sign.TheVariants as signs
use Rattle.apt_num.proofs.Products.{some_number}
use Rattle.apt_plane.specs.declared.figures.Pt.{Pt}
use Rattle.apt_plane.specs.declared.figures.Dir.{Dir}
use Rattle.apt_plane.specs.declared.figures.Axis.{Axis}
use Rattle.apt_plane.specs.Vectors.{displacement, length_squared}
use Rattle.apt_plane.specs.Ranges.{IsSense, IsDir, IsPoint}
use Rattle.apt_plane.proofs.Turned.{size_sense}
use Rattle.apt_canon.specs.Scale.{times}
use Rattle.apt_canon.proofs.FootPoints.Rays.{ray_near}
use Rattle.apt_canon.proofs.Ways.{way_is_dir}
use Rattle.apt_offset.specs.declared.Target.{Target}
use Rattle.apt_offset.specs.declared.Target.TheVariants as targets
use Rattle.apt_offset.specs.Turns.{opposite}
use Rattle.apt_offset.specs.Targets.{signed}
use Rattle.apt_offset.specs.Ranges.{IsCircleTarget}
use Rattle.apt_contact.specs.Meetings.{circle_about}
use Rattle.apt_contact.specs.Contacts.{IsNearTarget}
use Rattle.apt_stop.specs.declared.course.Course.{Course}
use Rattle.apt_stop.specs.Courses.{stop_side}
use Rattle.apt_stop.specs.Choices.{sigma_of, meets_at, touches_on}
use Rattle.apt_stop.specs.Ranges.{IsCourse}
use Rattle.apt_stop.proofs.Moved.{track_target, stop_target}
use Rattle.apt_stop.proofs.Contacts.{contact-near}
use Rattle.apt_stop.proofs.Placed.{placed}
use Rattle.apt_stop.proofs.Sided.{sided}
use Rattle.apt_stop.proofs.Tracks.{sense_to}
use Rattle.apt_stop.proofs.Parts.{on_targets, Meets}

-- ---- a course that meets its stop has a side, which tells the point that is meant
other_side : (side : Sign) → side ≢ signs.Zero → opposite side ≢ signs.Zero
other_side signs.Plus some = λ e. cc
other_side signs.Zero some = absurd (some refl)
other_side signs.Minus some = λ e. cc

module _ (c : Course) (o : Pt) (r : ℤ) where
  abbrev to : Target → Course
  to stop = on_targets c (targets.Circ o r) stop

  pub sigma_is : (stop : Target) → IsCourse (to stop) → Meets (to stop) → IsSense (sigma_of c.sense (stop_side (to stop)) (targets.Circ o r) stop)
  sigma_is (targets.Line e f k) is free =
      let side = stop_side (to (targets.Line e f k)) in
      sense_to (opposite side) c.sense (other_side side (sided (to (targets.Line e f k)) (placed (to (targets.Line e f k)) is) free.past)) is.sense
  sigma_is (targets.Circ p q) is free = sense_to (stop_side (to (targets.Circ p q))) c.sense (sided (to (targets.Circ p q)) (placed (to (targets.Circ p q)) is) free.past) is.sense

  pub meets_on_round : (stop : Target) → IsCourse (to stop) → Meets (to stop)
      → IsNearTarget (targets.Circ o r) (pos 1) (meets_at (to stop) (stop_side (to stop))) × IsNearTarget stop (pos 1) (meets_at (to stop) (stop_side (to stop)))
  meets_on_round stop is free = contact-near (targets.Circ o r) stop (sigma_of c.sense (stop_side (to stop)) (targets.Circ o r) stop) (track_target (to stop) is) (stop_target (to stop) is) (sigma_is stop is free) free.meeting

-- ---- one that touches ends on the axis
pub half_sense : (half : Sign) → half ≢ signs.Zero → IsSense (signed half (pos 1))
half_sense half some = sense_to half (pos 1) some (inl refl)

-- a direction kept or turned round, and turned by a quarter
pub turned_dir : (s : ℤ) (u : Dir) → IsSense s → IsDir u → IsDir (times s u)
turned_dir s u sense is = record {
  dx = rw (size_sense s u.dx sense) is.dx;
  dy = rw (size_sense s u.dy sense) is.dy;
  length = rw (size_sense s u.dx sense, size_sense s u.dy sense) is.length;
}

pub ray_at : (o : Pt) (r : ℤ) (a : Axis) → IsCircleTarget o r → IsDir a.along → a.half ≢ signs.Zero → IsNearTarget (targets.Circ o r) (pos 1) (touches_on (targets.Circ o r) a)
ray_at o r a is dir some =
    let u = times (signed a.half (pos 1)) a.along in
    ray_near (circle_about o r) u (record { centre = is.centre; least = omega (arith, ints, is.least); most = is.most }) (turned_dir (signed a.half (pos 1)) a.along (half_sense a.half some) dir)

pub two_centres : (p q : Pt) → IsPoint p → IsPoint q → length_squared (displacement p q) ≢ 0 → IsDir (displacement p q)
two_centres p q is_p is_q some = way_is_dir p q is_p is_q (some_number (length_squared (displacement p q)) some)
