-- The end of a course along a line that meets its stop.
use Rattle.std.proofs.Common.{refl, ◌≡◌, ◌≢◌, inl, ◌≤◌, ◌<◌, arith, true, ℤ, pos, negsuc, neg_ℤ, ◌<ℤ◌}
use Rattle.std.proofs.lemmas.Int.{ints}
use Rattle.std.proofs.lemmas.Bool.{or_parts}
use Rattle.apt_num.specs.Sign.{OnLine, sign_of}
use Rattle.apt_plane.specs.declared.figures.Pt.{Pt}
use Rattle.apt_plane.specs.declared.figures.Dir.{Dir}
use Rattle.apt_plane.specs.Vectors.{displacement, cross, dot, length_squared}
use Rattle.apt_plane.specs.Distances.{EveryPoint}
use Rattle.apt_plane.proofs.Displacements.{cross_swap}
use Rattle.apt_canon.proofs.CircleMeetings.Across.{point_further}
use Rattle.apt_offset.specs.declared.Target.{Target}
use Rattle.apt_offset.specs.declared.Target.TheVariants as targets
use Rattle.apt_offset.specs.Ranges.{IsLineTarget, IsCircleTarget}
use Rattle.apt_offset.specs.Targets.{signed}
use Rattle.apt_contact.specs.Meetings.{line_on, circle_about}
use Rattle.apt_contact.specs.Contacts.{IsNearTarget}
use Rattle.apt_stop.specs.declared.course.Course.{Course}
use Rattle.apt_stop.specs.Nearness.{heading, is_near, side_of, near_stop, off_track}
use Rattle.apt_stop.specs.Courses.{starts_near_stop, stop_side}
use Rattle.apt_stop.specs.Choices.{meets_at, is_same, way_on_to}
use Rattle.apt_stop.specs.Ranges.{IsCourse}
use Rattle.apt_stop.specs.Ends.{IsKept}
use Rattle.apt_stop.proofs.NearLaws.{near-OnLine}
use Rattle.apt_stop.proofs.Moved.{track_target, stop_target, no_radius}
use Rattle.apt_stop.proofs.Contacts.{contact-near, lines_cross}
use Rattle.apt_stop.proofs.Leads.{Leads}
use Rattle.apt_stop.proofs.ToLines.{keeps_line, leads_to_line, far_by}
use Rattle.apt_stop.proofs.Tracks.{track_runs, sense_to}
use Rattle.apt_stop.proofs.Placed.{placed}
use Rattle.apt_stop.proofs.Sided.{sided}
use Rattle.apt_stop.proofs.Lies.{Lies, lies}
use Rattle.apt_stop.proofs.Towards.{Towards, leads_on, keeps_side}
use Rattle.apt_stop.proofs.Parts.{on_targets, Meets}

-- it runs onwards to an end on both targets, and keeps to its side
pub record Met (c : Course) (d : Dir) (q : Pt) : Type 0 where
  pub ahead : pos 0 <ℤ dot (heading c.sense d) (displacement c.start q)
  pub track : IsNearTarget c.track (pos 1) q
  pub stop : IsNearTarget c.stop (pos 1) q
  pub kept : EveryPoint c.start q (IsKept c.stop near_stop (stop_side c))

neg_apart : (y z : ℤ) → z ≡ neg_ℤ y → y ≢ pos 0 → z ≢ pos 0
neg_apart y z e d f = d (omega (arith, ints, e, f))

-- a start that is near its track
pub starts_on : (b : Pt) (d : Dir) (h : ℤ) (p : Pt) → is_near (targets.Line b d h) off_track p ≡ true → OnLine (cross d (displacement b p)) h (length_squared d) (pos 3)
starts_on b d h p e = near-OnLine (line_on b d) h (pos 3) p e

module _ (c : Course) (b : Pt) (d : Dir) (h : ℤ) where
  abbrev to : Target → Course
  to stop = on_targets c (targets.Line b d h) stop

  pub meets_on_line : (stop : Target) → IsCourse (to stop) → Meets (to stop) → Met (to stop) d (meets_at (to stop) (stop_side (to stop)))
  meets_on_line (targets.Line e f k) is free =
      let n = to (targets.Line e f k) in
      let q = meets_at n (stop_side n) in
      let line : IsLineTarget b d h = track_target n is in
      let other : IsLineTarget e f k = stop_target n is in
      let both = contact-near n.track n.stop (pos 1) line other (inl refl) free.meeting in
      let tests = or_parts (starts_near_stop n) (is_same (side_of n.stop c.start) (sign_of (cross f (heading c.sense d)))) free.past in
      let side : stop_side n ≡ side_of n.stop c.start = rw tests.0 refl in
      let leads : Leads (line_on b d) (line_on e f) h k c.sense (side_of n.stop c.start) c.start q = record {
        drive = omega (arith, line.dir.length);
        check = omega (arith, other.dir.length);
        turn = is.sense;
        start = starts_on b d h c.start is.near;
        track = both.0;
        stop = both.1;
        far = far_by e f k c.start tests.0;
        crosses = neg_apart (cross d f) (cross f d) (cross_swap d f) (lines_cross b e d f free.meeting);
        ahead = tests.1;
      } in record {
        ahead = leads_to_line b d e f h k c.sense (side_of n.stop c.start) c.start q leads;
        track = both.0;
        stop = both.1;
        kept = rw side (keeps_line e f k (side_of n.stop c.start) c.start q (far_by e f k c.start tests.0) both.1);
      }
  meets_on_line (targets.Circ o (pos r)) is free =
      let n = to (targets.Circ o (pos r)) in
      let q = meets_at n (stop_side n) in
      let line : IsLineTarget b d h = track_target n is in
      let circle : IsCircleTarget o (pos r) = stop_target n is in
      let large : 100 ≤ r = omega (arith, ints, circle.least) in
      let some : 0 < length_squared d = omega (arith, line.dir.length) in
      let at : Lies (stop_side n) (way_on_to n d o) (length_squared d) (length_squared (displacement o c.start)) r =
      lies (starts_near_stop n) (way_on_to n d o) (length_squared d) (length_squared (displacement o c.start)) r (omega (arith, large)) some refl free.past in
      let sigma = sense_to (stop_side n) c.sense (sided n (placed n is) free.past) is.sense in
      let both = contact-near n.track n.stop (signed (stop_side n) c.sense) line circle sigma free.meeting in
      let towards : Towards c.start d c.sense o r (stop_side n) q = record {
        turn = is.sense;
        radius = large;
        runs = track_runs b d h c.sense c.start q is.sense some (starts_on b d h c.start is.near) both.0;
        lies = at;
        end = both.1;
        contact = point_further (line_on b d) h (circle_about o (pos r)) (signed (stop_side n) c.sense) (record { base = line.base; dir = line.dir }) sigma;
      } in record {
        ahead = leads_on c.start d c.sense o r (stop_side n) q towards;
        track = both.0;
        stop = both.1;
        kept = keeps_side c.start d c.sense o r (stop_side n) q towards;
      }
  meets_on_line (targets.Circ o (negsuc r)) is free = absurd (no_radius o r (stop_target (to (targets.Circ o (negsuc r))) is))
