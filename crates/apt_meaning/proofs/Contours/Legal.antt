-- A contour along a line that no case refuses is legal, and all that a contour asks for that no case refuses is there.
use Rattle.std.proofs.Common.{◌≡◌, refl, sym, ap, ◌∙◌, pos, Bool, true, false, not, [], ◌∷◌, Option, Some, None, is_some, arith}
use Rattle.std.specs.Prelude.{◌&&◌, ◌||◌}
use Rattle.std.proofs.lemmas.Int.{ints}
use Rattle.std.proofs.lemmas.Bool.{true≢false, not-false}
use Rattle.apt_num.specs.declared.Sign.{Sign}
use Rattle.apt_num.specs.declared.Sign.TheVariants as signs
use Rattle.apt_words.specs.Rows.{NoneHolds}
use Rattle.apt_plane.specs.declared.figures.Pt.{Pt}
use Rattle.apt_plane.specs.declared.figures.Line.{Line}
use Rattle.apt_plane.specs.declared.figures.Band.{Band}
use Rattle.apt_plane.specs.declared.figures.Axis.{Axis}
use Rattle.apt_plane.specs.declared.figures.Surface.{Surface}
use Rattle.apt_plane.specs.declared.figures.Surface.TheVariants as surfaces
use Rattle.apt_plane.specs.Vectors.{scaled, displacement}
use Rattle.apt_plane.specs.Distances.{InBand, EveryPoint}
use Rattle.apt_plane.proofs.SegmentLaws.{in_band-between}
use Rattle.apt_offset.specs.Edges as edges
use Rattle.apt_offset.specs.Edges.{widened}
use Rattle.apt_offset.specs.Turns.{is_zero}
use Rattle.apt_offset.specs.Targets.{signed, lacks_room}
use Rattle.apt_stop.specs.declared.course.Course.{Course}
use Rattle.apt_stop.specs.Nearness.{is_near, off_track}
use Rattle.apt_stop.specs.Courses.{is_tanto, axis_of}
use Rattle.apt_stop.specs.Ends.{IsOnAxisOf, EndsOnLine}
use Rattle.apt_stop.specs.Ranges.{IsCourse}
use Rattle.apt_stop.proofs.NearLaws.{near-OnLine}
use Rattle.apt_stop.proofs.Chosen.{bound_there}
use Rattle.apt_stop.proofs.Tracks.{heading_dot}
use Rattle.apt_stop.proofs.Ended.{course_ends}
use Rattle.apt_stop.proofs.NextLegs.{touch_side}
use Rattle.apt_certify.specs.declared.leg.Leg.{Leg}
use Rattle.apt_certify.specs.Legs.{beyond_of, IsBounded, IsOnAxisOrNone}
use Rattle.apt_meaning.specs.declared.motion.Motion.{Motion}
use Rattle.apt_meaning.specs.Motions.{track_of, stop_of, drive_side, starts_on_check, course_of, stop_side, leg_on, leg_of, has_track, has_bound, is_defined}
use Rattle.apt_meaning.specs.Cuts.{end_point}
use Rattle.apt_meaning.specs.Refusals.{motion_cases}
use Rattle.apt_meaning.specs.Ranges.{IsMotion}
use Rattle.apt_meaning.specs.Paths.{IsLegalCut, first_leg, cut_on}
use Rattle.apt_meaning.proofs.Contours.Bands.{near_surface}
use Rattle.apt_meaning.proofs.Contours.Edges.{kept_before}

-- ---- its course is in range

second_false : (on lacks : Bool) → on ≡ false → (not on && lacks) ≡ false → lacks ≡ false
second_false false lacks e f = f
second_false true lacks e f = absurd (true≢false e)

pub stop_room : (m : Motion) → NoneHolds (motion_cases m) → lacks_room (stop_of m) ≡ false
stop_room m none = second_false (starts_on_check m) (lacks_room (stop_of m)) none.1.1.1.0 none.1.0

pub course_in_range : (m : Motion) → IsMotion m → lacks_room (track_of m) ≡ false → lacks_room (stop_of m) ≡ false → is_near (track_of m) off_track m.start.xy ≡ true → IsCourse (course_of m)
course_in_range m is track stop near = record {
  start = is.start.xy;
  drive = is.drive;
  sense = is.sense;
  check = is.check;
  moved = record {
    at_drive = drive_side m;
    at_check = m.check_side;
    radius = m.radius;
    cutter = is.radius;
    track = refl;
    stop = refl;
    touching = is.touching;
  };
  track_room = track;
  stop_room = stop;
  near = near;
}

pub course_is : (m : Motion) → IsMotion m → NoneHolds (motion_cases m) → IsCourse (course_of m)
course_is m is none = course_in_range m is none.0 (stop_room m none) (not-false _ none.1.1.0)

-- ---- it is bounded

edge_bounded : (leg : Leg) (edge : Sign) (axis : Option Axis) → leg.beyond ≡ edge → leg.axis ≡ axis → (not (is_zero edge) || is_some axis) ≡ true → IsBounded leg
edge_bounded leg signs.Plus axis e f h = rw e tt
edge_bounded leg signs.Minus axis e f h = rw e tt
edge_bounded leg signs.Zero (Some a) e f h = rw (e, f) tt
edge_bounded leg signs.Zero None e f h = absurd (true≢false (sym h))

beyond_is_zero : (check : Surface) (side : Sign) → is_zero (beyond_of check side) ≡ is_zero side
beyond_is_zero (surfaces.Line l) signs.Plus = refl
beyond_is_zero (surfaces.Line l) signs.Zero = refl
beyond_is_zero (surfaces.Line l) signs.Minus = refl
beyond_is_zero (surfaces.Circ c) side = refl

-- on a side of its stop
pub side_bounded : (m : Motion) (side : Sign) → (not (is_zero side) || is_some (axis_of (course_of m))) ≡ true → IsBounded (leg_on m side)
side_bounded m side there =
    edge_bounded (leg_on m side) (beyond_of m.check side) (axis_of (course_of m)) refl refl
    (ap (λ b. not b || is_some (axis_of (course_of m))) (beyond_is_zero m.check side) ∙ there)

pub leg_bounded : (m : Motion) → has_bound m ≡ true → IsBounded (leg_of m)
leg_bounded m there = side_bounded m (stop_side m) there

-- ---- its tests hold

-- where there is no side there is no edge
pub no_edge : (check : Surface) (band : Band) (side : Sign) (p q : Pt) → side ≡ signs.Zero → EveryPoint p q (edges.IsWithinEdge check band (beyond_of check side))
no_edge (surfaces.Line l) band side p q e = rw e (λ j k h. tt)
no_edge (surfaces.Circ c) band side p q e = rw e (λ j k h. tt)

pub no_axis : (c : Course) → is_tanto c.how ≡ false → axis_of c ≡ None
no_axis c e = rw e refl

pub on_axis : (axis : Option Axis) (q : Pt) → IsOnAxisOf axis q → IsOnAxisOrNone axis q
on_axis (Some axis) q on = on
on_axis None q on = absurd on

-- a motion along a line
abbrev pub along : Motion → Line → Motion
along m d = record m { drive = surfaces.Line d }

-- how it ends, by whether it touches
pub record EndsAtStop (m : Motion) (q : Pt) : Type 0 where
  pub before : EveryPoint m.start.xy q (edges.IsWithinEdge m.check (widened (leg_of m).stop_band (pos 0)) (leg_of m).beyond)
  pub stop : InBand m.check (leg_of m).stop_band (scaled q)
  pub axis : IsOnAxisOrNone (leg_of m).axis q

meets : (m : Motion) (d : Line) (q : Pt) → IsMotion m → is_tanto m.how ≡ false → EndsOnLine (course_of m) d.dir q → EndsAtStop m q
meets m d q is meeting ends =
    let at_stop = ends.meets meeting in record {
      before = kept_before m.check m.check_side (stop_side m) m.radius m.inner m.outer m.start.xy q is.inner.least is.outer.least at_stop.kept;
      stop = near_surface m.check m.check_side m.radius m.inner m.outer (pos 1) q is.inner.least is.outer.least (omega (arith, ints)) at_stop.stop;
      axis = rw (no_axis (course_of m) meeting) tt;
    }

touches : (m : Motion) (d : Line) (q : Pt) → IsMotion m → is_tanto m.how ≡ true → EndsOnLine (course_of m) d.dir q → EndsAtStop m q
touches m d q is touching ends =
    let at_stop = ends.touches touching in record {
      before = no_edge m.check (widened (leg_of m).stop_band (pos 0)) (stop_side m) m.start.xy q (touch_side (course_of m) touching);
      stop = near_surface m.check m.check_side m.radius m.inner m.outer (pos 4) q is.inner.least is.outer.least (omega (arith, ints)) at_stop.stop;
      axis = on_axis (axis_of (course_of m)) q at_stop.axis;
    }

ends_at_stop : (m : Motion) (d : Line) (q : Pt) (tanto : Bool) → is_tanto m.how ≡ tanto → IsMotion m → EndsOnLine (course_of m) d.dir q → EndsAtStop m q
ends_at_stop m d q false e is ends = meets m d q is e ends
ends_at_stop m d q true e is ends = touches m d q is e ends

pub line_legal : (m : Motion) (d : Line) → IsMotion (along m d) → NoneHolds (motion_cases (along m d)) → IsLegalCut (cut_on (first_leg (along m d)) (end_point (along m d) ∷ []))
line_legal m d is none =
    let course = course_is (along m d) is none in
    let ends : EndsOnLine (course_of (along m d)) d.dir (end_point (along m d)) = course_ends (course_of (along m d)) course none.1.1.1.1 in
    let start = near-OnLine d (signed (drive_side (along m d)) m.radius) off_track m.start.xy (not-false _ none.1.1.0) in
    let band = (leg_of (along m d)).band in
    let at_start = near_surface (surfaces.Line d) (drive_side (along m d)) m.radius m.inner m.outer (pos 3) m.start.xy is.inner.least is.outer.least (omega (arith, ints)) start in
    let at_end = near_surface (surfaces.Line d) (drive_side (along m d)) m.radius m.inner m.outer (pos 1) (end_point (along m d)) is.inner.least is.outer.least (omega (arith, ints)) ends.track in
    let stop = ends_at_stop (along m d) d (end_point (along m d)) (is_tanto m.how) refl is ends in record {
      bounded = leg_bounded (along m d) (bound_there (course_of (along m d)) course none.1.1.1.1);
      legal = record {
        moves = tt;
        order = (rw (← heading_dot m.sense d.dir (displacement m.start.xy (end_point (along m d)))) ends.ahead, tt);
        band = (in_band-between d band m.start.xy (end_point (along m d)) at_start at_end, tt);
        edge = (stop.before, tt);
        stop = stop.stop;
        axis = stop.axis;
      };
    }

-- ---- what it asks for is there

all_there : (a b c d : Bool) → a ≡ false → b ≡ false → c ≡ false → d ≡ true → (not a && (not b && not c && d)) ≡ true
all_there false false false true e f g h = refl
all_there false false false false e f g h = absurd (true≢false (sym h))
all_there false false true d e f g h = absurd (true≢false g)
all_there false true c d e f g h = absurd (true≢false f)
all_there true b c d e f g h = absurd (true≢false e)

pub motion_defined : (m : Motion) → IsMotion m → NoneHolds (motion_cases m) → is_defined m ≡ true
motion_defined m is none =
    all_there (lacks_room (track_of m)) (starts_on_check m) (lacks_room (stop_of m)) (has_bound m)
    none.0 none.1.1.1.0 (stop_room m none) (bound_there (course_of m) (course_is m is none) none.1.1.1.1)

-- a motion whose stop is there has an edge that it must not pass, or an axis
fourth_there : (a b c d : Bool) → (a && (not b && not c && d)) ≡ true → d ≡ true
fourth_there true false false d e = e
fourth_there true false true d e = absurd (true≢false (sym e))
fourth_there true true c d e = absurd (true≢false (sym e))
fourth_there false b c d e = absurd (true≢false (sym e))

pub defined_bound : (m : Motion) → is_defined m ≡ true → has_bound m ≡ true
defined_bound m is = fourth_there (has_track m) (starts_on_check m) (lacks_room (stop_of m)) (has_bound m) is
