-- A contour that no case refuses is legal with its own vertices, which are points and lead to its contact.
use Rattle.std.proofs.Common.{◌≡◌, refl, ◌≤◌, List, [], ◌∷◌, length, arith}
use Rattle.apt_words.specs.Rows.{NoneHolds}
use Rattle.apt_plane.specs.declared.figures.Pt.{Pt}
use Rattle.apt_plane.specs.declared.figures.Surface.{Surface}
use Rattle.apt_plane.specs.declared.figures.Surface.TheVariants as surfaces
use Rattle.apt_contact.specs.Meetings.{circle_about}
use Rattle.apt_stop.proofs.Chosen.{end_is_point}
use Rattle.apt_arc.specs.Made.{divided}
use Rattle.apt_arc.proofs.Divided.{divides}
use Rattle.apt_arc.proofs.Steps.{arc_steps}
use Rattle.apt_certify.specs.Jobs.{ArePoints}
use Rattle.apt_certify.specs.Legal.{IsSome, last_of}
use Rattle.apt_meaning.specs.declared.motion.Motion.{Motion}
use Rattle.apt_meaning.specs.Motions.{track_of, course_of}
use Rattle.apt_meaning.specs.Cuts.{end_point, vertices_of, IsOwnOn}
use Rattle.apt_meaning.specs.Refusals.{motion_cases}
use Rattle.apt_meaning.specs.Ranges.{IsMotion}
use Rattle.apt_meaning.specs.Paths.{IsLegalCut, first_leg, cut_on}
use Rattle.apt_meaning.proofs.Contours.Legal.{line_legal}
use Rattle.apt_meaning.proofs.Contours.Arcs.{radius_round, arc_round, arc_is, track_is}
use Rattle.apt_meaning.proofs.Contours.Rounds.{round_legal, steps_last, steps_points}

pub record IsCut (m : Motion) : Type 0 where
  pub legal : IsLegalCut (cut_on (first_leg m) (vertices_of m))
  pub own : IsOwnOn m (track_of m) (vertices_of m)
  pub some : 1 ≤ length (vertices_of m)
  pub points : ArePoints (vertices_of m)
  pub ends : last_of m.start.xy (vertices_of m) ≡ end_point m

at_least_one : (list : List Pt) → IsSome list → 1 ≤ length list
at_least_one [] some = absurd some
at_least_one (p ∷ ps) some = omega arith

own_cut : (m : Motion) (drive : Surface) → IsMotion (record m { drive = drive }) → NoneHolds (motion_cases (record m { drive = drive })) → IsCut (record m { drive = drive })
own_cut m (surfaces.Line l) is none = record {
  legal = line_legal m l is none;
  own = refl;
  some = omega arith;
  points = (end_is_point (course_of (record m { drive = surfaces.Line l })) none.1.1.1.1, tt);
  ends = refl;
}
own_cut m (surfaces.Circ d) is none =
    let arc = arc_is m d is none in
    let steps = arc_steps (arc_round m d) arc in
    let legal = round_legal m d is none in
    let t = circle_about d.c (radius_round m d) in record {
      legal = legal;
      own = divides (arc_round m d) arc;
      some = at_least_one (divided (arc_round m d)) legal.legal.moves;
      points = steps_points t (arc_round m d).sag m.sense m.start.xy m.start.xy (arc_round m d).end (divided (arc_round m d)) (track_is m d is none) steps;
      ends = steps_last t (arc_round m d).sag m.sense m.start.xy m.start.xy (arc_round m d).end (divided (arc_round m d)) steps;
    }

pub cut_is : (m : Motion) → IsMotion m → NoneHolds (motion_cases m) → IsCut m
cut_is m is none = own_cut m m.drive is none
