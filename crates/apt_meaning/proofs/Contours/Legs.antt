-- The legs of a contour that no case refuses: each is legal with its own vertices, and the second runs on the other side of the stop.
use Rattle.std.proofs.Common.{◌≡◌, refl, sym, ap, subst, ◌∙◌, true, not, List, [], ◌∷◌, ◌++◌, map, is_some}
use Rattle.std.specs.Prelude.{◌||◌}
use Rattle.std.proofs.lemmas.Bool.{not_from_true}
use Rattle.apt_words.specs.Rows.{Row, NoneHolds}
use Rattle.apt_plane.specs.declared.figures.Pt.{Pt}
use Rattle.apt_offset.specs.Turns.{opposite, is_zero}
use Rattle.apt_offset.proofs.Refusals.{opposite-is_zero}
use Rattle.apt_stop.specs.Nearness.{is_near, off_track}
use Rattle.apt_stop.specs.Courses.{axis_of}
use Rattle.apt_stop.specs.Choices.{stop_cases, way_cases}
use Rattle.apt_stop.proofs.Chosen.{end_is_point}
use Rattle.apt_stop.specs.Legs.{ways_of}
use Rattle.apt_stop.proofs.NextLegs.{next_is, next_free, other_side, both_none}
use Rattle.apt_certify.specs.Legal.{last_of}
use Rattle.apt_certify.specs.Legs.{IsBounded}
use Rattle.apt_meaning.specs.declared.motion.Motion.{Motion}
use Rattle.apt_stop.specs.declared.legs.Legs.{Legs}
use Rattle.apt_stop.specs.declared.legs.Legs.TheVariants as legs
use Rattle.apt_stop.proofs.Decided.{none_before, none_behind}
use Rattle.apt_meaning.specs.Motions.{track_of, course_of, stop_side, onward, leg_on, is_defined}
use Rattle.apt_meaning.specs.Cuts.{end_point, vertices_of, motions_of, IsOwnCut}
use Rattle.apt_meaning.specs.Refusals.{motion_cases, cut_cases}
use Rattle.apt_meaning.specs.Ranges.{IsMotion}
use Rattle.apt_meaning.specs.Paths.{Due, first_leg, next_leg, cut_on, IsLegalCut, EveryContour}
use Rattle.apt_meaning.specs.Records.{last_behind, legs_from}
use Rattle.apt_meaning.specs.Vertices.{AreCuts}
use Rattle.apt_meaning.proofs.Contours.Legal.{course_is, side_bounded, defined_bound}
use Rattle.apt_meaning.proofs.Contours.Cuts.{cut_is}

-- ---- the rows of a contour

-- the ways of two legs
abbrev second_rows : Motion → List Row
second_rows m = way_cases (course_of (onward m (end_point m)))

two_ways : (m : Motion) → NoneHolds (cut_cases m legs.Two) → NoneHolds (way_cases (course_of m) ++ second_rows m)
two_ways m none = (none_behind (stop_cases (course_of m)) (ways_of legs.Two (course_of m)) none.1.1.1.1).1

-- what is free of its cases is free of those of a motion to the first meeting
pub first_free : (m : Motion) (n : Legs) → NoneHolds (cut_cases m n) → NoneHolds (motion_cases m)
first_free m legs.One none = none
first_free m legs.Two none =
    let c = course_of m in
    let stop = none_before (stop_cases c) (ways_of legs.Two c) none.1.1.1.1 in
    (none.0, (none.1.0, (none.1.1.0, (none.1.1.1.0, both_none (stop_cases c) (way_cases c) stop (none_before (way_cases c) (second_rows m) (two_ways m none))))))

-- the way of the second leg
second_way : (m : Motion) → NoneHolds (cut_cases m legs.Two) → NoneHolds (way_cases (course_of (onward m (end_point m))))
second_way m none = none_behind (way_cases (course_of m)) (second_rows m) (two_ways m none)

-- ---- the second leg

pub second_is : (m : Motion) → IsMotion m → NoneHolds (motion_cases m) → IsMotion (onward m (end_point m))
second_is m is none = record {
  start = record { xy = end_is_point (course_of m) none.1.1.1.1; z = is.start.z };
  drive = is.drive;
  sense = is.sense;
  check = is.check;
  touching = is.touching;
  radius = is.radius;
  inner = is.inner;
  outer = is.outer;
}

pub second_free : (m : Motion) → IsMotion m → NoneHolds (cut_cases m legs.Two) → NoneHolds (motion_cases (onward m (end_point m)))
second_free m is none =
    let first = first_free m legs.Two none in
    let near = (next_is (course_of m) (course_is m is first) first.1.1.1.1).near in
    (none.0, (none.1.0, (not_from_true (is_near (track_of m) off_track (end_point m)) near, (none.1.1.1.0, next_free (course_of m) first.1.1.1.1 (second_way m none)))))

pub second_side : (m : Motion) → IsMotion m → NoneHolds (cut_cases m legs.Two) → stop_side (onward m (end_point m)) ≡ opposite (stop_side m)
second_side m is none =
    let first = first_free m legs.Two none in
    other_side (course_of m) (course_is m is first) first.1.1.1.1 (second_way m none)

-- ---- all legs, with the compiler's own vertices

pub record AreOwn (m : Motion) (n : Legs) : Type 0 where
  pub legal : EveryContour IsLegalCut (legs_from (first_leg m) (map vertices_of (motions_of m n)))
  pub own : EveryContour IsOwnCut (legs_from (first_leg m) (map vertices_of (motions_of m n)))
  pub cuts : AreCuts (map vertices_of (motions_of m n))
  pub ends : last_behind m.start.xy (map vertices_of (motions_of m n)) ≡ last_behind m.start.xy (map (λ x. end_point x ∷ []) (motions_of m n))

-- a leg that is due where the one before ends, on the side on which it runs there
due_there : (m : Motion) (vertices : List Pt) → last_of m.start.xy vertices ≡ end_point m → stop_side (onward m (end_point m)) ≡ opposite (stop_side m)
    → next_leg (first_leg m) vertices ≡ first_leg (onward m (end_point m))
due_there m vertices e f = rw (e, f) refl

pub legs_are : (m : Motion) (n : Legs) → IsMotion m → NoneHolds (cut_cases m n) → AreOwn m n
legs_are m legs.One is none =
    let cut = cut_is m is none in
    record { legal = (cut.legal, tt); own = (cut.own, tt); cuts = ((cut.some, cut.points), tt); ends = cut.ends }
legs_are m legs.Two is none =
    let first = first_free m legs.Two none in
    let cut = cut_is m is first in
    let there = second_is m is first in
    let next = cut_is (onward m (end_point m)) there (second_free m is none) in
    let due = due_there m (vertices_of m) cut.ends (second_side m is none) in
    let further = vertices_of (onward m (end_point m)) in record {
      legal = (cut.legal, (subst (λ (d : Due). IsLegalCut (cut_on d further)) (sym due) next.legal, tt));
      own = (cut.own, (subst (λ (d : Due). IsOwnCut (cut_on d further)) (sym due) next.own, tt));
      cuts = ((cut.some, cut.points), ((next.some, next.points), tt));
      ends = ap (λ (p : Pt). last_of p further) cut.ends ∙ next.ends;
    }

-- ---- what bounds the legs of a contour whose stop is there

abbrev pub IsBound : Due → Type 0
IsBound d = (not (is_zero d.side) || is_some (axis_of (course_of d.motion))) ≡ true

pub bound_first : (m : Motion) → is_defined m ≡ true → IsBound (first_leg m)
bound_first m is = defined_bound m is

pub bound_next : (d : Due) (vertices : List Pt) → IsBound d → IsBound (next_leg d vertices)
bound_next d vertices bound = ap (λ b. not b || is_some (axis_of (course_of d.motion))) (opposite-is_zero d.side) ∙ bound

pub bounded_due : (d : Due) → IsBound d → IsBounded (leg_on d.motion d.side)
bounded_due d bound = side_bounded d.motion d.side bound
