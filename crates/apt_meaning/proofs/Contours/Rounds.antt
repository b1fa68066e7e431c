-- A contour round a circle that no case refuses is legal with the vertices of its arc.
use Rattle.std.proofs.Common.{◌≡◌, refl, sym, subst, ℕ, ◌+◌, ◌*◌, ◌≤◌, ℤ, pos, ◌+ℤ◌, ◌-ℤ◌, ◌≤ℤ◌, unsigned_abs, Bool, true, false, List, [], ◌∷◌, ◌++◌, arith}
use Rattle.std.proofs.lemmas.Int.{ints}
use Rattle.apt_num.proofs.Squares.{root_le}
use Rattle.apt_words.specs.Rows.{NoneHolds}
use Rattle.apt_plane.specs.declared.figures.Pt.{Pt}
use Rattle.apt_plane.specs.declared.figures.Band.{Band}
use Rattle.apt_plane.specs.declared.figures.Circ.{Circ}
use Rattle.apt_plane.specs.declared.figures.Surface.TheVariants as surfaces
use Rattle.apt_plane.specs.Ranges.{IsPoint}
use Rattle.apt_plane.specs.Vectors.{Scaled, scaled}
use Rattle.apt_plane.specs.Distances.{InBand, EveryPoint, IsUnder, about}
use Rattle.apt_plane.proofs.RingLaws.{under_from}
use Rattle.apt_plane.proofs.SegmentLaws.{at_end}
use Rattle.apt_plane.proofs.Weaker.{every_over, every_under}
use Rattle.apt_contact.specs.Meetings.{circle_about}
use Rattle.apt_stop.specs.Courses.{is_tanto, axis_of}
use Rattle.apt_stop.specs.Ends.{EndsOnCircle}
use Rattle.apt_stop.proofs.Chosen.{bound_there}
use Rattle.apt_arc.specs.declared.arc.Arc.{Arc}
use Rattle.apt_arc.specs.Made.{divided}
use Rattle.apt_arc.specs.Ranges.{IsTrack, IsArc}
use Rattle.apt_arc.specs.Steps.{chord_band, IsInside, AreSteps}
use Rattle.apt_arc.specs.Stops.{EveryChord}
use Rattle.apt_arc.proofs.Divided.{divides}
use Rattle.apt_arc.proofs.Steps.{arc_steps, division_ends}
use Rattle.apt_certify.specs.Jobs.{ArePoints}
use Rattle.apt_certify.specs.Legs.{IsWithinSlack, IsOnAxisOrNone}
use Rattle.apt_certify.specs.Legal.{IsSome, last_of, AreInOrder, EveryPointFrom}
use Rattle.apt_meaning.specs.declared.motion.Motion.{Motion}
use Rattle.apt_meaning.specs.Motions.{course_of, leg_of}
use Rattle.apt_meaning.specs.Cuts.{end_point, sag}
use Rattle.apt_meaning.specs.Refusals.{motion_cases}
use Rattle.apt_meaning.specs.Ranges.{IsMotion}
use Rattle.apt_meaning.specs.Paths.{IsLegalCut, first_leg, cut_on}
use Rattle.apt_meaning.proofs.Contours.Bands.{near_surface}
use Rattle.apt_meaning.proofs.Contours.Legal.{course_is, leg_bounded, no_axis, on_axis}
use Rattle.apt_meaning.proofs.Contours.Arcs.{round, radius_round, arc_round, arc_is, room_round, sag_within, ends_round}
use Rattle.apt_meaning.proofs.Contours.Overruns.{round_within}

-- ---- how it ends

record EndsThere (m : Motion) (q : Pt) : Type 0 where
  stop : InBand m.check (leg_of m).stop_band (scaled q)
  axis : IsOnAxisOrNone (leg_of m).axis q

ends_there : (m : Motion) (d : Circ) (q : Pt) (tanto : Bool) → is_tanto m.how ≡ tanto → IsMotion (round m d) → EndsOnCircle (course_of (round m d)) d.c q → EndsThere (round m d) q
ends_there m d q false e is ends = record {
  stop = near_surface m.check m.check_side m.radius m.inner m.outer (pos 1) q is.inner.least is.outer.least (omega (arith, ints)) (ends.meets e);
  axis = rw (no_axis (course_of (round m d)) e) tt;
}
ends_there m d q true e is ends =
    let at_stop = ends.touches e in record {
      stop = near_surface m.check m.check_side m.radius m.inner m.outer (pos 4) q is.inner.least is.outer.least (omega (arith, ints)) at_stop.stop;
      axis = on_axis (axis_of (course_of (round m d))) q at_stop.axis;
    }

-- ---- it is legal

chord_in_band : (d : Circ) (t : Circ) (sag : ℤ) (band : Band) (a b : Pt) → t.c ≡ d.c → band.lo ≤ℤ (t.r -ℤ sag) → (t.r +ℤ pos 3) ≤ℤ band.hi → IsInside t sag a b → EveryPoint a b (InBand (surfaces.Circ d) band)
chord_in_band d t sag band a b same lo hi inside =
    let there : EveryPoint a b (InBand (about d.c) (chord_band t sag)) = subst (λ (o : Pt). EveryPoint a b (InBand (about o) (chord_band t sag))) same inside in
    λ j k some. record {
      lo = every_over (surfaces.Circ d) (t.r -ℤ sag) band.lo a b lo (λ i l more. (there i l more).lo) j k some;
      hi = every_under (surfaces.Circ d) (t.r +ℤ pos 3) band.hi a b hi (λ i l more. (there i l more).hi) j k some;
    }

steps_order : (m : Motion) (d : Circ) (s a e : Pt) (list : List Pt) → AreSteps (circle_about d.c (radius_round m d)) (sag (round m d) (radius_round m d)) m.sense s a list e
    → AreInOrder (leg_of (round m d)) s a list
steps_order m d s a e [] steps = tt
steps_order m d s a e (x ∷ xs) steps = (steps.0, steps_order m d s x e xs steps.2)

steps_band : (m : Motion) (d : Circ) (s a e : Pt) (list : List Pt) → IsMotion (round m d) → AreSteps (circle_about d.c (radius_round m d)) (sag (round m d) (radius_round m d)) m.sense s a list e
    → EveryPointFrom a list (InBand (surfaces.Circ d) (leg_of (round m d)).band)
steps_band m d s a e [] is steps = tt
steps_band m d s a e (x ∷ xs) is steps =
    let t = circle_about d.c (radius_round m d) in
    let band = (leg_of (round m d)).band in
    let hi : (radius_round m d +ℤ pos 3) ≤ℤ band.hi = omega (arith, ints, (room_round m d is).hi) in
    (chord_in_band d t (sag (round m d) (radius_round m d)) band a x refl (sag_within m d) hi steps.1, steps_band m d s x e xs is steps.2)

every_chord : (P : Scaled → Type 0) (a : Pt) (list : List Pt) → EveryChord a list P → EveryPointFrom a list P
every_chord P a [] every = tt
every_chord P a (x ∷ xs) every = (every.0, every_chord P x xs every.1)

pub steps_last : (t : Circ) (sag sense : ℤ) (s a e : Pt) (list : List Pt) → AreSteps t sag sense s a list e → last_of a list ≡ e
steps_last t sag sense s a e [] steps = steps
steps_last t sag sense s a e (x ∷ xs) steps = steps_last t sag sense s x e xs steps.2

last_some : (front : List Pt) (q : Pt) (list : List Pt) → list ≡ front ++ q ∷ [] → IsSome list
last_some [] q list e = rw e tt
last_some (p ∷ ps) q list e = rw e tt

some_chord : (a : Arc) → IsArc a → IsSome (divided a)
some_chord a arc =
    let last = division_ends a (divided a) arc (divides a arc) in
    last_some last.0 a.end (divided a) last.1

pub round_legal : (m : Motion) (d : Circ) → IsMotion (round m d) → NoneHolds (motion_cases (round m d)) → IsLegalCut (cut_on (first_leg (round m d)) (divided (arc_round m d)))
round_legal m d is none =
    let arc = arc_is m d is none in
    let list = divided (arc_round m d) in
    let steps = arc_steps (arc_round m d) arc in
    let last = steps_last (circle_about d.c (radius_round m d)) (arc_round m d).sag m.sense m.start.xy m.start.xy (end_point (round m d)) list steps in
    let ends = subst (EndsThere (round m d)) (sym last) (ends_there m d (end_point (round m d)) (is_tanto m.how) refl is (ends_round m d is none)) in record {
      bounded = leg_bounded (round m d) (bound_there (course_of (round m d)) (course_is (round m d) is none) none.1.1.1.1);
      legal = record {
        moves = some_chord (arc_round m d) arc;
        order = steps_order m d m.start.xy m.start.xy (end_point (round m d)) list steps;
        band = steps_band m d m.start.xy m.start.xy (end_point (round m d)) list is steps;
        edge = every_chord (IsWithinSlack (leg_of (round m d)) (leg_of (round m d)).beyond) m.start.xy list (round_within m d is none);
        stop = ends.stop;
        axis = ends.axis;
      };
    }

-- ---- its vertices are points, of which the last is its end

parts_small : (x y h : ℕ) → x * x + y * y ≤ h * h → (x ≤ h) × (y ≤ h)
parts_small x y h long = (root_le x h (omega (arith, long)), root_le y h (omega (arith, long)))

place_small : (c z : ℤ) (r : ℕ) → unsigned_abs (z -ℤ c) ≤ r + 3 → unsigned_abs c + r ≤ 49500000 → unsigned_abs z ≤ 50000000
place_small c z r h g = omega (arith, ints, h, g)

outer_radius : (t : Circ) → IsTrack t → t.r +ℤ pos 3 ≡ pos (unsigned_abs t.r + 3)
outer_radius t is = omega (arith, ints, is.least)

vertex_point : (t : Circ) (p : Pt) → IsTrack t → IsUnder (about t.c) (t.r +ℤ pos 3) (scaled p) → IsPoint p
vertex_point t p is under =
    let r = unsigned_abs t.r in
    let long = under_from t.c p (r + 3) (subst (λ (z : ℤ). IsUnder (about t.c) z (scaled p)) (outer_radius t is) under) in
    let small = parts_small (unsigned_abs (p.x -ℤ t.c.x)) (unsigned_abs (p.y -ℤ t.c.y)) (r + 3) long in
    record { x = place_small t.c.x p.x r small.0 is.x; y = place_small t.c.y p.y r small.1 is.y }

pub steps_points : (t : Circ) (sag sense : ℤ) (s a e : Pt) (list : List Pt) → IsTrack t → AreSteps t sag sense s a list e → ArePoints list
steps_points t sag sense s a e [] is steps = tt
steps_points t sag sense s a e (x ∷ xs) is steps =
    (vertex_point t x is (at_end (IsUnder (about t.c) (t.r +ℤ pos 3)) a x (λ j k some. (steps.1 j k some).hi)), steps_points t sag sense s x e xs is steps.2)
