-- No chord of a contour round a circle runs past the edge of its stop.
use Rattle.std.proofs.Common.{◌≡◌, ◌<◌, refl, sym, ap, subst, ◌∙◌, ℤ, pos, negsuc, neg_ℤ, ◌+ℤ◌, ◌-ℤ◌, ◌*ℤ◌, ◌≤ℤ◌, Bool, true, false, List, [], ◌∷◌, arith}
use Rattle.std.proofs.lemmas.Int.{ints}
use Rattle.apt_num.specs.declared.Sign.{Sign}
use Rattle.apt_num.specs.declared.Sign.TheVariants as signs
use Rattle.apt_num.specs.Sign.{OnLine, square}
use Rattle.apt_words.specs.Rows.{NoneHolds}
use Rattle.apt_plane.specs.declared.figures.Pt.{Pt}
use Rattle.apt_plane.specs.declared.figures.Line.{Line}
use Rattle.apt_plane.specs.declared.figures.Circ.{Circ}
use Rattle.apt_plane.specs.declared.figures.Band.{Band}
use Rattle.apt_plane.specs.declared.figures.Surface.{Surface}
use Rattle.apt_plane.specs.declared.figures.Surface.TheVariants as surfaces
use Rattle.apt_plane.specs.Vectors.{Scaled, scaled, displacement, cross, length_squared}
use Rattle.apt_plane.specs.Distances.{EveryPoint, IsAbove, IsBelow}
use Rattle.apt_plane.proofs.SegmentLaws.{above_at, below_at}
use Rattle.apt_plane.proofs.Weaker.{every_over, every_under}
use Rattle.apt_canon.specs.Scale.{IsNearCircle}
use Rattle.apt_canon.specs.Circles.{IsFurther, IsBeyond}
use Rattle.apt_canon.proofs.CircleMeetings.Across.{point_further, point_beyond}
use Rattle.apt_offset.specs.Edges as edges
use Rattle.apt_offset.specs.Edges.{widened}
use Rattle.apt_offset.specs.Targets.{signed}
use Rattle.apt_offset.specs.Turns.{opposite}
use Rattle.apt_offset.proofs.Rooms.{circle_room}
use Rattle.apt_contact.specs.Meetings.{circle_about}
use Rattle.apt_contact.proofs.ContactLaws.{circles_overlap}
use Rattle.apt_stop.specs.Courses.{is_tanto, starts_near_stop, stop_side, kept_side}
use Rattle.apt_stop.proofs.Parts.{Meets, meets}
use Rattle.apt_stop.proofs.Placed.{placed}
use Rattle.apt_stop.proofs.Sided.{sided}
use Rattle.apt_stop.proofs.OnRounds.{sigma_is}
use Rattle.apt_stop.proofs.NextLegs.{touch_side}
use Rattle.apt_arc.specs.declared.arc.Arc.{Arc}
use Rattle.apt_arc.specs.Divisions.{IsDivision}
use Rattle.apt_arc.specs.Made.{divided}
use Rattle.apt_arc.specs.Stops.{EveryChord, IsRoute}
use Rattle.apt_arc.proofs.Divided.{divides}
use Rattle.apt_arc.proofs.LineStops.{line_left, line_right}
use Rattle.apt_arc.proofs.InsideStops.{circle_inside}
use Rattle.apt_arc.proofs.OutsideStops.{circle_outside}
use Rattle.apt_certify.specs.Legs.{beyond_of, slack, slack_of, IsWithinSlack}
use Rattle.apt_meaning.specs.declared.motion.Motion.{Motion}
use Rattle.apt_meaning.specs.Motions.{course_of, leg_of}
use Rattle.apt_meaning.specs.Refusals.{motion_cases}
use Rattle.apt_meaning.specs.Ranges.{IsMotion}
use Rattle.apt_meaning.proofs.Contours.Bands.{band_at-HasRoom}
use Rattle.apt_meaning.proofs.Contours.Legal.{course_is, stop_room, no_edge}
use Rattle.apt_meaning.proofs.Contours.Arcs.{round, arc_round, arc_is, ends_round, sag_within, enough}
use Rattle.apt_meaning.proofs.Contours.Starts.{StartsBeside, starts_beside, StartsBy, starts_by}

-- ---- every chord

every_chord : (P Q : Scaled → Type 0) (a : Pt) (list : List Pt) → ((p q : Pt) → EveryPoint p q P → EveryPoint p q Q) → EveryChord a list P → EveryChord a list Q
every_chord P Q a [] more all = tt
every_chord P Q a (x ∷ xs) more all = (more a x all.0, every_chord P Q x xs more all.1)

all_chords : (Q : Scaled → Type 0) (a : Pt) (list : List Pt) → ((p q : Pt) → EveryPoint p q Q) → EveryChord a list Q
all_chords Q a [] all = tt
all_chords Q a (x ∷ xs) all = (all a x, all_chords Q x xs all)

-- ---- on a side of its stop

-- no further past the edge of a band than past that of another
within_other : (surface : Surface) (band other : Band) (edge : Sign) (p q : Pt) → (edge ≡ signs.Minus → other.lo ≤ℤ band.lo) → (edge ≡ signs.Plus → band.hi ≤ℤ other.hi)
    → EveryPoint p q (edges.IsWithinEdge surface band edge) → EveryPoint p q (edges.IsWithinEdge surface other edge)
within_other surface band other signs.Plus p q lower upper all = every_under surface band.hi other.hi p q (upper refl) all
within_other surface band other signs.Minus p q lower upper all = every_over surface band.lo other.lo p q (lower refl) all
within_other surface band other signs.Zero p q lower upper all = all

end_beside : (l : Line) (h : ℤ) (x : Pt) → OnLine (cross l.dir (displacement l.base x)) h (length_squared l.dir) (pos 1) → IsAbove l (h -ℤ pos 1) (scaled x) × IsBelow l (h +ℤ pos 1) (scaled x)
end_beside l h x on = (above_at l (h -ℤ pos 1) x on.right, below_at l (h +ℤ pos 1) (neg_ℤ h -ℤ pos 1) x (omega (arith, ints)) on.left)

line_beside : (side : Sign) (a : Arc) (l : Line) (h : ℤ) → IsRoute a → 0 < length_squared l.dir → IsFurther l a.track (signed (opposite side) a.sense) a.end → IsAbove l (h -ℤ pos 1) (scaled a.end) × IsBelow l (h +ℤ pos 1) (scaled a.end)
    → StartsBeside side a l h → (list : List Pt) → IsDivision a list → EveryChord a.start list (edges.IsWithinEdge (surfaces.Line l) (widened (record { lo = h; hi = h }) (pos 12)) (opposite side))
line_beside signs.Plus a l h is some further end starts list division = line_left a l h is some further end.0 end.1 starts list division
line_beside signs.Minus a l h is some further end starts list division = line_right a l h is some further end.0 end.1 starts list division
line_beside signs.Zero a l h is some further end starts list division = absurd starts

circle_by : (side : Sign) (a : Arc) (k : Circ) (s : ℤ) → IsRoute a → pos 100 ≤ℤ s → 0 < length_squared (displacement a.track.c k.c) → ((a.track.r -ℤ s) *ℤ (a.track.r -ℤ s)) ≤ℤ pos (length_squared (displacement a.track.c k.c))
    → IsBeyond a.track (circle_about k.c s) (signed side a.sense) a.end → IsNearCircle (circle_about k.c s) (pos 1) a.end → StartsBy side a k.c s
    → (list : List Pt) → IsDivision a list → EveryChord a.start list (edges.IsWithinEdge (surfaces.Circ k) (record { lo = (s -ℤ pos 12) -ℤ a.sag; hi = s +ℤ pos 12 }) side)
circle_by signs.Plus a k s is least some meets beyond end starts list division = circle_inside a (circle_about k.c s) is least some beyond end starts list division
circle_by signs.Minus a k s is least some meets beyond end starts list division = circle_outside a (circle_about k.c s) is least some meets beyond end starts list division
circle_by signs.Zero a k s is least some meets beyond end starts list division = absurd starts

-- ---- a motion round a circle to a surface

abbrev to : Motion → Circ → Surface → Motion
to m d check = record m { drive = surfaces.Circ d; check = check }

abbrev AreWithin : Motion → Circ → Surface → Type 0
AreWithin m d check = EveryChord m.start.xy (divided (arc_round (to m d check) d)) (IsWithinSlack (leg_of (to m d check)) (leg_of (to m d check)).beyond)

route : (m : Motion) (d : Circ) → IsMotion (round m d) → NoneHolds (motion_cases (round m d)) → IsRoute (arc_round m d)
route m d is none =
    let arc = arc_is m d is none in
    record { track = arc.track; sense = arc.sense; axis = arc.axis; sag = arc.sag; start = arc.start; end = (ends_round m d is none).track; apart = arc.apart }

-- a fact of its chords with the edge of another band, at the leg's own
at_edge : (n : Motion) (side : Sign) (list : List Pt) (band : Band) → kept_side (course_of n) ≡ side
    → (beyond_of n.check side ≡ signs.Minus → ((leg_of n).stop_band.lo -ℤ slack_of (leg_of n)) ≤ℤ band.lo) → (beyond_of n.check side ≡ signs.Plus → band.hi ≤ℤ ((leg_of n).stop_band.hi +ℤ slack_of (leg_of n)))
    → EveryChord n.start.xy list (edges.IsWithinEdge n.check band (beyond_of n.check side)) → EveryChord n.start.xy list (IsWithinSlack (leg_of n) (leg_of n).beyond)
at_edge n side list band same lower upper kept =
    let leg = leg_of n in
    let other = widened leg.stop_band (slack_of leg) in
    let edge = beyond_of n.check side in
    every_chord (edges.IsWithinEdge n.check band edge) (IsWithinSlack leg leg.beyond) n.start.xy list
    (λ p q all. subst (λ (b : Sign). EveryPoint p q (edges.IsWithinEdge n.check other b)) (ap (beyond_of n.check) (sym same)) (within_other n.check band other edge p q lower upper all)) kept

to_line : (m : Motion) (d : Circ) (l : Line) → let n = to m d (surfaces.Line l) in IsMotion n → NoneHolds (motion_cases n) → is_tanto m.how ≡ false → Meets (course_of n) → AreWithin m d (surfaces.Line l)
to_line m d l is none meeting free =
    let n = to m d (surfaces.Line l) in
    let c = course_of n in
    let fits = course_is n is none in
    let side = stop_side c in
    let a = arc_round n d in
    let h = signed n.check_side m.radius in
    let turn = signed (opposite side) m.sense in
    let further : IsFurther l a.track turn a.end =
    subst (λ (q : Pt). IsFurther l a.track turn q) (sym free.end) (point_further l h a.track turn is.check (sigma_is c d.c a.track.r c.stop fits free)) in
    let starts = starts_beside side a l h (starts_near_stop c) (sided c (placed c fits) free.past) is.sense refl free.past refl in
    let room = band_at-HasRoom l n.check_side m.radius m.inner m.outer is.inner.least is.outer.least in
    at_edge n side (divided a) (widened (record { lo = h; hi = h }) (pos 12)) free.side (λ e. omega (arith, ints, room.lo)) (λ e. omega (arith, ints, room.hi))
    (line_beside side a l h (route n d is none) (omega (arith, is.check.dir.length)) further (end_beside l h a.end ((ends_round n d is none).meets meeting)) starts (divided a) (divides a (arc_is n d is none)))

own_square : (z : ℤ) → z *ℤ z ≡ pos (square z)
own_square (pos n) = omega (arith, ints)
own_square (negsuc n) = omega (arith, ints)

to_circle : (m : Motion) (d k : Circ) → let n = to m d (surfaces.Circ k) in IsMotion n → NoneHolds (motion_cases n) → is_tanto m.how ≡ false → Meets (course_of n) → AreWithin m d (surfaces.Circ k)
to_circle m d k is none meeting free =
    let n = to m d (surfaces.Circ k) in
    let c = course_of n in
    let fits = course_is n is none in
    let side = stop_side c in
    let a = arc_round n d in
    let s = k.r -ℤ signed n.check_side m.radius in
    let turn = signed side m.sense in
    let least = enough s (stop_room n none) in
    let dir = (arc_is n d is none).axis in
    let beyond : IsBeyond a.track (circle_about k.c s) turn a.end =
    subst (λ (q : Pt). IsBeyond a.track (circle_about k.c s) turn q) (sym free.end) (point_beyond a.track (circle_about k.c s) turn dir (sigma_is c d.c a.track.r c.stop fits free)) in
    let starts = starts_by side a k.c s (starts_near_stop c) (sided c (placed c fits) free.past) least is.sense refl free.past refl in
    let overlap = (circles_overlap a.track (circle_about k.c s) free.meeting).1.inside in
    let meets_track : ((a.track.r -ℤ s) *ℤ (a.track.r -ℤ s)) ≤ℤ pos (length_squared (displacement a.track.c k.c)) = rw (own_square (a.track.r -ℤ s)) (omega (arith, ints, overlap)) in
    let room = circle_room k.r n.check_side m.radius m.inner m.outer is.inner.least is.outer.least in
    let leg = leg_of n in
    let loose = λ (b : Sign). slack leg.drive leg.check b leg.track leg.band in
    at_edge n side (divided a) (record { lo = (s -ℤ pos 12) -ℤ a.sag; hi = s +ℤ pos 12 }) free.side (λ e. omega (arith, ints, room.lo, sag_within n d, ap loose (ap (beyond_of n.check) free.side ∙ e)))
    (λ e. omega (arith, ints, room.hi, ap loose (ap (beyond_of n.check) free.side ∙ e)))
    (circle_by side a k s (route n d is none) least (omega (arith, dir.length)) meets_track beyond ((ends_round n d is none).meets meeting) starts (divided a) (divides a (arc_is n d is none)))

-- ---- to either, and where it touches

meets_within : (m : Motion) (d : Circ) (check : Surface) → IsMotion (to m d check) → NoneHolds (motion_cases (to m d check)) → is_tanto m.how ≡ false → AreWithin m d check
meets_within m d (surfaces.Line l) is none meeting = to_line m d l is none meeting (meets (course_of (to m d (surfaces.Line l))) meeting none.1.1.1.1)
meets_within m d (surfaces.Circ k) is none meeting = to_circle m d k is none meeting (meets (course_of (to m d (surfaces.Circ k))) meeting none.1.1.1.1)

touches_within : (m : Motion) (d : Circ) → is_tanto m.how ≡ true → EveryChord m.start.xy (divided (arc_round m d)) (IsWithinSlack (leg_of (round m d)) (leg_of (round m d)).beyond)
touches_within m d touching =
    let n = round m d in
    let leg = leg_of n in
    all_chords (IsWithinSlack leg leg.beyond) m.start.xy (divided (arc_round m d)) (λ p q. no_edge m.check (widened leg.stop_band (slack_of leg)) (kept_side (course_of n)) p q (touch_side (course_of n) touching))

by_touch : (m : Motion) (d : Circ) (tanto : Bool) → is_tanto m.how ≡ tanto → IsMotion (round m d) → NoneHolds (motion_cases (round m d))
    → EveryChord m.start.xy (divided (arc_round m d)) (IsWithinSlack (leg_of (round m d)) (leg_of (round m d)).beyond)
by_touch m d false e is none = meets_within m d m.check is none e
by_touch m d true e is none = touches_within m d e

-- every point of every chord
pub round_within : (m : Motion) (d : Circ) → IsMotion (round m d) → NoneHolds (motion_cases (round m d))
    → EveryChord m.start.xy (divided (arc_round m d)) (IsWithinSlack (leg_of (round m d)) (leg_of (round m d)).beyond)
round_within m d is none = by_touch m d (is_tanto m.how) refl is none
