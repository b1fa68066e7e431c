-- The arc of a contour round a circle that no case refuses can be divided.
use Rattle.std.proofs.Common.{◌≡◌, refl, sym, subst, ℕ, ◌+◌, ◌-◌, ◌*◌, ◌/◌, ◌≤◌, ℤ, pos, negsuc, ◌-ℤ◌, ◌*ℤ◌, ◌≤ℤ◌, unsigned_abs, Bool, true, false, List, [], ◌∷◌, Option, Some, None, IfSome, arith}
use Rattle.std.specs.Prelude.{int_lt, is_none, is_some}
use Rattle.std.proofs.lemmas.Int.{ints}
use Rattle.std.proofs.lemmas.Bool.{true≢false, not-false}
use Rattle.apt_num.specs.declared.Sign.{Sign}
use Rattle.apt_words.specs.Rows.{NoneHolds}
use Rattle.apt_plane.specs.declared.figures.Pt.{Pt}
use Rattle.apt_plane.specs.declared.figures.Axis.{Axis}
use Rattle.apt_plane.specs.declared.figures.Circ.{Circ}
use Rattle.apt_plane.specs.declared.figures.Surface.{Surface}
use Rattle.apt_plane.specs.declared.figures.Surface.TheVariants as surfaces
use Rattle.apt_plane.specs.Vectors.{displacement, length_squared}
use Rattle.apt_canon.specs.Scale.{IsNearCircle}
use Rattle.apt_offset.specs.declared.Target.{Target}
use Rattle.apt_offset.specs.declared.Target.TheVariants as targets
use Rattle.apt_offset.specs.Targets.{signed, offset_surface, least_radius}
use Rattle.apt_offset.proofs.Rooms.{HasRoomAbout, circle_room, moved_circle}
use Rattle.apt_contact.specs.Meetings.{circle_about, meeting_of}
use Rattle.apt_contact.specs.Contacts.{HasMeeting}
use Rattle.apt_contact.proofs.ContactLaws.{circles_overlap}
use Rattle.apt_stop.specs.Nearness.{is_near, off_track}
use Rattle.apt_stop.specs.Tangencies.{tangent_axis, IsElsewhere}
use Rattle.apt_stop.specs.Courses.{is_tanto}
use Rattle.apt_stop.specs.Choices.{course_cases}
use Rattle.apt_stop.specs.Ends.{EndsOnCircle}
use Rattle.apt_stop.proofs.Ended.{course_ends}
use Rattle.apt_stop.proofs.Axes.{no_axis, towards-IsDir}
use Rattle.apt_stop.proofs.Rings.{ring_true}
use Rattle.apt_stop.proofs.Parts.{meets, touches}
use Rattle.apt_arc.specs.declared.arc.Arc.{Arc}
use Rattle.apt_arc.specs.Made.{divided}
use Rattle.apt_arc.specs.Ranges.{IsTrack, IsSag, IsArc}
use Rattle.apt_arc.proofs.Tracks.{near_track}
use Rattle.apt_arc.proofs.Arrivals.{near_three}
use Rattle.apt_meaning.specs.declared.motion.Motion.{Motion}
use Rattle.apt_meaning.specs.Motions.{drive_side, course_of, leg_of, track_of}
use Rattle.apt_meaning.specs.Cuts.{end_point, lesser, sag, arc_on, arc_along, arc_of, vertices_on, vertices_of}
use Rattle.apt_meaning.specs.Refusals.{motion_cases}
use Rattle.apt_meaning.specs.Ranges.{IsMotion}
use Rattle.apt_meaning.proofs.Contours.Legal.{course_is}

-- a motion round a circle, the radius of its track, and its arc
abbrev pub round : Motion → Circ → Motion
round m d = record m { drive = surfaces.Circ d }

abbrev pub radius_round : Motion → Circ → ℤ
radius_round m d = d.r -ℤ signed (drive_side m) m.radius

abbrev pub arc_round : Motion → Circ → Arc
arc_round m d = arc_on (round m d) d.c (radius_round m d)

-- ---- its track

pub enough : (r : ℤ) → int_lt r least_radius ≡ false → least_radius ≤ℤ r
enough r e = grind (arith, ints)

pub track_is : (m : Motion) (d : Circ) → IsMotion (round m d) → NoneHolds (motion_cases (round m d)) → IsTrack (circle_about d.c (radius_round m d))
track_is m d is none =
    let room = enough (radius_round m d) none.0 in
    let limit = moved_circle d (drive_side m) m.radius is.drive is.radius room in
    record { least = room; x = limit.0; y = limit.1 }

-- ---- how far its chords may lie inside

lesser-left : (a b : ℤ) → lesser a b ≤ℤ a
lesser-left a b = grind (arith, ints)

lesser-right : (a b : ℤ) → lesser a b ≤ℤ b
lesser-right a b = grind (arith, ints)

lesser-least : (x a b : ℤ) → x ≤ℤ a → x ≤ℤ b → x ≤ℤ lesser a b
lesser-least x a b h g = grind (arith, ints)

quarter : (k : ℤ) → pos 100 ≤ℤ k → (pos 8 ≤ℤ pos (unsigned_abs k / 4)) × ((pos 4 *ℤ pos (unsigned_abs k / 4)) ≤ℤ k)
quarter k least = (omega (arith, ints, least), omega (arith, ints, least))

-- of a band that begins at lo
sag_fits : (c : Pt) (k lo : ℤ) → pos 100 ≤ℤ k → lo ≤ℤ (k -ℤ pos 8) → IsSag (circle_about c k) (lesser (k -ℤ lo) (pos (unsigned_abs k / 4)))
sag_fits c k lo least room =
    let fits = quarter k least in record {
      least = lesser-least (pos 8) (k -ℤ lo) (pos (unsigned_abs k / 4)) (omega (arith, ints, room)) fits.0;
      most = omega (arith, ints, lesser-right (k -ℤ lo) (pos (unsigned_abs k / 4)), fits.1);
    }

pub room_round : (m : Motion) (d : Circ) → IsMotion (round m d) → HasRoomAbout (leg_of (round m d)).band (radius_round m d)
room_round m d is = circle_room d.r (drive_side m) m.radius m.inner m.outer is.inner.least is.outer.least

-- no chord leaves the drive band
pub sag_within : (m : Motion) (d : Circ) → (leg_of (round m d)).band.lo ≤ℤ (radius_round m d -ℤ sag (round m d) (radius_round m d))
sag_within m d =
    let k = radius_round m d in
    let lo = (leg_of (round m d)).band.lo in
    omega (arith, ints, lesser-left (k -ℤ lo) (pos (unsigned_abs k / 4)))

-- ---- its ends

wide : (n : ℕ) → 100 ≤ n → n + 3 ≡ n - 3 + 6
wide n least = omega (arith, least)

near_start : (c : Pt) (r : ℤ) (p : Pt) → IsTrack (circle_about c r) → is_near (targets.Circ c r) off_track p ≡ true → IsNearCircle (circle_about c r) (pos 3) p
near_start c (pos n) p is near =
    let least : 100 ≤ n = omega (arith, ints, is.least) in
    let ring = ring_true n 3 (length_squared (displacement c p)) (omega (arith, least)) near in
    near_track (circle_about c (pos n)) p is (record { low = ring.0; high = subst (λ x. length_squared (displacement c p) ≤ x * x) (wide n least) ring.1 })
near_start c (negsuc n) p is near = absurd (omega (arith, ints, is.least))

-- ---- its check surface is no circle about its centre

met_elsewhere : (o : Pt) (r : ℤ) (check : Surface) (w : Sign) (radius : ℤ) → HasMeeting (meeting_of (targets.Circ o r) (offset_surface check w radius)) → IsElsewhere o check
met_elsewhere o r (surfaces.Line l) w radius meeting = tt
met_elsewhere o r (surfaces.Circ e) w radius meeting = (circles_overlap (circle_about o r) (circle_about e.c (e.r -ℤ signed w radius)) meeting).0

either_there : (o : Option Axis) → is_none o ≡ false → is_some o ≡ false → ⊥
either_there None e f = true≢false e
either_there (Some a) e f = true≢false f

touch_elsewhere : (d : Circ) (check : Surface) → is_none (tangent_axis (surfaces.Circ d) check) ≡ false → IsElsewhere d.c check
touch_elsewhere d (surfaces.Line l) there = tt
touch_elsewhere d (surfaces.Circ e) there = λ same.
    let axis = tangent_axis (surfaces.Circ d) (surfaces.Circ e) in
    either_there axis there ((no_axis axis (surfaces.Circ d) (surfaces.Circ e) refl).1 same)

elsewhere : (m : Motion) (d : Circ) (tanto : Bool) → is_tanto m.how ≡ tanto → NoneHolds (course_cases (course_of (round m d))) → IsElsewhere d.c m.check
elsewhere m d false e none = met_elsewhere d.c (radius_round m d) m.check m.check_side m.radius (meets (course_of (round m d)) e none).meeting
elsewhere m d true e none = touch_elsewhere d m.check (touches (course_of (round m d)) e none).axis

-- ---- all of it

pub ends_round : (m : Motion) (d : Circ) → IsMotion (round m d) → NoneHolds (motion_cases (round m d)) → EndsOnCircle (course_of (round m d)) d.c (end_point (round m d))
ends_round m d is none = course_ends (course_of (round m d)) (course_is (round m d) is none) none.1.1.1.1

pub arc_is : (m : Motion) (d : Circ) → IsMotion (round m d) → NoneHolds (motion_cases (round m d)) → IsArc (arc_round m d)
arc_is m d is none =
    let track = track_is m d is none in
    let ends = ends_round m d is none in record {
      track = track;
      sense = is.sense;
      axis = towards-IsDir d.c m.check is.drive.centre is.check (elsewhere m d (is_tanto m.how) refl none.1.1.1.1);
      sag = sag_fits d.c (radius_round m d) (leg_of (round m d)).band.lo track.least (room_round m d is).lo;
      start = near_start d.c (radius_round m d) m.start.xy track (not-false _ none.1.1.0);
      end = near_three (circle_about d.c (radius_round m d)) (end_point (round m d)) track ends.track;
      apart = ends.apart;
    }

arc_on_drive : (m : Motion) (drive : Surface) → IsMotion (record m { drive = drive }) → NoneHolds (motion_cases (record m { drive = drive })) → IfSome (arc_of (record m { drive = drive })) IsArc
arc_on_drive m (surfaces.Line l) is none = tt
arc_on_drive m (surfaces.Circ d) is none = arc_is m d is none

pub arc_in : (m : Motion) (arc : Option Arc) → arc ≡ arc_of m → IsMotion m → NoneHolds (motion_cases m) → IfSome arc IsArc
arc_in m arc e is none = subst (λ (o : Option Arc). IfSome o IsArc) (sym e) (arc_on_drive m m.drive is none)

-- ---- its vertices, by its arc

abbrev pub vertices_by : Pt → Option Arc → List Pt
vertices_by end None = end ∷ []
vertices_by end (Some arc) = divided arc

vertices_along : (m : Motion) (track : Target) → vertices_on m track ≡ vertices_by (end_point m) (arc_along m track)
vertices_along m (targets.Line b d h) = refl
vertices_along m (targets.Circ c r) = refl

pub vertices-vertices_by : (m : Motion) → vertices_of m ≡ vertices_by (end_point m) (arc_of m)
vertices-vertices_by m = vertices_along m (track_of m)
