-- The contact of two targets that meet lies within a unit of both.
use Rattle.std.proofs.Common.{refl, ◌≡◌, ◌≢◌, ℕ, ◌^◌, ◌≤◌, arith, inl, inr, false, ℤ, pos, negsuc, ◌≤ℤ◌}
use Rattle.std.proofs.lemmas.Int.{ints}
use Rattle.apt_plane.specs.declared.figures.Pt.{Pt}
use Rattle.apt_plane.specs.declared.figures.Dir.{Dir}
use Rattle.apt_plane.specs.Vectors.{cross}
use Rattle.apt_plane.specs.Ranges.{IsSense, IsLine}
use Rattle.apt_canon.proofs.Ways.{way-IsDir}
use Rattle.apt_canon.proofs.LineMeetings.Meeting.{meeting_point-near}
use Rattle.apt_canon.proofs.CircleMeetings.LineCircle.{point_on_line, point_on_circle}
use Rattle.apt_canon.proofs.CircleMeetings.CircleCircle.{TwoCircles, point_on_first, point_on_second}
use Rattle.apt_offset.specs.declared.Target.{Target}
use Rattle.apt_offset.specs.declared.Target.TheVariants as targets
use Rattle.apt_offset.specs.Ranges.{IsTarget, IsLineTarget, IsCircleTarget}
use Rattle.apt_contact.specs.declared.Meeting.{Meeting}
use Rattle.apt_contact.specs.declared.Meeting.TheVariants as meetings
use Rattle.apt_contact.specs.Meetings.{line_on, circle_about, of_lines, of_line_and_circle, of_circles, meeting_of, is_parallel, is_apart}
use Rattle.apt_contact.specs.Contacts.{HasMeeting, IsNearTarget, contact_point}
use Rattle.apt_contact.proofs.MeetingLaws.{size_tells}
use Rattle.apt_contact.proofs.ContactLaws.{line_reaches, circles_overlap}

-- they meet where they are not parallel, and not apart
pub has_meeting : (m : Meeting) → is_parallel m ≡ false → is_apart m ≡ false → HasMeeting m
has_meeting meetings.Parallel e f = absurd cc
has_meeting meetings.Apart e f = absurd cc
has_meeting meetings.One e f = tt
has_meeting meetings.Two e f = tt

pub line_of : (b : Pt) (d : Dir) (h : ℤ) → IsLineTarget b d h → IsLine (line_on b d)
line_of b d h is = record { base = is.base; dir = is.dir }

pub lines_cross : (b e : Pt) (d f : Dir) → HasMeeting (of_lines (line_on b d) (line_on e f)) → cross d f ≢ pos 0
lines_cross b e d f m = elim (size_tells (cross d f)) [
  | inl none ↦ absurd (rw none.0 at m)
  | inr some ↦ some.1
]

of_two_lines : (b : Pt) (d : Dir) (h : ℤ) (e : Pt) (f : Dir) (k sigma : ℤ) → IsLineTarget b d h → IsLineTarget e f k → HasMeeting (of_lines (line_on b d) (line_on e f))
    → IsNearTarget (targets.Line b d h) (pos 1) (contact_point (targets.Line b d h) (targets.Line e f k) sigma)
    × IsNearTarget (targets.Line e f k) (pos 1) (contact_point (targets.Line b d h) (targets.Line e f k) sigma)
of_two_lines b d h e f k sigma is_a is_b m =
    meeting_point-near (line_on b d) (line_on e f) h k (line_of b d h is_a) (line_of e f k is_b) is_a.off is_b.off (lines_cross b e d f m)

radius_small : (r : ℕ) → pos r ≤ℤ pos (10 ^ 8) → r ≤ 10 ^ 8
radius_small r h = omega (arith, ints)

radius_some : (r : ℕ) → pos 100 ≤ℤ pos r → 2 ≤ r
radius_some r h = omega (arith, ints)

of_line_and_round : (b : Pt) (d : Dir) (h : ℤ) (c : Pt) (r : ℕ) (sigma : ℤ) → IsLineTarget b d h → IsCircleTarget c (pos r) → IsSense sigma
    → HasMeeting (of_line_and_circle (line_on b d) h (circle_about c (pos r)))
    → IsNearTarget (targets.Line b d h) (pos 1) (contact_point (targets.Line b d h) (targets.Circ c (pos r)) sigma)
    × IsNearTarget (targets.Circ c (pos r)) (pos 1) (contact_point (targets.Line b d h) (targets.Circ c (pos r)) sigma)
of_line_and_round b d h c r sigma is_a is_b sense m =
    let near = line_reaches (line_on b d) h (circle_about c (pos r)) (omega (arith, ints)) m in (
      point_on_line (line_on b d) h (circle_about c (pos r)) sigma r refl (radius_small r is_b.most) (line_of b d h is_a) is_a.off near,
      point_on_circle (line_on b d) h (circle_about c (pos r)) sigma r refl (radius_small r is_b.most) sense (line_of b d h is_a) is_a.off near,
    )

pub two_circles : (c : Pt) (r : ℕ) (d : Pt) (q : ℕ) → IsCircleTarget c (pos r) → IsCircleTarget d (pos q) → HasMeeting (of_circles (circle_about c (pos r)) (circle_about d (pos q)))
    → TwoCircles (circle_about c (pos r)) (circle_about d (pos q)) r q
two_circles c r d q is_a is_b m =
    let meet = circles_overlap (circle_about c (pos r)) (circle_about d (pos q)) m in record {
      first = refl;
      second = refl;
      first_least = radius_some r is_a.least;
      first_most = radius_small r is_a.most;
      second_least = radius_some q is_b.least;
      second_most = radius_small q is_b.most;
      way = way-IsDir c d is_a.centre is_b.centre meet.0;
      inside = meet.1.inside;
      outside = meet.1.outside;
    }

of_two_circles : (c : Pt) (r : ℕ) (d : Pt) (q : ℕ) (sigma : ℤ) → IsCircleTarget c (pos r) → IsCircleTarget d (pos q) → IsSense sigma
    → HasMeeting (of_circles (circle_about c (pos r)) (circle_about d (pos q)))
    → IsNearTarget (targets.Circ c (pos r)) (pos 1) (contact_point (targets.Circ c (pos r)) (targets.Circ d (pos q)) sigma)
    × IsNearTarget (targets.Circ d (pos q)) (pos 1) (contact_point (targets.Circ c (pos r)) (targets.Circ d (pos q)) sigma)
of_two_circles c r d q sigma is_a is_b sense m =
    let two = two_circles c r d q is_a is_b m in
    let a = circle_about c (pos r) in
    let b = circle_about d (pos q) in
    (point_on_first a b sigma r q two sense, point_on_second a b sigma r q two sense)

pub contact-near : (a b : Target) (sigma : ℤ) → IsTarget a → IsTarget b → IsSense sigma → HasMeeting (meeting_of a b)
    → IsNearTarget a (pos 1) (contact_point a b sigma) × IsNearTarget b (pos 1) (contact_point a b sigma)
contact-near (targets.Line b d h) (targets.Line e f k) sigma is_a is_b sense m = of_two_lines b d h e f k sigma is_a is_b m
contact-near (targets.Line b d h) (targets.Circ c (pos r)) sigma is_a is_b sense m = of_line_and_round b d h c r sigma is_a is_b sense m
contact-near (targets.Line b d h) (targets.Circ c (negsuc r)) sigma is_a is_b sense m = absurd (omega (arith, ints, is_b.least))
contact-near (targets.Circ c (pos r)) (targets.Line b d h) sigma is_a is_b sense m =
    let both = of_line_and_round b d h c r sigma is_b is_a sense m in
    (both.1, both.0)
contact-near (targets.Circ c (negsuc r)) (targets.Line b d h) sigma is_a is_b sense m = absurd (omega (arith, ints, is_a.least))
contact-near (targets.Circ c (pos r)) (targets.Circ d (pos q)) sigma is_a is_b sense m = of_two_circles c r d q sigma is_a is_b sense m
contact-near (targets.Circ c (pos r)) (targets.Circ d (negsuc q)) sigma is_a is_b sense m = absurd (omega (arith, ints, is_b.least))
contact-near (targets.Circ c (negsuc r)) (targets.Circ d q) sigma is_a is_b sense m = absurd (omega (arith, ints, is_a.least))
