-- Where targets meet, what the closed formulas ask for holds, and they have no fault but a point out of range.
use Rattle.std.proofs.Common.{refl, ◌≡◌, ◌≢◌, ℕ, ◌≤◌, Bool, true, false, arith, inl, inr, ℤ, pos, ◌+ℤ◌, ◌-ℤ◌, ◌≤ℤ◌, neg_ℤ, Ok, Err}
use Rattle.std.specs.Prelude.{if◌then◌else◌, not, nat_le}
use Rattle.std.proofs.lemmas.Bool.Decides.{leb_tells, eqb_tells}
use Rattle.apt_num.specs.declared.Sign.{Sign}
use Rattle.apt_num.specs.declared.Sign.TheVariants.{Minus, Zero, Plus}
use Rattle.apt_num.specs.Sign.{square, is_minus, root_sign_of}
use Rattle.apt_num.proofs.AtLeast.{root_sign_at_least}
use Rattle.apt_plane.specs.declared.figures.Pt.{Pt}
use Rattle.apt_plane.specs.declared.figures.Line.{Line}
use Rattle.apt_plane.specs.declared.figures.Circ.{Circ}
use Rattle.apt_plane.specs.Vectors.{displacement, cross, length_squared}
use Rattle.apt_words.specs.declared.Case.TheVariants.{OutOfRange}
use Rattle.apt_canon.specs.declared.FormFault.TheVariants as faults
use Rattle.apt_canon.specs.Scale.{is_in_range, in_range, IsNearLine}
use Rattle.apt_canon.specs.Meeting.{line_line, meeting_point}
use Rattle.apt_canon.specs.Circles.{line_circle, line_circle_point, circle_circle, circle_circle_point, DoMeet}
use Rattle.apt_contact.specs.Meetings.{of_lines, of_line_and_circle, of_circles, by_sides, by_distance}
use Rattle.apt_contact.specs.Contacts.{HasMeeting}
use Rattle.apt_contact.proofs.Sides.{InOrder, Between, signs_in_order, between_is}
use Rattle.apt_contact.proofs.Distances.{Within, Beyond, Inner, Outer, Crossing, cases, no_distance}
use Rattle.apt_contact.proofs.MeetingLaws.{size_tells}

-- ---- two lines

pub lines_meet : (a b : Line) (h k : ℤ) → HasMeeting (of_lines a b) → line_line a h b k ≡ in_range (meeting_point a h b k)
lines_meet a b h k m = elim (size_tells (cross a.dir b.dir)) [
  | inl none ↦ absurd (rw none.0 at m)
  | inr some ↦ rw some.0 refl
]

-- ---- a line and a circle

between_of : (far near : Sign) → InOrder far near → HasMeeting (by_sides far near) → Between far near
between_of Plus near is m = absurd m
between_of Zero Minus is m = absurd (is.up (λ e. cc) refl)
between_of Zero Zero is m = (λ e. cc, λ e. cc)
between_of Zero Plus is m = (λ e. cc, λ e. cc)
between_of Minus Minus is m = absurd m
between_of Minus Zero is m = (λ e. cc, λ e. cc)
between_of Minus Plus is m = (λ e. cc, λ e. cc)

not_minus : (s : Sign) → s ≢ Minus → not (is_minus s) ≡ true
not_minus Minus d = absurd (d refl)
not_minus Zero d = refl
not_minus Plus d = refl

-- the centre is at most the radius away from the line
pub line_reaches : (l : Line) (h : ℤ) (c : Circ) → pos 0 ≤ℤ c.r → HasMeeting (of_line_and_circle l h c) → IsNearLine l h c.r c.c
line_reaches l h c is m =
    let k = cross l.dir (displacement l.base c.c) in
    let n = length_squared l.dir in
    (between_is k h c.r n).0 (between_of (root_sign_of k (h +ℤ c.r) n) (root_sign_of k (h -ℤ c.r) n) (signs_in_order k h c.r n is) m)

pub line_meets_circle : (l : Line) (h : ℤ) (c : Circ) (sigma : ℤ) → pos 0 ≤ℤ c.r → HasMeeting (of_line_and_circle l h c)
    → line_circle l h c sigma ≡ in_range (line_circle_point l h c sigma)
line_meets_circle l h c sigma is m =
    let k = cross l.dir (displacement l.base c.c) in
    let n = length_squared l.dir in
    let on = line_reaches l h c is m in
    let near = not_minus (root_sign_of k (h -ℤ c.r) n) ((root_sign_at_least k (h -ℤ c.r) n).1 on.right) in
    let far = not_minus (root_sign_of (neg_ℤ k) (neg_ℤ h -ℤ c.r) n) ((root_sign_at_least (neg_ℤ k) (neg_ℤ h -ℤ c.r) n).1 on.left) in
    rw (near, far) refl

-- ---- two circles

reached : (least n most : ℕ) → HasMeeting (by_distance least n most) → (least ≤ n) × (n ≤ most)
reached least n most m = elim (cases least n most) [
  | Within h f ↦ absurd (rw f at m)
  | Beyond h f ↦ absurd (rw f at m)
  | Inner h before f ↦ (omega arith, before)
  | Outer h past f ↦ (past, omega arith)
  | Crossing h before f ↦ (omega arith, omega arith)
]

-- their centres are two, and they overlap
pub circles_overlap : (a b : Circ) → HasMeeting (of_circles a b) → (a.c ≢ b.c) × DoMeet a b
circles_overlap a b m = elim (eqb_tells (length_squared (displacement a.c b.c)) 0) [
  | inl one ↦ absurd (rw one.0 at m)
  | inr two ↦
      let within = reached (square (a.r -ℤ b.r)) (length_squared (displacement a.c b.c)) (square (a.r +ℤ b.r)) (rw two.0 at m) in
      (λ same. two.1 ((no_distance a.c b.c).1 same), record { inside = within.0; outside = within.1 })
]

at_most : (x y : ℕ) → x ≤ y → nat_le x y ≡ true
at_most x y h = elim (leb_tells x y) [ inl is ↦ is.0 | inr past ↦ let more = past.1 in absurd (omega arith) ]

pub circles_meet : (a b : Circ) (sigma : ℤ) → HasMeeting (of_circles a b) → circle_circle a b sigma ≡ in_range (circle_circle_point a b sigma)
circles_meet a b sigma m = elim (eqb_tells (length_squared (displacement a.c b.c)) 0) [
  | inl one ↦ absurd (rw one.0 at m)
  | inr two ↦
      let both = (circles_overlap a b m).1 in
      rw (two.0, at_most _ _ both.inside, at_most _ _ both.outside) refl
]

-- ---- what is answered

pub ok_is : (p q : Pt) → Ok q ≡ in_range p → Ok q ≡ (if is_in_range p then Ok p else Err OutOfRange)
ok_is p q e = by_test (is_in_range p) e
  where
    by_test : (fits : Bool) → Ok q ≡ (if fits then Ok p else Err faults.OutOfRange) → Ok q ≡ (if fits then Ok p else Err OutOfRange)
    by_test true e = cc
    by_test false e = absurd cc
