-- The leg behind a course that nothing refuses: it starts near the stop, and where it leads on it runs on the other side of it.
use Rattle.std.specs.Prelude.{Result, Ok, Err, IfOk}
use Rattle.std.proofs.Common.{refl, ◌≡◌, ◌≢◌, inl, sym, subst, ap, ◌∙◌, arith, ℤ, pos, neg_ℤ, ◌*ℤ◌, Bool, true, false, ◌||◌, List, [], ◌∷◌, ◌++◌}
use Rattle.std.proofs.lemmas.Bool.{true≢false}
use Rattle.apt_num.specs.declared.Sign.{Sign}
use Rattle.apt_num.specs.declared.Sign.TheVariants as signs
use Rattle.apt_num.proofs.Ring.{*ℤ-neg}
use Rattle.apt_words.specs.declared.Case.{Case}
use Rattle.apt_words.specs.Rows.{Row, NoneHolds, first_of, unless}
use Rattle.apt_words.proofs.Rows.{first_none}
use Rattle.apt_plane.specs.declared.figures.Pt.{Pt}
use Rattle.apt_plane.specs.declared.figures.Dir.{Dir}
use Rattle.apt_plane.specs.Ranges.{IsSense, IsPoint}
use Rattle.apt_plane.specs.Vectors.{displacement, cross, dot, length_squared}
use Rattle.apt_plane.proofs.Displacements.{cross_swap, dot_swap}
use Rattle.apt_canon.specs.Circles.{HasSense}
use Rattle.apt_canon.proofs.CircleMeetings.Across.{point_further}
use Rattle.apt_canon.proofs.CircleMeetings.Answers.{beyond}
use Rattle.apt_offset.specs.declared.Target.{Target}
use Rattle.apt_offset.specs.declared.Target.TheVariants as targets
use Rattle.apt_offset.specs.Ranges.{IsTarget}
use Rattle.apt_offset.specs.Turns.{opposite}
use Rattle.apt_offset.specs.Targets.{signed}
use Rattle.apt_contact.specs.Meetings.{line_on, circle_about, meeting_of}
use Rattle.apt_contact.specs.Contacts.{contact_point, HasMeeting, IsNearTarget}
use Rattle.apt_contact.proofs.ContactLaws.{circles_overlap}
use Rattle.apt_stop.specs.declared.course.Course.{Course}
use Rattle.apt_stop.specs.declared.course.Choice.{Choice}
use Rattle.apt_stop.specs.Nearness.{is_near, heading, near_stop}
use Rattle.apt_stop.specs.Courses.{is_tanto, starts_near_stop, headed_side, stop_side, kept_side}
use Rattle.apt_stop.specs.Choices.{sigma_of, end_of, is_past, is_behind, stop_cases, way_cases, course_cases, choice_of, way_on_to}
use Rattle.apt_stop.specs.Ends.{IsEndOn}
use Rattle.apt_stop.specs.Ranges.{IsCourse}
use Rattle.apt_stop.proofs.Ended.{course_ends}
use Rattle.apt_stop.proofs.Chosen.{end_is_point}
use Rattle.apt_stop.proofs.Contacts.{contact-near}
use Rattle.apt_stop.proofs.Decided.{stop_free, given_case}
use Rattle.apt_stop.proofs.Moved.{track_target, stop_target}
use Rattle.apt_stop.proofs.Onwards.{dot_back}
use Rattle.apt_stop.proofs.Parts.{Meets, meets}
use Rattle.apt_stop.proofs.Placed.{placed}
use Rattle.apt_stop.proofs.Sided.{sided}
use Rattle.apt_stop.proofs.Tracks.{heading_dot, sense_to}
use Rattle.apt_stop.specs.Legs.{next_leg, IsSecond}
use Rattle.apt_stop.proofs.Within.{near_within}
use Rattle.apt_stop.proofs.Turned.{turns_over, turned_round, not_twice}

-- ---- it is a course

end_on : (c : Course) (t : Target) (q : Pt) → IsEndOn t c q → IsNearTarget c.track (pos 1) q
end_on c (targets.Line b d h) q ends = ends.track
end_on c (targets.Circ o r) q ends = ends.track

pub ends_on_track : (c : Course) → IsCourse c → NoneHolds (course_cases c) → IsNearTarget c.track (pos 1) (end_of c)
ends_on_track c is none = end_on c c.track (end_of c) (course_ends c is none)

-- from a point in the limit that is at most a unit off its track
pub from_there : (c : Course) (q : Pt) → IsCourse c → IsPoint q → IsNearTarget c.track (pos 1) q → IsCourse (record c { start = q })
from_there c q is point near = record {
  start = point;
  drive = is.drive;
  sense = is.sense;
  check = is.check;
  moved = record {
    at_drive = is.moved.at_drive;
    at_check = is.moved.at_check;
    radius = is.moved.radius;
    cutter = is.moved.cutter;
    track = is.moved.track;
    stop = is.moved.stop;
    touching = is.moved.touching;
  };
  track_room = is.track_room;
  stop_room = is.stop_room;
  near = near_within c.track 3 q (track_target c is) (omega arith) (omega arith) near;
}

pub next_is : (c : Course) → IsCourse c → NoneHolds (course_cases c) → IsCourse (next_leg c)
next_is c is none = from_there c (end_of c) is (end_is_point c none) (ends_on_track c is none)

pub both_none : (rows more : List Row) → NoneHolds rows → NoneHolds more → NoneHolds (rows ++ more)
both_none [] more none later = later
both_none (row ∷ rows) more none later = (none.0, both_none rows more none.1 later)

-- what refuses the stop refuses no leg to it; so where it leads on within the limit, nothing refuses it
pub next_free : (c : Course) → NoneHolds (course_cases c) → NoneHolds (way_cases (next_leg c)) → NoneHolds (course_cases (next_leg c))
next_free c none way = both_none (stop_cases c) (way_cases (next_leg c)) (stop_free c none) way

-- ---- it starts near the stop

opposite_there : (side : Sign) → side ≢ signs.Zero → opposite side ≢ signs.Zero
opposite_there signs.Plus some = λ e. cc
opposite_there signs.Zero some = absurd (some refl)
opposite_there signs.Minus some = λ e. cc

sigma_sense : (t s : Target) (side : Sign) (sense : ℤ) → side ≢ signs.Zero → IsSense sense → IsSense (sigma_of sense side t s)
sigma_sense (targets.Line b d h) (targets.Line e f k) side sense some is = inl refl
sigma_sense (targets.Line b d h) (targets.Circ o r) side sense some is = sense_to side sense some is
sigma_sense (targets.Circ o r) (targets.Line e f k) side sense some is = sense_to (opposite side) sense (opposite_there side some) is
sigma_sense (targets.Circ o r) (targets.Circ q s) side sense some is = sense_to side sense some is

has_a_side : (c : Course) → IsCourse c → Meets c → stop_side c ≢ signs.Zero
has_a_side c is free = sided c (placed c is) free.past

pub ends_near_stop : (c : Course) → IsCourse c → Meets c → is_near c.stop near_stop (end_of c) ≡ true
ends_near_stop c is free =
    let sigma = sigma_of c.sense (stop_side c) c.track c.stop in
    let sense = sigma_sense c.track c.stop (stop_side c) c.sense (has_a_side c is free) is.sense in
    let met = contact-near c.track c.stop sigma (track_target c is) (stop_target c is) sense free.meeting in
    near_within c.stop 8 (end_of c) (stop_target c is) (omega arith) (omega arith) (rw free.end met.1)

-- ---- it runs on the other side

either : (near a b : Bool) → near ≡ true → (near || a) ≡ false → b ≡ true
either true a b e f = absurd (true≢false f)
either false a b e f = absurd (true≢false (sym e))

way_back : (d : Dir) (sense : ℤ) (o p : Pt) → dot (displacement p o) (heading sense d) ≡ neg_ℤ (sense *ℤ dot d (displacement o p))
way_back d sense o p =
    dot_swap (displacement p o) (heading sense d) ∙ heading_dot sense d (displacement p o) ∙ ap (λ (z : ℤ). sense *ℤ z) (dot_back d p o) ∙ *ℤ-neg sense (dot d (displacement o p))

-- from a contact near which it starts, by the targets
by_targets : (c : Course) (t s : Target) (side : Sign) → side ≢ signs.Zero → IsSense c.sense → IsTarget t → IsTarget s → HasMeeting (meeting_of t s)
    → c.start ≡ contact_point t s (sigma_of c.sense side t s) → starts_near_stop c ≡ true → is_past c t s ≡ false → headed_side c t s ≡ opposite side
by_targets c (targets.Line b d h) (targets.Line e f k) side some is is_t is_s meeting at near past = absurd (true≢false (rw near at past))
by_targets c (targets.Line b d h) (targets.Circ o r) side some is is_t is_s meeting at near past =
    let further : HasSense (signed side c.sense) (dot d (displacement o c.start)) (length_squared d) =
    rw at (point_further (line_on b d) h (circle_about o r) (signed side c.sense) (record { base = is_t.base; dir = is_t.dir }) (sense_to side c.sense some is)) in
    let way : way_on_to c d o ≡ neg_ℤ (c.sense *ℤ dot d (displacement o c.start)) = way_back d c.sense o c.start in
    not_twice side c.sense (dot d (displacement o c.start)) (way_on_to c d o) (length_squared d) (omega (arith, is_t.dir.length)) is some further way (rw near at past)
by_targets c (targets.Circ o r) (targets.Line e f k) side some is is_t is_s meeting at near past =
    let further : HasSense (signed (opposite side) c.sense) (dot f (displacement o c.start)) (length_squared f) =
    rw at (point_further (line_on e f) k (circle_about o r) (signed (opposite side) c.sense) (record { base = is_s.base; dir = is_s.dir }) (sense_to (opposite side) c.sense (opposite_there side some) is)) in
    turns_over side c.sense (dot (displacement o c.start) f) (length_squared f) some is (subst (λ (z : ℤ). HasSense (signed (opposite side) c.sense) z (length_squared f)) (dot_swap f (displacement o c.start)) further) (rw near at past)
by_targets c (targets.Circ o r) (targets.Circ q s) side some is is_t is_s meeting at near past =
    let v = displacement o q in
    let w = displacement o c.start in
    let across : HasSense (signed side c.sense) (cross v w) (length_squared v) =
    rw at (beyond (circle_about o r) (circle_about q s) (signed side c.sense) is_t.centre is_s.centre (sense_to side c.sense some is) (circles_overlap (circle_about o r) (circle_about q s) meeting).0) in
    turns_over side c.sense (cross w v) (length_squared v) some is
    (subst (λ (z : ℤ). HasSense (signed (opposite side) c.sense) z (length_squared v)) (sym (cross_swap v w)) (turned_round side c.sense (cross v w) (length_squared v) some across)) (rw near at past)

headed_on : (c : Course) → starts_near_stop c ≡ true → stop_side c ≡ headed_side c c.track c.stop
headed_on c near = rw near refl

-- one that meets its stop
behind_is : (c : Course) → is_tanto c.how ≡ false → is_behind c ≡ is_past c c.track c.stop
behind_is c e = rw e refl

kept_is : (c : Course) → is_tanto c.how ≡ false → kept_side c ≡ stop_side c
kept_is c e = rw e refl

meeting_side : (c : Course) → IsCourse c → NoneHolds (course_cases c) → is_tanto c.how ≡ false → is_behind (next_leg c) ≡ false → kept_side (next_leg c) ≡ opposite (kept_side c)
meeting_side c is none e ahead =
    let free = meets c e none in
    let near : starts_near_stop (next_leg c) ≡ true = ends_near_stop c is free in
    let past : is_past (next_leg c) c.track c.stop ≡ false = sym (behind_is (next_leg c) e) ∙ ahead in
    let headed = by_targets (next_leg c) c.track c.stop (stop_side c) (has_a_side c is free) is.sense (track_target c is) (stop_target c is) free.meeting free.end near past in
    kept_is (next_leg c) e ∙ headed_on (next_leg c) near ∙ headed ∙ sym (ap opposite (kept_is c e))

-- and one that touches
pub touch_side : (c : Course) → is_tanto c.how ≡ true → kept_side c ≡ signs.Zero
touch_side c e = rw e refl

by_touch : (c : Course) (tanto : Bool) → is_tanto c.how ≡ tanto → IsCourse c → NoneHolds (course_cases c) → is_behind (next_leg c) ≡ false → kept_side (next_leg c) ≡ opposite (kept_side c)
by_touch c true e is none ahead = touch_side (next_leg c) e ∙ sym (ap opposite (touch_side c e))
by_touch c false e is none ahead = meeting_side c is none e ahead

-- a leg behind another runs on the other side of their stop, or leads nowhere
pub other_side : (c : Course) → IsCourse c → NoneHolds (course_cases c) → NoneHolds (way_cases (next_leg c)) → kept_side (next_leg c) ≡ opposite (kept_side c)
other_side c is none way = by_touch c (is_tanto c.how) refl is none way.0

-- ---- what decides it

-- rows of which none holds are passed
pub passed_by : {A : Type 0} (rows more : List Row) (x : A) → NoneHolds rows → unless (rows ++ more) x ≡ unless more x
passed_by [] more x none = refl
passed_by (row ∷ rows) more x none = rw none.0 (passed_by rows more x none.1)

pub next_answer : (r : Result Choice Case) (c : Course) → NoneHolds (course_cases c) → r ≡ unless (course_cases (next_leg c)) (choice_of (next_leg c))
    → r ≡ unless (way_cases (next_leg c)) (choice_of (next_leg c))
next_answer r c none e = e ∙ passed_by (stop_cases c) (way_cases (next_leg c)) (choice_of (next_leg c)) (stop_free c none)

next_side : (r : Result Choice Case) (c : Course) → IsCourse c → NoneHolds (course_cases c) → r ≡ unless (way_cases (next_leg c)) (choice_of (next_leg c))
    → IfOk r (λ x. kept_side (next_leg c) ≡ opposite (kept_side c))
next_side r c is none e =
    rw e (given_case (first_of (way_cases (next_leg c))) (choice_of (next_leg c)) (λ x. kept_side (next_leg c) ≡ opposite (kept_side c)) (λ free. other_side c is none (first_none (way_cases (next_leg c)) free)))

both_said : (r : Result Choice Case) (c : Course) → IfOk r (λ x. kept_side (next_leg c) ≡ opposite (kept_side c)) → IfOk r (λ x. IsEndOn c.track (next_leg c) x.end)
    → IfOk r (λ x. IsSecond c x.end)
both_said (Ok x) c side ends = record { side = side; end = ends }
both_said (Err case) c side ends = tt

pub next_second : (r : Result Choice Case) (c : Course) → IsCourse c → NoneHolds (course_cases c) → r ≡ unless (way_cases (next_leg c)) (choice_of (next_leg c))
    → IfOk r (λ x. IsEndOn c.track (next_leg c) x.end) → IfOk r (λ x. IsSecond c x.end)
next_second r c is none e ends = both_said r c (next_side r c is none e) ends
