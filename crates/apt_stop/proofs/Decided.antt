-- What the steps of a decision come to, and what its answers say.
use Rattle.std.proofs.Common.{refl, ◌≡◌, ◌↔◌, ◌∙◌, Bool, true, false, ℤ, List, [], ◌∷◌, ◌++◌, Option, Some, None, Result, Ok, Err, IfOk, IsErrOf}
use Rattle.std.specs.Prelude.{if◌then◌else◌, not, is_none}
use Rattle.std.proofs.lemmas.Bool.{not-false}
use Rattle.apt_num.specs.declared.Sign.{Sign}
use Rattle.apt_num.specs.declared.Sign.TheVariants as signs
use Rattle.apt_words.specs.declared.Case.{Case}
use Rattle.apt_words.specs.declared.Case.TheVariants as cases
use Rattle.apt_words.specs.Rows.{Row, first_of, unless, unless_case, NoneHolds}
use Rattle.apt_words.proofs.Rows.{refused_by, first_none}
use Rattle.apt_plane.specs.declared.figures.Pt.{Pt}
use Rattle.apt_plane.specs.declared.figures.Axis.{Axis}
use Rattle.apt_plane.specs.Ranges.{IsPoint}
use Rattle.apt_canon.specs.Scale.{is_in_range}
use Rattle.apt_canon.proofs.Ways.{point_inside}
use Rattle.apt_contact.specs.declared.Meeting.{Meeting}
use Rattle.apt_contact.specs.declared.Meeting.TheVariants as meetings
use Rattle.apt_contact.specs.Meetings.{meeting_of, is_parallel, is_apart}
use Rattle.apt_contact.specs.Contacts.{contact, HasMeeting}
use Rattle.apt_stop.specs.declared.course.Course.{Course}
use Rattle.apt_stop.specs.declared.course.Choice.{Choice}
use Rattle.apt_stop.specs.Gaps.{is_touching}
use Rattle.apt_stop.specs.Tangencies.{tangent_axis}
use Rattle.apt_stop.specs.Courses.{is_tanto, stop_side}
use Rattle.apt_stop.specs.Choices.{is_past, is_past_axis, is_past_or_none, sigma_of, meets_at, touches_at, end_of, stop_cases, way_cases, course_cases, choice_of}
use Rattle.apt_stop.specs.Ends.{IsEndOn}
use Rattle.apt_stop.specs.Ranges.{IsCourse}
use Rattle.apt_stop.specs.Steps.{met, led, meeting, touched, touch}
use Rattle.apt_stop.proofs.Ended.{course_ends}

-- ---- what the steps come to

in_two : (behind inside : Bool) (x : Choice) → (if behind then Err cases.Behind else (if inside then Ok x else Err cases.OutOfRange)) ≡ unless ((behind, cases.Behind) ∷ (not inside, cases.OutOfRange) ∷ []) x
in_two true inside x = refl
in_two false true x = refl
in_two false false x = refl

in_three : (apart behind inside : Bool) (x : Choice)
    → (if not apart then Err cases.NotTangent else (if behind then Err cases.Behind else (if inside then Ok x else Err cases.OutOfRange)))
    ≡ unless ((not apart, cases.NotTangent) ∷ (behind, cases.Behind) ∷ (not inside, cases.OutOfRange) ∷ []) x
in_three true behind inside x = in_two behind inside x
in_three false behind inside x = refl

led_is : (c : Course) → led c ≡ unless ((is_past c c.track c.stop, cases.Behind) ∷ (not (is_in_range (meets_at c (stop_side c))), cases.OutOfRange) ∷ []) (met c)
led_is c = in_two (is_past c c.track c.stop) (is_in_range (meets_at c (stop_side c))) (met c)

-- a choice at a point that was found, or its refusal
abbrev chosen : Sign → Result Pt Case → Result Choice Case
chosen side (Ok p) = Ok (record { side = side; end = p; axis = None })
chosen side (Err case) = Err case

chosen_within : (inside : Bool) (side : Sign) (p : Pt) → chosen side (if inside then Ok p else Err cases.OutOfRange) ≡ (if inside then Ok (record { side = side; end = p; axis = None }) else Err cases.OutOfRange)
chosen_within true side p = refl
chosen_within false side p = refl

-- of a stop that is not past
led_on : (c : Course) → is_past c c.track c.stop ≡ false → chosen (stop_side c) (contact c.track c.stop (sigma_of c.sense (stop_side c) c.track c.stop)) ≡ led c
led_on c ahead = rw ahead (chosen_within (is_in_range (meets_at c (stop_side c))) (stop_side c) (meets_at c (stop_side c)))

pub led_behind : (c : Course) → is_past c c.track c.stop ≡ true → Err cases.Behind ≡ led c
led_behind c behind = rw behind refl

pub led_ok : (c : Course) (side : Sign) (sigma : ℤ) (p : Pt) → is_past c c.track c.stop ≡ false → side ≡ stop_side c → sigma ≡ sigma_of c.sense side c.track c.stop
    → contact c.track c.stop sigma ≡ Ok p → Ok (record { side = side; end = p; axis = None }) ≡ led c
led_ok c side sigma p ahead e f met = rw e (led_by c p ahead (rw (f, e) at met))
  where
    led_by : (c : Course) (p : Pt) → is_past c c.track c.stop ≡ false → contact c.track c.stop (sigma_of c.sense (stop_side c) c.track c.stop) ≡ Ok p
        → Ok (record { side = stop_side c; end = p; axis = None }) ≡ led c
    led_by c p ahead met = rw met at (led_on c ahead)

pub led_err : (c : Course) (side : Sign) (sigma : ℤ) (case : Case) → is_past c c.track c.stop ≡ false → side ≡ stop_side c → sigma ≡ sigma_of c.sense side c.track c.stop
    → contact c.track c.stop sigma ≡ Err case → Err case ≡ led c
led_err c side sigma case ahead e f met = led_by c case ahead (rw (f, e) at met)
  where
    led_by : (c : Course) (case : Case) → is_past c c.track c.stop ≡ false → contact c.track c.stop (sigma_of c.sense (stop_side c) c.track c.stop) ≡ Err case → Err case ≡ led c
    led_by c case ahead met = rw met at (led_on c ahead)

past_meeting : (m : Meeting) (rows : List Row) (x : Choice) → HasMeeting m → unless rows x ≡ unless ((is_parallel m, cases.Parallel) ∷ (is_apart m, cases.NoContact) ∷ rows) x
past_meeting meetings.Parallel rows x has = absurd has
past_meeting meetings.Apart rows x has = absurd has
past_meeting meetings.One rows x has = refl
past_meeting meetings.Two rows x has = refl

pub meets_led : (c : Course) → HasMeeting (meeting_of c.track c.stop) → led c ≡ meeting c
meets_led c has =
    led_is c
    ∙ past_meeting (meeting_of c.track c.stop) ((is_past c c.track c.stop, cases.Behind) ∷ (not (is_in_range (meets_at c (stop_side c))), cases.OutOfRange) ∷ []) (met c) has

pub meeting_is : (c : Course) → is_tanto c.how ≡ false → meeting c ≡ unless (course_cases c) (choice_of c)
meeting_is c e = rw e refl

by_axis : (c : Course) (axis : Option Axis) → touch c axis
    ≡ unless ((is_none axis, cases.Parallel) ∷ (not (is_touching c.drive c.check), cases.NotTangent) ∷ (is_past_or_none c axis, cases.Behind) ∷ (not (is_in_range (touches_at c axis)), cases.OutOfRange) ∷ [])
    (record { side = signs.Zero; end = touches_at c axis; axis = axis })
by_axis c None = refl
by_axis c (Some a) = in_three (is_touching c.drive c.check) (is_past_axis c c.track a) _ (touched c a)

pub touch_is : (c : Course) → is_tanto c.how ≡ true → touch c (tangent_axis c.drive c.check) ≡ unless (course_cases c) (choice_of c)
touch_is c e = rw e (by_axis c (tangent_axis c.drive c.check))

-- ---- conditions of which none holds

pub given_case : {A : Type 0} (refusal : Option Case) (x : A) (P : A → Type 0) → (refusal ≡ None → P x) → IfOk (unless_case refusal x) P
given_case None x P p = p refl
given_case (Some other) x P p = tt

-- what holds of a value that nothing refuses holds of an answer
given_when : {A : Type 0} (rows : List Row) (x : A) (P : A → Type 0) → (NoneHolds rows → P x) → IfOk (unless rows x) P
given_when rows x P p = given_case (first_of rows) x P (λ e. p (first_none rows e))

pub none_behind : (rows more : List Row) → NoneHolds (rows ++ more) → NoneHolds more
none_behind [] more none = none
none_behind (row ∷ rows) more none = none_behind rows more none.1

pub none_before : (rows more : List Row) → NoneHolds (rows ++ more) → NoneHolds rows
none_before [] more none = tt
none_before (row ∷ rows) more none = (none.0, none_before rows more none.1)

pub stop_free : (c : Course) → NoneHolds (course_cases c) → NoneHolds (stop_cases c)
stop_free c none = none_before (stop_cases c) (way_cases c) none

pub way_free : (c : Course) → NoneHolds (course_cases c) → NoneHolds (way_cases c)
way_free c none = none_behind (stop_cases c) (way_cases c) none

-- ---- what an answer says

pub answer_refused : (r : Result Choice Case) (c : Course) → r ≡ unless (course_cases c) (choice_of c) → (case : Case) → IsErrOf r case ↔ (first_of (course_cases c) ≡ Some case)
answer_refused r c e case = rw e (refused_by (course_cases c) (choice_of c) case)

pub answer_range : (r : Result Choice Case) (c : Course) → r ≡ unless (course_cases c) (choice_of c) → IfOk r (λ x. IsPoint x.end)
answer_range r c e =
    rw e (given_when (course_cases c) (choice_of c) (λ x. IsPoint x.end) (λ none. point_inside (end_of c) (not-false (is_in_range (end_of c)) (way_free c none).1.0)))

pub answer_end : (r : Result Choice Case) (c : Course) → IsCourse c → r ≡ unless (course_cases c) (choice_of c) → IfOk r (λ x. IsEndOn c.track c x.end)
answer_end r c is e = rw e (given_when (course_cases c) (choice_of c) (λ x. IsEndOn c.track c x.end) (course_ends c is))
