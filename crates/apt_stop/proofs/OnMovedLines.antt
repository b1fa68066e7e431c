-- Along a line to a line the steps come to the same, and what the formula of two lines answers.
use Rattle.std.proofs.Common.{refl, ◌≡◌, sym, subst, Bool, true, false, [], ◌∷◌, ◌++◌, None, Result, Ok, Err}
use Rattle.std.specs.Prelude.{if◌then◌else◌, not}
use Rattle.apt_num.specs.declared.Sign.{Sign}
use Rattle.apt_words.specs.declared.Case.{Case}
use Rattle.apt_words.specs.declared.Case.TheVariants as cases
use Rattle.apt_words.specs.Rows.{unless}
use Rattle.apt_plane.specs.declared.figures.Pt.{Pt}
use Rattle.apt_plane.specs.declared.figures.Moved.{Moved}
use Rattle.apt_canon.specs.declared.FormFault.{FormFault}
use Rattle.apt_canon.specs.declared.FormFault.TheVariants as faults
use Rattle.apt_canon.specs.Scale.{is_in_range}
use Rattle.apt_canon.specs.Meeting.{are_parallel, meeting_point, line_line}
use Rattle.apt_offset.specs.declared.Target.{Target}
use Rattle.apt_offset.specs.declared.Target.TheVariants as targets
use Rattle.apt_contact.specs.declared.Meeting.TheVariants as meetings
use Rattle.apt_contact.specs.Meetings.{is_parallel, is_apart, meeting_cases}
use Rattle.apt_contact.specs.Contacts.{contact_point}
use Rattle.apt_stop.specs.declared.course.Course.{Course}
use Rattle.apt_stop.specs.declared.course.Choice.{Choice}
use Rattle.apt_stop.specs.Courses.{stop_side}
use Rattle.apt_stop.specs.Choices.{is_past, sigma_of}
use Rattle.apt_stop.specs.Steps.{meeting, straight}

abbrev on : Moved → Target
on m = targets.Line m.line.base m.line.dir m.off

-- of a course by its targets alone, its side and what lies behind it being told
abbrev meeting_to : Course → Target → Target → Result Choice Case
meeting_to c t s =
    let end = contact_point t s (sigma_of c.sense (stop_side c) t s) in
    unless (meeting_cases t s ++ (is_past c c.track c.stop, cases.Behind) ∷ (not (is_in_range end), cases.OutOfRange) ∷ []) (record { side = stop_side c; end = end; axis = None })

by_tests : (parallel behind inside : Bool) (x : Choice)
    → (if parallel then Err cases.Parallel else (if behind then Err cases.Behind else (if inside then Ok x else Err cases.OutOfRange)))
    ≡ unless
    ((is_parallel (if parallel then meetings.Parallel else meetings.One), cases.Parallel)
    ∷ (is_apart (if parallel then meetings.Parallel else meetings.One), cases.NoContact)
    ∷ (behind, cases.Behind)
    ∷ (not inside, cases.OutOfRange) ∷ [])
    x
by_tests true behind inside x = refl
by_tests false true inside x = refl
by_tests false false true x = refl
by_tests false false false x = refl

straight_to : (c : Course) (track stop : Moved) → straight c track stop ≡ meeting_to c (on track) (on stop)
straight_to c track stop =
    let end = meeting_point track.line track.off stop.line stop.off in
    by_tests (are_parallel track.line stop.line) (is_past c c.track c.stop) (is_in_range end) (record { side = stop_side c; end = end; axis = None })

pub straight_is : (c : Course) (track stop : Moved) → c.track ≡ on track → c.stop ≡ on stop → straight c track stop ≡ meeting c
straight_is c track stop e f =
    subst (λ (t : Target). straight c track stop ≡ meeting_to c t c.stop) (sym e)
    (subst (λ (s : Target). straight c track stop ≡ meeting_to c (on track) s) (sym f) (straight_to c track stop))

-- ---- what the formula answers

abbrev choice : Sign → Pt → Choice
choice side p = record { side = side; end = p; axis = None }

ok_by : (inside : Bool) (side : Sign) (p q : Pt) → (if inside then Ok p else Err faults.OutOfRange) ≡ Ok q
    → Ok (choice side q) ≡ (if inside then Ok (choice side p) else Err cases.OutOfRange)
ok_by true side p q e = cc
ok_by false side p q e = absurd cc

err_by : (inside : Bool) (x : Choice) (p : Pt) (fault : FormFault) → (if inside then Ok p else Err faults.OutOfRange) ≡ Err fault
    → Err cases.OutOfRange ≡ (if inside then Ok x else Err cases.OutOfRange)
err_by true x p fault e = absurd cc
err_by false x p fault e = refl

pub straight_ok : (c : Course) (track stop : Moved) (side : Sign) (q : Pt) → are_parallel track.line stop.line ≡ false → is_past c c.track c.stop ≡ false → side ≡ stop_side c
    → line_line track.line track.off stop.line stop.off ≡ Ok q → Ok (choice side q) ≡ straight c track stop
straight_ok c track stop side q apart ahead e met =
    let end = meeting_point track.line track.off stop.line stop.off in
    rw (apart, ahead, e) (ok_by (is_in_range end) (stop_side c) end q (rw apart at met))

pub straight_err : (c : Course) (track stop : Moved) (fault : FormFault) → are_parallel track.line stop.line ≡ false → is_past c c.track c.stop ≡ false
    → line_line track.line track.off stop.line stop.off ≡ Err fault → Err cases.OutOfRange ≡ straight c track stop
straight_err c track stop fault apart ahead met =
    let end = meeting_point track.line track.off stop.line stop.off in
    rw (apart, ahead) (err_by (is_in_range end) (record { side = stop_side c; end = end; axis = None }) end fault (rw apart at met))

pub straight_behind : (c : Course) (track stop : Moved) → are_parallel track.line stop.line ≡ false → is_past c c.track c.stop ≡ true → Err cases.Behind ≡ straight c track stop
straight_behind c track stop apart behind = rw (apart, behind) refl
