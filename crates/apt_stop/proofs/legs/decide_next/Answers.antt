use Rattle.std.proofs.Common.{◌∙◌, sym, ap, subst}
use Rattle.std.specs.Prelude.{IfOk}
use Rattle.apt_words.specs.Rows.{unless}
use Rattle.apt_stop.specs.declared.course.Course.{Course}
use Rattle.apt_stop.specs.Choices.{course_cases, choice_of}
use Rattle.apt_stop.specs.Ends.{IsEndOn}
use Rattle.apt_stop.specs.Ranges.{IsCourse}
use Rattle.apt_stop.proofs.NextLegs.{next_is, next_answer, next_second}
use Rattle.apt_stop.proofs.legs.decide_next.Goals as goal

pub returns-clause-second : goal.returns-clause-second
returns-clause-second c =
    let k = c.args.c.now in
    let is = c.decide.ensures.value ∙ ap (λ (x : Course). unless (course_cases x) (choice_of x)) c.next_course.ensures in
    let ends = subst (λ (k : Course). IfOk c.decide.result (λ x. IsEndOn k.track k x.end)) c.next_course.ensures c.decide.ensures.end in
    next_second c.decide.result k c.requires.course c.requires.none (next_answer c.decide.result k c.requires.none is) ends

pub decide-requires : goal.decide-requires
decide-requires c = subst IsCourse (sym c.next_course.ensures) (next_is c.args.c.now c.requires.course c.requires.none)
