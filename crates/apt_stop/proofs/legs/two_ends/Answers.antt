use Rattle.std.proofs.Common.{◌∙◌, sym, ap}
use Rattle.apt_words.specs.Rows.{first_of}
use Rattle.apt_stop.specs.declared.course.Choice.{Choice}
use Rattle.apt_stop.specs.Choices.{choice_of, course_cases}
use Rattle.apt_stop.proofs.TwoLegs.{some_choice, free_course, refused_first, refused_next, both_free}
use Rattle.apt_stop.proofs.legs.two_ends.Goals as goal

pub decide_next-requires-clause-none : goal.decide_next-requires-clause-none
decide_next-requires-clause-none c = free_course c.args.c.now c.in-Ok.first c.in-Ok.ensures.value

pub decide_next-requires-clause-end : goal.decide_next-requires-clause-end
decide_next-requires-clause-end c =
    let k = c.args.c.now in
    ap (λ (x : Choice). x.end) (some_choice (first_of (course_cases k)) c.in-Ok.first (choice_of k) c.in-Ok.ensures.value).1

pub returns-in-Err-clause-value : goal.returns-in-Err-clause-value
returns-in-Err-clause-value c = refused_first c.args.c.now c.in-Err.case (sym c.turns_fully.ensures ∙ c.if-turns_fully.false) c.in-Err.ensures.value

pub returns-in-Err-decide_next-clause-value : goal.returns-in-Err-decide_next-clause-value
returns-in-Err-decide_next-clause-value c =
    refused_next c.args.c.now c.in-Ok.first c.in-Err-decide_next.case (sym c.turns_fully.ensures ∙ c.if-turns_fully.false) c.in-Ok.ensures.value c.in-Err-decide_next.ensures.value

pub returns-in-Ok-decide_next-clause-value : goal.returns-in-Ok-decide_next-clause-value
returns-in-Ok-decide_next-clause-value c =
    both_free c.args.c.now c.in-Ok.first c.in-Ok-decide_next.second (sym c.turns_fully.ensures ∙ c.if-turns_fully.false) c.in-Ok.ensures.value c.in-Ok-decide_next.ensures.value
