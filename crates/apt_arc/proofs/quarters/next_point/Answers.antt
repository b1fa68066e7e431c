use Rattle.std.proofs.Common.{◌<◌, ◌∙◌, sym, arith}
use Rattle.apt_arc.proofs.Quartered.{none_left, none_next, is_next}
use Rattle.apt_arc.proofs.quarters.next_point.Goals as goal

pub returns-then-left-eq0-clause-none : goal.returns-then-left-eq0-clause-none
returns-then-left-eq0-clause-none c = λ none. none_left c.args.left c.args.arc.now c.args.u c.if-left-eq0.true

pub returns-then-is_on_the_way-clause-some : goal.returns-then-is_on_the_way-clause-some
returns-then-is_on_the_way-clause-some c =
    let some : 0 < c.args.left = omega arith in
    is_next c.args.left c.args.arc.now c.args.u c.point_at-point.result some c.point_at-point.ensures.value (sym c.is_on_the_way.ensures ∙ c.if-is_on_the_way.true)

pub returns-else-is_on_the_way-clause-none : goal.returns-else-is_on_the_way-clause-none
returns-else-is_on_the_way-clause-none c = λ none.
    none_next c.args.left c.args.arc.now c.args.u c.point_at-point.result c.point_at-point.ensures.value (sym c.is_on_the_way.ensures ∙ c.if-is_on_the_way.false)
