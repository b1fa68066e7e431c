use Rattle.std.proofs.Common.{refl, arith}
use Rattle.apt_tape.proofs.Comparing.{beside_ends}
use Rattle.apt_tape.proofs.comparison.go_along.Goals as goal

pub returns-then-not-begins_with-clause-beside : goal.returns-then-not-begins_with-clause-beside
returns-then-not-begins_with-clause-beside g c = λ planned before so number.
    beside_ends g.A.TapeAct.arc planned before (g.P.Planned.left c.acts.left) (g.P.Planned.left c.args.plan) c.args.acts.now c.acts.act-index c.acts.next c.act-item.result so c.acts.invariant.same
    c.acts-test.true (omega (arith, number, c.acts.invariant.number)) c.act-item.is (c.if-not-begins_with.ensures.differ refl)
