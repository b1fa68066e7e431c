use Rattle.std.proofs.Common.{length, map, ap, ◌∙◌, arith, length-append}
use Rattle.std.proofs.lemmas.List.{length-map}
use Rattle.apt_report.specs.Acts.{arc_lines}
use Rattle.apt_report.proofs.ActLines.{arc_lines_at_least}
use Rattle.apt_core.proofs.taker.ActLinesTaker.with.Goals as goal

pub invariant_of-result : goal.invariant_of-result
invariant_of-result g c =
    let arc = g.A.TapeAct.arc in
    let done = map arc c.args.acts.now in
    let grew = ap length c.in_ok-push_lines.ensures ∙ length-append c.args.self.text.items (arc_lines done) in
    record { few = omega (arith, grew, arc_lines_at_least done, length-map c.args.acts.now arc, c.args.self.few) }

pub overflow_add-result : goal.overflow_add-result
overflow_add-result g c =
    let arc = g.A.TapeAct.arc in
    let done = map arc c.args.acts.now in
    let grew = ap length c.in_ok-push_lines.ensures ∙ length-append c.args.self.text.items (arc_lines done) in
    omega (arith, grew, arc_lines_at_least done, length-map c.args.acts.now arc, c.args.self.few, c.push_lines.new.text.small)
