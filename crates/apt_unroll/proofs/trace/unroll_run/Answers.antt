use Rattle.std.proofs.Common.{◌≡◌, ap, ◌∙◌, arith}
use Rattle.apt_unroll.specs.Trace.{trace_from, behind}
use Rattle.apt_unroll.proofs.Prefixes.{nothing_left}
use Rattle.apt_unroll.proofs.trace.unroll_run.Goals as goal

pub returns : goal.returns
returns c =
    let none : 0 ≡ c.steps.left = omega (arith, c.steps-test.false) in
    nothing_left c.steps.steps.items c.steps.step c.args.listing.now.stmts c.steps.run
    ∙ ap (λ left. behind c.steps.steps.items (trace_from left c.steps.step c.args.listing.now.stmts c.steps.run)) none
    ∙ c.steps.invariant.steps
