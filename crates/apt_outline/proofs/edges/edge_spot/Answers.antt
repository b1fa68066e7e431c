use Rattle.std.proofs.Common.{arith, FitsSigned, w64}
use Rattle.std.proofs.lemmas.Int.{ints}
use Rattle.apt_outline.proofs.Listed.{never_near, clear_of_far}
use Rattle.apt_outline.proofs.edges.edge_spot.Goals as goal

pub returns-then-rho-le0 : goal.returns-then-rho-le0
returns-then-rho-le0 c =
    let fits : FitsSigned w64 c.args.rho = c.ranges.rho in
    never_near c.args.rho c.args.p c.args.q c.args.a c.args.b (omega (arith, ints, c.if-rho-le0.true))

pub returns-else-rho-le0 : goal.returns-else-rho-le0
returns-else-rho-le0 c =
    let fits : FitsSigned w64 c.args.rho = c.ranges.rho in
    clear_of_far c.args.rho c.unsigned_abs.result c.args.p c.args.q c.args.a c.args.b c.near_spot.result (omega (arith, ints, c.if-rho-le0.false, c.unsigned_abs.ensures.value)) c.near_spot.ensures
