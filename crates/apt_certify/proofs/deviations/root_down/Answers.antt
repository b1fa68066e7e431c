use Rattle.std.proofs.Common.{arith}
use Rattle.std.proofs.lemmas.Int.{ints}
use Rattle.apt_certify.proofs.Past.{root_small, down_bounds}
use Rattle.apt_certify.proofs.deviations.root_down.Goals as goal

pub returns-clause-bounds : goal.returns-clause-bounds
returns-clause-bounds c =
    let small = root_small c.args.n c.isqrt.result c.isqrt.ensures.root.low c.requires in
    down_bounds c.args.n c.isqrt.result _ c.isqrt.ensures.root (omega (arith, ints, small))

pub returns-clause-small : goal.returns-clause-small
returns-clause-small c =
    let small = root_small c.args.n c.isqrt.result c.isqrt.ensures.root.low c.requires in
    omega (arith, ints, small)
