use Rattle.std.proofs.Common.{◌+◌, arith}
use Rattle.std.proofs.lemmas.Int.{ints}
use Rattle.apt_certify.proofs.Past.{root_small, up_bounds, exact_up, next_up}
use Rattle.apt_certify.proofs.deviations.root_up.Goals as goal

pub returns-then-down-n-clause-bounds : goal.returns-then-down-n-clause-bounds
returns-then-down-n-clause-bounds c =
    let down = c.isqrt-down in
    let small = root_small c.args.n down.result down.ensures.root.low c.requires in
    up_bounds c.args.n (down.result + 1) _ (next_up c.args.n down.result down.ensures.root c.if-down-n.true) (omega (arith, ints, small))

pub returns-then-down-n-clause-small : goal.returns-then-down-n-clause-small
returns-then-down-n-clause-small c =
    let small = root_small c.args.n c.isqrt-down.result c.isqrt-down.ensures.root.low c.requires in
    omega (arith, ints, small)

pub returns-else-down-n-clause-bounds : goal.returns-else-down-n-clause-bounds
returns-else-down-n-clause-bounds c =
    let down = c.isqrt-down in
    let small = root_small c.args.n down.result down.ensures.root.low c.requires in
    up_bounds c.args.n down.result _ (exact_up c.args.n down.result down.ensures.root (omega (arith, c.if-down-n.false))) (omega (arith, ints, small))

pub returns-else-down-n-clause-small : goal.returns-else-down-n-clause-small
returns-else-down-n-clause-small c =
    let small = root_small c.args.n c.isqrt-down.result c.isqrt-down.ensures.root.low c.requires in
    omega (arith, ints, small)
