use Rattle.std.proofs.Common.{◌≡◌, arith, pos, negsuc}
use Rattle.std.proofs.lemmas.Int.{ints}
use Rattle.apt_certify.proofs.Steps.{kept, negated}
use Rattle.apt_certify.proofs.segments.turned_by.Goals as goal

pub returns-then-sense-lt0 : goal.returns-then-sense-lt0
returns-then-sense-lt0 c =
    let back : c.args.sense ≡ negsuc 0 = omega (arith, ints) in
    negated c.args.sense c.cross_of-area.result _ _ back c.cross_of-area.ensures.value (omega (arith, ints, c.cross_of-area.ensures.small))

pub returns-else-sense-lt0 : goal.returns-else-sense-lt0
returns-else-sense-lt0 c =
    let forwards : c.args.sense ≡ pos 1 = omega (arith, ints) in
    kept c.args.sense c.cross_of-area.result _ _ forwards c.cross_of-area.ensures.value (omega (arith, ints, c.cross_of-area.ensures.small))
