use Rattle.std.proofs.Common.{arith, ◌*ℤ◌, w64}
use Rattle.std.proofs.lemmas.Int.{to_z-of_z, ints}
use Rattle.apt_canon.proofs.Products.{product_small}
use Rattle.apt_canon.proofs.feet.product.Goals as goal

pub returns-clause-value : goal.returns-clause-value
returns-clause-value c =
    let a = c.args.a in
    let b = c.args.b in
    let small = product_small a b c.requires.a c.requires.b in
    rw (to_z-of_z w64 a c.ranges.a, to_z-of_z w64 b c.ranges.b) (to_z-of_z w64 (a *ℤ b) (omega (arith, ints, small)))

pub returns-clause-small : goal.returns-clause-small
returns-clause-small c =
    let a = c.args.a in
    let b = c.args.b in
    let small = product_small a b c.requires.a c.requires.b in
    rw (to_z-of_z w64 a c.ranges.a, to_z-of_z w64 b c.ranges.b, to_z-of_z w64 (a *ℤ b) (omega (arith, ints, small))) small
