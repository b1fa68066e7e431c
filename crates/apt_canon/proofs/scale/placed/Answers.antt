use Rattle.std.proofs.Common.{◌≡◌, arith, ◌+ℤ◌, w64}
use Rattle.std.proofs.lemmas.Int.{to_z-of_z, ints}
use Rattle.apt_num.specs.Near.{near}
use Rattle.apt_canon.proofs.Products.{kept, share_size}
use Rattle.apt_canon.proofs.scale.placed.Goals as goal

pub overflow_cast-result : goal.overflow_cast-result
overflow_cast-result c =
    let value : c.shifted.result ≡ c.args.base +ℤ near c.args.share c.args.length =
    rw (to_z-of_z w64 c.args.base c.ranges.base, kept c.args.share (omega arith), kept c.args.length (omega arith)) at c.shifted.ensures in
    let size = share_size c.args.share c.args.length c.requires.share c.requires.large in
    rw (value, kept (c.args.base +ℤ near c.args.share c.args.length) (omega (arith, ints, size))) (omega (arith, ints, size))

pub returns : goal.returns
returns c =
    let value : c.shifted.result ≡ c.args.base +ℤ near c.args.share c.args.length =
    rw (to_z-of_z w64 c.args.base c.ranges.base, kept c.args.share (omega arith), kept c.args.length (omega arith)) at c.shifted.ensures in
    let size = share_size c.args.share c.args.length c.requires.share c.requires.large in
    rw (value, kept (c.args.base +ℤ near c.args.share c.args.length) (omega (arith, ints, size)))
    (to_z-of_z w64 (c.args.base +ℤ near c.args.share c.args.length) (omega (arith, ints, size)))
