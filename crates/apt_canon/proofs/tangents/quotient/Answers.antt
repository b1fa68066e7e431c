use Rattle.std.proofs.Common.{rules, ◌≡◌, ◌≤◌, arith, ◌*ℤ◌, unsigned_abs, FitsSigned, w64}
use Rattle.std.specs.Int.{w128}
use Rattle.std.proofs.lemmas.Int.{ints, to_z-of_z}
use Rattle.apt_num.specs.Near.{near}
use Rattle.apt_canon.proofs.Products.{kept}
use Rattle.apt_canon.proofs.Shares.{share_small}
use Rattle.apt_canon.proofs.tangents.quotient.Goals as goal

pub overflow_cast-result : goal.overflow_cast-result
overflow_cast-result c =
    let fits_n : FitsSigned w64 c.args.n = c.ranges.n in
    let fits_part : FitsSigned w128 c.args.part = c.ranges.part in
    let fits_whole : FitsSigned w128 c.args.whole = c.ranges.whole in
    let fits_product : FitsSigned w128 c.times.result = search rules in
    let product : c.times.result ≡ c.args.n *ℤ c.args.part = simp to_z-of_z at c.times.ensures.value in
    let value : c.div_near.result ≡ near c.times.result c.args.whole = simp to_z-of_z at c.div_near.ensures.value in
    let small : unsigned_abs c.div_near.result ≤ unsigned_abs c.args.n = rw (value, product) (share_small c.args.n c.args.part c.args.whole c.requires.not_zero c.requires.part) in
    rw (kept c.div_near.result (omega arith)) (omega (arith, ints))

pub returns-clause-value : goal.returns-clause-value
returns-clause-value c =
    let fits_n : FitsSigned w64 c.args.n = c.ranges.n in
    let fits_part : FitsSigned w128 c.args.part = c.ranges.part in
    let fits_whole : FitsSigned w128 c.args.whole = c.ranges.whole in
    let fits_product : FitsSigned w128 c.times.result = search rules in
    let product : c.times.result ≡ c.args.n *ℤ c.args.part = simp to_z-of_z at c.times.ensures.value in
    let value : c.div_near.result ≡ near c.times.result c.args.whole = simp to_z-of_z at c.div_near.ensures.value in
    let small : unsigned_abs c.div_near.result ≤ unsigned_abs c.args.n = rw (value, product) (share_small c.args.n c.args.part c.args.whole c.requires.not_zero c.requires.part) in
    let fits : FitsSigned w64 c.div_near.result = omega (arith, ints) in
    rw (kept c.div_near.result (omega arith), to_z-of_z w64 c.div_near.result fits, ← product) value

pub returns-clause-small : goal.returns-clause-small
returns-clause-small c = rw (returns-clause-value c) (share_small c.args.n c.args.part c.args.whole c.requires.not_zero c.requires.part)
