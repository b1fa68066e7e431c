use Rattle.std.proofs.Common.{◌≡◌, arith, refl, ◌∙◌, w64}
use Rattle.std.proofs.lemmas.Int.{to_z-of_z}
use Rattle.apt_num.specs.Near.{near, IsNear}
use Rattle.apt_canon.proofs.Products.{kept, near_size, sum_kept, sum_fits}
use Rattle.apt_canon.proofs.scale.shifted.Goals as goal

pub overflow_add-result : goal.overflow_add-result
overflow_add-result c =
    let same : c.from.result ≡ c.args.base = c.from.ensures ∙ to_z-of_z w64 c.args.base c.ranges.base in
    let at : IsNear c.args.share c.args.divisor c.div_near.result = rw (kept c.args.share (omega arith), kept c.args.divisor (omega arith)) at c.div_near.ensures.nearest in
    let size = near_size c.args.share c.args.divisor c.div_near.result c.requires.not_zero at in
    rw same (sum_fits c.args.base c.div_near.result (omega arith) (omega arith))

pub returns : goal.returns
returns c =
    let same : c.from.result ≡ c.args.base = c.from.ensures ∙ to_z-of_z w64 c.args.base c.ranges.base in
    let kept_share = kept c.args.share (omega arith) in
    let kept_divisor = kept c.args.divisor (omega arith) in
    let at : IsNear c.args.share c.args.divisor c.div_near.result = rw (kept_share, kept_divisor) at c.div_near.ensures.nearest in
    let value : c.div_near.result ≡ near c.args.share c.args.divisor = rw (kept_share, kept_divisor) at c.div_near.ensures.value in
    let size = near_size c.args.share c.args.divisor c.div_near.result c.requires.not_zero at in
    rw (same, sum_kept c.args.base c.div_near.result (omega arith) (omega arith), value) refl
