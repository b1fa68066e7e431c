use Rattle.std.proofs.Common.{◌≡◌, ◌*◌, ◌^◌, ◌≤◌, arith, ◌*ℤ◌, unsigned_abs, FitsSigned, w64, refl}
use Rattle.std.specs.Int.{w128}
use Rattle.std.proofs.lemmas.Int.{to_z-of_z}
use Rattle.apt_canon.proofs.Products.{kept, below, difference_fits, difference_kept, size_difference}
use Rattle.apt_canon.proofs.lines.product_difference.Goals as goal

pub overflow_sub-result : goal.overflow_sub-result
overflow_sub-result c =
    let kept_b = kept c.args.b (omega arith) in
    let kept_d = kept c.args.d (omega arith) in
    let first = below c.times.result c.args.b (rw kept_b at c.times.ensures.small) c.requires.b in
    let second = below c.times-2.result c.args.d (rw kept_d at c.times-2.ensures.small) c.requires.d in
    difference_fits c.times.result c.times-2.result first second

pub returns-clause-value : goal.returns-clause-value
returns-clause-value c =
    let fits_a : FitsSigned w64 c.args.a = c.ranges.a in
    let fits_b : FitsSigned w128 c.args.b = c.ranges.b in
    let fits_c : FitsSigned w64 c.args.c = c.ranges.c in
    let fits_d : FitsSigned w128 c.args.d = c.ranges.d in
    let first = below c.times.result c.args.b (simp to_z-of_z at c.times.ensures.small) c.requires.b in
    let second = below c.times-2.result c.args.d (simp to_z-of_z at c.times-2.ensures.small) c.requires.d in
    let value : c.times.result ≡ c.args.a *ℤ c.args.b = simp to_z-of_z at c.times.ensures.value in
    let value-2 : c.times-2.result ≡ c.args.c *ℤ c.args.d = simp to_z-of_z at c.times-2.ensures.value in
    rw (difference_kept c.times.result c.times-2.result first second, ← value, ← value-2) refl

pub returns-clause-small : goal.returns-clause-small
returns-clause-small c =
    let size : unsigned_abs c.times.result ≤ 10 ^ 8 * unsigned_abs c.args.b = rw (kept c.args.b (omega arith)) at c.times.ensures.small in
    let size-2 : unsigned_abs c.times-2.result ≤ 10 ^ 8 * unsigned_abs c.args.d = rw (kept c.args.d (omega arith)) at c.times-2.ensures.small in
    let first = below c.times.result c.args.b size c.requires.b in
    let second = below c.times-2.result c.args.d size-2 c.requires.d in
    let both = size_difference c.times.result c.times-2.result _ _ size size-2 in
    rw (difference_kept c.times.result c.times-2.result first second) (omega (arith, both))
