use Rattle.std.proofs.Common.{rules, refl, ◌≡◌, ◌≤◌, ◌+◌, ◌*◌, ◌^◌, arith, pos, ◌*ℤ◌, ◌-ℤ◌, unsigned_abs, FitsSigned, w64, ◌∙◌}
use Rattle.std.specs.Int.{w128}
use Rattle.std.proofs.lemmas.Int.{ints, to_z-of_z}
use Rattle.apt_canon.proofs.lines.meeting_displacement.Goals as goal

pub returns-clause-x : goal.returns-clause-x
returns-clause-x c =
    let a = c.args.a.now in
    let b = c.args.b.now in
    let fits_ha : FitsSigned w64 c.args.ha = c.ranges.ha in
    let fits_hb : FitsSigned w64 c.args.hb = c.ranges.hb in
    let fits_pa : FitsSigned w64 a.dir.dx = omega (arith, ints) in
    let fits_pb : FitsSigned w64 b.dir.dx = omega (arith, ints) in
    let fits_la : FitsSigned w128 c.length_of.result = search rules in
    let fits_lb : FitsSigned w128 c.length_of-2.result = search rules in
    let fits_cross : FitsSigned w128 c.height.result = search rules in
    let fits_first : FitsSigned w128 c.times-first.result = search rules in
    let fits_second : FitsSigned w128 c.height_from-second.result = search rules in
    let fits_result : FitsSigned w128 c.product_difference.result = search rules in
    let first : c.times-first.result ≡ c.args.ha *ℤ c.length_of.result = simp to_z-of_z at c.times-first.ensures.value in
    let second : c.height_from-second.result ≡ (c.args.hb *ℤ c.length_of-2.result) -ℤ (c.height.result *ℤ pos (2 ^ 35)) = simp to_z-of_z at c.height_from-second.ensures.value in
    let value : c.product_difference.result ≡ (b.dir.dx *ℤ c.times-first.result) -ℤ (a.dir.dx *ℤ c.height_from-second.result) = simp to_z-of_z at c.product_difference.ensures.value in
    to_z-of_z w128 c.product_difference.result fits_result ∙ value ∙ rw (first, second, c.length_of.ensures.value, c.length_of-2.ensures.value, c.height.ensures.value) refl

pub returns-clause-y : goal.returns-clause-y
returns-clause-y c =
    let a = c.args.a.now in
    let b = c.args.b.now in
    let fits_ha : FitsSigned w64 c.args.ha = c.ranges.ha in
    let fits_hb : FitsSigned w64 c.args.hb = c.ranges.hb in
    let fits_pa : FitsSigned w64 a.dir.dy = omega (arith, ints) in
    let fits_pb : FitsSigned w64 b.dir.dy = omega (arith, ints) in
    let fits_la : FitsSigned w128 c.length_of.result = search rules in
    let fits_lb : FitsSigned w128 c.length_of-2.result = search rules in
    let fits_cross : FitsSigned w128 c.height.result = search rules in
    let fits_first : FitsSigned w128 c.times-first.result = search rules in
    let fits_second : FitsSigned w128 c.height_from-second.result = search rules in
    let fits_result : FitsSigned w128 c.product_difference-2.result = search rules in
    let first : c.times-first.result ≡ c.args.ha *ℤ c.length_of.result = simp to_z-of_z at c.times-first.ensures.value in
    let second : c.height_from-second.result ≡ (c.args.hb *ℤ c.length_of-2.result) -ℤ (c.height.result *ℤ pos (2 ^ 35)) = simp to_z-of_z at c.height_from-second.ensures.value in
    let value : c.product_difference-2.result ≡ (b.dir.dy *ℤ c.times-first.result) -ℤ (a.dir.dy *ℤ c.height_from-second.result) = simp to_z-of_z at c.product_difference-2.ensures.value in
    to_z-of_z w128 c.product_difference-2.result fits_result ∙ value ∙ rw (first, second, c.length_of.ensures.value, c.length_of-2.ensures.value, c.height.ensures.value) refl

pub returns-clause-x_small : goal.returns-clause-x_small
returns-clause-x_small c =
    let fits_la : FitsSigned w128 c.length_of.result = search rules in
    let fits_first : FitsSigned w128 c.times-first.result = search rules in
    let fits_second : FitsSigned w128 c.height_from-second.result = search rules in
    let fits_result : FitsSigned w128 c.product_difference.result = search rules in
    let first : unsigned_abs c.times-first.result ≤ 10 ^ 8 * unsigned_abs c.length_of.result = simp to_z-of_z at c.times-first.ensures.small in
    let size : unsigned_abs c.product_difference.result ≤ 10 ^ 8 * (unsigned_abs c.times-first.result + unsigned_abs c.height_from-second.result) = simp to_z-of_z at c.product_difference.ensures.small in
    rw (to_z-of_z w128 c.product_difference.result fits_result) (omega arith)

pub returns-clause-y_small : goal.returns-clause-y_small
returns-clause-y_small c =
    let fits_la : FitsSigned w128 c.length_of.result = search rules in
    let fits_first : FitsSigned w128 c.times-first.result = search rules in
    let fits_second : FitsSigned w128 c.height_from-second.result = search rules in
    let fits_result : FitsSigned w128 c.product_difference-2.result = search rules in
    let first : unsigned_abs c.times-first.result ≤ 10 ^ 8 * unsigned_abs c.length_of.result = simp to_z-of_z at c.times-first.ensures.small in
    let size : unsigned_abs c.product_difference-2.result ≤ 10 ^ 8 * (unsigned_abs c.times-first.result + unsigned_abs c.height_from-second.result) = simp to_z-of_z at c.product_difference-2.ensures.small in
    rw (to_z-of_z w128 c.product_difference-2.result fits_result) (omega arith)
