use Rattle.std.proofs.Common.{rules, ◌≡◌, ◌≤◌, ◌^◌, ◌*◌, arith, pos, ◌-ℤ◌, ◌*ℤ◌, unsigned_abs, FitsSigned, w64, ◌∙◌}
use Rattle.std.specs.Int.{w128}
use Rattle.std.proofs.lemmas.Int.{ints, to_z-of_z}
use Rattle.apt_canon.proofs.TangentLines.Frame.{reach, falling_x, falling_y, falling_small}
use Rattle.apt_canon.proofs.tangents.falling.Goals as goal

pub returns-clause-x : goal.returns-clause-x
returns-clause-x c =
    let way = c.args.way in
    let across = c.times-across.result in
    let fits_drop : FitsSigned w64 c.args.drop = c.ranges.drop in
    let fits_dx : FitsSigned w64 way.dx = omega (arith, ints) in
    let fits_dy : FitsSigned w64 way.dy = omega (arith, ints) in
    let fits_along : FitsSigned w128 c.reach-along.result = search rules in
    let fits_across : FitsSigned w128 across = search rules in
    let small : unsigned_abs across ≤ 10 ^ 8 * 2 ^ 30 = c.times-across.ensures.small in
    let fits_back : FitsSigned w128 (pos 0 -ℤ across) = omega (arith, ints) in
    let fits_result : FitsSigned w128 c.product_difference.result = search rules in
    let value : c.product_difference.result ≡ (way.dx *ℤ c.reach-along.result) -ℤ (way.dy *ℤ (pos 0 -ℤ across)) = simp to_z-of_z at c.product_difference.ensures.value in
    let turned : across ≡ c.args.drop *ℤ pos (2 ^ 30) = simp to_z-of_z at c.times-across.ensures.value in
    let along : c.reach-along.result ≡ pos (reach way c.args.drop) = simp to_z-of_z at c.reach-along.ensures.value in
    to_z-of_z w128 c.product_difference.result fits_result ∙ value ∙ rw (turned, along) (falling_x way.dx way.dy (pos (reach way c.args.drop)) (c.args.drop *ℤ pos (2 ^ 30)))

pub returns-clause-y : goal.returns-clause-y
returns-clause-y c =
    let way = c.args.way in
    let across = c.times-across.result in
    let fits_drop : FitsSigned w64 c.args.drop = c.ranges.drop in
    let fits_dx : FitsSigned w64 way.dx = omega (arith, ints) in
    let fits_dy : FitsSigned w64 way.dy = omega (arith, ints) in
    let fits_along : FitsSigned w128 c.reach-along.result = search rules in
    let fits_across : FitsSigned w128 across = search rules in
    let fits_result : FitsSigned w128 c.product_difference-2.result = search rules in
    let value : c.product_difference-2.result ≡ (way.dy *ℤ c.reach-along.result) -ℤ (way.dx *ℤ across) = simp to_z-of_z at c.product_difference-2.ensures.value in
    let turned : across ≡ c.args.drop *ℤ pos (2 ^ 30) = simp to_z-of_z at c.times-across.ensures.value in
    let along : c.reach-along.result ≡ pos (reach way c.args.drop) = simp to_z-of_z at c.reach-along.ensures.value in
    to_z-of_z w128 c.product_difference-2.result fits_result ∙ value ∙ rw (turned, along) (falling_y way.dx way.dy (pos (reach way c.args.drop)) (c.args.drop *ℤ pos (2 ^ 30)))

pub returns-clause-x_small : goal.returns-clause-x_small
returns-clause-x_small c = rw (returns-clause-x c) (falling_small c.args.way c.args.drop c.requires.way c.requires.drop).0

pub returns-clause-y_small : goal.returns-clause-y_small
returns-clause-y_small c = rw (returns-clause-y c) (falling_small c.args.way c.args.drop c.requires.way c.requires.drop).1
