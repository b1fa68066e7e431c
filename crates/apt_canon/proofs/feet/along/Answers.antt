use Rattle.std.proofs.Common.{rules, refl, ◌≡◌, ◌^◌, ◌≤◌, arith, pos, ◌+ℤ◌, ◌*ℤ◌, unsigned_abs, FitsSigned, w64}
use Rattle.std.proofs.lemmas.Int.{to_z-of_z, ints}
use Rattle.apt_num.specs.Near.{near}
use Rattle.apt_canon.proofs.Products.{last_first}
use Rattle.apt_canon.proofs.feet.along.Goals as goal

pub overflow_add-result-2 : goal.overflow_add-result-2
overflow_add-result-2 c =
    let fits_cy : FitsSigned w64 c.args.c.y = omega (arith, ints) in
    let fits_way : FitsSigned w64 c.units_over-2.result = search rules in
    let small : unsigned_abs c.units_over-2.result ≤ 10 ^ 16 = c.units_over-2.ensures.small in
    rw (to_z-of_z w64 c.args.c.y fits_cy, to_z-of_z w64 c.units_over-2.result fits_way) (omega (arith, ints, small))

pub returns : goal.returns
returns c =
    let u = c.args.u in
    let fits_cx : FitsSigned w64 c.args.c.x = omega (arith, ints) in
    let fits_cy : FitsSigned w64 c.args.c.y = omega (arith, ints) in
    let fits_dx : FitsSigned w64 u.dx = omega (arith, ints) in
    let fits_dy : FitsSigned w64 u.dy = omega (arith, ints) in
    let fits_distance : FitsSigned w64 c.args.distance = c.ranges.distance in
    let fits_part : FitsSigned w64 c.product.result = search rules in
    let fits_part-2 : FitsSigned w64 c.product-2.result = search rules in
    let fits_way : FitsSigned w64 c.units_over.result = search rules in
    let fits_way-2 : FitsSigned w64 c.units_over-2.result = search rules in
    let small : unsigned_abs c.units_over.result ≤ 10 ^ 16 = c.units_over.ensures.small in
    let small-2 : unsigned_abs c.units_over-2.result ≤ 10 ^ 16 = c.units_over-2.ensures.small in
    let part : c.product.result ≡ c.args.distance *ℤ u.dx = simp to_z-of_z at c.product.ensures.value in
    let part-2 : c.product-2.result ≡ c.args.distance *ℤ u.dy = simp to_z-of_z at c.product-2.ensures.value in
    let way : c.units_over.result ≡ near (c.product.result *ℤ pos (2 ^ 35)) (pos c.args.length) = simp to_z-of_z at c.units_over.ensures.value in
    let way-2 : c.units_over-2.result ≡ near (c.product-2.result *ℤ pos (2 ^ 35)) (pos c.args.length) = simp to_z-of_z at c.units_over-2.ensures.value in
    rw (
      to_z-of_z w64 c.args.c.x fits_cx,
      to_z-of_z w64 c.args.c.y fits_cy,
      to_z-of_z w64 c.units_over.result fits_way,
      to_z-of_z w64 c.units_over-2.result fits_way-2,
      to_z-of_z w64 (c.args.c.x +ℤ c.units_over.result) (omega (arith, ints, small)),
      to_z-of_z w64 (c.args.c.y +ℤ c.units_over-2.result) (omega (arith, ints, small-2)),
      way,
      way-2,
      part,
      part-2,
      last_first c.args.distance u.dx (pos (2 ^ 35)),
      last_first c.args.distance u.dy (pos (2 ^ 35)),
    ) refl
