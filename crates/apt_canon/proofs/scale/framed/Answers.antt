use Rattle.std.proofs.Common.{rules, refl, ◌≡◌, arith, pos, neg_ℤ, ◌+ℤ◌, ◌*ℤ◌, FitsSigned, w64}
use Rattle.std.specs.Int.{w128}
use Rattle.std.proofs.lemmas.Int.{to_z-of_z, ints}
use Rattle.apt_num.specs.Near.{near}
use Rattle.apt_canon.specs.Scale.{length_of}
use Rattle.apt_canon.proofs.scale.framed.Goals as goal

pub returns : goal.returns
returns c =
    let d = c.args.d in
    let x = c.args.x in
    let y = c.args.y in
    let length : c.length_of-length.result ≡ length_of d = c.length_of-length.ensures.value in
    let left_x : c.perp-left.result.dx ≡ neg_ℤ d.dy = rw c.perp-left.ensures.value refl in
    let left_y : c.perp-left.result.dy ≡ d.dx = rw c.perp-left.ensures.value refl in
    let fits_cx : FitsSigned w64 c.args.c.x = omega (arith, ints) in
    let fits_cy : FitsSigned w64 c.args.c.y = omega (arith, ints) in
    let fits_dx : FitsSigned w64 d.dx = omega (arith, ints) in
    let fits_dy : FitsSigned w64 d.dy = omega (arith, ints) in
    let fits_x : FitsSigned w128 x = c.ranges.x in
    let fits_y : FitsSigned w128 y = c.ranges.y in
    let fits_lx : FitsSigned w64 c.perp-left.result.dx = rw left_x (omega (arith, ints)) in
    let fits_ly : FitsSigned w64 c.perp-left.result.dy = rw left_y (omega (arith, ints)) in
    let fits_share : FitsSigned w128 c.in_frame.result = search rules in
    let fits_share-2 : FitsSigned w128 c.in_frame-2.result = search rules in
    let fits_length : FitsSigned w128 c.length_of-length.result = search rules in
    let fits_result : FitsSigned w64 c.placed.result = search rules in
    let fits_result-2 : FitsSigned w64 c.placed-2.result = search rules in
    let share : c.in_frame.result ≡ pos 32 *ℤ ((x *ℤ d.dx) +ℤ (y *ℤ c.perp-left.result.dx)) = simp to_z-of_z at c.in_frame.ensures.value in
    let share-2 : c.in_frame-2.result ≡ pos 32 *ℤ ((x *ℤ d.dy) +ℤ (y *ℤ c.perp-left.result.dy)) = simp to_z-of_z at c.in_frame-2.ensures.value in
    let place : c.placed.result ≡ c.args.c.x +ℤ near c.in_frame.result c.length_of-length.result = simp to_z-of_z at c.placed.ensures in
    let place-2 : c.placed-2.result ≡ c.args.c.y +ℤ near c.in_frame-2.result c.length_of-length.result = simp to_z-of_z at c.placed-2.ensures in
    rw (to_z-of_z w64 c.placed.result fits_result, to_z-of_z w64 c.placed-2.result fits_result-2, place, place-2, share, share-2, left_x, left_y, length) refl
