use Rattle.std.proofs.Common.{◌≡◌, ◌*◌, ◌^◌, ◌≤◌, arith, unsigned_abs, FitsSigned, w64}
use Rattle.std.specs.Int.{w128}
use Rattle.std.proofs.lemmas.Int.{ints, to_z-of_z}
use Rattle.apt_canon.proofs.Products.{kept}
use Rattle.apt_canon.proofs.circles.square_of.Goals as goal

pub returns-clause-small : goal.returns-clause-small
returns-clause-small c =
    let r = c.args.r in
    let fits_r : FitsSigned w64 r = c.ranges.r in
    let wide : FitsSigned w128 r = omega (arith, ints) in
    let same : c.from.result ≡ r = simp to_z-of_z at c.from.ensures in
    let fits_from : FitsSigned w128 c.from.result = omega (arith, ints) in
    let size : unsigned_abs c.times.result ≤ 10 ^ 8 * unsigned_abs r = rw same at (simp to_z-of_z at c.times.ensures.small) in
    let small : unsigned_abs c.times.result ≤ 10 ^ 16 = omega (arith, size) in
    rw (kept c.times.result (omega (arith, small))) small
