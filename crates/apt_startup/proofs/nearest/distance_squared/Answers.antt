use Rattle.std.proofs.Common.{arith, FitsSigned, w64, ◌-ℤ◌}
use Rattle.std.proofs.lemmas.Int.{ints, to_z-of_z}
use Rattle.apt_startup.proofs.nearest.distance_squared.Goals as goal

pub returns : goal.returns
returns c =
    let p = c.args.p in
    let q = c.args.q in
    let fits_x : FitsSigned w64 (q.x -ℤ p.x) = omega (arith, ints, c.requires.point.x, c.requires.other.x) in
    let fits_y : FitsSigned w64 (q.y -ℤ p.y) = omega (arith, ints, c.requires.point.y, c.requires.other.y) in
    let fits_px : FitsSigned w64 p.x = omega (arith, ints, c.requires.point.x) in
    let fits_py : FitsSigned w64 p.y = omega (arith, ints, c.requires.point.y) in
    let fits_qx : FitsSigned w64 q.x = omega (arith, ints, c.requires.other.x) in
    let fits_qy : FitsSigned w64 q.y = omega (arith, ints, c.requires.other.y) in
    simp to_z-of_z at c.length_squared.ensures
