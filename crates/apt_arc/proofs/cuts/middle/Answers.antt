use Rattle.std.proofs.Common.{arith, FitsSigned, w64, ◌+ℤ◌}
use Rattle.std.proofs.lemmas.Int.{ints, to_z-of_z}
use Rattle.apt_plane.specs.Ranges.{IsDir}
use Rattle.apt_canon.specs.Scale.{sum}
use Rattle.apt_arc.proofs.Halved.{middle_is}
use Rattle.apt_arc.proofs.cuts.middle.Goals as goal

pub ray_point-requires-clause-dir : goal.ray_point-requires-clause-dir
ray_point-requires-clause-dir c =
    let u = c.displacement-first.result in
    let v = c.displacement-second.result in
    let ux : FitsSigned w64 u.dx = omega (arith, ints, c.displacement-first.ensures.short.dx) in
    let uy : FitsSigned w64 u.dy = omega (arith, ints, c.displacement-first.ensures.short.dy) in
    let vx : FitsSigned w64 v.dx = omega (arith, ints, c.displacement-second.ensures.short.dx) in
    let vy : FitsSigned w64 v.dy = omega (arith, ints, c.displacement-second.ensures.short.dy) in
    let x : FitsSigned w64 (u.dx +ℤ v.dx) = omega (arith, ints, c.displacement-first.ensures.short.dx, c.displacement-second.ensures.short.dx) in
    let y : FitsSigned w64 (u.dy +ℤ v.dy) = omega (arith, ints, c.displacement-first.ensures.short.dy, c.displacement-second.ensures.short.dy) in
    let dir : IsDir (sum u v) = rw (c.displacement-first.ensures.value, c.displacement-second.ensures.value) c.requires.dir in
    simp to_z-of_z dir

pub returns : goal.returns
returns c =
    let u = c.displacement-first.result in
    let v = c.displacement-second.result in
    let ux : FitsSigned w64 u.dx = omega (arith, ints, c.displacement-first.ensures.short.dx) in
    let uy : FitsSigned w64 u.dy = omega (arith, ints, c.displacement-first.ensures.short.dy) in
    let vx : FitsSigned w64 v.dx = omega (arith, ints, c.displacement-second.ensures.short.dx) in
    let vy : FitsSigned w64 v.dy = omega (arith, ints, c.displacement-second.ensures.short.dy) in
    let x : FitsSigned w64 (u.dx +ℤ v.dx) = omega (arith, ints, c.displacement-first.ensures.short.dx, c.displacement-second.ensures.short.dx) in
    let y : FitsSigned w64 (u.dy +ℤ v.dy) = omega (arith, ints, c.displacement-first.ensures.short.dy, c.displacement-second.ensures.short.dy) in
    middle_is c.args.track.now c.args.a c.args.b c.ray_point.result u v c.displacement-first.ensures.value c.displacement-second.ensures.value (simp to_z-of_z at c.ray_point.ensures.value)
