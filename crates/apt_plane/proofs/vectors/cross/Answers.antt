use Rattle.std.proofs.Common.{arith, FitsSigned, w64, ◌≡◌, ◌*ℤ◌}
use Rattle.std.proofs.lemmas.Int.{ints, to_z-of_z}
use Rattle.apt_plane.proofs.vectors.cross.Goals as goal

pub overflow_sub-result : goal.overflow_sub-result
overflow_sub-result c = omega (arith, ints)

pub returns-clause-value : goal.returns-clause-value
returns-clause-value c =
    let fux : FitsSigned w64 c.args.u.dx = omega (arith, ints) in
    let fuy : FitsSigned w64 c.args.u.dy = omega (arith, ints) in
    let fvx : FitsSigned w64 c.args.v.dx = omega (arith, ints) in
    let fvy : FitsSigned w64 c.args.v.dy = omega (arith, ints) in
    let first : c.times.result ≡ c.args.u.dx *ℤ c.args.v.dy = simp to_z-of_z at c.times.ensures.value in
    let second : c.times-2.result ≡ c.args.u.dy *ℤ c.args.v.dx = simp to_z-of_z at c.times-2.ensures.value in
    omega (arith, ints)

pub returns-clause-small : goal.returns-clause-small
returns-clause-small c = omega (arith, ints)
