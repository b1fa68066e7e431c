use Rattle.std.proofs.Common.{◌*◌, ◌^◌, ◌≤◌, unsigned_abs, arith, FitsSigned, w64}
use Rattle.std.specs.Int.{w128}
use Rattle.std.proofs.lemmas.Int.{ints, to_z-of_z}
use Rattle.apt_plane.proofs.Heights.{short_cross_small}
use Rattle.apt_certify.proofs.ways.cross_of.Goals as goal

pub returns-clause-value : goal.returns-clause-value
returns-clause-value c =
    let small : unsigned_abs c.cross.result ≤ 2 * 10 ^ 16 = rw c.cross.ensures.value (short_cross_small c.args.first c.args.second c.requires.first c.requires.second) in
    let wide : FitsSigned w128 c.cross.result = omega (arith, ints, small) in
    let narrow : FitsSigned w64 c.cross.result = omega (arith, ints, small) in
    simp to_z-of_z c.cross.ensures.value
