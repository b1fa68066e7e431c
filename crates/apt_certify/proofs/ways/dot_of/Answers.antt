use Rattle.std.proofs.Common.{◌*◌, ◌^◌, ◌≤◌, unsigned_abs, arith, FitsSigned, w64}
use Rattle.std.specs.Int.{w128}
use Rattle.std.proofs.lemmas.Int.{ints, to_z-of_z}
use Rattle.apt_plane.proofs.Heights.{short_dot_small}
use Rattle.apt_certify.proofs.ways.dot_of.Goals as goal

pub returns-clause-value : goal.returns-clause-value
returns-clause-value c =
    let small : unsigned_abs c.dot.result ≤ 2 * 10 ^ 16 = rw c.dot.ensures.value (short_dot_small c.args.first c.args.second c.requires.first c.requires.second) in
    let wide : FitsSigned w128 c.dot.result = omega (arith, ints, small) in
    let narrow : FitsSigned w64 c.dot.result = omega (arith, ints, small) in
    simp to_z-of_z c.dot.ensures.value
