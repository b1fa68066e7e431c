use Rattle.std.proofs.Common.{rules, w64}
use Rattle.std.specs.Prelude.{FitsSigned}
use Rattle.std.proofs.lemmas.Int.{to_z-of_z}
use Rattle.apt_pattern.proofs.Deciding.{point_is}
use Rattle.apt_pattern.proofs.pattern.point_at.Goals as goal

pub returns-clause-value : goal.returns-clause-value
returns-clause-value c =
    let fa : FitsSigned w64 c.args.pattern.now.from.xy.x = search rules in
    let fb : FitsSigned w64 c.args.pattern.now.to.xy.x = search rules in
    let fc : FitsSigned w64 c.args.pattern.now.from.xy.y = search rules in
    let fd : FitsSigned w64 c.args.pattern.now.to.xy.y = search rules in
    let fe : FitsSigned w64 c.args.pattern.now.from.z = search rules in
    let ff : FitsSigned w64 c.args.pattern.now.to.z = search rules in
    let fx : FitsSigned w64 c.along.result = search rules in
    let fy : FitsSigned w64 c.along-2.result = search rules in
    let fz : FitsSigned w64 c.along-3.result = search rules in
    let x = simp to_z-of_z at c.along.ensures.value in
    let y = simp to_z-of_z at c.along-2.ensures.value in
    let z = simp to_z-of_z at c.along-3.ensures.value in
    let all = simp to_z-of_z at c.position.ensures in
    point_is c.args.pattern.now c.args.k c.along.result c.along-2.result c.along-3.result c.position.result all x y z
