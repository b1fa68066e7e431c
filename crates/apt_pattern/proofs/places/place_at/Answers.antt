use Rattle.std.proofs.Common.{rules, w64}
use Rattle.std.specs.Prelude.{FitsSigned}
use Rattle.std.proofs.lemmas.Int.{to_z-of_z}
use Rattle.apt_pattern.proofs.Deciding.{at_reached, at_far}
use Rattle.apt_pattern.proofs.places.place_at.Goals as goal

pub returns-then-is_reached : goal.returns-then-is_reached
returns-then-is_reached c =
    let fx : FitsSigned w64 c.args.x = c.ranges.x in
    let fy : FitsSigned w64 c.args.y = c.ranges.y in
    let is = simp to_z-of_z at c.position_by-p.ensures in
    λ table. at_reached c.args.units table c.args.x c.args.y c.args.z c.position_by-p.result is (search rules)

pub returns-else-is_reached : goal.returns-else-is_reached
returns-else-is_reached c =
    let fx : FitsSigned w64 c.args.x = c.ranges.x in
    let fy : FitsSigned w64 c.args.y = c.ranges.y in
    let is = simp to_z-of_z at c.position_by-p.ensures in
    λ table. at_far c.args.units table c.args.x c.args.y c.args.z c.position_by-p.result is (search rules)
