use Rattle.std.proofs.Common.{rules, w64}
use Rattle.std.specs.Prelude.{FitsSigned}
use Rattle.std.proofs.lemmas.Int.{to_z-of_z}
use Rattle.apt_pattern.proofs.places.place_in.Goals as goal

pub returns-in-Xyz : goal.returns-in-Xyz
returns-in-Xyz c =
    let fx : FitsSigned w64 c.in-Xyz.x = search rules in
    let fy : FitsSigned w64 c.in-Xyz.y = search rules in
    let at = simp to_z-of_z at (c.place_at.ensures c.args.table.now) in
    rw c.in-Xyz.is at
