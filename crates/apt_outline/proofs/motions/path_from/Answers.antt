use Rattle.std.proofs.Common.{refl, ◌∷◌, FitsSigned, w64}
use Rattle.std.proofs.lemmas.Int.{to_z-of_z}
use Rattle.apt_outline.proofs.Within.{path_within}
use Rattle.apt_outline.proofs.motions.path_from.Goals as goal

pub returns-then-is_far_from : goal.returns-then-is_far_from
returns-then-is_far_from c =
    let fits : FitsSigned w64 c.args.rho = c.ranges.rho in
    path_within c.args.rho c.args.parts.now c.of.result.low c.of.result.high (c.args.start ∷ c.args.rest.now) c.of.ensures.every (λ a b ia ib. simp to_z-of_z at (c.if-is_far_from.ensures refl a b ia ib))
