use Rattle.std.proofs.Common.{refl, FitsSigned, w64}
use Rattle.std.proofs.lemmas.Int.{to_z-of_z}
use Rattle.apt_outline.specs.Guards.{segment, IsClearOf}
use Rattle.apt_outline.proofs.Firsts.{all_whole}
use Rattle.apt_outline.proofs.Within.{more}
use Rattle.apt_outline.proofs.bounds.Bounds.is_far_from.Goals as goal

pub parts-preserved : goal.parts-preserved
parts-preserved c = λ a b ia ib.
    let fits : FitsSigned w64 c.args.rho = c.ranges.rho in
    let passed = simp to_z-of_z at (c.parts.invariant a b ia ib) in
    let clear = simp to_z-of_z at (c.if-not-is_off.ensures refl a b ia ib) in
    simp to_z-of_z
    (more (IsClearOf c.args.rho (segment a b)) c.args.parts.now c.parts.part-index _ c.parts-test.true passed clear)

pub returns : goal.returns
returns c = λ yes a b ia ib.
    let fits : FitsSigned w64 c.args.rho = c.ranges.rho in
    all_whole (IsClearOf c.args.rho (segment a b)) c.args.parts.now c.parts.part-index c.parts-test.false (simp to_z-of_z at (c.parts.invariant a b ia ib))
