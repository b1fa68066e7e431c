use Rattle.std.proofs.Common.{◌+ℤ◌, refl, arith, FitsSigned, w64}
use Rattle.std.proofs.lemmas.Int.{ints, to_z-of_z}
use Rattle.apt_outline.proofs.Guarding.{clear_of_boxes, boss_of_boxes}
use Rattle.apt_outline.proofs.Within.{boxes_within}
use Rattle.apt_outline.proofs.bounds.Bounds.is_off.Goals as goal

pub returns-in-Edge : goal.returns-in-Edge
returns-in-Edge c = λ yes a b ia ib.
    let fits : FitsSigned w64 c.args.rho = c.ranges.rho in
    let off = (simp to_z-of_z at c.are_boxes_apart.ensures).0 yes in
    rw c.in-Edge.is
    (clear_of_boxes c.args.rho a b c.in-Edge.p c.in-Edge.q (boxes_within c.args.rho c.args.self.low c.args.self.high a b c.in-Edge.p c.in-Edge.q off ia ib))

pub returns-in-Boss : goal.returns-in-Boss
returns-in-Boss c = λ yes a b ia ib.
    let rho = c.args.rho in
    let circle = c.in-Boss.circle in
    let is = rw c.in-Boss.is at c.requires.part in
    let fits : FitsSigned w64 rho = c.ranges.rho in
    let round : FitsSigned w64 circle.r = omega (arith, ints, is.least, is.x) in
    let both : FitsSigned w64 (circle.r +ℤ rho) = omega (arith, ints, is.least, is.x, c.requires.length) in
    let off = (simp to_z-of_z at c.are_boxes_apart-in-Boss.ensures).0 yes in
    rw c.in-Boss.is
    (boss_of_boxes rho (circle.r +ℤ rho) a b circle refl (boxes_within (circle.r +ℤ rho) c.args.self.low c.args.self.high a b circle.c circle.c off ia ib))
