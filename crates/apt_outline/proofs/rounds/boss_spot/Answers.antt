use Rattle.std.proofs.Common.{◌+ℤ◌, refl, arith, FitsSigned, w64}
use Rattle.std.proofs.lemmas.Int.{ints, to_z-of_z}
use Rattle.apt_outline.proofs.Guarding.{boss_of_boxes, boss_first}
use Rattle.apt_outline.proofs.rounds.boss_spot.Goals as goal

pub returns-then-are_boxes_apart : goal.returns-then-are_boxes_apart
returns-then-are_boxes_apart c =
    let a = c.args in
    let fits : FitsSigned w64 a.rho = c.ranges.rho in
    let round : FitsSigned w64 a.circle.r = omega (arith, ints, c.requires.circle.least, c.requires.circle.x) in
    let both : FitsSigned w64 (a.circle.r +ℤ a.rho) = omega (arith, ints, c.requires.circle.least, c.requires.circle.x, c.requires.length) in
    boss_of_boxes a.rho (a.circle.r +ℤ a.rho) a.a a.b a.circle refl ((simp to_z-of_z at c.are_boxes_apart.ensures).0 c.if-are_boxes_apart.true)

pub returns-in-Ok : goal.returns-in-Ok
returns-in-Ok c =
    let a = c.args in
    let fits : FitsSigned w64 a.rho = c.ranges.rho in
    let round : FitsSigned w64 a.circle.r = omega (arith, ints, c.requires.circle.least, c.requires.circle.x) in
    let both : FitsSigned w64 (a.circle.r +ℤ a.rho) = omega (arith, ints, c.requires.circle.least, c.requires.circle.x, c.requires.length) in
    (simp to_z-of_z at (rw c.in-Ok.is at c.segment_over.ensures.all)).0 refl

pub returns-in-Err : goal.returns-in-Err
returns-in-Err c =
    let a = c.args in
    let fits : FitsSigned w64 a.rho = c.ranges.rho in
    let round : FitsSigned w64 a.circle.r = omega (arith, ints, c.requires.circle.least, c.requires.circle.x) in
    let both : FitsSigned w64 (a.circle.r +ℤ a.rho) = omega (arith, ints, c.requires.circle.least, c.requires.circle.x, c.requires.length) in
    boss_first a.rho (a.circle.r +ℤ a.rho) a.circle a.a a.b c.in-Err.spot refl (simp to_z-of_z at (rw c.in-Err.is at c.segment_over.ensures.first))
