use Rattle.std.proofs.Common.{◌-ℤ◌, refl, arith, FitsSigned, w64}
use Rattle.std.proofs.lemmas.Int.{ints, to_z-of_z}
use Rattle.apt_outline.specs.declared.parts.Part.TheVariants as parts
use Rattle.apt_outline.specs.Clearances.{IsClear}
use Rattle.apt_outline.proofs.Guarding.{ends_first}
use Rattle.apt_outline.proofs.rounds.bore_spot.Goals as goal

pub returns-in-Ok : goal.returns-in-Ok
returns-in-Ok c =
    let a = c.args in
    let fits : FitsSigned w64 a.rho = c.ranges.rho in
    let round : FitsSigned w64 a.circle.r = omega (arith, ints, c.requires.circle.least, c.requires.circle.x) in
    let both : FitsSigned w64 (a.circle.r -ℤ a.rho) = omega (arith, ints, c.requires.circle.least, c.requires.circle.x, c.requires.length) in
    (simp to_z-of_z at (rw c.in-Ok.is at c.segment_under.ensures.all)).0 refl

pub returns-in-Err : goal.returns-in-Err
returns-in-Err c =
    let a = c.args in
    let fits : FitsSigned w64 a.rho = c.ranges.rho in
    let round : FitsSigned w64 a.circle.r = omega (arith, ints, c.requires.circle.least, c.requires.circle.x) in
    let both : FitsSigned w64 (a.circle.r -ℤ a.rho) = omega (arith, ints, c.requires.circle.least, c.requires.circle.x, c.requires.length) in
    ends_first (IsClear a.rho (parts.Bore a.circle)) a.a a.b c.in-Err.spot (simp to_z-of_z at (rw c.in-Err.is at c.segment_under.ensures.first))
