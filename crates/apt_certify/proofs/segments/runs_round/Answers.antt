use Rattle.std.proofs.Common.{arith, rules, FitsSigned, w64}
use Rattle.std.specs.Int.{w8}
use Rattle.std.proofs.lemmas.Int.{ints, to_z-of_z}
use Rattle.apt_certify.proofs.Steps.{round_tells}
use Rattle.apt_certify.proofs.segments.runs_round.Goals as goal

pub returns : goal.returns
returns c =
    let a = c.args in
    let fs : FitsSigned w8 a.sense = c.ranges.sense in
    let fd : FitsSigned w64 c.dot_of.result = omega (arith, ints, c.dot_of.ensures.small) in
    let f1 : FitsSigned w64 c.turned_by.result = search rules in
    let f2 : FitsSigned w64 c.turned_by-2.result = search rules in
    let f3 : FitsSigned w64 c.turned_by-3.result = search rules in
    round_tells _ _ _ _ a.circle.now.c a.start a.p a.q a.sense c.turned_by.result c.dot_of.result c.turned_by-2.result c.turned_by-3.result c.displacement-begin.result c.displacement-from.result c.displacement-to.result
    c.requires.sense c.displacement-begin.ensures.value c.displacement-from.ensures.value c.displacement-to.ensures.value
    (simp to_z-of_z at c.turned_by.ensures) c.dot_of.ensures.value (simp to_z-of_z at c.turned_by-2.ensures) (simp to_z-of_z at c.turned_by-3.ensures)
    c.all_of.ensures (simp to_z-of_z at c.is_positive.ensures) (simp to_z-of_z at c.is_positive-2.ensures) (simp to_z-of_z at c.stays_before.ensures)
