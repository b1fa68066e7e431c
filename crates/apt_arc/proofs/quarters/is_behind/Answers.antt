use Rattle.std.proofs.Common.{arith, rules, FitsSigned, w8}
use Rattle.std.specs.Int.{w128}
use Rattle.std.proofs.lemmas.Int.{ints, to_z-of_z}
use Rattle.apt_arc.proofs.Quartered.{sense_fits, behind_is, arc_start}
use Rattle.apt_arc.proofs.quarters.is_behind.Goals as goal

pub displacement-way-requires-clause-end : goal.displacement-way-requires-clause-end
displacement-way-requires-clause-end c = arc_start c.args.arc.now c.requires.arc

pub returns-then-dot-gt0 : goal.returns-then-dot-gt0
returns-then-dot-gt0 c =
    let sense : FitsSigned w8 c.args.arc.now.sense = sense_fits c.args.arc.now.sense c.requires.arc.sense in
    let area : FitsSigned w128 c.cross.result = omega (arith, ints, c.cross.ensures.small) in
    let ahead : FitsSigned w128 c.dot.result = omega (arith, ints, c.dot.ensures.small) in
    let turn : FitsSigned w128 c.by_sense.result = search rules in
    simp to_z-of_z
    (behind_is c.args.arc.now.track c.args.arc.now.sense c.args.arc.now.start c.point_at.result c.args.u c.displacement-point.result c.displacement-way.result c.dot.result c.cross.result c.by_sense.result
    c.point_at.ensures.value c.displacement-point.ensures.value c.displacement-way.ensures.value c.dot.ensures.value c.cross.ensures.value (simp to_z-of_z at c.by_sense.ensures) (omega (arith, ints, c.if-dot-gt0.true)))
