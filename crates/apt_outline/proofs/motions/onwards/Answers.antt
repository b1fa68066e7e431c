use Rattle.std.proofs.Common.{pos, ◌∷◌, FitsSigned, w64}
use Rattle.std.proofs.lemmas.Int.{to_z-of_z}
use Rattle.std.proofs.lemmas.List.{drop_more, drop_all}
use Rattle.apt_outline.proofs.Guarding.{passed_first, passed_more, passed_hit, passed_all}
use Rattle.apt_outline.proofs.motions.onwards.Goals as goal

pub points-init : goal.points-init
points-init c = passed_first _ _ c.args.start c.args.rest.now c.requires.start c.requires.points

pub points-preserved : goal.points-preserved
points-preserved c =
    let passed = rw (drop_more c.args.rest.now c.points.i (record { x = pos 0; y = pos 0 }) c.points-test.true) at c.points.invariant in
    passed_more _ _ _ c.points.at _ _ c.points.i c.in_default.ensures passed

pub returns-in-Some : goal.returns-in-Some
returns-in-Some c =
    let fits : FitsSigned w64 c.args.rho = c.ranges.rho in
    let passed = rw (drop_more c.args.rest.now c.points.i (record { x = pos 0; y = pos 0 }) c.points-test.true) at c.points.invariant in
    passed_hit c.args.rho c.args.parts.now (c.args.start ∷ c.args.rest.now) c.points.at _ _ c.points.i c.in-Some.gouge (simp to_z-of_z at c.in-Some.ensures) (simp to_z-of_z at passed)

pub returns : goal.returns
returns c =
    let fits : FitsSigned w64 c.args.rho = c.ranges.rho in
    let passed = rw (drop_all c.points.i c.args.rest.now c.points-test.false) at c.points.invariant in
    passed_all c.args.rho c.args.parts.now (c.args.start ∷ c.args.rest.now) c.points.at c.points.i (simp to_z-of_z at passed)

pub segment_gouge-requires-clause-a : goal.segment_gouge-requires-clause-a
segment_gouge-requires-clause-a c = c.points.invariant.point

pub segment_gouge-requires-clause-b : goal.segment_gouge-requires-clause-b
segment_gouge-requires-clause-b c =
    let passed = rw (drop_more c.args.rest.now c.points.i (record { x = pos 0; y = pos 0 }) c.points-test.true) at c.points.invariant in
    passed.vertices.0
