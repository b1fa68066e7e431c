use Rattle.std.proofs.Common.{◌∙◌, pos, ap, arith, FitsSigned, w64}
use Rattle.std.specs.Int.{w128}
use Rattle.std.proofs.lemmas.Int.{ints, to_z-of_z}
use Rattle.apt_plane.proofs.SegmentLaws.{fails_by}
use Rattle.apt_outline.proofs.Deciding.{cross_same, dot_same, square_same, fraction_small, IsTold, found_foot, far_foot, no_foot}
use Rattle.apt_outline.proofs.feet.near_foot.Goals as goal
use Rattle.apt_outline.proofs.feet.near_foot.Goals.{else-is_between-via-then-is_between+else-not-is_foot_far, else-is_between-via-else-is_between}

pub is_foot_far-requires-clause-some : goal.is_foot_far-requires-clause-some
is_foot_far-requires-clause-some c =
    let fits : FitsSigned w64 c.dot_of-along.result = omega (arith, ints, c.dot_of-along.ensures.small) in
    let inside = (simp to_z-of_z at c.is_between.ensures).0 c.if-is_between.true in
    omega (arith, ints, inside.0, inside.1)

pub is_foot_far-requires-clause-fraction : goal.is_foot_far-requires-clause-fraction
is_foot_far-requires-clause-fraction c =
    let a = c.args in
    let fs : FitsSigned w64 c.cross_of.result = omega (arith, ints, c.cross_of.ensures.small) in
    let fd : FitsSigned w64 c.dot_of.result = omega (arith, ints, c.dot_of.ensures.small) in
    simp to_z-of_z
    (fraction_small a.p a.q a.a a.b c.cross_of.result c.dot_of.result c.square_of-whole.result c.requires.p c.requires.q c.requires.a c.requires.b
    (cross_same _ _ _ _ _ c.displacement-segment.ensures.value c.displacement-way.ensures.value c.cross_of.ensures.value)
    (dot_same _ _ _ _ _ c.displacement-segment.ensures.value c.displacement-edge.ensures.value c.dot_of.ensures.value)
    (square_same _ _ _ c.displacement-segment.ensures.value c.square_of-whole.ensures.value))

pub returns-then-not-is_foot_far : goal.returns-then-not-is_foot_far
returns-then-not-is_foot_far c =
    let a = c.args in
    let fu : FitsSigned w64 c.dot_of-along.result = omega (arith, ints, c.dot_of-along.ensures.small) in
    let fk : FitsSigned w64 c.cross_of.result = omega (arith, ints, c.cross_of.ensures.small) in
    let fx : FitsSigned w64 c.cross_of-then-is_between.result = omega (arith, ints, c.cross_of-then-is_between.ensures.small) in
    let fy : FitsSigned w64 c.dot_of.result = omega (arith, ints, c.dot_of.ensures.small) in
    let wide : FitsSigned w128 c.from.result = omega (arith, ints, c.from.ensures, c.dot_of-along.ensures.small) in
    let long : FitsSigned w128 c.from-then-not-is_foot_far.result = omega (arith, ints, c.from-then-not-is_foot_far.ensures, c.square_of-whole.ensures.small) in
    let inside = (simp to_z-of_z at c.is_between.ensures).0 c.if-is_between.true in
    let told : IsTold c.is_foot_far.result a.r c.square_of-whole.result c.square_of.result c.cross_of.result c.cross_of-then-is_between.result c.dot_of.result =
    record { behind = simp to_z-of_z at c.is_foot_far.ensures.behind; beyond = simp to_z-of_z at c.is_foot_far.ensures.beyond; across = simp to_z-of_z at c.is_foot_far.ensures.across } in
    let along = dot_same _ _ _ _ _ c.displacement-segment.ensures.value c.displacement-way.ensures.value c.dot_of-along.ensures.value in
    let whole = square_same _ _ _ c.displacement-segment.ensures.value c.square_of-whole.ensures.value in
    found_foot c.is_foot_far.result a.r c.square_of-whole.result c.square_of.result c.cross_of.result c.cross_of-then-is_between.result c.dot_of.result c.dot_of-along.result _ _ a.p a.q a.a a.b told whole
    (square_same _ _ _ c.displacement-edge.ensures.value c.square_of.ensures.value)
    (cross_same _ _ _ _ _ c.displacement-segment.ensures.value c.displacement-way.ensures.value c.cross_of.ensures.value)
    (cross_same _ _ _ _ _ c.displacement-segment.ensures.value c.displacement-edge.ensures.value c.cross_of-then-is_between.ensures.value)
    (dot_same _ _ _ _ _ c.displacement-segment.ensures.value c.displacement-edge.ensures.value c.dot_of.ensures.value)
    along inside.0 inside.1 c.if-not-is_foot_far.true
    (simp to_z-of_z (simp to_z-of_z at c.from.ensures ∙ along)) (simp to_z-of_z (c.from-then-not-is_foot_far.ensures ∙ ap (λ n. pos n) whole))

pub returns-else-is_between : goal.returns-else-is_between
returns-else-is_between c =
    let a = c.args in
    let fu : FitsSigned w64 c.dot_of-along.result = omega (arith, ints, c.dot_of-along.ensures.small) in
    let along = dot_same _ _ _ _ _ c.displacement-segment.ensures.value c.displacement-way.ensures.value c.dot_of-along.ensures.value in
    let whole = square_same _ _ _ c.displacement-segment.ensures.value c.square_of-whole.ensures.value in
    let test = simp to_z-of_z at c.is_between.ensures in
    elim c.else-is_between.branch [
      | else-is_between-via-then-is_between+else-not-is_foot_far w ↦
          let fk : FitsSigned w64 w.cross_of.result = omega (arith, ints, w.cross_of.ensures.small) in
          let fx : FitsSigned w64 w.cross_of-then-is_between.result = omega (arith, ints, w.cross_of-then-is_between.ensures.small) in
          let fy : FitsSigned w64 w.dot_of.result = omega (arith, ints, w.dot_of.ensures.small) in
          let inside = test.0 w.if-is_between.true in
          let told : IsTold w.is_foot_far.result a.r c.square_of-whole.result w.square_of.result w.cross_of.result w.cross_of-then-is_between.result w.dot_of.result =
          record { behind = simp to_z-of_z at w.is_foot_far.ensures.behind; beyond = simp to_z-of_z at w.is_foot_far.ensures.beyond; across = simp to_z-of_z at w.is_foot_far.ensures.across } in
          far_foot w.is_foot_far.result a.r c.square_of-whole.result w.square_of.result w.cross_of.result w.cross_of-then-is_between.result w.dot_of.result c.dot_of-along.result a.p a.q a.a a.b told whole
          (square_same _ _ _ c.displacement-edge.ensures.value w.square_of.ensures.value)
          (cross_same _ _ _ _ _ c.displacement-segment.ensures.value c.displacement-way.ensures.value w.cross_of.ensures.value)
          (cross_same _ _ _ _ _ c.displacement-segment.ensures.value c.displacement-edge.ensures.value w.cross_of-then-is_between.ensures.value)
          (dot_same _ _ _ _ _ c.displacement-segment.ensures.value c.displacement-edge.ensures.value w.dot_of.ensures.value)
          along inside.0 inside.1 w.if-not-is_foot_far.false
      | else-is_between-via-else-is_between w ↦ no_foot a.r a.p a.q a.a a.b c.dot_of-along.result c.square_of-whole.result along whole (fails_by _ _ w.if-is_between.false test)
    ]
