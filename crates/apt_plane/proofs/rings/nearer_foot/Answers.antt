use Rattle.std.proofs.Common.{arith, ◌∙◌, FitsSigned, w64}
use Rattle.std.specs.Int.{w128}
use Rattle.std.proofs.lemmas.Int.{ints, to_z-of_z}
use Rattle.apt_plane.proofs.SegmentLaws.{holds_by, fails_by}
use Rattle.apt_plane.proofs.RingLaws.{IsMeasured, along_is, whole_is, outside_far, not_nearer_far, nearer_near, all_over, foot_off}
use Rattle.apt_plane.proofs.rings.nearer_foot.Goals as goal
use Rattle.apt_plane.proofs.rings.nearer_foot.Goals.{else-is_between-via-then-is_between+else-is_nearer, else-is_between-via-else-is_between}

pub returns-then-is_nearer-clause-some : goal.returns-then-is_nearer-clause-some
returns-then-is_nearer-clause-some c =
    let a = c.args in
    let flo : FitsSigned w64 a.lo = c.ranges.lo in
    let narrow : FitsSigned w64 c.along_of-along.result = omega (arith, ints) in
    let wide : FitsSigned w128 c.from.result = omega (arith, ints, c.from.ensures) in
    let is : IsMeasured a.c a.p a.q c.displacement-segment.result c.displacement-way.result c.along_of-along.result c.square_of-whole.result =
    record { segment = c.displacement-segment.ensures.value; way = c.displacement-way.ensures.value; dot = c.along_of-along.ensures; length = c.square_of-whole.ensures.value } in
    let inside = (simp to_z-of_z at c.is_between.ensures).0 c.if-is_between.true in
    let nearer = (simp to_z-of_z at c.is_nearer.ensures).0 c.if-is_nearer.true in
    let near = nearer_near a.c a.p a.q a.lo _ _ _ _ _ is c.area_of.ensures.value inside nearer in
    let whole = whole_is a.c a.p a.q _ _ _ _ is in
    foot_off a.c a.p a.q a.lo _ _ near c.requires.start_over c.requires.end_over
    (simp to_z-of_z (simp to_z-of_z at c.from.ensures ∙ along_is a.c a.p a.q _ _ _ _ is)) (omega (arith, ints, whole))

pub returns-else-is_between-clause-none : goal.returns-else-is_between-clause-none
returns-else-is_between-clause-none c =
    let a = c.args in
    let flo : FitsSigned w64 a.lo = c.ranges.lo in
    let narrow : FitsSigned w64 c.along_of-along.result = omega (arith, ints) in
    let is : IsMeasured a.c a.p a.q c.displacement-segment.result c.displacement-way.result c.along_of-along.result c.square_of-whole.result =
    record { segment = c.displacement-segment.ensures.value; way = c.displacement-way.ensures.value; dot = c.along_of-along.ensures; length = c.square_of-whole.ensures.value } in
    let inside = simp to_z-of_z at c.is_between.ensures in
    elim c.else-is_between.branch [
      | else-is_between-via-then-is_between+else-is_nearer w ↦
          λ none. all_over a.c a.p a.q a.lo c.requires.start_over c.requires.end_over
          (not_nearer_far a.c a.p a.q a.lo _ _ _ _ _ is w.area_of.ensures.value (holds_by _ _ w.if-is_between.true inside) (fails_by _ _ w.if-is_nearer.false (simp to_z-of_z at w.is_nearer.ensures)))
      | else-is_between-via-else-is_between w ↦
          λ none. all_over a.c a.p a.q a.lo c.requires.start_over c.requires.end_over
          (λ positive. outside_far a.c a.p a.q _ _ _ _ _ is (fails_by _ _ w.if-is_between.false inside))
    ]
