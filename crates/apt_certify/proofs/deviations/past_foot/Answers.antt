use Rattle.std.proofs.Common.{arith, FitsSigned, w64}
use Rattle.std.proofs.lemmas.Int.{ints, to_z-of_z}
use Rattle.apt_plane.proofs.SegmentLaws.{holds_by, fails_by}
use Rattle.apt_plane.proofs.RingLaws.{IsMeasured}
use Rattle.apt_certify.proofs.Past.{foot_bounds, no_foot_bounds}
use Rattle.apt_certify.proofs.deviations.past_foot.Goals as goal

pub returns-then-is_between-clause-bounds : goal.returns-then-is_between-clause-bounds
returns-then-is_between-clause-bounds c =
    let a = c.args in
    let fa : FitsSigned w64 c.dot_of-along.result = omega (arith, ints, c.dot_of-along.ensures.small) in
    let is : IsMeasured a.c a.p a.q c.displacement-segment.result c.displacement-way.result c.dot_of-along.result c.square_of-whole.result =
    record { segment = c.displacement-segment.ensures.value; way = c.displacement-way.ensures.value; dot = c.dot_of-along.ensures.value; length = c.square_of-whole.ensures.value } in
    let inside = holds_by _ _ c.if-is_between.true (simp to_z-of_z at c.is_between.ensures) in
    let count = rw (c.from.ensures, c.from-then-is_between.ensures) at c.root_count.ensures.count in
    foot_bounds a.c a.p a.q a.r _ _ _ _ _ c.unsigned_abs-area.result c.root_count.result is (omega (arith, ints, c.cross_of.ensures.value)) inside count (omega (arith, ints))

pub returns-else-is_between-clause-bounds : goal.returns-else-is_between-clause-bounds
returns-else-is_between-clause-bounds c =
    let a = c.args in
    let fa : FitsSigned w64 c.dot_of-along.result = omega (arith, ints, c.dot_of-along.ensures.small) in
    let is : IsMeasured a.c a.p a.q c.displacement-segment.result c.displacement-way.result c.dot_of-along.result c.square_of-whole.result =
    record { segment = c.displacement-segment.ensures.value; way = c.displacement-way.ensures.value; dot = c.dot_of-along.ensures.value; length = c.square_of-whole.ensures.value } in
    no_foot_bounds a.c a.p a.q a.r _ _ _ _ is (fails_by _ _ c.if-is_between.false (simp to_z-of_z at c.is_between.ensures))

pub returns-then-is_between-clause-small : goal.returns-then-is_between-clause-small
returns-then-is_between-clause-small c = omega (arith, ints, c.requires.radius, c.root_count.ensures.small)
