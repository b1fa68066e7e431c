use Rattle.std.proofs.Common.{arith}
use Rattle.std.proofs.lemmas.Int.{ints}
use Rattle.apt_plane.proofs.SegmentLaws.{holds_by}
use Rattle.apt_certify.proofs.Telling.{axis_tells}
use Rattle.apt_certify.proofs.segments.is_near_axis.Goals as goal

pub returns-then-are_roots_at_most : goal.returns-then-are_roots_at_most
returns-then-are_roots_at_most c =
    let right = holds_by _ _ c.if-are_roots_at_most.true c.are_roots_at_most.ensures in
    axis_tells _ _ _ _ _ _ _ c.are_roots_at_most-then-are_roots_at_most.result
    (omega (arith, ints, c.height_of-height.ensures.value, c.height_of-height.ensures.small)) (omega (arith, ints, c.height_of-height.ensures.value, c.height_of-height.ensures.small))
    (omega (arith, ints)) (omega (arith, ints)) c.square_of-square.ensures.value right c.are_roots_at_most-then-are_roots_at_most.ensures
