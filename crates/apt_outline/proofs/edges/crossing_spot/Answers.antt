use Rattle.std.proofs.Common.{◌≡◌, ◌∙◌, ◌<ℤ◌, ◌-ℤ◌, pos, arith, FitsSigned, w64}
use Rattle.std.proofs.lemmas.Int.{ints, to_z-of_z}
use Rattle.apt_plane.proofs.SegmentLaws.{fails_by}
use Rattle.apt_outline.proofs.Whole.{ends_of}
use Rattle.apt_outline.proofs.Deciding.{cross_same, crossed_down, crossed_up, missed_down, missed_up, missed_neither, neg_small, neg_of, neg_difference, difference_of}
use Rattle.apt_outline.proofs.edges.crossing_spot.Goals as goal
use Rattle.apt_outline.proofs.edges.crossing_spot.Goals.{else-start-gt0-via-then-start-gt0+else-end-lt0, else-start-gt0-via-else-start-gt0, else-start-lt0-via-then-start-lt0+else-end-gt0, else-start-lt0-via-else-start-lt0}

pub spot_between-requires-then-are_sides-2-clause-end : goal.spot_between-requires-then-are_sides-2-clause-end
spot_between-requires-then-are_sides-2-clause-end c =
    let small = c.cross_of-end.ensures.small in
    let fits : FitsSigned w64 c.cross_of-end.result = omega (arith, ints, small) in
    let turned : FitsSigned w64 (pos 0 -ℤ c.cross_of-end.result) = omega (arith, ints, small) in
    simp to_z-of_z (neg_small c.cross_of-end.result 20000000000000000 small)

pub returns-then-are_sides : goal.returns-then-are_sides
returns-then-are_sides c =
    let a = c.args in
    let fg : FitsSigned w64 c.cross_of-start.result = omega (arith, ints, c.cross_of-start.ensures.small) in
    let fh : FitsSigned w64 c.cross_of-end.result = omega (arith, ints, c.cross_of-end.ensures.small) in
    let first : c.cross_of-start.result ≡ (ends_of a.p a.q a.a a.b).ga = cross_same _ _ _ _ _ c.displacement-edge.ensures.value c.displacement.ensures.value c.cross_of-start.ensures.value in
    let second : c.cross_of-end.result ≡ (ends_of a.p a.q a.a a.b).gb = cross_same _ _ _ _ _ c.displacement-edge.ensures.value c.displacement-2.ensures.value c.cross_of-end.ensures.value in
    let more : pos 0 <ℤ c.cross_of-start.result = omega (arith, ints, c.if-start-gt0.true) in
    let less : c.cross_of-end.result <ℤ pos 0 = omega (arith, ints, c.if-end-lt0.true) in
    let sides = c.are_sides.ensures.0 c.if-are_sides.true in
    crossed_down a.p a.q a.a a.b c.spot_between.result (simp to_z-of_z at c.spot_between.ensures.j ∙ first)
    (difference_of _ _ _ _ _ (simp to_z-of_z at c.spot_between.ensures.m) first second) (rw first at more) (rw second at less) sides.0 sides.1

pub returns-else-are_sides : goal.returns-else-are_sides
returns-else-are_sides c =
    let a = c.args in
    let first : c.cross_of-start.result ≡ (ends_of a.p a.q a.a a.b).ga = cross_same _ _ _ _ _ c.displacement-edge.ensures.value c.displacement.ensures.value c.cross_of-start.ensures.value in
    let fg : FitsSigned w64 c.cross_of-start.result = omega (arith, ints, c.cross_of-start.ensures.small) in
    let more : pos 0 <ℤ c.cross_of-start.result = omega (arith, ints, c.if-start-gt0.true) in
    missed_down _ _ _ _ (rw first at more) (fails_by _ _ c.if-are_sides.false c.are_sides.ensures)

pub returns-then-are_sides-2 : goal.returns-then-are_sides-2
returns-then-are_sides-2 c =
    let a = c.args in
    let fg : FitsSigned w64 c.cross_of-start.result = omega (arith, ints, c.cross_of-start.ensures.small) in
    let fh : FitsSigned w64 c.cross_of-end.result = omega (arith, ints, c.cross_of-end.ensures.small) in
    let gg : FitsSigned w64 (pos 0 -ℤ c.cross_of-start.result) = omega (arith, ints, c.cross_of-start.ensures.small) in
    let gh : FitsSigned w64 (pos 0 -ℤ c.cross_of-end.result) = omega (arith, ints, c.cross_of-end.ensures.small) in
    let first : c.cross_of-start.result ≡ (ends_of a.p a.q a.a a.b).ga = cross_same _ _ _ _ _ c.displacement-edge.ensures.value c.displacement.ensures.value c.cross_of-start.ensures.value in
    let second : c.cross_of-end.result ≡ (ends_of a.p a.q a.a a.b).gb = cross_same _ _ _ _ _ c.displacement-edge.ensures.value c.displacement-2.ensures.value c.cross_of-end.ensures.value in
    let less : c.cross_of-start.result <ℤ pos 0 = omega (arith, ints, c.if-start-lt0.true) in
    let more : pos 0 <ℤ c.cross_of-end.result = omega (arith, ints, c.if-end-gt0.true) in
    let sides = c.are_sides-then-end-gt0.ensures.0 c.if-are_sides-2.true in
    crossed_up a.p a.q a.a a.b c.spot_between-then-are_sides-2.result (neg_of _ _ _ (simp to_z-of_z at c.spot_between-then-are_sides-2.ensures.j) first)
    (neg_difference _ _ _ _ _ (simp to_z-of_z at c.spot_between-then-are_sides-2.ensures.m) first second) (rw first at less) (rw second at more) sides.1 sides.0

pub returns-else-are_sides-2 : goal.returns-else-are_sides-2
returns-else-are_sides-2 c =
    let a = c.args in
    let first : c.cross_of-start.result ≡ (ends_of a.p a.q a.a a.b).ga = cross_same _ _ _ _ _ c.displacement-edge.ensures.value c.displacement.ensures.value c.cross_of-start.ensures.value in
    let fg : FitsSigned w64 c.cross_of-start.result = omega (arith, ints, c.cross_of-start.ensures.small) in
    let less : c.cross_of-start.result <ℤ pos 0 = omega (arith, ints, c.if-start-lt0.true) in
    missed_up _ _ _ _ (rw first at less) (fails_by _ _ c.if-are_sides-2.false c.are_sides-then-end-gt0.ensures)

pub returns-else-start-lt0 : goal.returns-else-start-lt0
returns-else-start-lt0 c =
    let a = c.args in
    let fg : FitsSigned w64 c.cross_of-start.result = omega (arith, ints, c.cross_of-start.ensures.small) in
    let fh : FitsSigned w64 c.cross_of-end.result = omega (arith, ints, c.cross_of-end.ensures.small) in
    let first : c.cross_of-start.result ≡ (ends_of a.p a.q a.a a.b).ga = cross_same _ _ _ _ _ c.displacement-edge.ensures.value c.displacement.ensures.value c.cross_of-start.ensures.value in
    let second : c.cross_of-end.result ≡ (ends_of a.p a.q a.a a.b).gb = cross_same _ _ _ _ _ c.displacement-edge.ensures.value c.displacement-2.ensures.value c.cross_of-end.ensures.value in
    missed_neither _ _ _ _
    (λ more less. elim c.else-start-gt0.branch [
      | else-start-gt0-via-then-start-gt0+else-end-lt0 w ↦ absurd (omega (arith, ints, second, less, w.if-end-lt0.false))
      | else-start-gt0-via-else-start-gt0 w ↦ absurd (omega (arith, ints, first, more, w.if-start-gt0.false))
    ])
    (λ less more. elim c.else-start-lt0.branch [
      | else-start-lt0-via-then-start-lt0+else-end-gt0 w ↦ absurd (omega (arith, ints, second, more, w.if-end-gt0.false))
      | else-start-lt0-via-else-start-lt0 w ↦ absurd (omega (arith, ints, first, less, w.if-start-lt0.false))
    ])
