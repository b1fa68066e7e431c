use Rattle.std.proofs.Common.{◌≡◌, ◌∙◌, ap, ◌<◌, arith, ◌+ℤ◌, ◌-ℤ◌, ◌&&◌, nat_le, FitsSigned, w8, w64}
use Rattle.std.proofs.lemmas.Int.{ints, to_z-of_z}
use Rattle.apt_num.specs.Sign.{square}
use Rattle.apt_plane.specs.declared.figures.Dir.{Dir}
use Rattle.apt_plane.specs.Vectors.{displacement, length_squared}
use Rattle.apt_canon.specs.Circles.{circle_circle_point}
use Rattle.apt_canon.proofs.CircleMeetings.Answers.{tested_meeting, meeting_answer}
use Rattle.apt_canon.proofs.circles.circle_circle_value.Goals as goal

pub circle_circle_point_value-requires-clause-meeting : goal.circle_circle_point_value-requires-clause-meeting
circle_circle_point_value-requires-clause-meeting c =
    let a = c.args.a.now in
    let b = c.args.b.now in
    let n = c.length_squared-square.result in
    let fits_a : FitsSigned w64 a.r = omega (arith, ints) in
    let fits_b : FitsSigned w64 b.r = omega (arith, ints) in
    let distance : n ≡ length_squared (displacement a.c b.c) = c.length_squared-square.ensures ∙ ap (λ (d : Dir). length_squared d) c.displacement.ensures.value in
    let value : c.overlap.result ≡ (nat_le (square (a.r -ℤ b.r)) n && nat_le n (square (a.r +ℤ b.r))) = simp to_z-of_z at c.overlap.ensures in
    tested_meeting a b n c.overlap.result distance value c.if-overlap.true

pub returns-then-overlap : goal.returns-then-overlap
returns-then-overlap c =
    let a = c.args.a.now in
    let b = c.args.b.now in
    let n = c.length_squared-square.result in
    let fits_sigma : FitsSigned w8 c.args.sigma = c.ranges.sigma in
    let fits_a : FitsSigned w64 a.r = omega (arith, ints) in
    let fits_b : FitsSigned w64 b.r = omega (arith, ints) in
    let distance : n ≡ length_squared (displacement a.c b.c) = c.length_squared-square.ensures ∙ ap (λ (d : Dir). length_squared d) c.displacement.ensures.value in
    let value : c.overlap.result ≡ (nat_le (square (a.r -ℤ b.r)) n && nat_le n (square (a.r +ℤ b.r))) = simp to_z-of_z at c.overlap.ensures in
    let positive : 0 < n = omega (arith, c.if-square-eq0.false) in
    let point : c.circle_circle_point_value.result ≡ circle_circle_point a b c.args.sigma = simp to_z-of_z at c.circle_circle_point_value.ensures in
    c.within.ensures ∙ rw point (meeting_answer a b n c.overlap.result c.args.sigma positive distance value c.if-overlap.true)
