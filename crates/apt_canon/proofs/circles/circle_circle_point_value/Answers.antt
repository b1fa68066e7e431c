use Rattle.std.proofs.Common.{◌≡◌, ◌∙◌, rules, refl, arith, ◌*ℤ◌, FitsSigned, w8, w64}
use Rattle.std.specs.Int.{w128}
use Rattle.std.proofs.lemmas.Int.{ints, to_z-of_z}
use Rattle.apt_canon.specs.Circles.{framed, half_chord}
use Rattle.apt_canon.proofs.circles.circle_circle_point_value.Goals as goal

pub returns : goal.returns
returns c =
    let a = c.args.a.now in
    let depth = c.chord_depth-depth.result in
    let fits_sigma : FitsSigned w8 c.args.sigma = c.ranges.sigma in
    let fits_r : FitsSigned w64 a.r = omega (arith, ints) in
    let fits_depth : FitsSigned w128 depth = search rules in
    let fits_half : FitsSigned w128 c.half_chord.result = search rules in
    let fits_left : FitsSigned w128 c.by_sigma.result = search rules in
    let half : c.half_chord.result ≡ half_chord a.r depth = simp to_z-of_z at c.half_chord.ensures.value in
    let left : c.by_sigma.result ≡ c.args.sigma *ℤ c.half_chord.result = simp to_z-of_z at c.by_sigma.ensures.value in
    let value : c.framed.result ≡ framed a.c c.way_between-way.result depth c.by_sigma.result = simp to_z-of_z at c.framed.ensures in
    value ∙ rw (left, half, c.chord_depth-depth.ensures.value, c.way_between-way.ensures.value) refl
