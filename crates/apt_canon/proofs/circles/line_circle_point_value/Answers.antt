use Rattle.std.proofs.Common.{◌≡◌, ◌∙◌, rules, refl, arith, pos, neg_ℤ, ◌-ℤ◌, ◌*ℤ◌, FitsSigned, w8, w64}
use Rattle.std.specs.Int.{w128}
use Rattle.std.proofs.lemmas.Int.{ints, to_z-of_z}
use Rattle.apt_canon.specs.Circles.{framed, half_chord}
use Rattle.apt_canon.proofs.Products.{zero-minus}
use Rattle.apt_canon.proofs.circles.line_circle_point_value.Goals as goal

pub returns : goal.returns
returns c =
    let l = c.args.l.now in
    let circle = c.args.c.now in
    let depth = c.depth-depth.result in
    let fits_sigma : FitsSigned w8 c.args.sigma = c.ranges.sigma in
    let fits_r : FitsSigned w64 circle.r = omega (arith, ints) in
    let fits_depth : FitsSigned w128 depth = omega (arith, ints) in
    let fits_turned : FitsSigned w128 (pos 0 -ℤ depth) = omega (arith, ints) in
    let fits_half : FitsSigned w128 c.half_chord.result = search rules in
    let fits_along : FitsSigned w128 c.by_sigma.result = search rules in
    let half : c.half_chord.result ≡ half_chord circle.r depth = simp to_z-of_z at c.half_chord.ensures.value in
    let along : c.by_sigma.result ≡ c.args.sigma *ℤ c.half_chord.result = simp to_z-of_z at c.by_sigma.ensures.value in
    let plain : c.framed.result ≡ framed circle.c l.line.dir c.by_sigma.result (pos 0 -ℤ depth) = simp to_z-of_z at c.framed.ensures in
    let value : c.framed.result ≡ framed circle.c l.line.dir c.by_sigma.result (neg_ℤ depth) = rw (zero-minus depth) at plain in
    value ∙ rw (along, half, c.depth-depth.ensures.value) refl
