use Rattle.std.proofs.Common.{◌≡◌, ◌∙◌, refl, arith, ◌-ℤ◌, neg_ℤ, ◌&&◌, FitsSigned, w64}
use Rattle.std.specs.Int.{w128}
use Rattle.std.proofs.lemmas.Int.{ints, to_z-of_z}
use Rattle.apt_num.specs.Sign as signs
use Rattle.apt_canon.proofs.circles.reaches.Goals as goal

pub returns : goal.returns
returns c =
    let l = c.args.l.now in
    let r = c.args.c.now.r in
    let height = c.height-height.result in
    let square = c.length_squared_of-square.result in
    let fits_height : FitsSigned w128 height = omega (arith, ints) in
    let fits_off : FitsSigned w64 l.off = omega (arith, ints) in
    let fits_r : FitsSigned w64 r = omega (arith, ints) in
    let value : c.is_between.result ≡ (signs.is_at_least height (l.off -ℤ r) square && signs.is_at_least (neg_ℤ height) (neg_ℤ l.off -ℤ r) square) = simp to_z-of_z at c.is_between.ensures in
    value ∙ rw (c.height-height.ensures.value, c.length_squared_of-square.ensures.value) refl
