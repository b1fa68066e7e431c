use Rattle.std.proofs.Common.{rules, refl, ◌≡◌, arith, pos, ◌+ℤ◌, FitsSigned, w64, ◌∙◌}
use Rattle.std.proofs.lemmas.Int.{ints, to_z-of_z}
use Rattle.apt_canon.specs.Rounds as rounds
use Rattle.apt_canon.specs.Scale as scale
use Rattle.apt_canon.proofs.rounds.circle_from.Goals as goal

pub returns : goal.returns
returns c =
    let p = c.args.p in
    let way = c.args.way in
    let fits_x : FitsSigned w64 p.x = omega (arith, ints) in
    let fits_y : FitsSigned w64 p.y = omega (arith, ints) in
    let fits_dx : FitsSigned w64 way.dx = omega (arith, ints) in
    let fits_dy : FitsSigned w64 way.dy = omega (arith, ints) in
    let fits_sum_x : FitsSigned w64 (p.x +ℤ way.dx) = omega (arith, ints) in
    let fits_sum_y : FitsSigned w64 (p.y +ℤ way.dy) = omega (arith, ints) in
    let fits_length : FitsSigned w64 c.length_near.result = search rules in
    let value : c.circle_of_value.result ≡ rounds.circle_of (scale.from p way) c.length_near.result = simp to_z-of_z at c.circle_of_value.ensures in
    let length : c.length_near.result ≡ pos (rounds.length_near way) = c.length_near.ensures in
    value ∙ rw length refl
