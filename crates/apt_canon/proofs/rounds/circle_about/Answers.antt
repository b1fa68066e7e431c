use Rattle.std.proofs.Common.{rules, refl, ◌≡◌, ◌≤◌, arith, pos, unsigned_abs, FitsSigned, w64, ◌∙◌}
use Rattle.std.specs.Prelude.{◌*◌, ◌^◌}
use Rattle.std.specs.Int.{w128}
use Rattle.std.proofs.lemmas.Int.{ints, to_z-of_z}
use Rattle.apt_plane.specs.declared.figures.Dir.{Dir}
use Rattle.apt_canon.specs.Rounds as rounds
use Rattle.apt_canon.specs.Scale as scale
use Rattle.apt_canon.proofs.DefinedCircles.Sizes.{not_far}
use Rattle.apt_canon.proofs.rounds.circle_about.Goals as goal

pub returns : goal.returns
returns c =
    let x = c.args.way.x in
    let y = c.args.way.y in
    let wide_x : FitsSigned w128 x = search rules in
    let wide_y : FitsSigned w128 y = search rules in
    let small_x : unsigned_abs x ≤ 2 * 10 ^ 8 = omega (arith, ints) in
    let small_y : unsigned_abs y ≤ 2 * 10 ^ 8 = omega (arith, ints) in
    let fits_x : FitsSigned w64 x = omega (arith, ints) in
    let fits_y : FitsSigned w64 y = omega (arith, ints) in
    let way : Dir = record { dx = x; dy = y } in
    let value : c.circle_from.result ≡ rounds.circle_of (scale.from c.args.p way) (pos (rounds.length_near way)) = simp to_z-of_z at c.circle_from.ensures in
    value ∙ rw (not_far x small_x, not_far y small_y) refl
