use Rattle.std.proofs.Common.{rules, refl, ◌≡◌, arith, pos, ◌*ℤ◌, ◌-ℤ◌, FitsSigned, w64, ◌∙◌}
use Rattle.std.specs.Int.{w128}
use Rattle.std.proofs.lemmas.Int.{to_z-of_z}
use Rattle.apt_num.specs.Near.{near}
use Rattle.apt_canon.proofs.DefinedCircles.Sizes.{twice_fits, twice_kept, twice_size, twice_not_zero}
use Rattle.apt_canon.proofs.rounds.share.Goals as goal

pub overflow_mul-turn : goal.overflow_mul-turn
overflow_mul-turn c = twice_fits c.args.turn c.requires.turn_small

pub div_near-requires-clause-not_zero : goal.div_near-requires-clause-not_zero
div_near-requires-clause-not_zero c = rw (twice_kept c.args.turn c.requires.turn_small) (twice_not_zero c.args.turn c.requires.not_zero)

pub div_near-requires-clause-b_fits : goal.div_near-requires-clause-b_fits
div_near-requires-clause-b_fits c = rw (twice_kept c.args.turn c.requires.turn_small) (omega (arith, twice_size c.args.turn c.requires.turn_small))

pub returns : goal.returns
returns c =
    let fits_a : FitsSigned w64 c.args.a = c.ranges.a in
    let fits_b : FitsSigned w128 c.args.b = c.ranges.b in
    let fits_c : FitsSigned w64 c.args.c = c.ranges.c in
    let fits_d : FitsSigned w128 c.args.d = c.ranges.d in
    let fits_top : FitsSigned w128 c.product_difference.result = search rules in
    let fits_result : FitsSigned w128 c.div_near.result = search rules in
    let top : c.product_difference.result ≡ (c.args.a *ℤ c.args.b) -ℤ (c.args.c *ℤ c.args.d) = simp to_z-of_z at c.product_difference.ensures.value in
    let value : c.div_near.result ≡ near c.product_difference.result (pos 2 *ℤ c.args.turn) =
    rw (to_z-of_z w128 c.product_difference.result fits_top, twice_kept c.args.turn c.requires.turn_small) at c.div_near.ensures.value in
    to_z-of_z w128 c.div_near.result fits_result ∙ value ∙ rw top refl
