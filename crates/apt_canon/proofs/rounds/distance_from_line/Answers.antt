use Rattle.std.proofs.Common.{rules, refl, ◌≡◌, ◌*◌, ◌^◌, ◌≤◌, arith, pos, ◌*ℤ◌, unsigned_abs, FitsSigned, to_z, w64, ◌∙◌}
use Rattle.std.specs.Int.{w128}
use Rattle.std.proofs.lemmas.Int.{ints, to_z-of_z}
use Rattle.apt_num.specs.Near.{near}
use Rattle.apt_canon.specs.Scale.{unit}
use Rattle.apt_canon.specs.Rounds.{distance_from_line}
use Rattle.apt_canon.proofs.Depths.{length_positive}
use Rattle.apt_canon.proofs.DefinedCircles.Sizes.{distance_plain, size_units_kept}
use Rattle.apt_canon.proofs.rounds.distance_from_line.Goals as goal

pub div_near-requires-clause-not_zero : goal.div_near-requires-clause-not_zero
div_near-requires-clause-not_zero c =
    let fits : FitsSigned w128 c.length_of.result = search rules in
    rw (to_z-of_z w128 c.length_of.result fits, c.length_of.ensures.value) (length_positive c.args.l.now.dir c.requires.l.dir)

pub overflow_cast-result : goal.overflow_cast-result
overflow_cast-result c =
    let fits_length : FitsSigned w128 c.length_of.result = search rules in
    let fits_height : FitsSigned w128 c.height.result = search rules in
    let fits_result : FitsSigned w128 c.div_near.result = search rules in
    let small : unsigned_abs c.height.result ≤ 2 * 10 ^ 16 = c.height.ensures.small in
    let size : to_z w128 c.unsigned_abs-size.result ≡ pos (unsigned_abs c.height.result) = omega (arith, ints) in
    let value : c.div_near.result ≡ near (pos (unsigned_abs c.height.result) *ℤ unit) c.length_of.result =
    rw (size, size_units_kept (unsigned_abs c.height.result) small, to_z-of_z w128 c.length_of.result fits_length) at c.div_near.ensures.value in
    let same : c.div_near.result ≡ distance_from_line c.args.p c.args.l.now = value ∙ rw (c.height.ensures.value, c.length_of.ensures.value) refl in
    rw (to_z-of_z w128 c.div_near.result fits_result, same) (distance_plain c.args.p c.args.l.now c.requires.p c.requires.l)

pub returns : goal.returns
returns c =
    let fits_length : FitsSigned w128 c.length_of.result = search rules in
    let fits_height : FitsSigned w128 c.height.result = search rules in
    let fits_result : FitsSigned w128 c.div_near.result = search rules in
    let small : unsigned_abs c.height.result ≤ 2 * 10 ^ 16 = c.height.ensures.small in
    let size : to_z w128 c.unsigned_abs-size.result ≡ pos (unsigned_abs c.height.result) = omega (arith, ints) in
    let value : c.div_near.result ≡ near (pos (unsigned_abs c.height.result) *ℤ unit) c.length_of.result =
    rw (size, size_units_kept (unsigned_abs c.height.result) small, to_z-of_z w128 c.length_of.result fits_length) at c.div_near.ensures.value in
    let same : c.div_near.result ≡ distance_from_line c.args.p c.args.l.now = value ∙ rw (c.height.ensures.value, c.length_of.ensures.value) refl in
    rw (to_z-of_z w128 c.div_near.result fits_result, same) (to_z-of_z w64 (distance_from_line c.args.p c.args.l.now) (distance_plain c.args.p c.args.l.now c.requires.p c.requires.l))
