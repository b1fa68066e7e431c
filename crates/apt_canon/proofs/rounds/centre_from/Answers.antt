use Rattle.std.proofs.Common.{rules, refl, ◌≡◌, arith, pos, ◌*ℤ◌, ◌-ℤ◌, FitsSigned, to_z, w64, ◌∙◌}
use Rattle.std.specs.Int.{w128}
use Rattle.std.proofs.Math.IntN.{*ℤ_comm}
use Rattle.std.proofs.lemmas.Int.{ints, to_z-of_z}
use Rattle.apt_num.specs.Near.{near}
use Rattle.apt_canon.proofs.rounds.centre_from.Goals as goal

pub returns-clause-x : goal.returns-clause-x
returns-clause-x c =
    let b = c.args.b in
    let d = c.args.c in
    let fits_b : FitsSigned w64 b.dy = omega (arith, ints) in
    let fits_c : FitsSigned w64 d.dy = omega (arith, ints) in
    let fits_turn : FitsSigned w128 c.args.turn = c.ranges.turn in
    let fits_result : FitsSigned w128 c.share.result = search rules in
    let plain_b : to_z w128 c.length_squared_of-squared_b.result ≡ pos c.length_squared_of-squared_b.result = omega (arith, ints) in
    let plain_c : to_z w128 c.length_squared_of-squared_c.result ≡ pos c.length_squared_of-squared_c.result = omega (arith, ints) in
    let value : c.share.result ≡ near ((d.dy *ℤ pos c.length_squared_of-squared_b.result) -ℤ (b.dy *ℤ pos c.length_squared_of-squared_c.result)) (pos 2 *ℤ c.args.turn) =
    rw (← plain_b, ← plain_c) (simp to_z-of_z at c.share.ensures) in
    to_z-of_z w128 c.share.result fits_result ∙ value
    ∙ rw (*ℤ_comm d.dy (pos c.length_squared_of-squared_b.result), *ℤ_comm b.dy (pos c.length_squared_of-squared_c.result), c.length_squared_of-squared_b.ensures.value, c.length_squared_of-squared_c.ensures.value, c.requires.turn) refl

pub returns-clause-y : goal.returns-clause-y
returns-clause-y c =
    let b = c.args.b in
    let d = c.args.c in
    let fits_b : FitsSigned w64 b.dx = omega (arith, ints) in
    let fits_c : FitsSigned w64 d.dx = omega (arith, ints) in
    let fits_turn : FitsSigned w128 c.args.turn = c.ranges.turn in
    let fits_result : FitsSigned w128 c.share-2.result = search rules in
    let plain_b : to_z w128 c.length_squared_of-squared_b.result ≡ pos c.length_squared_of-squared_b.result = omega (arith, ints) in
    let plain_c : to_z w128 c.length_squared_of-squared_c.result ≡ pos c.length_squared_of-squared_c.result = omega (arith, ints) in
    let value : c.share-2.result ≡ near ((b.dx *ℤ pos c.length_squared_of-squared_c.result) -ℤ (d.dx *ℤ pos c.length_squared_of-squared_b.result)) (pos 2 *ℤ c.args.turn) =
    rw (← plain_b, ← plain_c) (simp to_z-of_z at c.share-2.ensures) in
    to_z-of_z w128 c.share-2.result fits_result ∙ value
    ∙ rw (*ℤ_comm b.dx (pos c.length_squared_of-squared_c.result), *ℤ_comm d.dx (pos c.length_squared_of-squared_b.result), c.length_squared_of-squared_b.ensures.value, c.length_squared_of-squared_c.ensures.value, c.requires.turn) refl
