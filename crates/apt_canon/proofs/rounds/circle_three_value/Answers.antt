use Rattle.std.proofs.Common.{rules, refl, ◌≢◌, arith, pos, FitsSigned, ◌∙◌}
use Rattle.std.specs.Int.{w128}
use Rattle.std.proofs.lemmas.Int.{ints, to_z-of_z}
use Rattle.apt_canon.proofs.Fits.{not_zero-test}
use Rattle.apt_canon.proofs.DefinedCircles.Sizes.{first_way, second_way, turn_small}
use Rattle.apt_canon.proofs.rounds.circle_three_value.Goals as goal

pub centre_from-requires-clause-b : goal.centre_from-requires-clause-b
centre_from-requires-clause-b c =
    let apart : c.cross-turn.result ≢ pos 0 = omega (arith, ints) in
    let turn = rw (c.cross-turn.ensures.value, c.displacement-b.ensures.value, c.displacement-c.ensures.value) at apart in
    rw c.displacement-b.ensures.value (first_way c.args.p c.args.q c.args.r c.requires.p c.requires.q turn)

pub centre_from-requires-clause-c : goal.centre_from-requires-clause-c
centre_from-requires-clause-c c =
    let apart : c.cross-turn.result ≢ pos 0 = omega (arith, ints) in
    let turn = rw (c.cross-turn.ensures.value, c.displacement-b.ensures.value, c.displacement-c.ensures.value) at apart in
    rw c.displacement-c.ensures.value (second_way c.args.p c.args.q c.args.r c.requires.p c.requires.r turn)

pub centre_from-requires-clause-turn_small : goal.centre_from-requires-clause-turn_small
centre_from-requires-clause-turn_small c =
    let apart : c.cross-turn.result ≢ pos 0 = omega (arith, ints) in
    let turn = rw (c.cross-turn.ensures.value, c.displacement-b.ensures.value, c.displacement-c.ensures.value) at apart in
    let fits : FitsSigned w128 c.cross-turn.result = search rules in
    rw (to_z-of_z w128 c.cross-turn.result fits, c.cross-turn.ensures.value, c.displacement-b.ensures.value, c.displacement-c.ensures.value)
    (turn_small c.args.p c.args.q c.args.r c.requires.p c.requires.q c.requires.r turn)

pub returns : goal.returns
returns c =
    let apart : c.cross-turn.result ≢ pos 0 = omega (arith, ints) in
    let turn = rw (c.cross-turn.ensures.value, c.displacement-b.ensures.value, c.displacement-c.ensures.value) at apart in
    c.circle_about.ensures
    ∙ rw (c.centre_from.ensures.x, c.centre_from.ensures.y, c.displacement-b.ensures.value, c.displacement-c.ensures.value, not_zero-test _ turn) refl
