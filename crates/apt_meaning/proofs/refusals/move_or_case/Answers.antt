use Rattle.std.proofs.Common.{◌≡◌, ◌∙◌, Some, refl, sym}
use Rattle.apt_meaning.specs.Effects.{goes}
use Rattle.apt_meaning.specs.declared.effect.Effect.TheVariants as effects
use Rattle.apt_meaning.proofs.Refused.{move_refused, move_asked}
use Rattle.apt_meaning.proofs.refusals.move_or_case.Goals as goal

pub returns-in-None-move_case-clause-value : goal.returns-in-None-move_case-clause-value
returns-in-None-move_case-clause-value c =
    let asks : goes c.args.here.now c.args.route.now ≡ Some (effects.Moves c.in-Some.reach c.in-Some.to) = c.in-Some.ensures in
    (move_asked c.args.here.now c.args.route.now c.in-Some.reach c.in-Some.to c.requires.situation asks c.in-None-move_case.ensures).0

pub returns-in-None-move_case-clause-range : goal.returns-in-None-move_case-clause-range
returns-in-None-move_case-clause-range c =
    let asks : goes c.args.here.now c.args.route.now ≡ Some (effects.Moves c.in-Some.reach c.in-Some.to) = c.in-Some.ensures in
    (move_asked c.args.here.now c.args.route.now c.in-Some.reach c.in-Some.to c.requires.situation asks c.in-None-move_case.ensures).1

pub returns-in-Some-move_case-clause-value : goal.returns-in-Some-move_case-clause-value
returns-in-Some-move_case-clause-value c =
    let asks : goes c.args.here.now c.args.route.now ≡ Some (effects.Moves c.in-Some.reach c.in-Some.to) = c.in-Some.ensures in
    rw (move_refused c.args.here.now c.args.route.now c.in-Some.reach c.in-Some.to c.requires.situation asks ∙ sym c.in-Some-move_case.ensures) refl
