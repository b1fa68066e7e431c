use Rattle.std.proofs.Common.{◌≡◌, ◌∙◌, Some, Option, ap, sym, w64}
use Rattle.std.proofs.lemmas.Int.{to_z-of_z}
use Rattle.std.specs.Option.{option_or}
use Rattle.apt_words.specs.declared.Case.{Case}
use Rattle.apt_words.specs.Rows.{first_of}
use Rattle.apt_scalar.specs.Scalars.{whole}
use Rattle.apt_meaning.specs.Effects.{cuts_by}
use Rattle.apt_meaning.specs.Motions.{motion_at}
use Rattle.apt_meaning.specs.Refusals.{cut_cases}
use Rattle.apt_meaning.specs.declared.effect.Effect.TheVariants as effects
use Rattle.apt_meaning.proofs.Refused.{contour_refused}
use Rattle.apt_meaning.proofs.refusals.cut_or_case.Goals as goal

pub returns-in-None-feed_case-clause-value : goal.returns-in-None-feed_case-clause-value
returns-in-None-feed_case-clause-value c =
    let cut = c.in-Some.cut in
    let asks : cuts_by (whole c.args.n) (motion_at c.args.here.now c.args.contour.now) ≡ Some (effects.Cuts cut.motion cut.legs) = rw (to_z-of_z w64 c.args.n c.ranges.n) at c.in-Some.ensures.value in
    (asks, contour_refused c.args.here.now c.args.contour.now c.args.n cut.motion cut.legs asks ∙ sym (ap (λ (f : Option Case). option_or f (first_of (cut_cases cut.motion cut.legs))) c.in-None-feed_case.ensures))

pub returns-in-Some-feed_case-clause-value : goal.returns-in-Some-feed_case-clause-value
returns-in-Some-feed_case-clause-value c =
    let cut = c.in-Some.cut in
    let asks : cuts_by (whole c.args.n) (motion_at c.args.here.now c.args.contour.now) ≡ Some (effects.Cuts cut.motion cut.legs) = rw (to_z-of_z w64 c.args.n c.ranges.n) at c.in-Some.ensures.value in
    contour_refused c.args.here.now c.args.contour.now c.args.n cut.motion cut.legs asks ∙ sym (ap (λ (f : Option Case). option_or f (first_of (cut_cases cut.motion cut.legs))) c.in-Some-feed_case.ensures)
