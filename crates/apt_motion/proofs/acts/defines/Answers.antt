use Rattle.std.proofs.Common.{◌∙◌, Ok, Err, refl, sym, ap}
use Rattle.apt_defs.specs.declared.definitions.DefError.{DefError}
use Rattle.apt_meaning.specs.Compiled.{asked_by}
use Rattle.apt_meaning.specs.declared.effect.Effect.TheVariants as effects
use Rattle.apt_motion.proofs.Given.{form_asked}
use Rattle.apt_motion.proofs.acts.defines.Goals as goal

pub returns-in-Ok : goal.returns-in-Ok
returns-in-Ok g c =
    let here = c.args.here.now in
    let defined = c.in-Ok.ensures.ok in (
      effects.Defines c.args.name defined.0,
      record {
        asks = sym (ap (asked_by here) c.requires.asks) ∙ form_asked here c.args.name c.args.form.now (Ok defined.0) defined.1;
        after = ap (λ t. record here { table = t }) defined.2;
        taken = refl;
      },
    )

pub returns-in-Err-Case : goal.returns-in-Err-Case
returns-in-Err-Case g c =
    let here = c.args.here.now in
    let case = c.in-Err-Case.case in
    let figure = (c.in-Err-Case.ensures.refused case).0 (ap (λ (e : DefError). Err e) c.in-Err-Case.field-0-is) in
    rw c.refusal.ensures (
      case,
      record {
        asks = sym (ap (asked_by here) c.requires.asks) ∙ form_asked here c.args.name c.args.form.now (Err case) figure;
        told = refl;
        same = refl;
      },
    )
