use Rattle.std.proofs.Common.{◌∙◌, sym, ap}
use Rattle.apt_meaning.specs.Compiled.{asked_by}
use Rattle.apt_meaning.specs.declared.effect.Effect.TheVariants as effects
use Rattle.apt_motion.proofs.acts.goes.Goals as goal

pub returns-in_ok-point-in-Ok : goal.returns-in_ok-point-in-Ok
returns-in_ok-point-in-Ok g c =
    let moved = c.in-Ok in (
      effects.Moves moved.reach moved.to,
      record {
        asks = sym (ap (asked_by c.args.here.now) c.requires.asks) ∙ moved.ensures.value;
        after = c.go_to.ensures;
        taken = c.in_ok-point-in-Ok.ensures;
      },
    )
