use Rattle.std.proofs.Common.{refl, sym, ap}
use Rattle.apt_meaning.specs.Compiled.{asked_by}
use Rattle.apt_meaning.specs.declared.effect.Change.TheVariants as changes
use Rattle.apt_meaning.specs.declared.effect.Effect.TheVariants as effects
use Rattle.apt_motion.proofs.acts.does.Goals as goal

pub returns-in-Sets : goal.returns-in-Sets
returns-in-Sets g c =
    (effects.Sets (changes.Side c.in-Sets.side), record { asks = sym (ap (asked_by c.args.here.now) c.in-Sets.ensures); after = refl; taken = refl })

pub returns-in-Nothing : goal.returns-in-Nothing
returns-in-Nothing g c =
    (effects.Sets changes.Nothing, record { asks = sym (ap (asked_by c.args.here.now) c.in-Nothing.ensures); after = refl; taken = refl })
