use Rattle.apt_meaning.proofs.Alike.{result_alike}
use Rattle.apt_meaning.proofs.effects.effect_of.Goals as goal

pub returns-clause-alike : goal.returns-clause-alike
returns-clause-alike c = result_alike c.effect_value.result c.args.here.now c.args.deed.now c.effect_value.ensures
