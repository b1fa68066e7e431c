use Rattle.apt_motion.proofs.Legs.{next_free}
use Rattle.apt_motion.proofs.records.next_leg.Goals as goal

pub returns-clause-none : goal.returns-clause-none
returns-clause-none c = next_free c.args.motion.now c.args.first c.onward.result c.requires.motion c.requires.none c.requires.first c.onward.ensures.value
