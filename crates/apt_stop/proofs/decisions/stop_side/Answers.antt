use Rattle.std.proofs.Common.{◌∙◌}
use Rattle.apt_stop.proofs.Running.{runs_exactly}
use Rattle.apt_stop.proofs.Sided.{side_is}
use Rattle.apt_stop.proofs.decisions.stop_side.Goals as goal

pub returns-clause-side : goal.returns-clause-side
returns-clause-side c = runs_exactly c.side_from.result c.args.c.now c.requires.stop ((rw c.far_side.ensures at c.side_from.ensures) ∙ side_is c.args.c.now)
