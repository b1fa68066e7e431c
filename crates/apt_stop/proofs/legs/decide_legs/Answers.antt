use Rattle.apt_stop.proofs.FullTurns.{full_turn_exactly}
use Rattle.apt_stop.proofs.NotTangent.{not_tangent_exactly}
use Rattle.apt_stop.proofs.StopSides.{legs_aside}
use Rattle.apt_stop.proofs.legs.decide_legs.Goals as goal

pub returns-clause-not_tangent : goal.returns-clause-not_tangent
returns-clause-not_tangent c = not_tangent_exactly c.decide_legs_value.result c.args.legs c.args.c.now c.requires c.decide_legs_value.ensures.value

pub returns-clause-full_turn : goal.returns-clause-full_turn
returns-clause-full_turn c = full_turn_exactly c.decide_legs_value.result c.args.legs c.args.c.now c.requires c.decide_legs_value.ensures.value

pub returns-clause-aside : goal.returns-clause-aside
returns-clause-aside c = legs_aside c.decide_legs_value.result c.args.c.now c.requires.check c.decide_legs_value.ensures.ends
