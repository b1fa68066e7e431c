use Rattle.apt_stop.proofs.TwoLegs.{one_is, one_refused}
use Rattle.apt_stop.proofs.legs.one_end.Goals as goal

pub returns-in-Ok-clause-value : goal.returns-in-Ok-clause-value
returns-in-Ok-clause-value c = one_is c.args.c.now c.in-Ok.choice c.in-Ok.ensures.value

pub returns-in-Err-clause-value : goal.returns-in-Err-clause-value
returns-in-Err-clause-value c = one_refused c.args.c.now c.in-Err.case c.in-Err.ensures.value
