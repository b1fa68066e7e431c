use Rattle.apt_stop.proofs.Decided.{answer_refused, answer_range, answer_end}
use Rattle.apt_stop.proofs.decisions.decide.Goals as goal

pub returns-clause-refused : goal.returns-clause-refused
returns-clause-refused c = answer_refused c.decide_value.result c.args.c.now c.decide_value.ensures

pub returns-clause-range : goal.returns-clause-range
returns-clause-range c = answer_range c.decide_value.result c.args.c.now c.decide_value.ensures

pub returns-clause-end : goal.returns-clause-end
returns-clause-end c = answer_end c.decide_value.result c.args.c.now c.requires c.decide_value.ensures
