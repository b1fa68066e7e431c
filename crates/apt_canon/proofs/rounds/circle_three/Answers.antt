use Rattle.apt_canon.proofs.DefinedCircles.Laws.{three_degenerate, three_too_large, three_range, three_through}
use Rattle.apt_canon.proofs.rounds.circle_three.Goals as goal

pub returns-clause-degenerate : goal.returns-clause-degenerate
returns-clause-degenerate c = three_degenerate c.circle_three_value.result c.args.p c.args.q c.args.r c.circle_three_value.ensures

pub returns-clause-too_large : goal.returns-clause-too_large
returns-clause-too_large c = three_too_large c.circle_three_value.result c.args.p c.args.q c.args.r c.requires.p c.circle_three_value.ensures

pub returns-clause-range : goal.returns-clause-range
returns-clause-range c = three_range c.circle_three_value.result c.args.p c.args.q c.args.r c.circle_three_value.ensures

pub returns-clause-through : goal.returns-clause-through
returns-clause-through c = three_through c.circle_three_value.result c.args.p c.args.q c.args.r c.requires.p c.circle_three_value.ensures
