use Rattle.apt_canon.proofs.TangentLines.Answers.{from_no_meeting, from_range, from_base, from_touches, from_side, from_onwards}
use Rattle.apt_canon.proofs.tangents.tangent_from.Goals as goal

pub returns-clause-no_meeting : goal.returns-clause-no_meeting
returns-clause-no_meeting c = from_no_meeting c.tangent_from_value.result c.args.p c.args.left c.args.c.now c.tangent_from_value.ensures

pub returns-clause-range : goal.returns-clause-range
returns-clause-range c = from_range c.tangent_from_value.result c.args.p c.args.left c.args.c.now c.requires.point c.requires.circle c.tangent_from_value.ensures

pub returns-clause-base : goal.returns-clause-base
returns-clause-base c = from_base c.tangent_from_value.result c.args.p c.args.left c.args.c.now c.tangent_from_value.ensures

pub returns-clause-touches : goal.returns-clause-touches
returns-clause-touches c = from_touches c.tangent_from_value.result c.args.p c.args.left c.args.c.now c.requires.point c.requires.circle c.tangent_from_value.ensures

pub returns-clause-side : goal.returns-clause-side
returns-clause-side c = from_side c.tangent_from_value.result c.args.p c.args.left c.args.c.now c.requires.point c.requires.circle c.tangent_from_value.ensures

pub returns-clause-onwards : goal.returns-clause-onwards
returns-clause-onwards c = from_onwards c.tangent_from_value.result c.args.p c.args.left c.args.c.now c.requires.point c.requires.circle c.tangent_from_value.ensures
