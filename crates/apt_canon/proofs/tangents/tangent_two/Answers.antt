use Rattle.apt_canon.proofs.TangentLines.Answers.{two_degenerate, two_no_meeting, two_range, two_base, two_touches_first, two_touches_second, two_side_first, two_side_second, two_onwards}
use Rattle.apt_canon.proofs.tangents.tangent_two.Goals as goal

pub returns-clause-degenerate : goal.returns-clause-degenerate
returns-clause-degenerate c = two_degenerate c.tangent_two_value.result c.args.a.now c.args.left_a c.args.b.now c.args.left_b c.tangent_two_value.ensures

pub returns-clause-no_meeting : goal.returns-clause-no_meeting
returns-clause-no_meeting c = two_no_meeting c.tangent_two_value.result c.args.a.now c.args.left_a c.args.b.now c.args.left_b c.tangent_two_value.ensures

pub returns-clause-range : goal.returns-clause-range
returns-clause-range c = two_range c.tangent_two_value.result c.args.a.now c.args.left_a c.args.b.now c.args.left_b c.requires.a c.requires.b c.tangent_two_value.ensures

pub returns-clause-base : goal.returns-clause-base
returns-clause-base c = two_base c.tangent_two_value.result c.args.a.now c.args.left_a c.args.b.now c.args.left_b c.requires.a c.requires.b c.tangent_two_value.ensures

pub returns-clause-touches_a : goal.returns-clause-touches_a
returns-clause-touches_a c = two_touches_first c.tangent_two_value.result c.args.a.now c.args.left_a c.args.b.now c.args.left_b c.requires.a c.requires.b c.tangent_two_value.ensures

pub returns-clause-touches_b : goal.returns-clause-touches_b
returns-clause-touches_b c = two_touches_second c.tangent_two_value.result c.args.a.now c.args.left_a c.args.b.now c.args.left_b c.requires.a c.requires.b c.tangent_two_value.ensures

pub returns-clause-side_a : goal.returns-clause-side_a
returns-clause-side_a c = two_side_first c.tangent_two_value.result c.args.a.now c.args.left_a c.args.b.now c.args.left_b c.requires.a c.requires.b c.tangent_two_value.ensures

pub returns-clause-side_b : goal.returns-clause-side_b
returns-clause-side_b c = two_side_second c.tangent_two_value.result c.args.a.now c.args.left_a c.args.b.now c.args.left_b c.requires.a c.requires.b c.tangent_two_value.ensures

pub returns-clause-onwards : goal.returns-clause-onwards
returns-clause-onwards c = two_onwards c.tangent_two_value.result c.args.a.now c.args.left_a c.args.b.now c.args.left_b c.requires.a c.requires.b c.tangent_two_value.ensures
