use Rattle.std.proofs.Common.{◌≡◌, w8}
use Rattle.std.proofs.lemmas.Int.{to_z-of_z}
use Rattle.apt_canon.specs.Circles.{line_circle}
use Rattle.apt_canon.proofs.CircleMeetings.Answers.{answer_no_meeting, answer_in_range, answer_on_line, answer_on_circle, answer_further}
use Rattle.apt_canon.proofs.circles.line_circle.Goals as goal

value : (c : goal.After-line_circle_value) → c.line_circle_value.result ≡ line_circle c.args.l.now.line c.args.l.now.off c.args.c.now c.args.sigma
value c = rw (to_z-of_z w8 c.args.sigma c.ranges.sigma) at c.line_circle_value.ensures

pub returns-clause-no_meeting : goal.returns-clause-no_meeting
returns-clause-no_meeting c = answer_no_meeting c.line_circle_value.result c.args.l.now c.args.c.now c.args.sigma (value c)

pub returns-clause-in_range : goal.returns-clause-in_range
returns-clause-in_range c = answer_in_range c.line_circle_value.result c.args.l.now c.args.c.now c.args.sigma (value c)

pub returns-clause-on_line : goal.returns-clause-on_line
returns-clause-on_line c = answer_on_line c.line_circle_value.result c.args.l.now c.args.c.now c.args.sigma c.requires.line c.requires.circle (value c)

pub returns-clause-on_circle : goal.returns-clause-on_circle
returns-clause-on_circle c = answer_on_circle c.line_circle_value.result c.args.l.now c.args.c.now c.args.sigma c.requires.line c.requires.circle c.requires.sense (value c)

pub returns-clause-along : goal.returns-clause-along
returns-clause-along c = answer_further c.line_circle_value.result c.args.l.now.line c.args.l.now.off c.args.c.now c.args.sigma c.requires.line.line c.requires.sense (value c)
