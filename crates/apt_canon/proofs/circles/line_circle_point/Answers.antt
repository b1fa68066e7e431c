use Rattle.std.proofs.Common.{◌≡◌, w8}
use Rattle.std.proofs.lemmas.Int.{to_z-of_z}
use Rattle.apt_canon.specs.Circles.{line_circle_point}
use Rattle.apt_canon.proofs.CircleMeetings.Across.{point_further}
use Rattle.apt_canon.proofs.CircleMeetings.Answers.{on_line, on_circle}
use Rattle.apt_canon.proofs.circles.line_circle_point.Goals as goal

value : (c : goal.After-line_circle_point_value) → c.line_circle_point_value.result ≡ line_circle_point c.args.l.now.line c.args.l.now.off c.args.c.now c.args.sigma
value c = rw (to_z-of_z w8 c.args.sigma c.ranges.sigma) at c.line_circle_point_value.ensures

pub returns-clause-on_line : goal.returns-clause-on_line
returns-clause-on_line c = rw (value c) (on_line c.args.l.now c.args.c.now c.args.sigma c.requires.line c.requires.circle c.requires.meeting)

pub returns-clause-on_circle : goal.returns-clause-on_circle
returns-clause-on_circle c = rw (value c) (on_circle c.args.l.now c.args.c.now c.args.sigma c.requires.line c.requires.circle c.requires.sense c.requires.meeting)

pub returns-clause-along : goal.returns-clause-along
returns-clause-along c = rw (value c) (point_further c.args.l.now.line c.args.l.now.off c.args.c.now c.args.sigma c.requires.line.line c.requires.sense)
