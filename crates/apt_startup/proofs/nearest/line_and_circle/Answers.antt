use Rattle.std.proofs.Common.{pos}
use Rattle.apt_canon.specs.Scale.{IsNearLine, IsNearCircle}
use Rattle.apt_contact.proofs.ContactLaws.{line_reaches}
use Rattle.apt_startup.proofs.Reach.{near_circle}
use Rattle.apt_startup.proofs.Nearer.{of_both}
use Rattle.apt_startup.proofs.nearest.line_and_circle.Goals as goal

pub line_circle_point-requires-clause-meeting : goal.line_circle_point-requires-clause-meeting
line_circle_point-requires-clause-meeting c = line_reaches c.args.l.now.line c.args.l.now.off c.args.c.now c.requires.circle.least c.requires.meeting

pub line_circle_point-requires-2-clause-meeting : goal.line_circle_point-requires-2-clause-meeting
line_circle_point-requires-2-clause-meeting c = line_reaches c.args.l.now.line c.args.l.now.off c.args.c.now c.requires.circle.least c.requires.meeting

pub nearer-requires-clause-first : goal.nearer-requires-clause-first
nearer-requires-clause-first c = near_circle c.args.c.now c.line_circle_point.result c.requires.circle c.line_circle_point.ensures.on_circle

pub nearer-requires-clause-second : goal.nearer-requires-clause-second
nearer-requires-clause-second c = near_circle c.args.c.now c.line_circle_point-2.result c.requires.circle c.line_circle_point-2.ensures.on_circle

pub returns-clause-on_line : goal.returns-clause-on_line
returns-clause-on_line c =
    of_both c.nearer.result (λ q. IsNearLine c.args.l.now.line c.args.l.now.off (pos 1) q) c.args.p c.line_circle_point.result c.line_circle_point-2.result c.nearer.ensures.value
    c.line_circle_point.ensures.on_line c.line_circle_point-2.ensures.on_line

pub returns-clause-on_circle : goal.returns-clause-on_circle
returns-clause-on_circle c =
    of_both c.nearer.result (λ q. IsNearCircle c.args.c.now (pos 1) q) c.args.p c.line_circle_point.result c.line_circle_point-2.result c.nearer.ensures.value
    c.line_circle_point.ensures.on_circle c.line_circle_point-2.ensures.on_circle
