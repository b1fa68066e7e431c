use Rattle.std.proofs.Common.{pos}
use Rattle.apt_canon.specs.Scale.{IsNearCircle}
use Rattle.apt_contact.proofs.ContactLaws.{circles_overlap}
use Rattle.apt_startup.proofs.Reach.{near_target}
use Rattle.apt_startup.proofs.Nearer.{of_both}
use Rattle.apt_startup.proofs.nearest.two_circles.Goals as goal

pub circle_circle_point-requires-clause-apart : goal.circle_circle_point-requires-clause-apart
circle_circle_point-requires-clause-apart c = (circles_overlap c.args.a.now c.args.b.now c.requires.meeting).0

pub circle_circle_point-requires-clause-meeting : goal.circle_circle_point-requires-clause-meeting
circle_circle_point-requires-clause-meeting c = (circles_overlap c.args.a.now c.args.b.now c.requires.meeting).1

pub circle_circle_point-requires-2-clause-apart : goal.circle_circle_point-requires-2-clause-apart
circle_circle_point-requires-2-clause-apart c = (circles_overlap c.args.a.now c.args.b.now c.requires.meeting).0

pub circle_circle_point-requires-2-clause-meeting : goal.circle_circle_point-requires-2-clause-meeting
circle_circle_point-requires-2-clause-meeting c = (circles_overlap c.args.a.now c.args.b.now c.requires.meeting).1

pub nearer-requires-clause-first : goal.nearer-requires-clause-first
nearer-requires-clause-first c = near_target c.args.a.now c.circle_circle_point.result c.requires.a c.circle_circle_point.ensures.on_a

pub nearer-requires-clause-second : goal.nearer-requires-clause-second
nearer-requires-clause-second c = near_target c.args.a.now c.circle_circle_point-2.result c.requires.a c.circle_circle_point-2.ensures.on_a

pub returns-clause-on_a : goal.returns-clause-on_a
returns-clause-on_a c =
    of_both c.nearer.result (λ q. IsNearCircle c.args.a.now (pos 1) q) c.args.p c.circle_circle_point.result c.circle_circle_point-2.result c.nearer.ensures.value
    c.circle_circle_point.ensures.on_a c.circle_circle_point-2.ensures.on_a

pub returns-clause-on_b : goal.returns-clause-on_b
returns-clause-on_b c =
    of_both c.nearer.result (λ q. IsNearCircle c.args.b.now (pos 1) q) c.args.p c.circle_circle_point.result c.circle_circle_point-2.result c.nearer.ensures.value
    c.circle_circle_point.ensures.on_b c.circle_circle_point-2.ensures.on_b
