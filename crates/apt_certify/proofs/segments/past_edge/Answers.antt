use Rattle.apt_offset.specs.Edges.{IsWithinEdge}
use Rattle.apt_certify.proofs.Edges.{every_or_off, slack_tells}
use Rattle.apt_certify.proofs.segments.past_edge.Goals as goal

pub returns : goal.returns
returns c =
    let a = c.args in
    let leg = a.leg.now in
    slack_tells leg a.edge a.p a.q c.overruns.result c.requires.edge
    (every_or_off leg.check (IsWithinEdge leg.check a.edge leg.beyond) a.p a.q c.overruns.result c.overruns.ensures.none c.overruns.ensures.first)
