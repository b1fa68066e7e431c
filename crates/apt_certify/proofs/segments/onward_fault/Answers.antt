use Rattle.apt_plane.specs.Vectors.{scaled}
use Rattle.apt_certify.proofs.Edges.{all_slack, within_slack}
use Rattle.apt_certify.proofs.segments.onward_fault.Goals as goal

pub stays_within_edge-requires-clause-here : goal.stays_within_edge-requires-clause-here
stays_within_edge-requires-clause-here c = within_slack c.args.leg.now c.args.edge (scaled c.args.p) c.requires.edge c.requires.within

pub returns-then-all_of : goal.returns-then-all_of
returns-then-all_of c =
    let a = c.args in
    let hold = c.all_of.ensures.0 c.if-all_of.true in
    let edge = all_slack a.leg.now a.edge a.p a.q c.requires.edge (c.stays_within_edge.ensures.0 hold.2) in
    (c.is_step.ensures.0 hold.0, (c.keeps_band.ensures.0 hold.1, (edge, tt)))
