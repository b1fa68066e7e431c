use Rattle.apt_certify.proofs.Edges.{off_ring}
use Rattle.apt_certify.proofs.segments.out_of_ring.Goals as goal

pub returns-in-Err : goal.returns-in-Err
returns-in-Err c = off_ring c.args.circle.now c.args.band c.args.p c.args.q c.in-Err.spot c.in-Err.ensures.first
