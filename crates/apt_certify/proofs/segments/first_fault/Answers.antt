use Rattle.apt_plane.specs.Distances.{InBand}
use Rattle.apt_plane.proofs.SegmentLaws.{at_start}
use Rattle.apt_certify.proofs.segments.first_fault.Goals as goal

pub starts_well-requires-clause-known : goal.starts_well-requires-clause-known
starts_well-requires-clause-known c = λ yes. at_start (InBand c.args.leg.now.drive c.args.leg.now.band) c.args.start c.args.first (c.requires.known yes)

pub onward_fault-requires-clause-here : goal.onward_fault-requires-clause-here
onward_fault-requires-clause-here c = (c.starts_well.ensures.0 c.if-starts_well.true).0

pub onward_fault-requires-clause-within : goal.onward_fault-requires-clause-within
onward_fault-requires-clause-within c = (c.starts_well.ensures.0 c.if-starts_well.true).1
