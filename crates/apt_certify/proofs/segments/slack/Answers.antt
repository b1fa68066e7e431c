use Rattle.std.proofs.Common.{arith}
use Rattle.std.proofs.lemmas.Int.{ints}
use Rattle.apt_certify.proofs.Edges.{radius_small}
use Rattle.apt_certify.proofs.segments.slack.Goals as goal

pub returns-in-Minus-clause-value : goal.returns-in-Minus-clause-value
returns-in-Minus-clause-value c =
    let leg = c.args.leg.now in
    let small = radius_small leg.drive leg.track c.requires.leg.track in
    rw (c.in-Circ-Circ.is-0, c.in-Circ-Circ.is-1, c.in-Minus.is) (omega (arith, ints, small, c.track_radius.ensures, c.requires.leg.band.lo))

pub returns-in-Minus-clause-small : goal.returns-in-Minus-clause-small
returns-in-Minus-clause-small c =
    let leg = c.args.leg.now in
    let small = radius_small leg.drive leg.track c.requires.leg.track in
    omega (arith, ints, small, c.track_radius.ensures, c.requires.leg.band.lo)
