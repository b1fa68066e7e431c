use Rattle.std.proofs.Common.{arith}
use Rattle.std.proofs.lemmas.Int.{ints}
use Rattle.apt_certify.proofs.Edges.{band_same}
use Rattle.apt_certify.proofs.segments.edge_of.Goals as goal

pub returns : goal.returns
returns c =
    let slack = c.slack-slack.ensures in
    let own = c.requires.stop_band in record {
      value = band_same _ _ _ _ (omega (arith, ints, slack.value)) (omega (arith, ints, slack.value));
      fits = record { lo = omega (arith, ints, slack.small, own.lo); hi = omega (arith, ints, slack.small, own.hi) };
    }
