use Rattle.std.proofs.Common.{sym, true≢false}
use Rattle.apt_plane.specs.Vectors.{scaled}
use Rattle.apt_plane.proofs.SegmentLaws.{holds_by, fails_by}
use Rattle.apt_certify.proofs.Edges.{point_slack}
use Rattle.apt_certify.proofs.segments.starts_well.Goals as goal

pub returns-then-starts_in_band : goal.returns-then-starts_in_band
returns-then-starts_in_band c =
    let a = c.args in
    let here = holds_by _ _ c.if-starts_in_band.true c.starts_in_band.ensures in
    let slack = point_slack a.leg.now a.edge (scaled a.start) c.is_within_edge.result c.requires.edge c.is_within_edge.ensures in
    (λ yes. (here, slack.0 yes), λ both. slack.1 both.1)

pub returns-else-starts_in_band : goal.returns-else-starts_in_band
returns-else-starts_in_band c =
    let off = fails_by _ _ c.if-starts_in_band.false c.starts_in_band.ensures in
    rw c.if-starts_in_band.false (λ no. absurd (true≢false (sym no)), λ both. absurd (off both.0))
