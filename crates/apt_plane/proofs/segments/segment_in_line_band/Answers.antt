use Rattle.std.proofs.Common.{IsTrue}
use Rattle.apt_plane.specs.declared.figures.Surface.TheVariants as surfaces
use Rattle.apt_plane.specs.Distances.{InBand}
use Rattle.apt_plane.proofs.SegmentLaws.{at_start}
use Rattle.apt_plane.proofs.segments.segment_in_line_band.Goals as goal

pub returns-then-not-is_in_band-clause-all : goal.returns-then-not-is_in_band-clause-all
returns-then-not-is_in_band-clause-all c =
    let a = c.args in (
      λ e. absurd (cc),
      λ all. let is : IsTrue c.is_in_band.result = c.is_in_band.ensures.1 (at_start (InBand (surfaces.Line a.line.now) a.band) a.p a.q all) in cc,
    )
