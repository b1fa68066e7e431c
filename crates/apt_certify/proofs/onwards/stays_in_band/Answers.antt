use Rattle.std.proofs.Common.{arith, FitsSigned, w64}
use Rattle.std.proofs.lemmas.Int.{ints, to_z-of_z}
use Rattle.apt_plane.specs.Distances.{InBand}
use Rattle.apt_plane.proofs.SegmentLaws.{holds_by, fails_by}
use Rattle.apt_certify.proofs.Edges.{band_tells, end_untrue}
use Rattle.apt_certify.proofs.onwards.stays_in_band.Goals as goal

pub returns-then-is_at_most : goal.returns-then-is_at_most
returns-then-is_at_most c =
    let a = c.args in
    let lo : FitsSigned w64 a.band.lo = omega (arith, ints, c.requires.band.lo) in
    let hi : FitsSigned w64 a.band.hi = omega (arith, ints, c.requires.band.hi) in
    let under = holds_by _ _ c.if-is_at_most.true (simp to_z-of_z at c.is_at_most.ensures) in
    band_tells a.surface.now a.band a.p a.q c.stays_over.result c.requires.here under (simp to_z-of_z at c.stays_over.ensures)

pub returns-else-is_at_most : goal.returns-else-is_at_most
returns-else-is_at_most c =
    let a = c.args in
    let hi : FitsSigned w64 a.band.hi = omega (arith, ints, c.requires.band.hi) in
    let past = fails_by _ _ c.if-is_at_most.false (simp to_z-of_z at c.is_at_most.ensures) in
    rw c.if-is_at_most.false (end_untrue (InBand a.surface.now a.band) a.p a.q (λ is. past is.hi))
