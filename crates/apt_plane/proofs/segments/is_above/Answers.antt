use Rattle.std.proofs.Common.{arith, FitsSigned, w64}
use Rattle.std.specs.Int.{w128}
use Rattle.std.proofs.lemmas.Int.{ints, to_z-of_z}
use Rattle.apt_plane.proofs.SegmentLaws.{point_above}
use Rattle.apt_plane.proofs.segments.is_above.Goals as goal

pub returns : goal.returns
returns c =
    let fl : FitsSigned w64 c.args.lo = omega (arith, ints) in
    let fh : FitsSigned w128 c.height.result = omega (arith, ints) in
    point_above _ c.args.line.now c.args.lo c.args.p _ _ c.height.ensures.value c.length_squared_of.ensures.value (simp to_z-of_z at c.is_at_least.ensures)
