use Rattle.std.proofs.Common.{FitsSigned, w64}
use Rattle.std.proofs.lemmas.Int.{to_z-of_z}
use Rattle.apt_plane.proofs.RingLaws.{tells_under}
use Rattle.apt_certify.proofs.distances.is_to_centre.Goals as goal

pub returns : goal.returns
returns c =
    let fits : FitsSigned w64 c.args.hi = c.ranges.hi in
    tells_under _ c.args.c c.args.p c.args.hi _ _ c.displacement.ensures.value c.square_of.ensures.value (simp to_z-of_z at c.is_root_at_most.ensures)
