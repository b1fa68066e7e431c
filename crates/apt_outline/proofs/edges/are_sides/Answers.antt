use Rattle.std.proofs.Common.{◌≡◌, arith, FitsSigned, w64}
use Rattle.std.proofs.lemmas.Int.{ints, to_z-of_z}
use Rattle.apt_outline.specs.Edges.{side}
use Rattle.apt_outline.proofs.Deciding.{cross_same, sides_tell}
use Rattle.apt_outline.proofs.edges.are_sides.Goals as goal

pub returns-then-cross_of-le0 : goal.returns-then-cross_of-le0
returns-then-cross_of-le0 c =
    let a = c.args in
    let first : c.cross_of.result ≡ side a.p a.a a.b = cross_same _ _ _ _ _ c.displacement-segment.ensures.value c.displacement.ensures.value c.cross_of.ensures.value in
    let second : c.cross_of-then-cross_of-le0.result ≡ side a.q a.a a.b =
    cross_same _ _ _ _ _ c.displacement-segment.ensures.value c.displacement-then-cross_of-le0.ensures.value c.cross_of-then-cross_of-le0.ensures.value in
    let fits : FitsSigned w64 c.cross_of.result = omega (arith, ints, c.cross_of.ensures.small) in
    let fits2 : FitsSigned w64 c.cross_of-then-cross_of-le0.result = omega (arith, ints, c.cross_of-then-cross_of-le0.ensures.small) in
    simp to_z-of_z (sides_tell c.cross_of.result c.cross_of-then-cross_of-le0.result _ _ first second (omega (arith, ints, c.if-cross_of-le0.true)))
