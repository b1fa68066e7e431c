use Rattle.std.proofs.Common.{◌≢◌, sym, arith, FitsSigned, w64, ◌+ℤ◌, ◌-ℤ◌}
use Rattle.std.proofs.lemmas.Int.{ints, to_z-of_z}
use Rattle.apt_plane.specs.Vectors.{displacement, length_squared}
use Rattle.apt_contact.proofs.Distances.{by_their_distance}
use Rattle.apt_contact.proofs.meetings.circles_meet.Goals as goal

pub returns-else-apart-eq0 : goal.returns-else-apart-eq0
returns-else-apart-eq0 c =
    let a = c.args.a.now in
    let b = c.args.b.now in
    let fits_less : FitsSigned w64 (a.r -ℤ b.r) = omega (arith, ints, c.requires.a.least, c.requires.a.most, c.requires.b.least, c.requires.b.most) in
    let fits_more : FitsSigned w64 (a.r +ℤ b.r) = omega (arith, ints, c.requires.a.least, c.requires.a.most, c.requires.b.least, c.requires.b.most) in
    let fits_a : FitsSigned w64 a.r = omega (arith, ints, c.requires.a.least, c.requires.a.most) in
    let fits_b : FitsSigned w64 b.r = omega (arith, ints, c.requires.b.least, c.requires.b.most) in
    let least = simp to_z-of_z at c.square.ensures in
    let most = simp to_z-of_z at c.square-else-apart-eq0.ensures in
    let two : length_squared (displacement a.c b.c) ≢ 0 = rw (c.length_squared-apart.ensures, c.displacement.ensures.value) at c.if-apart-eq0.false in
    rw (c.by_distance.ensures, least, most, c.length_squared-apart.ensures, c.displacement.ensures.value) (sym (by_their_distance a b two))
