use Rattle.std.proofs.Common.{refl, arith, FitsSigned, w64, ◌+ℤ◌, ◌-ℤ◌}
use Rattle.std.specs.Int.{w128}
use Rattle.std.proofs.lemmas.Int.{ints, to_z-of_z}
use Rattle.apt_contact.proofs.meetings.line_meets_circle.Goals as goal

pub side-requires-2-clause-length : goal.side-requires-2-clause-length
side-requires-2-clause-length c =
    let off = c.requires.line.off in
    let least = c.requires.circle.least in
    let most = c.requires.circle.most in
    omega (arith, ints)

pub returns : goal.returns
returns c =
    let fits_off : FitsSigned w64 c.args.l.now.off = omega (arith, ints, c.requires.line.off) in
    let fits_r : FitsSigned w64 c.args.c.now.r = omega (arith, ints, c.requires.circle.least, c.requires.circle.most) in
    let fits_far : FitsSigned w64 (c.args.l.now.off +ℤ c.args.c.now.r) = omega (arith, ints, c.requires.line.off, c.requires.circle.least, c.requires.circle.most) in
    let fits_near : FitsSigned w64 (c.args.l.now.off -ℤ c.args.c.now.r) = omega (arith, ints, c.requires.line.off, c.requires.circle.least, c.requires.circle.most) in
    let fits_height : FitsSigned w128 c.height-height.result = omega (arith, ints, c.height-height.ensures.small) in
    let far = simp to_z-of_z at c.side.ensures in
    let near = simp to_z-of_z at c.side-2.ensures in
    rw (c.by_sides.ensures, far, near, c.height-height.ensures.value, c.length_squared_of-square.ensures.value) refl
