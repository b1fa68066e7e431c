use Rattle.std.proofs.Common.{arith, refl, FitsSigned, w64, ◌-ℤ◌}
use Rattle.std.proofs.lemmas.Int.{ints, to_z-of_z}
use Rattle.apt_arc.proofs.bounds.clear_length.Goals as goal

pub returns : goal.returns
returns c =
    let a = c.args in
    let r : FitsSigned w64 a.track.now.r = omega (arith, ints, c.requires.track.least, c.requires.track.x) in
    let w : FitsSigned w64 a.sag = c.ranges.sag in
    let fits : FitsSigned w64 (a.track.now.r -ℤ a.sag) = omega (arith, ints, c.requires.track.least, c.requires.track.x, c.requires.sag.least, c.requires.sag.most) in
    let size = simp to_z-of_z at c.unsigned_abs.ensures.value in
    rw (c.saturating_sub.ensures, c.from-inner.ensures, size, c.nearest.ensures.value) refl
