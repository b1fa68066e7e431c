use Rattle.std.proofs.Common.{arith, ◌≡◌, FitsSigned, w64}
use Rattle.std.proofs.lemmas.Int.{ints, to_z-of_z}
use Rattle.apt_offset.specs.Targets.{greater}
use Rattle.apt_offset.proofs.Bands.{same_band, band_about}
use Rattle.apt_offset.proofs.targets.circle_band.Goals as goal

pub returns-in-Plus-clause-value : goal.returns-in-Plus-clause-value
returns-in-Plus-clause-value c = rw c.in-Plus.is (same_band _ _ _ _ (omega (arith, ints)) (omega (arith, ints)))

pub returns-in-Minus-clause-value : goal.returns-in-Minus-clause-value
returns-in-Minus-clause-value c = rw c.in-Minus.is (same_band _ _ _ _ (omega (arith, ints)) (omega (arith, ints)))

pub returns-in-Zero-clause-value : goal.returns-in-Zero-clause-value
returns-in-Zero-clause-value c =
    let fits_i : FitsSigned w64 c.args.i = omega (arith, ints) in
    let fits_o : FitsSigned w64 c.args.o = omega (arith, ints) in
    let both : c.greater-both.result ≡ greater c.args.i c.args.o = simp to_z-of_z at c.greater-both.ensures.value in
    rw c.in-Zero.is (band_about _ _ c.args.circle c.greater-both.result _ (omega (arith, ints)) (omega (arith, ints)) both)
