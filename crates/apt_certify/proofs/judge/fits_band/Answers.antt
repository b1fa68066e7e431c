use Rattle.std.proofs.Common.{arith, ◌+ℤ◌, ◌-ℤ◌, to_z, of_z, w64}
use Rattle.std.proofs.lemmas.Int.{ints}
use Rattle.apt_certify.proofs.Known.{both_within}
use Rattle.apt_certify.proofs.judge.fits_band.Goals as goal

pub returns-then-band-distance : goal.returns-then-band-distance
returns-then-band-distance c =
    let a = c.args in
    let past = c.requires.past in
    both_within a.band.lo (a.distance -ℤ a.past.under) (a.distance +ℤ a.past.over) a.band.hi (to_z w64 (of_z w64 (to_z w64 (of_z w64 a.distance) +ℤ to_z w64 (of_z w64 a.past.over)))) (to_z w64 (of_z w64 a.band.hi))
    (omega (arith, ints, c.if-band-distance.true, c.requires.distance, c.requires.band.lo, past.under.least, past.under.most)) (omega (arith, ints, c.requires.distance, past.over.least, past.over.most)) (omega (arith, ints, c.requires.band.hi))
