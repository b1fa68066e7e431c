use Rattle.std.proofs.Common.{arith}
use Rattle.std.proofs.lemmas.Int.{ints}
use Rattle.apt_offset.proofs.Bands.{same_band}
use Rattle.apt_offset.proofs.targets.line_band.Goals as goal

pub returns-in-Minus-clause-value : goal.returns-in-Minus-clause-value
returns-in-Minus-clause-value c = rw c.in-Minus.is (same_band _ _ _ _ (omega (arith, ints)) (omega (arith, ints)))
