use Rattle.std.proofs.Common.{arith, FitsSigned, w64}
use Rattle.std.proofs.lemmas.Int.{ints, to_z-of_z}
use Rattle.apt_certify.proofs.segments.is_in_band.Goals as goal

pub returns-then-is_at_least : goal.returns-then-is_at_least
returns-then-is_at_least c =
    let flo : FitsSigned w64 c.args.band.lo = omega (arith, ints) in
    let fhi : FitsSigned w64 c.args.band.hi = omega (arith, ints) in
    let over = simp to_z-of_z at c.is_at_least.ensures in
    let under = simp to_z-of_z at c.is_at_most.ensures in
    (λ test. record { lo = over.0 c.if-is_at_least.true; hi = under.0 test }, λ is. under.1 is.hi)
