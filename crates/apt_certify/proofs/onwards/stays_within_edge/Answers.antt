use Rattle.std.proofs.Common.{refl, arith, FitsSigned, w64}
use Rattle.std.proofs.lemmas.Int.{ints, to_z-of_z}
use Rattle.apt_certify.proofs.Edges.{under_tells}
use Rattle.apt_certify.proofs.onwards.stays_within_edge.Goals as goal

pub returns-in-Plus : goal.returns-in-Plus
returns-in-Plus c =
    let a = c.args in
    let hi : FitsSigned w64 a.band.hi = omega (arith, ints, c.requires.band.hi) in
    let start = rw c.in-Plus.is at c.requires.here in
    rw c.in-Plus.is (under_tells a.surface.now a.band.hi a.p a.q c.is_at_most.result start (simp to_z-of_z at c.is_at_most.ensures))

pub returns-in-Minus : goal.returns-in-Minus
returns-in-Minus c =
    let lo : FitsSigned w64 c.args.band.lo = omega (arith, ints, c.requires.band.lo) in
    rw c.in-Minus.is (simp to_z-of_z at c.stays_over.ensures)

pub returns-in-Zero : goal.returns-in-Zero
returns-in-Zero c = rw c.in-Zero.is (λ _ j k m. tt, λ _. refl)
