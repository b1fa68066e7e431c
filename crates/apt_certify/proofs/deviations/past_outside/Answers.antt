use Rattle.std.proofs.Common.{refl, arith, ◌+ℤ◌, ◌-ℤ◌, FitsSigned, w64}
use Rattle.std.proofs.lemmas.Int.{ints, to_z-of_z}
use Rattle.apt_plane.specs.Distances.{IsRootAtMost}
use Rattle.apt_certify.proofs.Past.{grown, reach_grown, outside_grown}
use Rattle.apt_certify.proofs.deviations.past_outside.Goals as goal

pub returns-else-is_root_at_most-clause-reach : goal.returns-else-is_root_at_most-clause-reach
returns-else-is_root_at_most-clause-reach c =
    let a = c.args in
    let past = c.root_up.result -ℤ a.r in
    let fm : FitsSigned w64 a.most = c.ranges.most in
    let fr : FitsSigned w64 a.r = c.ranges.r in
    let fv : FitsSigned w64 c.root_up.result = omega (arith, ints, c.root_up.ensures.small) in
    let fp : FitsSigned w64 (c.root_up.result -ℤ a.r) = omega (arith, ints, c.root_up.ensures.small, c.requires.radius) in
    reach_grown a.most a.most past c.greater.result _ (omega (arith, ints)) (simp to_z-of_z at c.greater.ensures) refl c.requires.most (omega (arith, ints, c.root_up.ensures.small, c.requires.radius))

pub returns-else-is_root_at_most-clause-least : goal.returns-else-is_root_at_most-clause-least
returns-else-is_root_at_most-clause-least c =
    let a = c.args in
    let past = c.root_up.result -ℤ a.r in
    let fm : FitsSigned w64 a.most = c.ranges.most in
    let fr : FitsSigned w64 a.r = c.ranges.r in
    let fv : FitsSigned w64 c.root_up.result = omega (arith, ints, c.root_up.ensures.small) in
    let fp : FitsSigned w64 (c.root_up.result -ℤ a.r) = omega (arith, ints, c.root_up.ensures.small, c.requires.radius) in
    grown a.most a.most past c.greater.result _ (λ u. IsRootAtMost a.square (a.r +ℤ u)) (omega (arith, ints)) (simp to_z-of_z at c.greater.ensures) refl
    (outside_grown a.square _ a.r c.root_up.result past c.from.ensures refl c.root_up.ensures.bounds a.most)
