use Rattle.std.proofs.Common.{refl, arith, ◌-ℤ◌, FitsSigned, w64}
use Rattle.std.proofs.lemmas.Int.{ints, to_z-of_z}
use Rattle.apt_plane.specs.Distances.{IsLengthAtMost}
use Rattle.apt_certify.proofs.Past.{grown, reach_grown, inside_grown}
use Rattle.apt_certify.proofs.deviations.past_inside.Goals as goal

pub returns-else-is_length_at_most-clause-reach : goal.returns-else-is_length_at_most-clause-reach
returns-else-is_length_at_most-clause-reach c =
    let a = c.args in
    let past = a.r -ℤ c.root_down.result in
    let fm : FitsSigned w64 a.most = c.ranges.most in
    let fr : FitsSigned w64 a.r = c.ranges.r in
    let fv : FitsSigned w64 c.root_down.result = omega (arith, ints, c.root_down.ensures.small) in
    let fp : FitsSigned w64 (a.r -ℤ c.root_down.result) = omega (arith, ints, c.root_down.ensures.small, c.requires.radius) in
    reach_grown a.most a.most past c.greater.result _ (omega (arith, ints)) (simp to_z-of_z at c.greater.ensures) refl c.requires.most (omega (arith, ints, c.root_down.ensures.small, c.requires.radius))

pub returns-else-is_length_at_most-clause-least : goal.returns-else-is_length_at_most-clause-least
returns-else-is_length_at_most-clause-least c =
    let a = c.args in
    let past = a.r -ℤ c.root_down.result in
    let fm : FitsSigned w64 a.most = c.ranges.most in
    let fr : FitsSigned w64 a.r = c.ranges.r in
    let fv : FitsSigned w64 c.root_down.result = omega (arith, ints, c.root_down.ensures.small) in
    let fp : FitsSigned w64 (a.r -ℤ c.root_down.result) = omega (arith, ints, c.root_down.ensures.small, c.requires.radius) in
    grown a.most a.most past c.greater.result _ (λ u. IsLengthAtMost (a.r -ℤ u) a.square) (omega (arith, ints)) (simp to_z-of_z at c.greater.ensures) refl
    (inside_grown a.square _ a.r c.root_down.result past c.from.ensures refl c.root_down.ensures.bounds a.most)
