use Rattle.std.proofs.Common.{refl, arith, ap, not, ◌∙◌, ◌-ℤ◌, rules, FitsSigned, w64}
use Rattle.std.proofs.lemmas.Int.{ints, to_z-of_z}
use Rattle.apt_plane.specs.Distances.{about, IsOver, EveryPoint}
use Rattle.apt_certify.proofs.Past.{kept, grown, reach_grown, between_kept, between_grown}
use Rattle.apt_certify.proofs.deviations.past_between.Goals as goal

pub nearer_foot-requires-clause-start_over : goal.nearer_foot-requires-clause-start_over
nearer_foot-requires-clause-start_over c =
    let a = c.args in
    let fits : FitsSigned w64 (a.r -ℤ a.most) = omega (arith, ints, c.ranges.most, c.ranges.r, c.requires.radius, c.requires.most.least, c.requires.most.most) in
    let fm : FitsSigned w64 a.most = c.ranges.most in
    let fr : FitsSigned w64 a.r = c.ranges.r in
    simp to_z-of_z (c.requires.from a.most (omega (arith, ints)))

pub nearer_foot-requires-clause-end_over : goal.nearer_foot-requires-clause-end_over
nearer_foot-requires-clause-end_over c =
    let a = c.args in
    let fits : FitsSigned w64 (a.r -ℤ a.most) = omega (arith, ints, c.ranges.most, c.ranges.r, c.requires.radius, c.requires.most.least, c.requires.most.most) in
    let fm : FitsSigned w64 a.most = c.ranges.most in
    let fr : FitsSigned w64 a.r = c.ranges.r in
    simp to_z-of_z (c.requires.to a.most (omega (arith, ints)))

pub returns-then-is_none-clause-least : goal.returns-then-is_none-clause-least
returns-then-is_none-clause-least c =
    let a = c.args in
    let all = c.nearer_foot.ensures.none (c.is_none.ensures ∙ ap not c.if-is_none.true) in
    kept a.most _ (λ u. EveryPoint a.p a.q (IsOver (about a.c) (a.r -ℤ u))) (omega (arith, ints)) (between_kept a.c a.p a.q a.r a.most _ all (omega (arith, ints, c.requires.most.least, c.requires.most.most)))

pub returns-else-is_none-clause-reach : goal.returns-else-is_none-clause-reach
returns-else-is_none-clause-reach c =
    let a = c.args in
    let fm : FitsSigned w64 a.most = c.ranges.most in
    let fp : FitsSigned w64 c.past_foot.result = search rules in
    reach_grown a.most a.most c.past_foot.result c.greater.result _ (omega (arith, ints)) (simp to_z-of_z at c.greater.ensures) refl c.requires.most (omega (arith, ints, c.past_foot.ensures.small))

pub returns-else-is_none-clause-least : goal.returns-else-is_none-clause-least
returns-else-is_none-clause-least c =
    let a = c.args in
    let fm : FitsSigned w64 a.most = c.ranges.most in
    let fr : FitsSigned w64 a.r = c.ranges.r in
    let fp : FitsSigned w64 c.past_foot.result = search rules in
    grown a.most a.most c.past_foot.result c.greater.result _ (λ u. EveryPoint a.p a.q (IsOver (about a.c) (a.r -ℤ u))) (omega (arith, ints)) (simp to_z-of_z at c.greater.ensures) refl
    (between_grown a.c a.p a.q a.r a.most c.past_foot.result c.past_foot.result c.requires.most.least refl (simp to_z-of_z at c.past_foot.ensures.bounds) c.requires.from c.requires.to)
