use Rattle.std.proofs.Common.{arith, pos, negsuc, ◌+ℤ◌, ◌-ℤ◌}
use Rattle.std.proofs.lemmas.Int.{ints}
use Rattle.apt_plane.specs.Vectors.{scaled}
use Rattle.apt_plane.specs.Distances.{IsLengthAtMost, IsRootAtMost}
use Rattle.apt_offset.specs.declared.Target.TheVariants as targets
use Rattle.apt_certify.specs.Deviations.{IsAtMostPast}
use Rattle.apt_certify.proofs.Past.{alike, outside_is, inside_is}
use Rattle.apt_certify.proofs.deviations.further_round.Goals as goal

pub returns-clause-over : goal.returns-clause-over
returns-clause-over c =
    let a = c.args in
    let reach = c.past_outside.ensures.reach in
    alike a.most.over _ c.past_outside.result _ (λ u. IsRootAtMost c.square_of-square.result (_ +ℤ u)) (λ u. IsAtMostPast (targets.Circ a.c a.r) (pos 1) u (scaled a.p))
    (omega (arith, ints, c.requires.reaches.over.least, c.requires.reaches.over.most)) (omega (arith, ints, reach.least, reach.most))
    (λ u le. outside_is a.c a.p a.r _ u _ _ c.displacement.ensures.value c.square_of-square.ensures.value (omega (arith, ints))) c.past_outside.ensures.least

pub returns-clause-under : goal.returns-clause-under
returns-clause-under c =
    let a = c.args in
    let reach = c.past_inside.ensures.reach in
    alike a.most.under _ c.past_inside.result _ (λ u. IsLengthAtMost (_ -ℤ u) c.square_of-square.result) (λ u. IsAtMostPast (targets.Circ a.c a.r) (negsuc 0) u (scaled a.p))
    (omega (arith, ints, c.requires.reaches.under.least, c.requires.reaches.under.most)) (omega (arith, ints, reach.least, reach.most))
    (λ u le. inside_is a.c a.p a.r _ u _ _ c.displacement.ensures.value c.square_of-square.ensures.value (omega (arith, ints))) c.past_inside.ensures.least
