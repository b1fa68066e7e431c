use Rattle.std.proofs.Common.{arith, pos, negsuc, neg_ℤ, ◌+ℤ◌, ◌-ℤ◌, to_z, of_z, w64}
use Rattle.std.proofs.lemmas.Int.{ints}
use Rattle.apt_num.specs.Sign.{AtLeast}
use Rattle.apt_plane.specs.Vectors.{scaled}
use Rattle.apt_offset.specs.declared.Target.TheVariants as targets
use Rattle.apt_certify.specs.Deviations.{IsAtMostPast}
use Rattle.apt_certify.proofs.Past.{alike, below_is, above_is, height_near}
use Rattle.apt_certify.proofs.deviations.further_along.Goals as goal

pub past_line-requires-clause-near : goal.past_line-requires-clause-near
past_line-requires-clause-near c =
    let a = c.args in
    height_near a.base a.p a.dir (to_z w64 (of_z w64 c.height_of-height.result)) _ c.requires.base c.requires.point (omega (arith, ints, c.height_of-height.ensures.value, c.height_of-height.ensures.small)) c.square_of-square.ensures.value

pub past_line-requires-2-clause-height : goal.past_line-requires-2-clause-height
past_line-requires-2-clause-height c = omega (arith, ints, c.height_of-height.ensures.small)

pub past_line-requires-2-clause-near : goal.past_line-requires-2-clause-near
past_line-requires-2-clause-near c =
    let a = c.args in
    height_near a.base a.p a.dir (to_z w64 (of_z w64 (pos 0 -ℤ to_z w64 (of_z w64 c.height_of-height.result)))) _ c.requires.base c.requires.point (omega (arith, ints, c.height_of-height.ensures.value, c.height_of-height.ensures.small)) c.square_of-square.ensures.value

pub past_line-requires-2-clause-off : goal.past_line-requires-2-clause-off
past_line-requires-2-clause-off c = omega (arith, ints, c.requires.off)

pub returns-clause-over : goal.returns-clause-over
returns-clause-over c =
    let a = c.args in
    let reach = c.past_line.ensures.reach in
    alike a.most.over _ c.past_line.result _ (λ u. AtLeast (neg_ℤ _) (neg_ℤ (_ +ℤ u)) c.square_of-square.result) (λ u. IsAtMostPast (targets.Line a.base a.dir a.off) (pos 1) u (scaled a.p))
    (omega (arith, ints, c.requires.reaches.over.least, c.requires.reaches.over.most)) (omega (arith, ints, reach.least, reach.most))
    (λ u le. below_is a.base a.dir a.off a.p _ _ u _ (omega (arith, ints, c.height_of-height.ensures.value, c.height_of-height.ensures.small)) (omega (arith, ints)) c.square_of-square.ensures.value) c.past_line.ensures.least

pub returns-clause-under : goal.returns-clause-under
returns-clause-under c =
    let a = c.args in
    let reach = c.past_line-2.ensures.reach in
    alike a.most.under _ c.past_line-2.result _ (λ u. AtLeast (neg_ℤ _) (neg_ℤ (_ +ℤ u)) c.square_of-square.result) (λ u. IsAtMostPast (targets.Line a.base a.dir a.off) (negsuc 0) u (scaled a.p))
    (omega (arith, ints, c.requires.reaches.under.least, c.requires.reaches.under.most)) (omega (arith, ints, reach.least, reach.most))
    (λ u le. above_is a.base a.dir a.off a.p _ _ u _ (omega (arith, ints, c.height_of-height.ensures.value, c.height_of-height.ensures.small)) (omega (arith, ints, c.requires.off)) c.square_of-square.ensures.value) c.past_line-2.ensures.least
