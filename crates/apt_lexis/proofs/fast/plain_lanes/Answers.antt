use Rattle.std.proofs.Common.{ℕ, ltb, cond, refl}
use Rattle.std.proofs.lemmas.Simd.{zip2_splat, zip2_splat_left, length-chunk}
use lib.Lanes.{chunk}
use Rattle.apt_lexis.specs.Sentences.{is_plain}
use Rattle.apt_lexis.proofs.Lanes.{joined, front_of_lanes}
use Rattle.apt_lexis.proofs.fast.plain_lanes.Goals as goal

pub returns : goal.returns
returns c =
    let v = chunk c.args.at 16 c.args.text.now in
    let long = length-chunk c.args.at 16 c.args.text.now c.requires in
    front_of_lanes is_plain c.args.text.now c.args.at _ _ _ c.requires c.type_inv.text c.first_set.ensures
    (joined _ _ _ v (joined _ _ _ v (joined _ _ _ v (zip2_splat _ v 16 32 long) (zip2_splat _ v 16 9 long)) (zip2_splat_left {X = ℕ} {Y = ℕ} (λ a b. cond (ltb a b) 255 0) 126 16 v long)) (zip2_splat _ v 16 36 long)) refl
