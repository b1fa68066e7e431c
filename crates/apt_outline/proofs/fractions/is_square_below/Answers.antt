use Rattle.std.proofs.Common.{arith}
use Rattle.std.proofs.lemmas.Bool.{ltb-true, lt-ltb}
use Rattle.apt_outline.proofs.Quotients.{square_below}
use Rattle.apt_outline.proofs.Deciding.{sum_fits, split_of}
use Rattle.apt_outline.proofs.fractions.is_square_below.Goals as goal

pub overflow_add-result : goal.overflow_add-result
overflow_add-result c = rw c.from-m.ensures (omega (arith, sum_fits c.args.z c.args.m c.requires.some c.requires.few c.requires.fraction))

pub returns : goal.returns
returns c =
    let told = square_below c.args.z c.args.m _ _ _ _ _ _ c.args.t (split_of c.args.z c.args.m c.requires.some) in
    rw c.from-m.ensures (λ yes. told.0 (ltb-true _ _ yes), λ p. lt-ltb _ _ (told.1 p))
