use Rattle.std.proofs.Common.{arith}
use Rattle.std.proofs.lemmas.Int.{ints}
use Rattle.apt_plane.proofs.Heights.{product_fits}
use Rattle.apt_canon.proofs.circles.is_at_least.Goals as goal

pub root_sign-requires-clause-h_fits : goal.root_sign-requires-clause-h_fits
root_sign-requires-clause-h_fits c = product_fits _ _ (omega (arith, ints)) (omega arith)
