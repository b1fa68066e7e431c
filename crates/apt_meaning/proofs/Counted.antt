-- What a tolerance counts as.
use Rattle.std.proofs.Common.{◌≡◌, refl, Bool, true, false, cond, arith, ℤ, pos}
use Rattle.std.specs.Prelude.{int_le}
use Rattle.std.proofs.lemmas.Int.{ints}
use Rattle.apt_offset.specs.Targets.{greater}
use Rattle.apt_meaning.specs.Motions.{CountsAs, grid_step}

by_order : (b : Bool) (t : ℤ) → int_le t (pos 8) ≡ b → CountsAs t (cond b (pos 8) t)
by_order true t e x = (λ at. (grind (arith, ints), at), λ both. both.1)
by_order false t e x = (λ at. (at, grind (arith, ints)), λ both. both.0)

pub counts_as : (length t : ℤ) → length ≡ greater t grid_step → CountsAs t length
counts_as length t e = rw e (by_order (int_le t (pos 8)) t refl)
