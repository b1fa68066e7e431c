use Rattle.std.proofs.Common.{◌≡◌, drop}
use Rattle.apt_scalar.specs.Meanings as meanings
use Rattle.apt_scalar.proofs.names.bound_among.Given as goal

abbrev pub invariant-parameters : goal.invariant-parameters
invariant-parameters l = meanings.meaning (drop l.parameter-index l.parameter-items) l.name ≡ meanings.meaning l.fn.frame l.fn.name
