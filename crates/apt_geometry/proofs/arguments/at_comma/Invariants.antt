use Rattle.std.proofs.Common.{◌≡◌}
use Rattle.apt_geometry.specs.Arguments.{arguments}
use Rattle.apt_geometry.proofs.Parts.{parts_from}
use Rattle.apt_geometry.proofs.arguments.at_comma.Given as goal

abbrev pub invariant-tokens : goal.invariant-tokens
invariant-tokens l = record { read : parts_from l.tokens l.n ≡ arguments l.tokens }
