use Rattle.std.proofs.Common.{◌≡◌, ◌++◌, length, map}
use Rattle.apt_geometry.specs.Arguments.{arguments}
use Rattle.apt_geometry.proofs.arguments.arguments.Given as goal

abbrev pub invariant-arguments : goal.invariant-arguments
invariant-arguments l = record {
  read : map (λ a. a.now) l.args.items ++ arguments l.rest ≡ arguments l.fn.tokens;
}

abbrev pub decreases-arguments : goal.decreases-arguments
decreases-arguments l = length l.rest
