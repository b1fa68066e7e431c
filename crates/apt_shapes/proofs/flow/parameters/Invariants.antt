use Rattle.std.proofs.Common.{◌≡◌, map, drop}
use Rattle.apt_shapes.specs.Flow.{parameters}
use Rattle.apt_shapes.proofs.Lists.{with_front}
use Rattle.apt_shapes.proofs.flow.parameters.Given as goal

abbrev pub invariant-arguments : goal.invariant-arguments
invariant-arguments l = record {
  read : with_front l.items.items (parameters (map (λ a. a.now) (drop l.tokens-index l.args))) ≡ parameters (map (λ a. a.now) l.args);
}
