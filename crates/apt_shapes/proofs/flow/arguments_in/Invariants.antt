use Rattle.std.proofs.Common.{◌≡◌, map, drop}
use Rattle.apt_shapes.specs.Flow.{arguments_in}
use Rattle.apt_shapes.proofs.Lists.{with_front}
use Rattle.apt_shapes.proofs.flow.arguments_in.Given as goal

abbrev pub invariant-arguments : goal.invariant-arguments
invariant-arguments l = record {
  read : with_front l.items.items (arguments_in (map (λ a. a.now) (drop l.tokens-index l.args))) ≡ arguments_in (map (λ a. a.now) l.args);
}
