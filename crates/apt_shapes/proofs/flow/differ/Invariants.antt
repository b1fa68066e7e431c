use Rattle.std.proofs.Common.{◌≡◌, true, take}
use Rattle.apt_shapes.specs.Flow.{differ, names_of}
use Rattle.apt_shapes.proofs.flow.differ.Given as goal

abbrev pub invariant-parameters : goal.invariant-parameters
invariant-parameters l = record {
  names : l.names.keys ≡ names_of (take l.param-index l.params);
  differ : differ (names_of (take l.param-index l.params)) ≡ true;
}
