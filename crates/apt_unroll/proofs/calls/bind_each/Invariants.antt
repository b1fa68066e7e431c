use Rattle.std.proofs.Common.{◌≡◌, drop}
use Rattle.apt_unroll.specs.Calls.{bind_each}
use Rattle.apt_unroll.proofs.Binding.{behind}
use Rattle.apt_unroll.proofs.calls.bind_each.Given as goal

abbrev pub invariant-parameters : goal.invariant-parameters
invariant-parameters l =
    behind l.own-inside.bound.items (bind_each l.fn.env l.fn.frame l.fn.args (drop l.p-index l.p-items)) ≡ bind_each l.fn.env l.fn.frame l.fn.args l.fn.params
