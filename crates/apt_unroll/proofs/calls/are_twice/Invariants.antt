use Rattle.std.proofs.Common.{◌≡◌, drop}
use Rattle.apt_unroll.specs.Calls.{are_twice}
use Rattle.apt_unroll.proofs.calls.are_twice.Given as goal

abbrev pub invariant-args-2 : goal.invariant-args-2
invariant-args-2 l =
    record {
      next : l.i ≡ l.a-index;
      rest : are_twice (drop l.a-index l.a-items) ≡ are_twice l.fn.args;
    }
