use Rattle.std.proofs.Common.{◌≡◌, drop}
use Rattle.apt_unroll.specs.Calls.{expression_for}
use Rattle.apt_unroll.proofs.calls.expression_for.Given as goal

abbrev pub invariant-args-2 : goal.invariant-args-2
invariant-args-2 l = expression_for (drop l.a-index l.a-items) l.fn.p ≡ expression_for l.fn.args l.fn.p
