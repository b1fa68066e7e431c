use Rattle.std.proofs.Common.{◌≡◌, ◌≤◌, ◌++◌, ◌+◌, ◌^◌, length, map, take}
use Rattle.apt_tape.proofs.comparison.go_along.Given as goal

abbrev pub invariant-acts : goal.invariant-acts
invariant-acts g l = record {
  same : g.P.Planned.left l.fn.plan ≡ map g.A.TapeAct.arc (take l.act-index l.fn.acts) ++ g.P.Planned.left l.left;
  number : l.next ≡ l.fn.from + l.act-index;
  few : l.next + length (g.P.Planned.left l.left) ≤ 2 ^ 63;
}
