use Rattle.std.proofs.Common.{◌≡◌, ◌+◌, ◌≤◌, drop, length}
use Rattle.apt_cldata.specs.Reading.{behind_head}
use Rattle.apt_cldata.proofs.reading.behind.Given as goal

abbrev pub invariant-places : goal.invariant-places
invariant-places l = record {
  read : behind_head (l.fn.at + l.i) (drop l.i l.due) (drop l.i l.bytes) ≡ behind_head l.fn.at l.due l.bytes;
  there : l.i ≤ length l.bytes;
}
