use Rattle.std.proofs.Common.{◌≡◌, ◌++◌, ◌+◌, ◌/◌, ◌^◌, drop, length}
use Rattle.apt_block.specs.Block.{digits}
use Rattle.apt_lines.proofs.write_pointed.Given as goal

abbrev pub invariant-decimals : goal.invariant-decimals
invariant-decimals l = record {
  left : l.left ≡ l.n / 10 ^ l.i;
  at : l.at + l.i ≡ l.end;
  written : drop l.at l.room ≡ digits l.i l.n ++ drop l.end l.fn.room;
  room : length l.room ≡ length l.fn.room;
}
