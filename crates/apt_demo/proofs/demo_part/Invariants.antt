use Rattle.std.proofs.Common.{◌≡◌, ◌++◌, ◌+◌, ◌*◌, ◌≤◌, length}
use Rattle.apt_demo.specs.Demo.{head, circle_blocks}
use Rattle.apt_demo.proofs.demo_part.Given as goal

abbrev pub invariant-circles : goal.invariant-circles
invariant-circles l = record {
  text : l.text.items ≡ head l.n ++ circle_blocks l.k;
  short : length l.text.items ≤ 576 * l.k + 192;
  room : length l.room ≡ 192;
}
