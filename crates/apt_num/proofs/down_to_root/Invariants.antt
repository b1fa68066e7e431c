use Rattle.std.proofs.Common.{◌<◌, ◌*◌, ◌+◌, ◌^◌}
use Rattle.apt_num.proofs.down_to_root.Given as goal

abbrev pub invariant-steps : goal.invariant-steps
invariant-steps l = record {
  high : l.n < (l.root + 1) * (l.root + 1);
  small : l.root < 2 ^ 64;
}

abbrev pub decreases-steps : goal.decreases-steps
decreases-steps l = l.root
