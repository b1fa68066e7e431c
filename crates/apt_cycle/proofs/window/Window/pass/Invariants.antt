use Rattle.std.proofs.Common.{◌≡◌, ◌≤◌, drop}
use Rattle.arrayvec.specs.ArrayVec.{array_vec_len}
use Rattle.apt_cycle.specs.Windows.{acts_left}
use Rattle.apt_cycle.proofs.window.Window.pass.Given as goal

abbrev pub invariant-passed : goal.invariant-passed
invariant-passed l = record {
  same : drop l.left (acts_left l.self) ≡ drop l.count (acts_left l.fn.self);
  within : l.left ≤ array_vec_len l.self.front;
}

abbrev pub decreases-passed : goal.decreases-passed
decreases-passed l = l.left
