use Rattle.std.proofs.Common.{◌≡◌, ◌-◌}
use Rattle.arrayvec.specs.ArrayVec.{array_vec_len}
use Rattle.apt_cycle.specs.Windows.{acts_left}
use Rattle.apt_cycle.proofs.window.Window.fill.Given as goal

abbrev pub invariant-acts : goal.invariant-acts
invariant-acts l = record {
  same : acts_left l.self ≡ acts_left l.fn.self;
}

abbrev pub decreases-acts : goal.decreases-acts
decreases-acts l = 3 - array_vec_len l.self.front
