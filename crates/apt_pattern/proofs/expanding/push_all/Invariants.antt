use Rattle.std.proofs.Common.{◌≡◌, ◌≤◌, ◌-◌, ◌++◌}
use Rattle.apt_pattern.specs.Expansions.{plain_steps}
use Rattle.apt_pattern.specs.Patterns.{points_from, points_of, visits}
use Rattle.apt_pattern.proofs.expanding.push_all.Given as goal

abbrev pub invariant-points : goal.invariant-points
invariant-points l =
    record {
      so_far : l.steps.items ++ plain_steps l.st (visits l.units l.cycle (points_from l.pattern l.k (l.pattern.count - l.k))) ≡ l.fn.steps.items ++ plain_steps l.st (visits l.units l.cycle (points_of l.pattern));
      few : l.k ≤ l.pattern.count;
    }

abbrev pub decreases-points : goal.decreases-points
decreases-points l = l.pattern.count - l.k
