use Rattle.std.proofs.Common.{◌≡◌, ◌++◌, length}
use Rattle.apt_circular.specs.ArcPlan.{plan_arcs}
use Rattle.apt_circular.proofs.planning.plan_arcs.Given as goal

abbrev pub invariant-acts : goal.invariant-acts
invariant-acts l = l.acts.items ++ l.left ≡ plan_arcs l.fn.records

abbrev pub decreases-acts : goal.decreases-acts
decreases-acts l = length l.left
