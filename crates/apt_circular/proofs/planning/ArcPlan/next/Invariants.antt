use Rattle.std.proofs.Common.{◌≡◌, [], None, length}
use Rattle.apt_circular.specs.ArcPlan.{arcs_from}
use Rattle.apt_circular.proofs.planning.ArcPlan.next.Given as goal

abbrev pub invariant-records : goal.invariant-records
invariant-records l = record {
  vertices : l.self-inside.vertices ≡ [];
  units : l.self-inside.units ≡ None;
  left : arcs_from l.self-inside.coming l.self-inside.records.now ≡ l.fn.self;
}

abbrev pub decreases-records : goal.decreases-records
decreases-records l = length l.self-inside.records.now
