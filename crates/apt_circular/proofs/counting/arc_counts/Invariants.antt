use Rattle.std.proofs.Common.{◌≡◌, ◌≤◌, ◌+◌, ◌^◌, drop, length}
use Rattle.apt_post.specs.Plan.{segments}
use Rattle.apt_circular.specs.ArcPlan.{plan_arcs, arcs_from}
use Rattle.apt_circular.proofs.counting.arc_counts.Given as goal

abbrev pub invariant-records : goal.invariant-records
invariant-records l = record {
  all_acts : l.acts + length (arcs_from l.coming (drop l.record-index l.records)) ≡ length (plan_arcs l.fn.records);
  all_segments : l.segments + segments (drop l.record-index l.records) ≡ segments l.fn.records;
  few_acts : length (plan_arcs l.fn.records) ≤ 2 ^ 62;
  few_segments : segments l.fn.records ≤ 2 ^ 62;
}
