use Rattle.std.proofs.Common.{◌≡◌, ◌++◌, drop}
use Rattle.apt_outline.specs.Guards.{AreReaches}
use Rattle.apt_outline.specs.Reaches.{IsCutter, reaches_behind, reaches_of}
use Rattle.apt_outline.proofs.cutter.reaches.Given as goal

abbrev pub invariant-records : goal.invariant-records
invariant-records l = record {
  value : l.reaches.items ++ reaches_behind l.said (drop l.record-index l.records) ≡ reaches_of l.fn.records;
  range : AreReaches l.reaches.items;
  said : IsCutter l.said;
}
