use Rattle.std.proofs.Common.{◌+◌, ◌-◌, ◌*◌, ◌≤◌, drop, length}
use Rattle.apt_records.specs.Ranges.{AreRecords, vertex_count}
use Rattle.apt_clreader.specs.declared.state.Part.TheVariants as parts
use Rattle.apt_clreader.specs.Steps.{Agree}
use Rattle.apt_clreader.proofs.reader.take_records.Given as goal

abbrev pub invariant-records : goal.invariant-records
invariant-records l = record {
  same : Agree parts.Records l.fn.records.items l.fn.at l.fn.bytes parts.Records l.records.items (l.fn.at + l.taken) (drop l.taken l.fn.bytes);
  there : l.taken ≤ length l.fn.bytes;
  ranges : AreRecords l.records.items;
  few : 8 * (vertex_count l.records.items + length l.records.items) ≤ l.fn.at + l.taken;
}

abbrev pub decreases-records : goal.decreases-records
decreases-records l = length l.fn.bytes - l.taken
