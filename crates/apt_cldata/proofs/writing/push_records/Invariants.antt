use Rattle.std.proofs.Common.{◌≡◌, ◌+◌, ◌++◌, drop}
use Rattle.apt_records.specs.Lists.{AreShort}
use Rattle.apt_cldata.specs.Files.{records_bytes}
use Rattle.apt_cldata.proofs.writing.push_records.Given as goal

abbrev pub invariant-records : goal.invariant-records
invariant-records l = record {
  written : l.bytes.items ++ records_bytes (l.first + l.count) (drop l.record-index l.records) ≡ l.fn.bytes.items ++ records_bytes l.first l.fn.records;
  short : AreShort (drop l.record-index l.records);
  count : l.count ≡ l.record-index;
  same : l.records ≡ l.fn.records;
}
