use Rattle.std.proofs.Common.{◌≡◌, ◌≤◌, ◌++◌, ◌+◌, drop, length}
use Rattle.apt_report.specs.Listing.{lines_from, point_count}
use Rattle.apt_report.proofs.points.listing_value.Given as goal

abbrev pub invariant-records : goal.invariant-records
invariant-records l = record {
  text : l.text.items ++ lines_from l.decimals (l.seq + 1) (drop l.record-index l.records) ≡ lines_from l.decimals 1 l.fn.records;
  seq : l.seq ≡ l.record-index;
  points : l.points + point_count (drop l.record-index l.records) ≡ point_count l.fn.records;
  within : l.points ≤ length l.text.items;
  room : length l.room ≡ 192;
}
