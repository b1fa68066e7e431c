use Rattle.std.proofs.Common.{◌≡◌, ◌+◌, ◌*◌, ◌++◌, drop, map, vec_len, vec_capacity}
use Rattle.std.specs.List.{flat_map}
use Rattle.apt_cldata.specs.Files.{position_bytes}
use Rattle.apt_records.specs.Vertices.{at_height}
use Rattle.apt_cldata.proofs.words.push_level.Given as goal

abbrev pub invariant-points : goal.invariant-points
invariant-points l = record {
  written : l.bytes.items ++ flat_map position_bytes (map (at_height l.z) (drop l.p-index l.points)) ≡ l.fn.bytes.items ++ flat_map position_bytes (map (at_height l.z) l.points);
  len : vec_len l.bytes ≡ vec_len l.fn.bytes + 24 * l.p-index;
  capacity : vec_capacity l.bytes ≡ vec_capacity l.fn.bytes;
}
