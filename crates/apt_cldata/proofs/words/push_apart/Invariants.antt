use Rattle.std.proofs.Common.{◌≡◌, ◌+◌, ◌*◌, ◌++◌, drop, vec_len, vec_capacity}
use Rattle.std.specs.List.{flat_map}
use Rattle.apt_cldata.specs.Files.{position_bytes}
use Rattle.apt_cldata.proofs.words.push_apart.Given as goal

abbrev pub invariant-positions : goal.invariant-positions
invariant-positions l = record {
  written : l.bytes.items ++ flat_map position_bytes (drop l.p-index l.positions) ≡ l.fn.bytes.items ++ flat_map position_bytes l.positions;
  len : vec_len l.bytes ≡ vec_len l.fn.bytes + 24 * l.p-index;
  capacity : vec_capacity l.bytes ≡ vec_capacity l.fn.bytes;
}
