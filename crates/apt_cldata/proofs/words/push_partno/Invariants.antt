use Rattle.std.proofs.Common.{◌≡◌, ◌≤◌, ◌+◌, ◌-◌, ◌*◌, ◌++◌, ◌∷◌, pos, map, length, take, vec_len, vec_capacity}
use Rattle.std.specs.List.{flat_map}
use Rattle.apt_cldata.specs.Files.{length_bytes, word_bytes}
use Rattle.apt_cldata.proofs.words.push_partno.Given as goal

abbrev pub invariant-bytes : goal.invariant-bytes
invariant-bytes l = record {
  written : l.bytes.items ≡ l.fn.bytes.items ++ (length_bytes (8 * (3 + length l.text)) ++ flat_map word_bytes (l.seq ∷ pos 2000 ∷ pos 1 ∷ map pos (take l.byte-index l.text)));
  room : vec_len l.bytes + 8 * (length l.text - l.byte-index) ≤ vec_capacity l.bytes;
}
