use Rattle.std.proofs.Common.{◌≡◌, ◌≤◌, ◌+◌, ◌-◌, ◌*◌, ◌++◌, take, vec_len, vec_capacity}
use Rattle.std.specs.List.{flat_map}
use Rattle.apt_cldata.specs.Files.{length_bytes, word_bytes}
use Rattle.apt_cldata.proofs.words.push_front.Given as goal

abbrev pub invariant-words : goal.invariant-words
invariant-words l = record {
  written : l.bytes.items ≡ l.fn.bytes.items ++ (length_bytes (8 * l.count) ++ flat_map word_bytes (take l.word-index l.words));
  room : vec_len l.bytes + 8 * (l.count - l.word-index) ≤ vec_capacity l.bytes;
}
