use Rattle.std.proofs.Common.{◌≡◌, ◌≤◌, ◌+◌, ◌*◌, ◌++◌, map, take}
use Rattle.arrayvec.specs.ArrayVec.{array_vec_len}
use Rattle.std.specs.List.{filter, flat_map}
use Rattle.apt_block.specs.Block.{word_text}
use Rattle.apt_post.specs.Blocks.{is_written}
use Rattle.apt_post.proofs.poster.Poster.push_written.Given as goal

abbrev pub invariant-words : goal.invariant-words
invariant-words g l = record {
  written : l.text.items ≡ l.fn.text.items ++ map g.H.Hand.written (flat_map (word_text l.self.machine.short) (filter (is_written l.self.machine.changed l.self.held l.now) (take l.word-index l.words)));
  room : array_vec_len l.text ≤ array_vec_len l.fn.text + 10 * l.word-index;
}
