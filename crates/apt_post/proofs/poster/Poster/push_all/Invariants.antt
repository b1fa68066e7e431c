use Rattle.std.proofs.Common.{◌≡◌, ◌≤◌, ◌+◌, ◌*◌, ◌++◌, map, take}
use Rattle.arrayvec.specs.ArrayVec.{array_vec_len}
use Rattle.std.specs.List.{flat_map}
use Rattle.apt_block.specs.Block.{word_text}
use Rattle.apt_post.proofs.poster.Poster.push_all.Given as goal

abbrev pub invariant-words : goal.invariant-words
invariant-words g l = record {
  written : l.text.items ≡ l.fn.text.items ++ map g.H.Hand.written (flat_map (word_text l.self.machine.short) (take l.word-index l.words));
  room : array_vec_len l.text ≤ array_vec_len l.fn.text + 10 * l.word-index;
}
