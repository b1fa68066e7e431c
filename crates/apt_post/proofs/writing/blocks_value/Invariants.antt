use Rattle.std.proofs.Common.{◌≡◌, take}
use Rattle.apt_post.specs.Blocks.{blocks_of}
use Rattle.apt_post.specs.Posting.{posting_behind}
use Rattle.apt_post.proofs.writing.blocks_value.Given as goal

abbrev pub invariant-acts : goal.invariant-acts
invariant-acts l = record {
  blocks : l.blocks.items ≡ blocks_of l.m (take l.act-index l.acts);
  stands : l.poster ≡ posting_behind l.m (take l.act-index l.acts);
}
