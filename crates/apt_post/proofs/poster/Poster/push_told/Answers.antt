use Rattle.std.proofs.Common.{rules, ◌≡◌, ◌++◌, ◌∷◌, []}
use Rattle.std.specs.List.{filter}
use Rattle.apt_block.specs.Block.{line_feed}
use Rattle.apt_post.specs.Blocks.{is_written}
use Rattle.apt_post.specs.Posting.{next_number}
use Rattle.apt_post.proofs.Spelled.{chars, block_behind}
use Rattle.apt_post.proofs.poster.Poster.push_told.Goals as goal

pub returns-clause-block : goal.returns-clause-block
returns-clause-block g c =
    let hand = g.H.Hand.written in
    let p = c.args.self.now in
    let short = p.machine.short in
    let mid = c.push_number.new.text.items in
    let most = c.push_written.new.text.items in
    let words = filter (is_written p.machine.changed p.held c.args.now.now) c.args.words.now in
    let more : most ≡ mid ++ chars hand short words = search rules in
    let last : c.push.new.self.items ≡ most ++ hand line_feed ∷ [] = search rules in
    block_behind hand short c.args.text.now.items mid most c.push.new.self.items (next_number p) words c.push_number.ensures.number more last
