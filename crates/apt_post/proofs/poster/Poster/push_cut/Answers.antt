use Rattle.std.proofs.Common.{rules, ◌≡◌, ◌∙◌, ◌++◌, ◌∷◌, [], false, sym, w64, to_z, of_z}
use Rattle.apt_block.specs.Block.{line_feed}
use Rattle.apt_control.specs.declared.Act.TheVariants as acts
use Rattle.apt_post.specs.Blocks.{written_words}
use Rattle.apt_post.specs.Posting.{next_number}
use Rattle.apt_post.proofs.Spelled.{chars, block_behind, cut_words, cut_written}
use Rattle.apt_post.proofs.poster.Poster.push_cut.Goals as goal

pub returns-clause-block : goal.returns-clause-block
returns-clause-block g c =
    let hand = g.H.Hand.written in
    let p = c.args.self.now in
    let short = p.machine.short in
    let mid = c.push_number.new.text.items in
    let most = c.push_cut_words.new.text.items in
    let words = written_words p.machine p.held (acts.Cut c.args.x c.args.y c.args.z c.args.feed) in
    let told = cut_written p c.args.x c.args.y c.args.z c.args.feed c.requires.changed c.requires.incremental c.requires.held in
    let x : to_z w64 (of_z w64 c.args.x) ≡ c.args.x = search rules in
    let y : to_z w64 (of_z w64 c.args.y) ≡ c.args.y = search rules in
    let z : to_z w64 (of_z w64 c.args.z) ≡ c.args.z = search rules in
    let feed : to_z w64 (of_z w64 c.args.feed) ≡ c.args.feed = search rules in
    let all : most ≡ mid ++ chars hand false (cut_words (to_z w64 (of_z w64 c.args.x)) (to_z w64 (of_z w64 c.args.y)) (to_z w64 (of_z w64 c.args.z)) (to_z w64 (of_z w64 c.args.feed))) = c.push_cut_words.ensures.words in
    let more : most ≡ mid ++ chars hand short words = all ∙ (λ i. mid ++ chars hand false (cut_words (x i) (y i) (z i) (feed i))) ∙ (λ i. mid ++ chars hand (sym c.requires.short i) (told i)) in
    let last : c.push.new.self.items ≡ most ++ hand line_feed ∷ [] = search rules in
    block_behind hand short c.args.text.now.items mid most c.push.new.self.items (next_number p) words c.push_number.ensures.number more last
