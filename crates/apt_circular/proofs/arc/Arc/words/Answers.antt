use Rattle.std.proofs.Common.{rules, ◌≡◌, ◌∙◌, ◌∷◌, [], cond}
use Rattle.apt_block.specs.Block.{tape_word, letter_x, letter_y, letter_z, letter_i, letter_j, letter_f}
use Rattle.apt_post.specs.Blocks.{g as g_word}
use Rattle.apt_circular.specs.ArcBlocks.{arc_code}
use Rattle.apt_circular.proofs.arc.Arc.words.Goals as goal

pub returns : goal.returns
returns c =
    let to = c.numbers-to.result in
    let way = c.centre_way-centre.result in
    let code : c.g.result ≡ g_word (arc_code c.args.self.turn) = search rules in
    let x : c.word.result ≡ tape_word letter_x to.xy.x = search rules in
    let y : c.word-2.result ≡ tape_word letter_y to.xy.y = search rules in
    let z : c.word-3.result ≡ tape_word letter_z to.z = search rules in
    let i_way : c.word-4.result ≡ tape_word letter_i way.x = search rules in
    let j_way : c.word-5.result ≡ tape_word letter_j way.y = search rules in
    let feed : c.word-6.result ≡ tape_word letter_f c.args.self.feed = search rules in
    (λ n. c.mode_word.ensures n ∷ code n ∷ x n ∷ y n ∷ z n ∷ i_way n ∷ j_way n ∷ feed n ∷ [])
    ∙ λ n. g_word (cond c.args.ways 91 90) ∷ g_word (arc_code c.args.self.turn) ∷ tape_word letter_x (c.numbers-to.ensures.x n) ∷ tape_word letter_y (c.numbers-to.ensures.y n) ∷ tape_word letter_z (c.numbers-to.ensures.z n)
    ∷ tape_word letter_i (c.centre_way-centre.ensures.x n) ∷ tape_word letter_j (c.centre_way-centre.ensures.y n) ∷ tape_word letter_f c.args.self.feed ∷ []
