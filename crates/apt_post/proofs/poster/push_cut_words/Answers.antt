use Rattle.std.proofs.Common.{rules, ◌≡◌, ◌++◌, ◌∷◌, [], false}
use Rattle.apt_block.specs.Block.{tape_word, letter_x, letter_y, letter_z, letter_f}
use Rattle.apt_post.specs.Blocks.{g as g_word}
use Rattle.apt_post.proofs.Spelled.{chars, and_then}
use Rattle.apt_post.proofs.poster.push_cut_words.Goals as goal

pub returns-clause-words : goal.returns-clause-words
returns-clause-words g c =
    let hand = g.H.Hand.written in
    let done = c.args.text.now.items in
    let t0 = c.push_word.new.text.items in
    let t1 = c.push_word-2.new.text.items in
    let t2 = c.push_word-3.new.text.items in
    let t3 = c.push_word-4.new.text.items in
    let t4 = c.push_word-5.new.text.items in
    let code = g_word 1 in
    let to_x = tape_word letter_x c.args.x in
    let to_y = tape_word letter_y c.args.y in
    let to_z = tape_word letter_z c.args.z in
    let to_f = tape_word letter_f c.args.feed in
    let a : t0 ≡ done ++ chars hand false (code ∷ []) = search rules in
    let b : t1 ≡ t0 ++ chars hand false (to_x ∷ []) = search rules in
    let d : t2 ≡ t1 ++ chars hand false (to_y ∷ []) = search rules in
    let e : t3 ≡ t2 ++ chars hand false (to_z ∷ []) = search rules in
    let f : t4 ≡ t3 ++ chars hand false (to_f ∷ []) = search rules in
    and_then hand false done t0 t4 (code ∷ []) (to_x ∷ to_y ∷ to_z ∷ to_f ∷ []) a
    (and_then hand false t0 t1 t4 (to_x ∷ []) (to_y ∷ to_z ∷ to_f ∷ []) b
    (and_then hand false t1 t2 t4 (to_y ∷ []) (to_z ∷ to_f ∷ []) d
    (and_then hand false t2 t3 t4 (to_z ∷ []) (to_f ∷ []) e f)))
