use Rattle.std.proofs.Common.{rules, ◌≡◌, ◌∙◌, ◌++◌, false, ap, sym, Some, None}
use Rattle.apt_block.specs.Block.{tape_word, letter_x, letter_y, letter_z, letter_f}
use Rattle.apt_post.specs.Blocks.{g as g_word, dimension, mode_words, is_same_code, is_same_value, written_words}
use Rattle.apt_post.specs.Posting.{straight, unless_held}
use Rattle.apt_post.proofs.Spelled.{chars, and_then, cut_told, rapid_told}
use Rattle.apt_post.proofs.poster.Poster.push_straight_words.Goals as goal

pub returns-in-Some-clause-words : goal.returns-in-Some-clause-words
returns-in-Some-clause-words g c =
    let hand = g.H.Hand.written in
    let p = c.args.self.now in
    let short = p.machine.short in
    let changed = p.machine.changed in
    let ways = c.args.ways in
    let done = c.args.text.now.items in
    let t0 = c.push_mode.new.text.items in
    let t1 = c.push_unless.new.text.items in
    let t2 = c.push_unless-2.new.text.items in
    let t3 = c.push_unless-3.new.text.items in
    let t4 = c.push_unless-4.new.text.items in
    let t5 = c.push_unless-in-Some.new.text.items in
    let mode = mode_words p.held.incremental ways in
    let code = unless_held (is_same_code p.held.motion (Some 1)) changed (g_word 1) in
    let to_x = unless_held false changed (tape_word letter_x (dimension ways p.held.x c.args.x)) in
    let to_y = unless_held (is_same_value p.held.y (Some c.args.y)) changed (tape_word letter_y (dimension ways p.held.y c.args.y)) in
    let to_z = unless_held (is_same_value p.held.z (Some c.args.z)) changed (tape_word letter_z (dimension ways p.held.z c.args.z)) in
    let to_f = unless_held (is_same_value p.held.feed (Some c.in-Some.feed)) changed (tape_word letter_f c.in-Some.feed) in
    let a : t0 ≡ done ++ chars hand short mode = search rules in
    let b : t1 ≡ t0 ++ chars hand short code = search rules in
    let d : t2 ≡ t1 ++ chars hand short to_x = search rules in
    let e : t3 ≡ t2 ++ chars hand short to_y = search rules in
    let f : t4 ≡ t3 ++ chars hand short to_z = search rules in
    let h : t5 ≡ t4 ++ chars hand short to_f = search rules in
    and_then hand short done t0 t5 mode (code ++ (to_x ++ (to_y ++ (to_z ++ to_f)))) a (and_then hand short t0 t1 t5 code (to_x ++ (to_y ++ (to_z ++ to_f))) b (and_then hand short t1 t2 t5 to_x (to_y ++ (to_z ++ to_f)) d (and_then hand short t2 t3 t5 to_y (to_z ++ to_f) e (and_then hand short t3 t4 t5 to_z to_f f h))))
    ∙ ap (λ ws. done ++ chars hand short ws) (cut_told p ways c.args.x c.args.y c.args.z c.in-Some.feed c.requires.ways)
    ∙ ap (λ o. done ++ chars hand short (written_words p.machine p.held (straight c.args.x c.args.y c.args.z o))) (sym c.in-Some.is)

pub returns-in_default-clause-words : goal.returns-in_default-clause-words
returns-in_default-clause-words g c =
    let hand = g.H.Hand.written in
    let p = c.args.self.now in
    let short = p.machine.short in
    let changed = p.machine.changed in
    let ways = c.args.ways in
    let done = c.args.text.now.items in
    let t0 = c.push_mode.new.text.items in
    let t1 = c.push_unless.new.text.items in
    let t2 = c.push_unless-2.new.text.items in
    let t3 = c.push_unless-3.new.text.items in
    let t4 = c.push_unless-4.new.text.items in
    let mode = mode_words p.held.incremental ways in
    let code = unless_held (is_same_code p.held.motion (Some 0)) changed (g_word 0) in
    let to_x = unless_held false changed (tape_word letter_x (dimension ways p.held.x c.args.x)) in
    let to_y = unless_held (is_same_value p.held.y (Some c.args.y)) changed (tape_word letter_y (dimension ways p.held.y c.args.y)) in
    let to_z = unless_held (is_same_value p.held.z (Some c.args.z)) changed (tape_word letter_z (dimension ways p.held.z c.args.z)) in
    let a : t0 ≡ done ++ chars hand short mode = search rules in
    let b : t1 ≡ t0 ++ chars hand short code = search rules in
    let d : t2 ≡ t1 ++ chars hand short to_x = search rules in
    let e : t3 ≡ t2 ++ chars hand short to_y = search rules in
    let f : t4 ≡ t3 ++ chars hand short to_z = search rules in
    let none : c.args.feed ≡ None = search rules in
    and_then hand short done t0 t4 mode (code ++ (to_x ++ (to_y ++ to_z))) a (and_then hand short t0 t1 t4 code (to_x ++ (to_y ++ to_z)) b (and_then hand short t1 t2 t4 to_x (to_y ++ to_z) d (and_then hand short t2 t3 t4 to_y to_z e f)))
    ∙ ap (λ ws. done ++ chars hand short ws) (rapid_told p ways c.args.x c.args.y c.args.z c.requires.ways)
    ∙ ap (λ o. done ++ chars hand short (written_words p.machine p.held (straight c.args.x c.args.y c.args.z o))) (sym none)
