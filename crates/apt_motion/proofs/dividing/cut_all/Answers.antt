use Rattle.std.proofs.Common.{◌≡◌, ◌∙◌, ◌++◌, length, take, drop, ap, sym, arith}
use Rattle.std.proofs.lemmas.List.{take-append-le, take_all}
use Rattle.std.specs.List.{list_all}
use Rattle.apt_motion.specs.Divided.{is_filled}
use Rattle.apt_motion.proofs.Divided.{all_cut}
use Rattle.apt_motion.proofs.dividing.cut_all.Goals as goal

pub returns-then-are_cut : goal.returns-then-are_cut
returns-then-are_cut g c =
    let new = c.divide_all.new.cuts in
    let rooms = c.in_ok-cuts.cuts in
    let long : length new ≡ rooms.len = omega (arith, c.divide_all.ensures.rooms, c.deref_mut.ensures.len) in
    let whole : take rooms.len (new ++ drop (length new) rooms.items) ≡ new =
    take-append-le rooms.len new (drop (length new) rooms.items) (omega (arith, long)) ∙ take_all rooms.len new (omega (arith, long)) in
    whole ∙ all_cut c.args.rounds.now new (omega (arith, c.divide_all.ensures.rooms, ap length c.deref_mut.ensures.value, c.in_ok-cuts.ensures))
    (λ i d e lt. c.divide_all.ensures.each i d e (omega (arith, lt, c.divide_all.ensures.rooms)))
    (sym (c.if-are_cut.ensures ∙ ap (list_all is_filled) (c.deref.ensures.value ∙ whole)))
