use Rattle.std.proofs.Common.{refl, ◌-◌, ◌∙◌, sym, length, FitsSigned, w8}
use Rattle.std.proofs.lemmas.Int.{to_z-of_z}
use Rattle.apt_arc.specs.Made.{pieces, vertices}
use Rattle.apt_arc.proofs.Quartered.{sense_fits}
use Rattle.apt_arc.proofs.Halved.{counted, next_length, last_length, end_piece}
use Rattle.apt_arc.proofs.division.+count_from.Goals as goal

pub count_piece-requires-in-None-clause-piece : goal.count_piece-requires-in-None-clause-piece
count_piece-requires-in-None-clause-piece t c = end_piece c.args.left c.args.arc.now c.args.from c.args.u (c.in-None.ensures.none refl) c.requires.pieces

pub returns-in-Some-clause-count : goal.returns-in-Some-clause-count
returns-in-Some-clause-count t c =
    let arc = c.args.arc.now in
    let sense : FitsSigned w8 arc.sense = sense_fits arc.sense c.requires.arc.sense in
    let turn = simp to_z-of_z at c.onward.ensures.value in
    counted c.count_piece.result c.count_from.result (length (pieces 24 arc.track arc.sag c.args.from c.in-Some.point)) (length (vertices (c.args.left - 1) arc c.in-Some.point c.onward.result))
    (length (vertices c.args.left arc c.args.from c.args.u)) c.count_piece.ensures.count c.count_from.ensures.count
    (next_length c.args.left arc c.args.from c.in-Some.point c.args.u c.onward.result c.in-Some.ensures.some turn)

pub returns-in-None-clause-count : goal.returns-in-None-clause-count
returns-in-None-clause-count t c =
    c.count_piece-in-None.ensures.count ∙ sym (last_length c.args.left c.args.arc.now c.args.from c.args.u (c.in-None.ensures.none refl))
