use Rattle.std.proofs.Common.{refl, ◌-◌, ◌∙◌, sym, length, FitsSigned, w8}
use Rattle.std.specs.Prelude.{vec_capacity}
use Rattle.std.proofs.lemmas.Int.{to_z-of_z}
use Rattle.apt_arc.specs.Made.{pieces, vertices}
use Rattle.apt_arc.proofs.Quartered.{sense_fits}
use Rattle.apt_arc.proofs.Halved.{counted, next_vertices, next_length, last_vertices, last_length, end_piece}
use Rattle.apt_arc.proofs.Rooms.{both_fit, last_fits}
use Rattle.apt_arc.proofs.division.+append_from.Goals as goal

pub append_piece-requires-in-None-clause-piece : goal.append_piece-requires-in-None-clause-piece
append_piece-requires-in-None-clause-piece t c = end_piece c.args.left c.args.arc.now c.args.from c.args.u (c.in-None.ensures.none refl) c.requires.pieces

pub returns-in-Some-clause-count : goal.returns-in-Some-clause-count
returns-in-Some-clause-count t c =
    let arc = c.args.arc.now in
    let sense : FitsSigned w8 arc.sense = sense_fits arc.sense c.requires.arc.sense in
    let turn = simp to_z-of_z at c.onward.ensures.value in
    counted c.append_piece.result c.append_from.result (length (pieces 24 arc.track arc.sag c.args.from c.in-Some.point)) (length (vertices (c.args.left - 1) arc c.in-Some.point c.onward.result))
    (length (vertices c.args.left arc c.args.from c.args.u)) c.append_piece.ensures.count c.append_from.ensures.count
    (next_length c.args.left arc c.args.from c.in-Some.point c.args.u c.onward.result c.in-Some.ensures.some turn)

pub returns-in-Some-clause-items : goal.returns-in-Some-clause-items
returns-in-Some-clause-items t c =
    let arc = c.args.arc.now in
    let sense : FitsSigned w8 arc.sense = sense_fits arc.sense c.requires.arc.sense in
    let turn = simp to_z-of_z at c.onward.ensures.value in
    both_fit (vec_capacity c.args.out.now) (vec_capacity c.append_piece.new.out) c.args.out.now.items c.append_piece.new.out.items c.append_from.new.out.items (pieces 24 arc.track arc.sag c.args.from c.in-Some.point)
    (vertices (c.args.left - 1) arc c.in-Some.point c.onward.result) (vertices c.args.left arc c.args.from c.args.u) c.append_piece.ensures.items c.append_from.ensures.items c.append_piece.ensures.capacity
    (next_vertices c.args.left arc c.args.from c.in-Some.point c.args.u c.onward.result c.in-Some.ensures.some turn)

pub returns-in-None-clause-count : goal.returns-in-None-clause-count
returns-in-None-clause-count t c =
    c.append_piece-in-None.ensures.count ∙ sym (last_length c.args.left c.args.arc.now c.args.from c.args.u (c.in-None.ensures.none refl))

pub returns-in-None-clause-items : goal.returns-in-None-clause-items
returns-in-None-clause-items t c =
    let arc = c.args.arc.now in
    last_fits (vec_capacity c.args.out.now) c.args.out.now.items c.append_piece-in-None.new.out.items (pieces 24 arc.track arc.sag c.args.from arc.end) (vertices c.args.left arc c.args.from c.args.u)
    c.append_piece-in-None.ensures.items (last_vertices c.args.left arc c.args.from c.args.u (c.in-None.ensures.none refl))
