use Rattle.std.proofs.Common.{refl, ◌-◌, length, FitsSigned, w8}
use Rattle.std.proofs.lemmas.Int.{to_z-of_z}
use Rattle.apt_arc.specs.Made.{pieces, vertices}
use Rattle.apt_arc.proofs.Quartered.{sense_fits}
use Rattle.apt_arc.proofs.Halved.{next_length, last_length, end_piece}
use Rattle.apt_arc.proofs.Numbers.{sum_few, last_few}
use Rattle.apt_arc.proofs.division.+bound_from.Goals as goal

pub piece_bound-requires-in-None-clause-piece : goal.piece_bound-requires-in-None-clause-piece
piece_bound-requires-in-None-clause-piece t c = end_piece c.args.left c.args.arc.now c.args.from c.args.u (c.in-None.ensures.none refl) c.requires.pieces

pub returns-in-Some-clause-bound : goal.returns-in-Some-clause-bound
returns-in-Some-clause-bound t c =
    let arc = c.args.arc.now in
    let sense : FitsSigned w8 arc.sense = sense_fits arc.sense c.requires.arc.sense in
    let turn = simp to_z-of_z at c.onward.ensures.value in
    sum_few c.piece_bound.result c.bound_from.result (length (pieces 24 arc.track arc.sag c.args.from c.in-Some.point)) (length (vertices (c.args.left - 1) arc c.in-Some.point c.onward.result))
    (length (vertices c.args.left arc c.args.from c.args.u)) c.piece_bound.ensures.bound c.bound_from.ensures.bound
    (next_length c.args.left arc c.args.from c.in-Some.point c.args.u c.onward.result c.in-Some.ensures.some turn)

pub returns-in-None-clause-bound : goal.returns-in-None-clause-bound
returns-in-None-clause-bound t c =
    let arc = c.args.arc.now in
    last_few c.piece_bound-in-None.result (length (pieces 24 arc.track arc.sag c.args.from arc.end)) (length (vertices c.args.left arc c.args.from c.args.u)) c.piece_bound-in-None.ensures.bound
    (last_length c.args.left arc c.args.from c.args.u (c.in-None.ensures.none refl))
