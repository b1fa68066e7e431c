use Rattle.std.specs.Prelude.{vec_capacity}
use Rattle.apt_arc.specs.Made.{vertices, divided}
use Rattle.apt_arc.proofs.Quartered.{arc_pieces}
use Rattle.apt_arc.proofs.Halved.{whole_is, whole_length}
use Rattle.apt_arc.proofs.Rooms.{last_fits}
use Rattle.apt_arc.proofs.division.append_whole.Goals as goal

pub append_from-requires-clause-pieces : goal.append_from-requires-clause-pieces
append_from-requires-clause-pieces c = arc_pieces c.args.arc.now c.first_past.result c.requires c.first_past.ensures.value

pub returns-clause-count : goal.returns-clause-count
returns-clause-count c = whole_length c.args.arc.now c.first_past.result c.append_from.result c.first_past.ensures.value c.append_from.ensures.count

pub returns-clause-items : goal.returns-clause-items
returns-clause-items c =
    let arc = c.args.arc.now in
    last_fits (vec_capacity c.args.out.now) c.args.out.now.items c.append_from.new.out.items (vertices 4 arc arc.start c.first_past.result) (divided arc) c.append_from.ensures.items
    (whole_is arc c.first_past.result c.first_past.ensures.value)
