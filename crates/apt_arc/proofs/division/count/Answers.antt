use Rattle.apt_arc.proofs.Divided.{only}
use Rattle.apt_arc.proofs.Quartered.{arc_pieces}
use Rattle.apt_arc.proofs.Halved.{whole_length}
use Rattle.apt_arc.proofs.division.count.Goals as goal

pub count_from-requires-clause-pieces : goal.count_from-requires-clause-pieces
count_from-requires-clause-pieces c = arc_pieces c.args.arc.now c.first_past.result c.requires c.first_past.ensures.value

pub returns-clause-count : goal.returns-clause-count
returns-clause-count c = whole_length c.args.arc.now c.first_past.result c.count_from.result c.first_past.ensures.value c.count_from.ensures.count

pub returns-clause-only : goal.returns-clause-only
returns-clause-only c = only c.args.arc.now c.requires
