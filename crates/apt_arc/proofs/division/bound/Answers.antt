use Rattle.apt_arc.proofs.Quartered.{arc_pieces}
use Rattle.apt_arc.proofs.Numbers.{whole_few}
use Rattle.apt_arc.proofs.division.bound.Goals as goal

pub bound_from-requires-clause-pieces : goal.bound_from-requires-clause-pieces
bound_from-requires-clause-pieces c = arc_pieces c.args.arc.now c.first_past.result c.requires c.first_past.ensures.value

pub returns-clause-bound : goal.returns-clause-bound
returns-clause-bound c = whole_few c.args.arc.now c.first_past.result c.bound_from.result c.first_past.ensures.value c.bound_from.ensures.bound
