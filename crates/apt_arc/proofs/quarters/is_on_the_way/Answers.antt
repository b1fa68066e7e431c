use Rattle.apt_arc.proofs.Quartered.{arc_start, arc_end}
use Rattle.apt_arc.proofs.quarters.is_on_the_way.Goals as goal

pub displacement-from-requires-clause-end : goal.displacement-from-requires-clause-end
displacement-from-requires-clause-end c = arc_start c.args.arc.now c.requires.arc

pub displacement-to-requires-clause-end : goal.displacement-to-requires-clause-end
displacement-to-requires-clause-end c = arc_end c.args.arc.now c.requires.arc
