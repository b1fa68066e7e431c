use Rattle.apt_arc.proofs.Quartered.{ray_is_point}
use Rattle.apt_arc.proofs.quarters.point_at.Goals as goal

pub returns-clause-point : goal.returns-clause-point
returns-clause-point c = ray_is_point c.args.track.now c.args.u c.ray_point.result c.requires.track c.requires.dir c.ray_point.ensures.value
