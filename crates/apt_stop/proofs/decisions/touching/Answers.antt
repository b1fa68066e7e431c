use Rattle.apt_stop.proofs.Placed.{placed}
use Rattle.apt_stop.proofs.decisions.touching.Goals as goal

pub is_past_axis-requires-clause-course : goal.is_past_axis-requires-clause-course
is_past_axis-requires-clause-course c = placed c.args.c.now c.requires

pub touch_point-requires-clause-track : goal.touch_point-requires-clause-track
touch_point-requires-clause-track c =
    let is = placed c.args.c.now c.requires in
    is.track
