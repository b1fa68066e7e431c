use Rattle.std.proofs.Common.{pos}
use Rattle.apt_plane.specs.Ranges.{IsPoint}
use Rattle.apt_outline.proofs.Firsts.{all_at}
use Rattle.apt_outline.proofs.Within.{box_more}
use Rattle.apt_outline.proofs.bounds.Bounds.of.Goals as goal

pub with-bounds-requires-clause-point : goal.with-bounds-requires-clause-point
with-bounds-requires-clause-point c = all_at IsPoint c.args.rest.now c.points.q-index (record { x = pos 0; y = pos 0 }) c.requires.points c.points-test.true

pub points-preserved : goal.points-preserved
points-preserved c = box_more _ _ _ _ c.args.start (record { x = pos 0; y = pos 0 }) c.args.rest.now c.points.q-index c.points-test.true c.points.invariant c.with-bounds.ensures
