use Rattle.std.proofs.Common.{arith}
use Rattle.apt_lexis.specs.Sentences.{is_plain}
use Rattle.apt_lexis.proofs.Fronts.{part_short, part_stops, part_through}
use Rattle.apt_lexis.proofs.fast.plain_front.Goals as goal

pub overflow_add-at : goal.overflow_add-at
overflow_add-at c = omega (arith, c.plain_lanes-run.ensures, part_short is_plain c.args.text.now c.lanes.at 16 c.lanes.invariant.within c.lanes-test.true)

pub returns-then-run-lt-LANES : goal.returns-then-run-lt-LANES
returns-then-run-lt-LANES c =
    omega (arith, c.lanes.invariant.front, part_stops is_plain c.args.text.now c.lanes.at 16 c.plain_lanes-run.result c.lanes.invariant.within c.lanes-test.true c.plain_lanes-run.ensures c.if-run-lt-LANES.true)

pub lanes-preserved : goal.lanes-preserved
lanes-preserved c = record {
  within = omega (arith, c.plain_lanes-run.ensures, part_short is_plain c.args.text.now c.lanes.at 16 c.lanes.invariant.within c.lanes-test.true);
  front = omega (arith, c.lanes.invariant.front, part_through is_plain c.args.text.now c.lanes.at 16 c.plain_lanes-run.result c.lanes.invariant.within c.lanes-test.true c.plain_lanes-run.ensures (omega (arith, c.if-run-lt-LANES.false)));
}
