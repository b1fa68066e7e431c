use Rattle.std.proofs.Common.{◌≡◌, length}
use Rattle.apt_unroll.specs.Trace.{behind as with_front}
use Rattle.apt_pattern.specs.Expansions.{expanded_from, expansion}
use Rattle.apt_scalar.specs.StepScalars.{AreScalars, AreDrillScalars}
use Rattle.apt_pattern.proofs.expanding.expand_value.Given as goal

abbrev pub invariant-steps : goal.invariant-steps
invariant-steps l =
    record {
      so_far : with_front l.plain.items (expanded_from l.driller l.left.items l.fault) ≡ expansion l.fn.u.steps l.fn.u.fault;
      scalars : AreScalars l.left.items;
      drills : AreDrillScalars l.left.items;
    }

abbrev pub decreases-steps : goal.decreases-steps
decreases-steps l = length l.left.items
