use Rattle.std.proofs.Common.{◌≡◌, ◌+◌}
use Rattle.apt_unroll.specs.Actions.{most_steps}
use Rattle.apt_unroll.specs.Trace.{trace_from, all_from, behind}
use Rattle.apt_unroll.proofs.trace.unroll_run.Given as goal

abbrev pub invariant-steps : goal.invariant-steps
invariant-steps l =
    record {
      listing : l.listing.stmts ≡ l.fn.listing.stmts;
      few : l.step + l.left ≡ most_steps + 2;
      steps : behind l.steps.items (trace_from l.left l.step l.fn.listing.stmts l.run) ≡ behind l.fn.steps.items (all_from l.fn.listing.stmts l.fn.run);
    }

abbrev pub decreases-steps : goal.decreases-steps
decreases-steps l = l.left
