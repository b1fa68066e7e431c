use Rattle.std.proofs.Common.{◌≡◌, ◌≤◌, length, drop, reverse, true, false}
use Rattle.apt_unroll.specs.Places.{behind_macros}
use Rattle.apt_unroll.specs.Tables.{executed_in}
use Rattle.apt_unroll.proofs.places.executed_in.Given as goal

abbrev pub invariant-statements : goal.invariant-statements
invariant-statements l =
    record {
      left : l.i ≤ length l.fn.stmts;
      outside : l.outside ≡ behind_macros false l.i (drop l.i l.fn.stmts);
      within : l.within ≡ behind_macros true l.i (drop l.i l.fn.stmts);
      table : reverse l.table.items ≡ executed_in l.i (drop l.i l.fn.stmts);
    }

abbrev pub decreases-statements : goal.decreases-statements
decreases-statements l = l.i
