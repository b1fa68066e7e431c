use Rattle.std.proofs.Common.{◌≡◌, drop, ◌++◌}
use Rattle.apt_unroll.specs.Places.{regions_from, regions_of}
use Rattle.apt_unroll.proofs.places.regions_of.Given as goal

abbrev pub invariant-statements : goal.invariant-statements
invariant-statements l =
    record {
      number : l.i ≡ l.st-index;
      regions : l.regions.items ++ regions_from l.i l.«open» (drop l.st-index l.stmts) ≡ regions_of l.fn.stmts;
    }
