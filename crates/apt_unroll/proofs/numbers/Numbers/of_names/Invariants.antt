use Rattle.std.proofs.Common.{◌≡◌, ℕ, List, drop}
use Rattle.apt_scalar.specs.Meanings.{meaning}
use Rattle.apt_unroll.specs.Places.{first_named, place_of}
use Rattle.apt_unroll.specs.Tables.{or_else}
use Rattle.apt_unroll.proofs.numbers.Numbers.of_names.Given as goal

abbrev pub invariant-statements : goal.invariant-statements
invariant-statements l =
    record {
      number : l.i ≡ l.st-index;
      names : (name : List ℕ) → or_else (meaning l.numbers name) (first_named l.fn.naming l.i (drop l.st-index l.stmts) name) ≡ place_of l.fn.naming l.fn.stmts name;
    }
