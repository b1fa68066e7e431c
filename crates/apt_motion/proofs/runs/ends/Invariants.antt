use Rattle.std.proofs.Common.{◌≡◌, drop}
use Rattle.apt_words.specs.Sources.{AreExecuted}
use Rattle.apt_scalar.specs.StepScalars.{AreScalars}
use Rattle.apt_meaning.specs.Situations.{first_situation}
use Rattle.apt_meaning.specs.Ranges.{IsSituation}
use Rattle.apt_meaning.specs.Compiled.{first_refused}
use Rattle.apt_motion.proofs.runs.ends.Given as goal

abbrev pub invariant-steps : goal.invariant-steps
invariant-steps l =
    record {
      so_far : first_refused l.here (drop l.st-index l.steps) ≡ first_refused first_situation l.fn.steps;
      situation : IsSituation l.here;
      scalars : AreScalars (drop l.st-index l.steps);
      sources : AreExecuted (drop l.st-index l.steps);
    }
