use Rattle.std.proofs.Common.{drop}
use Rattle.apt_words.specs.Drills.{AreUndrilled}
use Rattle.apt_pattern.proofs.bare.are_undrilled.Given as goal

abbrev pub invariant-steps : goal.invariant-steps
invariant-steps l = record {
  all : AreUndrilled (drop l.step-index l.steps) → AreUndrilled l.fn.steps;
  left : AreUndrilled l.fn.steps → AreUndrilled (drop l.step-index l.steps);
}
