use Rattle.std.proofs.Common.{◌≡◌, drop}
use Rattle.apt_scalar.specs.StepScalars.{AreScalars}
use Rattle.apt_outline.specs.Holding.{AreDefined, held_behind, figures_at_end}
use Rattle.apt_outline.proofs.figures.figures_at_end.Given as goal

abbrev pub invariant-steps : goal.invariant-steps
invariant-steps l = record {
  value : (held_behind (record { units = l.units; table = l.table }) (drop l.step-index l.steps)).table ≡ figures_at_end l.fn.steps;
  defined : AreDefined (record { units = l.units; table = l.table }) (drop l.step-index l.steps);
  scalars : AreScalars (drop l.step-index l.steps);
}
