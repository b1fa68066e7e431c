use Rattle.std.proofs.Common.{refl}
use Rattle.apt_tests_figures.proofs.outline.parts_by_names.Goals as goal

pub outline-requires-clause-defined : goal.outline-requires-clause-defined
outline-requires-clause-defined g c = ((_, refl), tt)

pub outline-undefined-requires-clause-defined : goal.outline-undefined-requires-clause-defined
outline-undefined-requires-clause-defined g c = ((_, refl), tt)
