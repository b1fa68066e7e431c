use Rattle.apt_defs.specs.declared.definitions.DefError.TheVariants as errors
use Rattle.apt_defs.proofs.Defined.{defined_asks, has_defined, refused_by}
use Rattle.apt_defs.proofs.definitions.define_value.Goals as goal

pub returns-in-Ok-clause-ok : goal.returns-in-Ok-clause-ok
returns-in-Ok-clause-ok c =
    let made = c.in-Ok.ensures.ok in
    has_defined c.args.units c.args.table.now c.args.step.now.deed c.define_as.new.table c.in-Some.name c.in-Some.form made.0 (defined_asks _ _ _ c.in-Some.ensures) made.1 made.2

pub returns-in-Err-clause-refused : goal.returns-in-Err-clause-refused
returns-in-Err-clause-refused c =
    λ case. refused_by c.args.units c.args.table.now c.args.step.now.deed c.in-Some.name c.in-Some.form case c.in-Err.error (errors.Case case) (defined_asks _ _ _ c.in-Some.ensures) (c.in-Err.ensures.refused case)
