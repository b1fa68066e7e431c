use Rattle.apt_words.specs.declared.Case.TheVariants as cases
use Rattle.apt_defs.proofs.Told.{refused_by_name, refused_by_number}
use Rattle.apt_defs.proofs.Gridded.{alike_step}
use Rattle.apt_defs.proofs.definitions.define.Goals as goal

pub returns-clause-names : goal.returns-clause-names
returns-clause-names c = λ name form case asked h. (c.define_value.ensures.refused case).1 (refused_by_name c.args.units c.args.table.now c.args.step.now.deed name form case asked h)

pub returns-clause-numbers : goal.returns-clause-numbers
returns-clause-numbers c =
    λ name form asked none h. (c.define_value.ensures.refused cases.OutOfRange).1 (refused_by_number c.args.units c.args.table.now c.args.step.now.deed name form asked none h)

pub returns-clause-alike : goal.returns-clause-alike
returns-clause-alike c =
    λ other same name form another asked again are. alike_step c.args.units other c.args.table.now c.args.step.now.deed same name form another
    c.define_value.new.table c.define_value.result c.define_value.ensures.ok asked again are
