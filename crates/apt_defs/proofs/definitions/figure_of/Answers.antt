use Rattle.std.proofs.Common.{◌∙◌}
use Rattle.apt_defs.proofs.Told.{is_drawn, name_refuses, number_refuses}
use Rattle.apt_defs.proofs.Gridded.{alike}
use Rattle.apt_defs.proofs.definitions.figure_of.Goals as goal

pub returns-clause-drawn : goal.returns-clause-drawn
returns-clause-drawn c = rw c.figure_of_value.ensures.value (is_drawn c.args.units c.args.table.now c.args.form.now c.figures_in_range.ensures)

pub returns-clause-names : goal.returns-clause-names
returns-clause-names c = λ case h. c.figure_of_value.ensures.value ∙ name_refuses c.args.units c.args.table.now c.args.form.now case h

pub returns-clause-numbers : goal.returns-clause-numbers
returns-clause-numbers c = λ none h. c.figure_of_value.ensures.value ∙ number_refuses c.args.units c.args.table.now c.args.form.now none h

pub returns-clause-alike : goal.returns-clause-alike
returns-clause-alike c = λ other same h. c.figure_of_value.ensures.value ∙ alike c.args.units other c.args.table.now c.args.form.now same h
