use Rattle.std.proofs.Common.{◌∙◌, sym}
use Rattle.std.proofs.lemmas.List.{take_rest}
use Rattle.apt_lexis.proofs.Splitting.{split_found}
use Rattle.apt_lexis.proofs.lines.cut.Goals as goal

pub returns-in-Some-clause-found : goal.returns-in-Some-clause-found
returns-in-Some-clause-found c = rw take_rest (split_found c.args.c c.args.text.now c.in-Some.i (sym c.index_of.ensures.value ∙ c.in-Some.is))
