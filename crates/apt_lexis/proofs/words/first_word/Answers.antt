use Rattle.std.proofs.Common.{◌∙◌, sym}
use Rattle.std.proofs.lemmas.List.{take_rest}
use Rattle.apt_lexis.proofs.Blanks.{behind_found}
use Rattle.apt_lexis.proofs.words.first_word.Goals as goal

pub returns-in-Some-clause-behind : goal.returns-in-Some-clause-behind
returns-in-Some-clause-behind c = rw take_rest (sym (behind_found c.args.line.now c.in-Some.i (sym c.first_blank.ensures.value ∙ c.in-Some.is)))
