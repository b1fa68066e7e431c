use Rattle.apt_outline.proofs.Held.{due_behind}
use Rattle.apt_outline.proofs.reader.outline.Goals as goal

pub returns-clause-behind : goal.returns-clause-behind
returns-clause-behind c = due_behind c.args.steps.now c.args.text.now c.outline_by.result (rw c.in_ok-figures.ensures at c.outline_by.ensures.value)
