use Rattle.std.proofs.Common.{arith}
use Rattle.apt_lexis.proofs.Capitals.{front_past}
use Rattle.apt_lexis.proofs.character.capital_at.Goals as goal

pub returns-else-at-text-clause-none : goal.returns-else-at-text-clause-none
returns-else-at-text-clause-none c e = front_past c.args.text.now c.args.at c.requires (omega arith)
