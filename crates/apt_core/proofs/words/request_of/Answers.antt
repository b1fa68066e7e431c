use Rattle.std.proofs.Common.{arith}
use Rattle.apt_core.proofs.Asked.{none_asked}
use Rattle.apt_core.proofs.words.request_of.Goals as goal

pub returns-in_default-clause-work : goal.returns-in_default-clause-work
returns-in_default-clause-work c = none_asked c.args.words.now (grind arith) (grind arith) (grind arith) (grind arith)
