use Rattle.std.proofs.Common.{rules}
use Rattle.apt_shelf.proofs.ToldLaws.{takes_front}
use Rattle.apt_shelf.proofs.memory.MemShelfShelf.read.Goals as goal

pub returns-clause-taken : goal.returns-clause-taken
returns-clause-taken c = takes_front _ _ _ _ _ (search rules) c.read.ensures.read
