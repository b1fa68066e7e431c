use Rattle.std.proofs.Common.{rules}
use Rattle.apt_machine.proofs.Spelling.{spelled_read}
use Rattle.apt_machine.proofs.reader.table.Goals as goal

pub returns-clause-spelled : goal.returns-clause-spelled
returns-clause-spelled c = spelled_read _ c.args.bytes.now (search rules)
