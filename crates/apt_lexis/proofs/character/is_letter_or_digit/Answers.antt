use Rattle.std.proofs.Common.{arith}
use Rattle.apt_lexis.proofs.Entries.{filled}
use Rattle.apt_lexis.proofs.character.is_letter_or_digit.Goals as goal

pub returns : goal.returns
returns c = filled c.args.b (omega arith)
