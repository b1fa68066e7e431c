use Rattle.std.proofs.Common.{arith}
use Rattle.apt_lines.proofs.Backwards.{digits_fit}
use Rattle.apt_lines.proofs.write_count.Goals as goal

pub write_digits-requires : goal.write_digits-requires
write_digits-requires c = (omega (arith, digits_fit c.args.n (omega arith)), c.requires.end)

pub returns-clause-start : goal.returns-clause-start
returns-clause-start c = (c.write_digits.ensures.start, omega (arith, digits_fit c.args.n (omega arith)))
