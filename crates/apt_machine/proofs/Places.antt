-- The causes of lines behind the first.
use Rattle.std.proofs.Common.{ℕ, ◌≤◌, arith}
use Rattle.apt_machine.specs.declared.cause.MachineCause.{MachineCause}
use Rattle.apt_machine.specs.declared.cause.MachineCause.TheVariants as causes
use Rattle.apt_machine.specs.Tables.{IsOfLine, Stands}

pub of_line_stands : (many line : ℕ) (cause : MachineCause) → IsOfLine cause → 2 ≤ line → line ≤ many → Stands many line cause
of_line_stands many line causes.Byte c low high = (omega arith, high)
of_line_stands many line causes.Header c low high = absurd c
of_line_stands many line causes.Key c low high = (low, high)
of_line_stands many line causes.Twice c low high = (low, high)
of_line_stands many line causes.Value c low high = (low, high)
of_line_stands many line causes.Missing c low high = absurd c
