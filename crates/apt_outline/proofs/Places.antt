-- The causes of lines behind the first.
use Rattle.std.proofs.Common.{ℕ, ◌≤◌, arith}
use Rattle.apt_outline.specs.declared.cause.OutlineCause.{OutlineCause}
use Rattle.apt_outline.specs.declared.cause.OutlineCause.TheVariants as causes
use Rattle.apt_outline.specs.Outlines.{IsOfLine, Stands}

pub of_line_stands : (many line : ℕ) (cause : OutlineCause) → IsOfLine cause → 2 ≤ line → line ≤ many → Stands many line cause
of_line_stands many line causes.Byte c low high = (omega arith, high)
of_line_stands many line causes.Header c low high = absurd c
of_line_stands many line causes.Word c low high = (low, high)
of_line_stands many line causes.Undefined c low high = (low, high)
of_line_stands many line causes.WrongKind c low high = (low, high)
of_line_stands many line causes.Degenerate c low high = (low, high)
of_line_stands many line causes.Empty c low high = absurd c
