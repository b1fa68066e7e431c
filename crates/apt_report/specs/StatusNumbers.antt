-- The status number of each answer.
use Rattle.std.specs.Prelude.{ℕ}
use Rattle.apt_report.specs.declared.status.Status.{Status}
use Rattle.apt_report.specs.declared.status.Status.TheVariants as answers

abbrev pub number_of : Status → ℕ
number_of (answers.Done summary) = 0
number_of answers.Usage = 1
number_of (answers.Missing name) = 2
number_of answers.ReadFault = 3
number_of (answers.TooLong name) = 4
number_of (answers.BadMachine line cause) = 5
number_of (answers.BadPart line cause) = 6
number_of (answers.Refused line step case) = 7
number_of (answers.BadCl at cause) = 8
number_of (answers.BadTape at cause) = 9
number_of (answers.NotCertified miss) = 10
number_of answers.WriteFault = 11
number_of answers.NoMemory = 12
number_of (answers.BadOutline line cause) = 13
number_of (answers.Gouge gouge) = 14
