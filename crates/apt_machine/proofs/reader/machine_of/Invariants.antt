use Rattle.std.proofs.Common.{◌≡◌, ◌+◌, ◌≤◌, length}
use Rattle.apt_lexis.specs.Lines.{lines_of}
use Rattle.apt_machine.specs.Keys.{blank_draft}
use Rattle.apt_machine.specs.Machines.{IsDraft}
use Rattle.apt_machine.specs.Tables.{machine_from}
use Rattle.apt_machine.proofs.reader.machine_of.Given as goal

abbrev pub invariant-lines : goal.invariant-lines
invariant-lines l = record {
  value : machine_from l.version l.line l.draft (lines_of l.rest) ≡ machine_from l.version 2 blank_draft (lines_of l.text);
  within : IsDraft l.draft;
  least : 2 ≤ l.line;
  count : l.line + length (lines_of l.rest) ≡ 2 + length (lines_of l.text);
  small : l.line + length l.rest ≤ 65538;
}

abbrev pub decreases-lines : goal.decreases-lines
decreases-lines l = length l.rest
