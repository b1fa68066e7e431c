use Rattle.std.proofs.Common.{◌≡◌, ◌+◌, ◌≤◌, length}
use Rattle.apt_lexis.specs.Lines.{lines_of}
use Rattle.apt_outline.specs.Guards.{AreParts}
use Rattle.apt_outline.specs.Outlines.{parts_from}
use Rattle.apt_outline.proofs.Reading.{with_front}
use Rattle.apt_outline.proofs.reader.parts_of.Given as goal

abbrev pub invariant-lines : goal.invariant-lines
invariant-lines l = record {
  value : with_front l.parts.items (parts_from l.figures l.line (lines_of l.rest)) ≡ parts_from l.figures 2 (lines_of l.text);
  range : AreParts l.parts.items;
  least : 2 ≤ l.line;
  count : l.line + length (lines_of l.rest) ≡ 2 + length (lines_of l.text);
  small : l.line + length l.rest ≤ 65538;
}

abbrev pub decreases-lines : goal.decreases-lines
decreases-lines l = length l.rest
