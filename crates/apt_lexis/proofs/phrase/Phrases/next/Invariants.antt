use Rattle.std.proofs.Common.{◌≡◌, ◌+◌, ◌≤◌, length}
use Rattle.apt_lexis.specs.Lines.{lines_of}
use Rattle.apt_lexis.specs.Sentences.{said_from, said_by}
use Rattle.apt_lexis.proofs.phrase.Phrases.next.Given as goal

abbrev pub invariant-lines : goal.invariant-lines
invariant-lines l = record {
  said : said_from l.begun l.self-inside.line (lines_of l.self-inside.rest.now) ≡ said_by l.fn.self;
  counted : l.self-inside.line + length (lines_of l.self-inside.rest.now) ≡ l.fn.self.line + length l.fn.self.lines;
  fewer : length (lines_of l.self-inside.rest.now) ≤ length l.fn.self.lines;
  least : 1 ≤ l.self-inside.line;
  most : l.self-inside.line ≤ 50001;
}

abbrev pub decreases-lines : goal.decreases-lines
decreases-lines l = length l.self-inside.rest.now
