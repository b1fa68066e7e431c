use Rattle.std.proofs.Common.{◌≡◌, ◌+◌, length}
use Rattle.apt_lexis.specs.Lines.{lines_of}
use Rattle.apt_lexis.specs.Sentences.{said_by}
use Rattle.apt_parse.specs.ReaderState.{IsRead}
use Rattle.apt_parse.specs.Programs.{program_from, program_of, last_line}
use Rattle.apt_parse.proofs.program.parse_value.Given as goal

abbrev pub invariant-phrases : goal.invariant-phrases
invariant-phrases l =
    record {
      read : IsRead l.read;
      program : program_from l.read.stmts.items (last_line (lines_of l.fn.text)) (said_by l.phrases).fault (said_by l.phrases).phrases ≡ program_of l.fn.text;
      counted : l.phrases.line + length l.phrases.lines ≡ 1 + length (lines_of l.fn.text);
    }

abbrev pub decreases-phrases : goal.decreases-phrases
decreases-phrases l = length l.phrases.lines
