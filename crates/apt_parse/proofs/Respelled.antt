-- A text that is spelled in another way has the same program.
use Rattle.std.specs.Prelude.{◌≡◌, ℕ, List, [], Result, max}
use Rattle.std.proofs.Common.{ap, sym, ◌∙◌, refl, subst}
use Rattle.apt_words.specs.declared.body.Program.{Program}
use Rattle.apt_lexis.specs.declared.error.ParseError.{ParseError}
use Rattle.apt_lexis.specs.Sentences.{said_in}
use Rattle.apt_lexis.specs.Lines.{lines_of}
use Rattle.apt_lexis.specs.Spellings.{AreRespelled, SayTheSame, Itself, Onward, Backward}
use Rattle.apt_lexis.proofs.Respelled.{respelled_said, respelled_lines}
use Rattle.apt_words.specs.Answers.{IsDue}
use Rattle.apt_lexis.specs.Sentences.{fault_in}
use Rattle.apt_parse.specs.Programs.{last_line, program_from, program_of}

-- one line in another spelling
pub program_of-respelled : (text other : List ℕ) → AreRespelled text other → program_of text ≡ program_of other
program_of-respelled text other are =
    ap (λ said. program_from [] (last_line (lines_of text)) said.fault said.phrases) (respelled_said text other are)
    ∙ ap (λ count. program_from [] (max 1 count) (said_in other).fault (said_in other).phrases) (respelled_lines text other are)

-- any number of lines
pub program_of-same : (text other : List ℕ) → SayTheSame text other → program_of text ≡ program_of other
program_of-same _ _ (Itself text) = refl
program_of-same _ _ (Onward text next other are more) = program_of-respelled text next are ∙ program_of-same next other more
program_of-same _ _ (Backward text next other are more) = sym (program_of-respelled next text are) ∙ program_of-same next other more

pub parsed_same : (text other : List ℕ) (read : Result Program ParseError) → IsDue fault_in (program_of text) read → SayTheSame text other → IsDue fault_in (program_of other) read
parsed_same text other read is same = subst (λ due. IsDue fault_in due read) (program_of-same text other same) is
