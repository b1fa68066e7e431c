-- What a tape is decoded to: an answer, and the text that is put for it.
use Rattle.std.specs.Prelude.{◌≡◌, ◌⊎◌, ℕ, List, length, Option, Some, None, Result, Ok, Err}
use Rattle.apt_words.specs.Chains.{◌>>=◌}
use Rattle.apt_circular.specs.declared.ArcAct.{ArcAct}
use Rattle.apt_report.specs.declared.status.Status.{Status}
use Rattle.apt_report.specs.declared.status.Status.TheVariants as answers
use Rattle.apt_report.specs.declared.status.Summary.TheVariants as summaries
use Rattle.apt_report.specs.Lines.{line_of}
use Rattle.apt_report.specs.Acts.{arc_lines}
use Rattle.apt_core.specs.Due.{machine_due, acts_due}

-- an answer, and the text that is put for it
pub record Said : Type 0 where
  pub answer : Status
  pub text : List ℕ

-- an answer with its own line
abbrev pub lined : Status → Said
lined answer = record { answer = answer; text = line_of answer }

-- an answer with a text, or with its own line
abbrev pub said_with : Status → Option (List ℕ) → Said
said_with answer None = lined answer
said_with answer (Some text) = record { answer = answer; text = text }

-- what is said, or an answer with its own line
abbrev pub said_of : Result Said Status → Said
said_of (Ok said) = said
said_of (Err answer) = lined answer

-- a line for each act
abbrev pub acts_said : List ArcAct → Said
acts_said acts = record { answer = answers.Done (summaries.Decoded (length acts)); text = arc_lines acts }

-- for the texts of a table and of a tape, which a control of its machine runs
abbrev pub said_due : List ℕ → List ℕ → Result Said Status
said_due table tape = machine_due table >>= λ machine. acts_due machine tape >>= λ acts. Ok (acts_said acts)

-- or memory runs out
abbrev pub IsSaid : Said → Said → Type 0
IsSaid due now = (now ≡ due) ⊎ (now ≡ lined answers.NoMemory)
