-- What the calls answer: what a part comes to, or that memory is lacking.
use Rattle.std.specs.Prelude.{◌≡◌, Option, Some, None, Result, Ok, Err}
use Rattle.apt_words.specs.Answers.{Comes}
use Rattle.apt_words.specs.declared.Refusal.{Refusal}
use Rattle.apt_lexis.specs.declared.error.ParseError.{ParseError}
use Rattle.apt_lexis.specs.declared.error.ParseError.TheVariants as text_errors
use Rattle.apt_parse.specs.Programs.{TextFault}
use Rattle.apt_part.specs.declared.part.PartError.{PartError}
use Rattle.apt_part.specs.declared.part.PartError.TheVariants as errors

-- an error of a text, as one of its part
abbrev pub of_text : ParseError → PartError
of_text (text_errors.Bad line cause) = errors.Bad line cause
of_text text_errors.NoMemory = errors.NoMemory

-- what an error tells of a text: its first fault, or the first refused step
abbrev pub outcome_in : {A : Type 0} → PartError → Option (Result (Result A Refusal) TextFault)
outcome_in (errors.Bad line cause) = Some (Err (line, cause))
outcome_in (errors.Refused refusal) = Some (Ok (Err refusal))
outcome_in errors.NoMemory = None

-- what a text comes to, its first fault, or the first refused step
abbrev pub IsPart : {A : Type 0} → Result (Result A Refusal) TextFault → Result A PartError → Type 0
IsPart due = Comes outcome_in (λ p. due ≡ Ok (Ok p)) (λ other. due ≡ other)
