-- What is promised of the part of `demo`: it is read, and none of its steps is refused.
use Rattle.std.specs.Prelude.{◌≡◌, ℕ, false, List, None, Ok}
use Rattle.apt_words.specs.declared.body.Stmt.{Stmt}
use Rattle.apt_words.specs.declared.deed.Step.{Step}
use Rattle.apt_words.specs.Drills.{AreUndrilled}
use Rattle.apt_parse.specs.Programs.{program_of}
use Rattle.apt_unroll.specs.Trace.{trace_of}
use Rattle.apt_records.specs.declared.record.Record.{Record}
use Rattle.apt_meaning.specs.Situations.{first_situation}
use Rattle.apt_meaning.specs.Compiled.{compilation}
use Rattle.apt_tapecode.specs.declared.Code.TheVariants as codings
use Rattle.apt_machine.specs.declared.machine.Machine.{Machine}
use Rattle.apt_post.specs.Limits.{limits}

-- the machine with the greatest limits
abbrev pub demo_machine : Machine
demo_machine = record { code = codings.Rs358; seq = 1; feedmax = 9999; spinmax = 9999; toolmax = 99; changed = false; incremental = false; short = false; circles = false; cycles = false }

-- a text is read as statements, their trace stops at no step, no step names a pattern or drills, none is past a limit of the machine, and none is refused: they have records
pub record HasRecords (m : Machine) (text : List ℕ) : Type 0 where
  pub statements : List Stmt
  pub read : program_of text ≡ Ok statements
  pub steps : List Step
  pub traced : trace_of statements ≡ record { steps = steps; fault = None }
  pub undrilled : AreUndrilled steps
  pub within : limits m steps ≡ None
  pub records : List Record
  pub compiled : compilation first_situation steps ≡ Ok records
