-- What the text of a part comes to on a machine: its steps, and their records.
use Rattle.std.specs.Prelude.{ℕ, nat_lt, List, Option, Some, None, Result, Ok, Err, if◌then◌else◌}
use Rattle.std.specs.Option.{option_or}
use Rattle.apt_words.specs.declared.Refusal.{Refusal}
use Rattle.apt_words.specs.declared.body.Stmt.{Stmt}
use Rattle.apt_words.specs.declared.deed.Step.{Step}
use Rattle.apt_parse.specs.Programs.{TextFault, program_of}
use Rattle.apt_unroll.specs.Trace.{Trace, trace_of}
use Rattle.apt_records.specs.declared.record.Record.{Record}
use Rattle.apt_meaning.specs.Situations.{first_situation}
use Rattle.apt_meaning.specs.Compiled.{first_refused, compilation}
use Rattle.apt_machine.specs.declared.machine.Machine.{Machine}
use Rattle.apt_post.specs.Limits.{limits}
use Rattle.apt_part.specs.Plain.{plain}

-- ---- steps

-- the plain steps of statements: those of their one trace, with others in the place of those that name patterns and drill
abbrev pub expanded : List Stmt → Trace
expanded statements = plain (trace_of statements)

-- the earlier of two refused steps, the second where both are one step
abbrev pub earliest : Option Refusal → Refusal → Refusal
earliest None own = own
earliest (Some past) own = if nat_lt past.step own.step then past else own

-- the same, where the second may be none
abbrev pub earliest_of : Option Refusal → Option Refusal → Option Refusal
earliest_of past None = past
earliest_of past (Some own) = Some (earliest past own)

-- the first step of a trace that the machine or its own cases refuse, of one step its own case first; else the one at which unrolling stops
abbrev pub refusal_by : Machine → Trace → Option Refusal
refusal_by m trace = option_or (earliest_of (limits m trace.steps) (first_refused first_situation trace.steps)) trace.fault

abbrev pub unless_refused : List Step → Option Refusal → Result (List Step) Refusal
unless_refused steps None = Ok steps
unless_refused steps (Some refusal) = Err refusal

-- the steps of statements, or the first that is refused
abbrev pub steps_by : Machine → List Stmt → Result (List Step) Refusal
steps_by m statements = unless_refused (expanded statements).steps (refusal_by m (expanded statements))

abbrev pub steps_or_fault : Machine → Result (List Stmt) TextFault → Result (Result (List Step) Refusal) TextFault
steps_or_fault m (Ok statements) = Ok (steps_by m statements)
steps_or_fault m (Err fault) = Err fault

-- the first fault of a text, else the first refused step of its statements, else its steps
abbrev pub steps_of : Machine → List ℕ → Result (Result (List Step) Refusal) TextFault
steps_of m text = steps_or_fault m (program_of text)

-- ---- records

-- the records of steps, where neither the machine nor their own cases refuse one; of one step its own case comes first
abbrev pub earlier : Option Refusal → Result (List Record) Refusal → Result (List Record) Refusal
earlier None (Ok records) = Ok records
earlier (Some past) (Ok records) = Err past
earlier past (Err own) = Err (earliest past own)

-- the steps stop before the one that unrolling refuses, so that any other refusal comes first
abbrev pub unless_fault : Option Refusal → Result (List Record) Refusal → Result (List Record) Refusal
unless_fault fault (Err refusal) = Err refusal
unless_fault None (Ok records) = Ok records
unless_fault (Some fault) (Ok records) = Err fault

-- the records of a trace, or the first refused step
abbrev pub records_by : Machine → Trace → Result (List Record) Refusal
records_by m trace = unless_fault trace.fault (earlier (limits m trace.steps) (compilation first_situation trace.steps))

-- ---- parts

-- a part: its steps, and the records that they ask for
pub record Compiled : Type 0 where
  pub steps : List Step
  pub records : List Record

abbrev pub with_steps : List Step → Result (List Record) Refusal → Result Compiled Refusal
with_steps steps (Ok records) = Ok (record { steps = steps; records = records })
with_steps steps (Err refusal) = Err refusal

-- what statements come to, or the first refused step
abbrev pub part_by : Machine → List Stmt → Result Compiled Refusal
part_by m statements = with_steps (expanded statements).steps (records_by m (expanded statements))

abbrev pub or_fault : Machine → Result (List Stmt) TextFault → Result (Result Compiled Refusal) TextFault
or_fault m (Ok statements) = Ok (part_by m statements)
or_fault m (Err fault) = Err fault

-- the first fault of a text, else the first refused step of its statements, else what they come to
abbrev pub part_of : Machine → List ℕ → Result (Result Compiled Refusal) TextFault
part_of m text = or_fault m (program_of text)
