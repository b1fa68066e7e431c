-- What texts come to where memory does not run out, and how their faults are told.
use Rattle.std.specs.Prelude.{◌≡◌, ◌⊎◌, ℕ, List, Result, Ok, Err}
use Rattle.std.specs.Result.{result_map_both}
use Rattle.apt_words.specs.Chains.{◌>>=◌}
use Rattle.apt_words.specs.declared.Refusal.{Refusal}
use Rattle.apt_words.specs.declared.deed.Step.{Step}
use Rattle.apt_parse.specs.Programs.{TextFault}
use Rattle.apt_cldata.specs.declared.error.ClError.{ClError}
use Rattle.apt_cldata.specs.declared.error.ClError.TheVariants as cl_errors
use Rattle.apt_records.specs.declared.record.Record.{Record}
use Rattle.apt_cldata.specs.Reading.{read_of}
use Rattle.apt_block.specs.declared.block.BlockFault.{BlockFault}
use Rattle.apt_control.specs.declared.error.ControlError.{ControlError}
use Rattle.apt_control.specs.declared.error.ControlError.TheVariants as tape_errors
use Rattle.apt_machine.specs.declared.machine.Machine.{Machine}
use Rattle.apt_machine.specs.declared.cause.MachineError.{MachineError}
use Rattle.apt_machine.specs.Tables.{table_of}
use Rattle.apt_circular.specs.declared.ArcAct.{ArcAct}
use Rattle.apt_tape.specs.Tapes.{run_on}
use Rattle.apt_outline.specs.declared.cause.OutlineError.{OutlineError}
use Rattle.apt_outline.specs.declared.cause.OutlineError.TheVariants as outline_errors
use Rattle.apt_part.specs.Compilation.{Compiled, steps_of, part_of}
use Rattle.apt_part.specs.declared.part.PartError.{PartError}
use Rattle.apt_part.specs.declared.part.PartError.TheVariants as part_errors
use Rattle.apt_report.specs.declared.status.Status.{Status}
use Rattle.apt_report.specs.declared.status.Status.TheVariants as answers
use Rattle.apt_report.specs.declared.status.Summary.{Summary}

-- the answer of a work that is done, or the one of a work that is not
abbrev pub answer_of : Result Summary Status → Status
answer_of (Ok summary) = answers.Done summary
answer_of (Err answer) = answer

-- what is due, or memory ran out
abbrev pub OrNoMemory : Type 0 → Status → Type 0
OrNoMemory due answer = due ⊎ (answer ≡ answers.NoMemory)

-- the answer where nothing comes of a text
abbrev pub ComesToNone : {A : Type 0} → Result A Status → Status → Type 0
ComesToNone due answer = OrNoMemory (due ≡ Err answer) answer

-- ---- how faults are told

abbrev pub bad_machine : MachineError → Status
bad_machine fault = answers.BadMachine fault.line fault.cause

abbrev pub bad_part : TextFault → Status
bad_part fault = answers.BadPart fault.0 fault.1

abbrev pub refused_step : Refusal → Status
refused_step r = answers.Refused r.line r.step r.case

abbrev pub bad_tape : BlockFault → Status
bad_tape fault = answers.BadTape fault.at fault.cause

-- the same of what a reader of CL files refuses
abbrev pub cl_told : ClError → Status
cl_told (cl_errors.Bad at cause) = answers.BadCl at cause
cl_told cl_errors.NoMemory = answers.NoMemory

-- of what a reader of tapes refuses
abbrev pub tape_told : ControlError → Status
tape_told (tape_errors.Bad at cause) = answers.BadTape at cause
tape_told tape_errors.NoMemory = answers.NoMemory

-- of what a reader of outlines refuses
abbrev pub outline_told : OutlineError → Status
outline_told (outline_errors.Bad line cause) = answers.BadOutline line cause
outline_told outline_errors.NoMemory = answers.NoMemory

-- and of what the crate of parts refuses
abbrev pub part_told : PartError → Status
part_told (part_errors.Bad line cause) = answers.BadPart line cause
part_told (part_errors.Refused r) = refused_step r
part_told part_errors.NoMemory = answers.NoMemory

abbrev pub told_by : {A E : Type 0} → Result A E → (E → Status) → Result A Status
told_by due tell = result_map_both (λ x. x) tell due

-- the first fault of a text, and else its first refused step
abbrev pub unless_refused : {A : Type 0} → Result (Result A Refusal) TextFault → Result A Status
unless_refused due = told_by due bad_part >>= λ r. told_by r refused_step

-- ---- what is due

-- what a table, a part, a CL file and a tape come to, or the answer to their fault
abbrev pub machine_due : List ℕ → Result Machine Status
machine_due table = told_by (table_of table) bad_machine

abbrev pub part_due : Machine → List ℕ → Result Compiled Status
part_due machine text = unless_refused (part_of machine text)

abbrev pub steps_due : Machine → List ℕ → Result (List Step) Status
steps_due machine text = unless_refused (steps_of machine text)

abbrev pub records_due : List ℕ → Result (List Record) Status
records_due cl = told_by (read_of cl) (λ fault. answers.BadCl fault.at fault.cause)

abbrev pub acts_due : Machine → List ℕ → Result (List ArcAct) Status
acts_due machine tape = told_by (run_on machine tape) bad_tape
