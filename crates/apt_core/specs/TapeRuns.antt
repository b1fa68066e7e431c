-- A run of a tape that is read piece by piece, from what began it.
use Rattle.std.specs.Prelude.{ℕ, List, Result, Ok, Err}
use Rattle.apt_control.specs.declared.error.ControlError.{ControlError}
use Rattle.apt_circular.specs.declared.ArcAct.{ArcAct}
use Rattle.apt_tape.specs.declared.run.TapeRun.{TapeRun}
use Rattle.apt_tape.specs.Runs.{kind_of, code_of, HasRun}

-- a run by what a run with nothing taken says of its control
abbrev pub RunsFrom : {T : Type 0} → (T → T → List ArcAct → Type 0) → Result (TapeRun T) ControlError → Result (TapeRun T) ControlError → List ℕ → Type 0
RunsFrom has (Ok begun) run front = HasRun (has begun.taken) (kind_of begun.reader) (code_of begun.reader) front run
RunsFrom has (Err error) run front = ⊥
