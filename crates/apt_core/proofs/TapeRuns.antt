-- A run of a tape goes on piece by piece.
use Rattle.std.proofs.Common.{◌≡◌, ℕ, Bool, List, ◌++◌, Result, Ok, Err, subst}
use Rattle.apt_words.specs.Answers.{IsFault}
use Rattle.apt_tapecode.specs.declared.Code.{Code}
use Rattle.apt_control.specs.declared.error.ControlError.{ControlError}
use Rattle.apt_control.specs.Answers.{fault_in}
use Rattle.apt_circular.specs.declared.ArcAct.{ArcAct}
use Rattle.apt_tape.specs.declared.run.TapeRun.{TapeRun}
use Rattle.apt_machine.specs.declared.machine.Machine.{Machine}
use Rattle.apt_tape.specs.Tapes.{Kind, kind_on, run_in, run_on}
use Rattle.apt_tape.specs.Runs.{kind_of, code_of, HasRun, IsTaken}
use Rattle.apt_core.specs.TapeRuns.{RunsFrom}
use Rattle.apt_core.proofs.Intakes.{holds_still, holds_whole}

pub run_goes_on : {T : Type 0} (has : T → T → List ArcAct → Type 0) (begun : Result (TapeRun T) ControlError) (front piece : List ℕ) (run : TapeRun T) (next : Result (TapeRun T) ControlError)
    → ((none : T) (kind : Kind) (code : Code) (front : List ℕ) → HasRun (has none) kind code front (Ok run) → HasRun (has none) kind code (front ++ piece) next)
    → RunsFrom has begun (Ok run) front → RunsFrom has begun next (front ++ piece)
run_goes_on has (Ok begun) front piece run next on so = on begun.taken (kind_of begun.reader) (code_of begun.reader) front so
run_goes_on has (Err error) front piece run next on so = so

pub run_stays : {T : Type 0} (has : T → T → List ArcAct → Type 0) (begun : Result (TapeRun T) ControlError) (front piece : List ℕ) (error : ControlError)
    → RunsFrom has begun (Err error) front → RunsFrom has begun (Err error) (front ++ piece)
run_stays has (Ok begun) front piece error so = holds_still (λ tape. IsFault fault_in (run_in (kind_of begun.reader) (code_of begun.reader) tape) error) front piece so
run_stays has (Err none) front piece error so = so

-- a refusal is that of the whole tape
pub run_ends : {T : Type 0} (has : T → T → List ArcAct → Type 0) (begun : TapeRun T) (tape : List ℕ) (error : ControlError)
    → RunsFrom has (Ok begun) (Err error) tape → IsFault fault_in (run_in (kind_of begun.reader) (code_of begun.reader) tape) error
run_ends has begun tape error so = holds_whole (λ tape. IsFault fault_in (run_in (kind_of begun.reader) (code_of begun.reader) tape) error) tape so

-- by the machine, and with nothing taken at the start
pub taken_on : {T : Type 0} (has : T → T → List ArcAct → Type 0) (begun : TapeRun T) (none : T) (m : Machine) (tape : List ℕ) (result : Result T ControlError) → begun.taken ≡ none
    → kind_of begun.reader ≡ kind_on m → code_of begun.reader ≡ m.code → IsTaken (has begun.taken) (run_in (kind_of begun.reader) (code_of begun.reader) tape) result
    → IsTaken (has none) (run_on m tape) result
taken_on has begun none m tape result taken kind code is =
    subst (λ k. IsTaken (has none) (run_in k m.code tape) result) kind
    (subst (λ c. IsTaken (has none) (run_in (kind_of begun.reader) c tape) result) code
    (subst (λ t. IsTaken (has t) (run_in (kind_of begun.reader) (code_of begun.reader) tape) result) taken is))
