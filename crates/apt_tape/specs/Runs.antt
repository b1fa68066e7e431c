-- A tape that is read piece by piece: for which bytes a reader stands, and what was taken of its acts.
use Rattle.std.specs.Prelude.{◌≡◌, ℕ, List, ◌++◌, Result, Ok, Err}
use Rattle.apt_words.specs.Answers.{Comes, IsFault}
use Rattle.apt_tapecode.specs.declared.Code.{Code}
use Rattle.apt_block.specs.declared.block.BlockFault.{BlockFault}
use Rattle.apt_control.specs.declared.Act.{Act}
use Rattle.apt_control.specs.declared.error.ControlError.{ControlError}
use Rattle.apt_control.specs.Answers.{fault_in}
use Rattle.apt_control.specs.Control.{meaning, nothing_held}
use Rattle.apt_control.specs.Pieces.{StandsBehind}
use Rattle.apt_circular.specs.declared.ArcAct.{ArcAct}
use Rattle.apt_circular.specs.ArcBlocks.{arc_meaning}
use Rattle.apt_tape.specs.declared.reader.Reader.{Reader}
use Rattle.apt_tape.specs.declared.reader.Reader.TheVariants as readers
use Rattle.apt_tape.specs.declared.run.TapeRun.{TapeRun}
use Rattle.apt_cycle.specs.CycleBlocks.{cycle_meaning, nothing_drilled}
use Rattle.apt_circular.specs.Plans.{plainly}
use Rattle.apt_tape.specs.Tapes.{Kind, OfMoves, WithArcs, WithHoles, run_in}

-- ---- a reader

-- the blocks that it takes
abbrev pub kind_of : Reader → Kind
kind_of (readers.Plain r) = OfMoves
kind_of (readers.Arcs r) = WithArcs
kind_of (readers.Holes circles r) = WithHoles circles

abbrev pub code_of : Reader → Code
code_of (readers.Plain r) = r.code
code_of (readers.Arcs r) = r.code
code_of (readers.Holes circles r) = r.code

-- how many bytes it has read
abbrev pub bytes_read : Reader → ℕ
bytes_read (readers.Plain r) = r.count
bytes_read (readers.Arcs r) = r.count
bytes_read (readers.Holes circles r) = r.count

-- the acts that it keeps
abbrev pub acts_in : Reader → List ArcAct
acts_in (readers.Plain r) = plainly r.acts
acts_in (readers.Arcs r) = r.acts
acts_in (readers.Holes circles r) = r.acts

-- it stands for the bytes so far, behind acts that were dropped
abbrev pub Stands : List ArcAct → Reader → List ℕ → Type 0
Stands dropped (readers.Plain r) front = (acts : List Act) × (dropped ≡ plainly acts) × StandsBehind meaning nothing_held acts r front
Stands dropped (readers.Arcs r) front = StandsBehind arc_meaning nothing_held dropped r front
Stands dropped (readers.Holes circles r) front = StandsBehind cycle_meaning (nothing_drilled circles) dropped r front

-- ---- a run

-- the reader stands for the front part of a tape that was read, behind the acts that were taken, or the refusal is that of the tape however it goes on
abbrev pub HasRun : {T : Type 0} → (T → List ArcAct → Type 0) → Kind → Code → List ℕ → Result (TapeRun T) ControlError → Type 0
HasRun has kind code front (Ok run) =
    (kind_of run.reader ≡ kind) × (code_of run.reader ≡ code) × ((acts : List ArcAct) × has run.taken acts × Stands acts run.reader front)
HasRun has kind code front (Err error) = (more : List ℕ) → IsFault fault_in (run_in kind code (front ++ more)) error

-- what was taken is of the acts of a run, or the error tells its fault
abbrev pub IsTaken : {T : Type 0} → (T → List ArcAct → Type 0) → Result (List ArcAct) BlockFault → Result T ControlError → Type 0
IsTaken has due = Comes fault_in (λ taken. (acts : List ArcAct) × has taken acts × (due ≡ Ok acts)) (λ fault. due ≡ Err fault)
