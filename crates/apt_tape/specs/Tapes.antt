-- What the acts, the run and the bytes of a tape are on a machine, whose table says whether a leg round a circle is one arc, and whether a hole is one block.
use Rattle.std.specs.Prelude.{ℕ, Bool, List, None, Result, if◌then◌else◌}
use Rattle.std.specs.Result.{result_map_both}
use Rattle.apt_records.specs.declared.record.Record.{Record}
use Rattle.apt_tapecode.specs.declared.Code.{Code}
use Rattle.apt_machine.specs.declared.machine.Machine.{Machine}
use Rattle.apt_block.specs.declared.block.BlockFault.{BlockFault}
use Rattle.apt_control.specs.declared.Act.{Act}
use Rattle.apt_control.specs.Control.{control_run}
use Rattle.apt_post.specs.Plan.{plan}
use Rattle.apt_post.specs.Said.{record_said, acts_of}
use Rattle.apt_post.specs.Blocks.{IsProgram}
use Rattle.apt_circular.specs.declared.ArcAct.{ArcAct}
use Rattle.apt_circular.specs.ArcBlocks.{arc_run}
use Rattle.apt_circular.specs.ArcPlan.{plan_arcs}
use Rattle.apt_circular.specs.Plans.{plainly}
use Rattle.apt_circular.specs.ArcsSaid.{circle_by, arcs_by, arcs_of}
use Rattle.apt_circular.specs.ArcTape.{arc_tape}
use Rattle.apt_circular.specs.Fits.{IsFitting}
use Rattle.apt_circular.specs.Writable.{ArcsCan}
use Rattle.apt_cycle.specs.CycleBlocks.{cycle_run}
use Rattle.apt_cycle.specs.CycleTape.{cycle_tape}

-- ---- the acts that records ask for

abbrev pub acts_on : Machine → List Record → List ArcAct
acts_on m rs = if m.circles then arcs_of rs else plainly (acts_of rs)

-- what one record asks for behind those before it, the latest of these first: the acts that all ask for are the units, and then these in order
abbrev pub asked_on : Machine → List Record → Record → List ArcAct
asked_on m before r = if m.circles then arcs_by before r (circle_by before) else plainly (record_said before r)

-- ---- the run of a tape

-- the same run, whose acts are among those with arcs
abbrev pub plain_run : Result (List Act) BlockFault → Result (List ArcAct) BlockFault
plain_run run = result_map_both plainly (λ fault. fault) run

-- the blocks that a control takes: straight moves alone, arcs too, or holes too, with arcs or without
pub data Kind : Type 0 where
  OfMoves : Kind
  WithArcs : Kind
  WithHoles : Bool → Kind

abbrev pub kind_on : Machine → Kind
kind_on m = if m.cycles then WithHoles m.circles else if m.circles then WithArcs else OfMoves

-- by the kind of the control
abbrev pub run_in : Kind → Code → List ℕ → Result (List ArcAct) BlockFault
run_in OfMoves code tape = plain_run (control_run code tape)
run_in WithArcs code tape = arc_run code tape
run_in (WithHoles circles) code tape = cycle_run circles code tape

-- what a machine's control does with a tape
abbrev pub run_on : Machine → List ℕ → Result (List ArcAct) BlockFault
run_on m tape = run_in (kind_on m) m.code tape

-- ---- the bytes of a tape

-- the tape of acts: with drill cycles three acts that are a hole have one block; without an arc among them it is else the plain one
abbrev pub tape_on : Machine → List ArcAct → List ℕ
tape_on m done = if m.cycles then cycle_tape m done else arc_tape m done

-- records whose tape can be written on each machine: their plain acts are a program, their acts with arcs fit the words, and each arc can go from where the
-- tool stands
pub record IsWritable (rs : List Record) : Type 0 where
  pub program : IsProgram (plan rs)
  pub fits : IsFitting (plan_arcs rs)
  pub goes : ArcsCan None (plan_arcs rs)
