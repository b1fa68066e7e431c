-- Plain acts among those with arcs: their tape, their run and their number.
use Rattle.std.proofs.Common.{if◌then◌else◌, None, ◌≡◌, ◌∙◌, arith, ℕ, ◌+◌, ◌≤◌, Bool, true, false, List, [], ◌∷◌, map, length, Result, Ok, Err, refl, ap, sym, subst}
use Rattle.std.proofs.lemmas.List.{length-map}
use Rattle.apt_words.specs.Answers.{IsFault}
use Rattle.apt_tapecode.specs.Tapecode.{byte_of}
use Rattle.apt_machine.specs.declared.machine.Machine.{Machine}
use Rattle.apt_block.specs.declared.block.BlockFault.{BlockFault}
use Rattle.apt_records.specs.declared.record.Record.{Record}
use Rattle.apt_control.specs.declared.Act.{Act}
use Rattle.apt_control.specs.declared.error.ControlError.{ControlError}
use Rattle.apt_control.specs.declared.error.ControlError.TheVariants as errors
use Rattle.apt_control.specs.declared.held.Held.{Held}
use Rattle.apt_control.specs.Answers.{fault_in}
use Rattle.apt_control.specs.Control.{nothing_held, control_run}
use Rattle.apt_control.specs.Pieces.{RefusesAs}
use Rattle.apt_post.specs.Blocks.{behind, act_block, blocks_from, text_of, tape_bytes}
use Rattle.apt_post.specs.Plan.{plan}
use Rattle.apt_post.specs.Said.{acts_of}
use Rattle.apt_post.proofs.Running.{tape_runs}
use Rattle.apt_post.proofs.Said.{plan_said}
use Rattle.apt_circular.specs.declared.ArcAct.TheVariants.{Plain}
use Rattle.apt_circular.specs.ArcPlan.{plan_arcs}
use Rattle.apt_circular.specs.ArcBlocks.{arc_run}
use Rattle.apt_circular.specs.ArcTape.{blocks_on, arc_tape}
use Rattle.apt_circular.specs.ArcsSaid.{arcs_of}
use Rattle.apt_circular.proofs.ArcsSaid.{arcs_said}
use Rattle.apt_circular.proofs.BlockByBlock.{plan_runs}
use Rattle.apt_circular.proofs.Lengths.{fewer_acts}
use Rattle.apt_circular.specs.Fits.{IsFitting}
use Rattle.apt_circular.specs.Writable.{ArcsCan}
use Rattle.apt_cycle.specs.CycleBlocks.{cycle_run}
use Rattle.apt_cycle.specs.CycleTape.{cycle_tape}
use Rattle.apt_circular.specs.Plans.{plainly, plan_on}
use Rattle.apt_cycle.proofs.Planned.{planned_runs, program_fits, plain_goes}
use Rattle.apt_tape.specs.Tapes.{acts_on, plain_run, run_on, tape_on, IsWritable}

-- ---- refusals

fault_plain : (error : ControlError) (run : Result (List Act) BlockFault) → IsFault fault_in run error → IsFault fault_in (plain_run run) error
fault_plain (errors.Bad at cause) run is = ap plain_run is
fault_plain errors.NoMemory run is = is

pub refuses_plain : {X : Type 0} (result : Result X ControlError) (run : Result (List Act) BlockFault) → RefusesAs result run → RefusesAs result (plain_run run)
refuses_plain (Ok x) run refuses = refuses
refuses_plain (Err error) run refuses = fault_plain error run refuses

-- ---- the blocks of plain acts

plain_blocks : (m : Machine) (k : ℕ) (held : Held) (done : List Act) → blocks_on m k held (plainly done) ≡ blocks_from m k held done
plain_blocks m k held [] = refl
plain_blocks m k held (act ∷ more) = ap (λ blocks. act_block m k held act ∷ blocks) (plain_blocks m (k + 1) (behind m.incremental held act) more)

plain_tape : (m : Machine) (done : List Act) → arc_tape m (plainly done) ≡ tape_bytes m done
plain_tape m done = ap (λ blocks. map (byte_of m.code) (text_of m.short blocks)) (plain_blocks m 0 nothing_held done)

-- ---- by the machine

pub plain_bytes : (m : Machine) (rs : List Record) → m.cycles ≡ false → m.circles ≡ false → tape_bytes m (plan rs) ≡ tape_on m (acts_on m rs)
plain_bytes m rs c e =
    let asked : acts_on m rs ≡ plainly (acts_of rs) = rw e refl in
    rw c (ap (tape_bytes m) (plan_said rs) ∙ sym (ap (arc_tape m) asked ∙ plain_tape m (acts_of rs)))

pub arc_bytes : (m : Machine) (rs : List Record) → m.cycles ≡ false → m.circles ≡ true → arc_tape m (plan_arcs rs) ≡ tape_on m (acts_on m rs)
arc_bytes m rs c e =
    let asked : acts_on m rs ≡ arcs_of rs = rw e refl in
    rw c (ap (arc_tape m) (arcs_said rs ∙ sym asked))

pub plain_runs : (m : Machine) (rs : List Record) (tape : List ℕ) → m.cycles ≡ false → m.circles ≡ false → control_run m.code tape ≡ Ok (plan rs) → run_on m tape ≡ Ok (acts_on m rs)
plain_runs m rs tape c e run = rw (c, e, run) (ap (λ (done : List Act). Ok (plainly done)) (plan_said rs))

pub arc_runs : (m : Machine) (rs : List Record) (tape : List ℕ) → m.cycles ≡ false → m.circles ≡ true → arc_run m.code tape ≡ Ok (plan_arcs rs) → run_on m tape ≡ Ok (acts_on m rs)
arc_runs m rs tape c e run = rw (c, e, run) (ap Ok (arcs_said rs))

-- a writer of holes goes by the plan with arcs where the machine cuts them, and else by the plain one
pub planned_said : (m : Machine) (rs : List Record) → plan_on m.circles rs ≡ acts_on m rs
planned_said m rs = by m.circles
  where
    by : (circles : Bool) → plan_on circles rs ≡ (if circles then arcs_of rs else plainly (acts_of rs))
    by true = arcs_said rs
    by false = ap plainly (plan_said rs)

pub writable_fits : (circles : Bool) (rs : List Record) → IsWritable rs → IsFitting (plan_on circles rs)
writable_fits true rs can = can.fits
writable_fits false rs can = program_fits (plan rs) can.program

pub writable_goes : (circles : Bool) (rs : List Record) → IsWritable rs → ArcsCan None (plan_on circles rs)
writable_goes true rs can = can.goes
writable_goes false rs can = plain_goes None (plan rs)

where_true : (t : Bool) (a b : List ℕ) → t ≡ true → (if t then a else b) ≡ a
where_true true a b e = refl
where_true false a b e = cc

pub hole_bytes : (m : Machine) (rs : List Record) → m.cycles ≡ true → cycle_tape m (plan_on m.circles rs) ≡ tape_on m (acts_on m rs)
hole_bytes m rs c = ap (cycle_tape m) (planned_said m rs) ∙ sym (where_true m.cycles (cycle_tape m (acts_on m rs)) (arc_tape m (acts_on m rs)) c)

pub hole_runs : (m : Machine) (rs : List Record) (tape : List ℕ) → m.cycles ≡ true → cycle_run m.circles m.code tape ≡ Ok (plan_on m.circles rs) → run_on m tape ≡ Ok (acts_on m rs)
hole_runs m rs tape c run = rw (c, run) (ap Ok (planned_said m rs))

pub plain_count : (m : Machine) (rs : List Record) → m.circles ≡ false → length (plan rs) ≡ length (acts_on m rs)
plain_count m rs e = rw e (ap length (plan_said rs) ∙ sym (length-map (acts_of rs) Plain))

pub arc_count : (m : Machine) (rs : List Record) → m.circles ≡ true → length (plan_arcs rs) ≡ length (acts_on m rs)
arc_count m rs e = rw e (ap length (arcs_said rs))

-- no machine asks for more acts than the plain plan has
many : (m : Machine) (rs : List Record) (circles : Bool) → m.circles ≡ circles → length (acts_on m rs) ≤ length (plan rs)
many m rs true e = omega (arith, arc_count m rs e, fewer_acts rs)
many m rs false e = omega (arith, plain_count m rs e)

pub acts_few : (m : Machine) (rs : List Record) → length (acts_on m rs) ≤ length (plan rs)
acts_few m rs = many m rs m.circles refl

-- ---- where the acts are those of the program's own plan

pub tape_runs_on : (m : Machine) (rs : List Record) → IsWritable rs → run_on m (tape_on m (acts_on m rs)) ≡ Ok (acts_on m rs)
tape_runs_on m rs can = either m.cycles m.circles refl refl
  where
    either : (cycles circles : Bool) → m.cycles ≡ cycles → m.circles ≡ circles → run_on m (tape_on m (acts_on m rs)) ≡ Ok (acts_on m rs)
    either true circles c e =
        subst (λ tape. run_on m tape ≡ Ok (acts_on m rs)) (hole_bytes m rs c) (hole_runs m rs (cycle_tape m (plan_on m.circles rs)) c (planned_runs m rs (writable_fits m.circles rs can) (writable_goes m.circles rs can)))
    either false true c e = subst (λ tape. run_on m tape ≡ Ok (acts_on m rs)) (arc_bytes m rs c e) (arc_runs m rs (arc_tape m (plan_arcs rs)) c e (plan_runs m (plan_arcs rs) can.fits can.goes))
    either false false c e = subst (λ tape. run_on m tape ≡ Ok (acts_on m rs)) (plain_bytes m rs c e) (plain_runs m rs (tape_bytes m (plan rs)) c e (tape_runs m (plan rs) can.program))
