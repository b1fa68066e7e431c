-- The tape of the acts that records ask for runs to just these acts.
use Rattle.std.proofs.Common.{◌≡◌, Bool, true, false, List, [], ◌∷◌, map, Option, None, Ok, refl}
use Rattle.apt_records.specs.declared.record.Position.{Position}
use Rattle.apt_records.specs.declared.record.Record.{Record}
use Rattle.apt_machine.specs.declared.machine.Machine.{Machine}
use Rattle.apt_control.specs.declared.Act.{Act}
use Rattle.apt_control.specs.declared.Act.TheVariants as acts
use Rattle.apt_post.specs.Plan.{plan}
use Rattle.apt_post.specs.Blocks.{ToTheEnd, IsProgram}
use Rattle.apt_circular.specs.declared.ArcAct.{ArcAct}
use Rattle.apt_circular.specs.declared.ArcAct.TheVariants as arcs
use Rattle.apt_circular.specs.ArcPlan.{plan_arcs}
use Rattle.apt_circular.specs.Fits.{FitToTheEnd, IsFitting}
use Rattle.apt_circular.specs.Writable.{stands_behind, ArcsCan}
use Rattle.apt_cycle.specs.CycleBlocks.{cycle_run}
use Rattle.apt_cycle.specs.CycleTape.{cycle_tape}
use Rattle.apt_circular.specs.Plans.{plan_on}
use Rattle.apt_cycle.specs.Writable.{AreTaken}
use Rattle.apt_cycle.proofs.BlockByBlock.{plan_runs}

-- where the machine has circles each act is taken, and without them there are no arcs
taken_with : (done : List ArcAct) → AreTaken true done
taken_with [] = tt
taken_with (arcs.Plain act ∷ more) = (tt, taken_with more)
taken_with (arcs.Arc turn x y z cx cy feed ∷ more) = (refl, taken_with more)

taken_without : (done : List Act) → AreTaken false (map arcs.Plain done)
taken_without [] = tt
taken_without (act ∷ more) = (tt, taken_without more)

plan_taken : (circles : Bool) (rs : List Record) → AreTaken circles (plan_on circles rs)
plan_taken true rs = taken_with (plan_arcs rs)
plan_taken false rs = taken_without (plan rs)

pub planned_runs : (m : Machine) (rs : List Record) → IsFitting (plan_on m.circles rs) → ArcsCan None (plan_on m.circles rs) → cycle_run m.circles m.code (cycle_tape m (plan_on m.circles rs)) ≡ Ok (plan_on m.circles rs)
planned_runs m rs fit can = plan_runs m.circles m (plan_on m.circles rs) (plan_taken m.circles rs) fit can

-- ---- a plain program fits, and without arcs nothing need go from anywhere

to_the_end_fits : (done : List Act) → ToTheEnd done → FitToTheEnd (map arcs.Plain done)
to_the_end_fits [] is = absurd is
to_the_end_fits (acts.Units u ∷ more) is = (is.0, to_the_end_fits more is.1)
to_the_end_fits (acts.Rapid x y z ∷ more) is = (is.0, to_the_end_fits more is.1)
to_the_end_fits (acts.Cut x y z feed ∷ more) is = (is.0, to_the_end_fits more is.1)
to_the_end_fits (acts.Do command ∷ more) is = (is.0, to_the_end_fits more is.1)
to_the_end_fits (acts.End ∷ []) is = tt
to_the_end_fits (acts.End ∷ act ∷ more) is = absurd is

pub program_fits : (done : List Act) → IsProgram done → IsFitting (map arcs.Plain done)
program_fits [] is = absurd is
program_fits (acts.Units u ∷ more) is = to_the_end_fits more is
program_fits (acts.Rapid x y z ∷ more) is = absurd is
program_fits (acts.Cut x y z feed ∷ more) is = absurd is
program_fits (acts.Do command ∷ more) is = absurd is
program_fits (acts.End ∷ more) is = absurd is

pub plain_goes : (at : Option Position) (done : List Act) → ArcsCan at (map arcs.Plain done)
plain_goes at [] = tt
plain_goes at (act ∷ more) = plain_goes (stands_behind at act) more
