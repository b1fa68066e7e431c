-- The compiler's records are those of a CL file, and neither it nor the tape is too long.
use Rattle.std.proofs.Common.{◌≡◌, ◌+◌, ◌*◌, ◌≤◌, Bool, true, false, if◌then◌else◌, List, length, None, Ok, arith}
use Rattle.apt_words.specs.declared.deed.Step.{Step}
use Rattle.apt_words.specs.ProgramEnds.{StepsEnd}
use Rattle.apt_words.specs.Sources.{AreExecuted}
use Rattle.apt_words.specs.Contours.{contours}
use Rattle.apt_words.proofs.Titles.{title_lengths}
use Rattle.apt_scalar.specs.StepScalars.{AreScalars}
use Rattle.apt_records.specs.declared.record.Record.{Record}
use Rattle.apt_cldata.specs.Files.{file_of}
use Rattle.apt_records.specs.Lists.{IsFile}
use Rattle.apt_cldata.proofs.Lengths.{file_length}
use Rattle.apt_meaning.specs.Situations.{first_situation}
use Rattle.apt_meaning.specs.Compiled.{compilation}
use Rattle.apt_meaning.proofs.Asked.{CutsLegally}
use Rattle.apt_meaning.proofs.Walks.Kept.{first_situation-IsSituation}
use Rattle.apt_meaning.proofs.Walks.Compiled.{compiled_follows}
use Rattle.apt_meaning.proofs.Walks.Ends.{ends_once}
use Rattle.apt_records.proofs.Conditions.{fini_last}
use Rattle.apt_meaning.proofs.Walks.Files.{Fit, compiled_fit}
use Rattle.apt_machine.specs.declared.machine.Machine.{Machine}
use Rattle.apt_post.specs.Plan.{nothing_pending}
use Rattle.apt_circular.specs.declared.ArcAct.{ArcAct}
use Rattle.apt_circular.specs.ArcTape.{arc_tape}
use Rattle.apt_circular.proofs.Lengths.{arc_tape_length}
use Rattle.apt_cycle.specs.CycleTape.{cycle_tape}
use Rattle.apt_cycle.proofs.Lengths.{cycle_tape_length}
use Rattle.apt_tape.specs.Tapes.{acts_on, tape_on}
use Rattle.apt_tape.proofs.Plainly.{acts_few}
use Rattle.apt_part.specs.Promise.{file_limit}
use Rattle.apt_part.proofs.Acting.{compiled_acts}

pub compiled_file : (steps : List Step) (written : List Record) → length steps ≤ 225000 → AreScalars steps → AreExecuted steps → StepsEnd false steps → compilation first_situation steps ≡ Ok written → IsFile written
compiled_file steps written few scalars executed ends compiled =
    let a = compiled_follows 0 first_situation steps written first_situation-IsSituation scalars executed compiled in
    let fit = compiled_fit 0 first_situation steps written (omega arith) executed compiled in record {
      ranges = a.records;
      last = fini_last false written (ends_once CutsLegally false first_situation steps written a.behind a.follows ends);
      short = fit.short;
      numbers = omega (arith, fit.number, few);
    }

pub file_fits : (steps : List Step) (written : List Record) → Fit 0 steps written → length steps ≤ 225000 → contours steps ≤ 200000 → title_lengths steps ≤ 256
    → length (file_of written) ≤ file_limit
file_fits steps written fit few cuts titles = omega (arith, file_length written, fit.bytes, fit.vertices, few, cuts, titles)

-- on each machine a tape has 67 characters an act at most
tape_length : (m : Machine) (done : List ArcAct) → length (tape_on m done) ≤ 2 + 67 * length done
tape_length m done = by m.cycles
  where
    by : (cycles : Bool) → length (if cycles then cycle_tape m done else arc_tape m done) ≤ 2 + 67 * length done
    by true = cycle_tape_length m done
    by false = arc_tape_length m done

pub tape_fits : (m : Machine) (steps : List Step) (written : List Record) → compilation first_situation steps ≡ Ok written → Fit 0 steps written → length steps ≤ 225000
    → length (tape_on m (acts_on m written)) ≤ file_limit
tape_fits m steps written compiled fit few = omega (arith, tape_length m (acts_on m written), acts_few m written, compiled_acts 0 first_situation steps written compiled nothing_pending, fit.vertices, few)
