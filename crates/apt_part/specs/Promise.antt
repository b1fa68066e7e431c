-- What holds of the steps of a text and of their records.
use Rattle.std.specs.Prelude.{◌≡◌, ◌≤◌, ℕ, List, length, None, Ok}
use Rattle.apt_words.specs.declared.body.Stmt.{Stmt}
use Rattle.apt_words.specs.declared.deed.Step.{Step}
use Rattle.apt_words.specs.Sources.{AreExecuted}
use Rattle.apt_parse.specs.Programs.{program_of}
use Rattle.apt_scalar.specs.StepScalars.{AreScalars}
use Rattle.apt_unroll.specs.Trace.{IsTrace}
use Rattle.apt_pattern.specs.Expansions.{Drilling, nothing_drilled, Expands}
use Rattle.apt_pattern.specs.Holes.{AreDrilled}
use Rattle.apt_records.specs.Ranges.{vertex_count}
use Rattle.apt_cldata.specs.Files.{file_of}
use Rattle.apt_records.specs.Lists.{IsFile}
use Rattle.apt_meaning.specs.Situations.{first_situation}
use Rattle.apt_meaning.specs.Compiled.{first_refused, compilation, most_points}
use Rattle.apt_meaning.specs.Paths.{EveryContour, IsLegalCut, contours_of}
use Rattle.apt_meaning.specs.InNumbers.{AreLegalInNumbers}
use Rattle.apt_meaning.specs.Records.{Follows}
use Rattle.apt_meaning.specs.Cuts.{IsOwnCut}
use Rattle.apt_machine.specs.declared.machine.Machine.{Machine}
use Rattle.apt_post.specs.Limits.{limits}
use Rattle.apt_post.specs.Plan.{plan, positions, points}
use Rattle.apt_circular.specs.declared.ArcAct.TheVariants.{Plain}
use Rattle.apt_tape.specs.Tapes.{acts_on, asked_on, tape_on, IsWritable}
use Rattle.apt_sweeps.specs.ArcSweeps.{sweeps_of, AreArcsOf}
use Rattle.apt_part.specs.Compilation.{Compiled}

-- these are the plain steps of the one trace of a text, all of them, and no case and no limit of the machine refuses one
pub record Passes (machine : Machine) (text : List ℕ) (steps : List Step) : Type 0 where
  pub statements : List Stmt
  pub read : program_of text ≡ Ok statements
  pub traced : List Step
  pub unrolled : IsTrace statements (record { steps = traced; fault = None })
  pub behind : Drilling
  pub expands : Expands nothing_drilled traced steps behind
  pub within : limits machine steps ≡ None
  pub fine : first_refused first_situation steps ≡ None

-- the longest CL file and the longest tape, in bytes: 64 MiB
abbrev pub file_limit : ℕ
file_limit = 67108864

-- the records follow the steps, and leave what holds behind them as they say; every contour that they say is legal, in numbers too, and its vertices are
-- the compiler's own, not too many in all; they are those of a CL file. The acts that they ask for lead where they lead, and their tape can be written on each machine: each
-- arc among them is that of a leg of a contour, by which it stays, and each step that drills has its holes among them. Neither the file nor the tape is too long to be read again
pub record Promise (machine : Machine) (text : List ℕ) (p : Compiled) : Type 0 where
  pub passes : Passes machine text p.steps
  pub compiled : compilation first_situation p.steps ≡ Ok p.records
  pub follow : Follows p.steps p.records
  pub legal : EveryContour IsLegalCut (contours_of p.records)
  pub numbers : AreLegalInNumbers p.records
  pub own : EveryContour IsOwnCut (contours_of p.records)
  pub few : vertex_count p.records ≤ most_points
  pub file : IsFile p.records
  pub file_fits : length (file_of p.records) ≤ file_limit
  pub reached : positions (plan p.records) ≡ points p.records
  pub writable : IsWritable p.records
  pub arcs : AreArcsOf (sweeps_of (acts_on machine p.records)) (contours_of p.records)
  pub holes : AreDrilled (asked_on machine) Plain passes.traced p.records
  pub tape_fits : length (tape_on machine (acts_on machine p.records)) ≤ file_limit

-- what the crates below know of steps
pub record AreSteps (steps : List Step) : Type 0 where
  pub scalars : AreScalars steps
  pub sources : AreExecuted steps
