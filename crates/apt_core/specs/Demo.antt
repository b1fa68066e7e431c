-- What `demo` shows: the part of so many circles, for the machine with the greatest limits, compiled and judged.
use Rattle.std.specs.Prelude.{◌≡◌, ℕ, List, Option, Result, Ok, codes}
use Rattle.apt_shelf.specs.Told.{Contents}
use Rattle.apt_shelf.specs.Files.{HoldsAt}
use Rattle.apt_certify.specs.declared.verdict.Verdict.{Verdict}
use Rattle.apt_machine.specs.declared.machine.Machine.{Machine}
use Rattle.apt_machine.specs.Tables.{table_of}
use Rattle.apt_report.specs.declared.status.Status.{Status}
use Rattle.apt_report.specs.declared.status.Status.TheVariants as answers
use Rattle.apt_report.specs.declared.status.Summary.TheVariants as summaries
use Rattle.apt_demo.specs.Demo.{demo_part}
use Rattle.apt_core.specs.Outputs.{Output, output_due}
use Rattle.apt_core.specs.Certificates.{IsCertified}

-- the table of the machine with the greatest limits
abbrev pub demo_table : List ℕ
demo_table = codes "MACHINE 1\nCODE RS358\nSEQ 1\nFEEDMAX 9999\nSPINMAX 9999\nTOOLMAX 99\n"

-- what the part comes to
abbrev pub demo_due : ℕ → Result Output Status
demo_due n = output_due (demo_part n) demo_table

-- the CL file and the tape are right for the part, and this is the verdict over their contours
pub record IsShown (n : ℕ) (o : Output) (v : Verdict) : Type 0 where
  pub machine : Machine
  pub tabled : table_of demo_table ≡ Ok machine
  pub certified : IsCertified machine (demo_part n) o.cl o.tape v

-- the part comes to a CL file and a tape, which are certified, and the verdict is told
abbrev pub IsDemo : ℕ → Status → Type 0
IsDemo n answer = (o : Output) × (v : Verdict) × (demo_due n ≡ Ok o) × IsShown n o v × (answer ≡ answers.Done (summaries.Demo n v))

-- the answer of a certificate, as it is shown
abbrev pub shown_for : ℕ → Status → Status
shown_for n (answers.Done (summaries.Certified v)) = answers.Done (summaries.Demo n v)
shown_for n answer = answer

-- the store that the command makes for itself has the part and the table
abbrev pub HoldsDemo : ℕ → Option Contents → Type 0
HoldsDemo n told = HoldsAt told (codes "PART") (demo_part n) × HoldsAt told (codes "MACHINE") demo_table
