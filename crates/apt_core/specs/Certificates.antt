-- When a CL file and a tape are right for a part, and where they are not.
use Rattle.std.specs.Prelude.{◌≡◌, ◌⊎◌, ℕ, List, Result, Ok, Err}
use Rattle.apt_words.specs.Chains.{◌>>=◌}
use Rattle.apt_words.specs.declared.deed.Step.{Step}
use Rattle.apt_records.specs.declared.record.Record.{Record}
use Rattle.apt_cldata.specs.Reading.{read_of}
use Rattle.apt_certify.specs.declared.verdict.Verdict.{Verdict}
use Rattle.apt_certify.specs.Jobs.{AreLegal}
use Rattle.apt_certify.specs.Verdicts.{IsFirstBad, IsVerdict}
use Rattle.apt_meaning.specs.Situations.{first_situation}
use Rattle.apt_meaning.specs.Paths.{EveryContour, IsLegalCut, contours_of}
use Rattle.apt_meaning.specs.InNumbers.{AreLegalInNumbers}
use Rattle.apt_meaning.specs.Records.{Follows}
use Rattle.apt_meaning.specs.Expectations.{FailsAt}
use Rattle.apt_job.specs.Jobs.{jobs_said}
use Rattle.apt_machine.specs.declared.machine.Machine.{Machine}
use Rattle.apt_post.specs.Plan.{segments}
use Rattle.apt_circular.specs.declared.ArcAct.{ArcAct}
use Rattle.apt_circular.specs.declared.ArcAct.TheVariants.{Plain}
use Rattle.apt_pattern.specs.Holes.{AreDrilled}
use Rattle.apt_tape.specs.Tapes.{acts_on, asked_on, run_on}
use Rattle.apt_tape.specs.Differences.{DifferAt}
use Rattle.apt_sweeps.specs.ArcSweeps.{sweeps_of, AreArcsOf}
use Rattle.apt_part.specs.Promise.{Passes}
use Rattle.apt_report.specs.declared.status.Status.{Status}
use Rattle.apt_report.specs.declared.status.Status.TheVariants as answers
use Rattle.apt_report.specs.declared.status.Summary.TheVariants as summaries
use Rattle.apt_report.specs.declared.status.Miss.{Miss}
use Rattle.apt_report.specs.declared.status.Miss.TheVariants as misses
use Rattle.apt_core.specs.Due.{machine_due, steps_due, records_due, acts_due}

-- a CL file and a tape are right for a part on a machine. The part's steps are the plain steps of its one trace, and none is refused; the CL file is just its records,
-- and a control of the machine runs the tape, to the last byte, to just the acts that they ask for, so that nothing else stands in either file; the records follow the steps,
-- each contour with the drive, the check, the side and the turn that its statement names; every contour that the CL file says is legal; each arc among the acts is that
-- of a leg of a contour, by which it stays; and each step that drills has its holes among the acts, the three moves of each in order, none left out and none added
pub record IsRight (machine : Machine) (text cl tape : List ℕ) : Type 0 where
  pub steps : List Step
  pub passes : Passes machine text steps
  pub records : List Record
  pub read : read_of cl ≡ Ok records
  pub acts : run_on machine tape ≡ Ok (acts_on machine records)
  pub follow : Follows steps records
  pub legal : EveryContour IsLegalCut (contours_of records)
  pub arcs : AreArcsOf (sweeps_of (acts_on machine records)) (contours_of records)
  pub holes : AreDrilled (asked_on machine) Plain passes.traced records

-- ---- where they are not

-- the first that fails: that the records follow the steps, that every contour that they say is legal, that the acts are those that they ask for on the machine
abbrev pub IsMiss : Machine → List Step → List Record → List ArcAct → Miss → Type 0
IsMiss machine steps written acts (misses.Entry seq) = FailsAt first_situation 1 steps written seq
IsMiss machine steps written acts (misses.Motion bad) = Follows steps written × IsFirstBad (jobs_said written) bad
IsMiss machine steps written acts (misses.Act at) = Follows steps written × AreLegal (jobs_said written) × DifferAt acts (acts_on machine written) at

-- all is right, in numbers too, with the verdict over the contours
pub record IsCertified (machine : Machine) (text cl tape : List ℕ) (v : Verdict) : Type 0 where
  pub right : IsRight machine text cl tape
  pub numbers : AreLegalInNumbers right.records
  pub verdict : IsVerdict (jobs_said right.records) v
  pub counted : v.segments ≡ segments right.records

-- ---- the answer

-- what the four texts come to
pub record Judged : Type 0 where
  pub machine : Machine
  pub steps : List Step
  pub written : List Record
  pub acts : List ArcAct

abbrev pub judged_by : Machine → List Step → List Record → List ArcAct → Judged
judged_by machine steps written acts = record { machine = machine; steps = steps; written = written; acts = acts }

-- for the texts under PART, MACHINE, CL and TAPE: the table is judged first
abbrev pub judged_due : List ℕ → List ℕ → List ℕ → List ℕ → Result Judged Status
judged_due text table cl tape =
    machine_due table >>= λ machine. steps_due machine text >>= λ steps. records_due cl >>= λ written. acts_due machine tape >>= λ acts.
    Ok (judged_by machine steps written acts)

-- something is missed, which is told
abbrev pub IsMissed : Machine → List Step → List Record → List ArcAct → Status → Type 0
IsMissed machine steps written acts answer = (miss : Miss) × (answer ≡ answers.NotCertified miss) × IsMiss machine steps written acts miss

abbrev pub IsDone : Machine → List ℕ → List ℕ → List ℕ → Status → Type 0
IsDone machine text cl tape answer = (v : Verdict) × (answer ≡ answers.Done (summaries.Certified v)) × IsCertified machine text cl tape v

-- the answer to the four texts: the first fault, else what is missed, else that all is right
abbrev pub IsJudgement : List ℕ → List ℕ → List ℕ → List ℕ → Status → Type 0
IsJudgement text table cl tape answer =
    (judged_due text table cl tape ≡ Err answer)
    ⊎ ((j : Judged) × (judged_due text table cl tape ≡ Ok j) × (IsMissed j.machine j.steps j.written j.acts answer ⊎ IsDone j.machine text cl tape answer))
