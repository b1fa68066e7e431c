-- When no contour of a certified CL file brings the cutter into what an outline names, and where one does.
use Rattle.std.specs.Prelude.{◌≡◌, ◌⊎◌, ℕ, List, map, length, Result, Ok, Err}
use Rattle.apt_words.specs.Chains.{◌>>=◌}
use Rattle.apt_words.specs.declared.deed.Step.{Step}
use Rattle.apt_certify.specs.declared.verdict.Verdict.{Verdict}
use Rattle.apt_meaning.specs.Paths.{Contour, EveryContour, contours_of}
use Rattle.apt_machine.specs.declared.machine.Machine.{Machine}
use Rattle.apt_outline.specs.declared.parts.Part.{Part}
use Rattle.apt_outline.specs.declared.parts.Gouge.{Gouge}
use Rattle.apt_outline.specs.Guards.{IsClearPass, IsFirstGouge}
use Rattle.apt_outline.specs.Holding.{figures_at_end}
use Rattle.apt_outline.specs.Outlines.{outline_of}
use Rattle.apt_outline.specs.Reaches.{pass_said}
use Rattle.apt_report.specs.declared.status.Status.{Status}
use Rattle.apt_report.specs.declared.status.Status.TheVariants as answers
use Rattle.apt_report.specs.declared.status.Summary.TheVariants as summaries
use Rattle.apt_core.specs.Due.{told_by, machine_due, steps_due, records_due, acts_due}
use Rattle.apt_core.specs.Certificates.{IsCertified, Judged, judged_by, IsMissed}

-- ---- what is clear

-- every point of every segment of a contour is clear of each part, by the radius of its cutter and its INTOL
abbrev pub KeepsClear : List Part → Contour → Type 0
KeepsClear parts c = IsClearPass parts (pass_said c)

-- the parts that an outline names, by the figures that hold behind the last step
abbrev pub Outlines : List Step → List ℕ → List Part → Type 0
Outlines steps outline parts = outline_of (figures_at_end steps) outline ≡ Ok parts

-- the CL file and the tape are certified, and none of their contours comes too near to a part of the outline
pub record IsGuarded (machine : Machine) (text cl tape outline : List ℕ) (segments many : ℕ) : Type 0 where
  pub verdict : Verdict
  pub certified : IsCertified machine text cl tape verdict
  pub parts : List Part
  pub names : Outlines certified.right.steps outline parts
  pub clear : EveryContour (KeepsClear parts) (contours_of certified.right.records)
  pub counted : segments ≡ verdict.segments
  pub number : many ≡ length parts

-- they are certified, and this is where a contour first does: the first contour, in it the first segment, of the parts the first, and on the segment the first spot
pub record IsGouged (machine : Machine) (text cl tape outline : List ℕ) (g : Gouge) : Type 0 where
  pub verdict : Verdict
  pub certified : IsCertified machine text cl tape verdict
  pub parts : List Part
  pub names : Outlines certified.right.steps outline parts
  pub gouge : IsFirstGouge (map pass_said (contours_of certified.right.records)) parts g

-- ---- the answer

abbrev pub outline_due : List Step → List ℕ → Result (List Part) Status
outline_due steps outline = told_by (outline_of (figures_at_end steps) outline) (λ fault. answers.BadOutline fault.0 fault.1)

-- what the five texts come to
pub record Watched : Type 0 where
  pub judged : Judged
  pub parts : List Part

abbrev pub watched_by : Judged → List Part → Watched
watched_by judged parts = record { judged = judged; parts = parts }

-- for the texts under PART, MACHINE, CL, TAPE and OUTLINE: the table is judged first, then the part, and behind it the outline
abbrev pub watched_due : List ℕ → List ℕ → List ℕ → List ℕ → List ℕ → Result Watched Status
watched_due text table cl tape outline =
    machine_due table >>= λ machine. steps_due machine text >>= λ steps. outline_due steps outline >>= λ parts. records_due cl >>= λ written. acts_due machine tape >>= λ acts.
    Ok (watched_by (judged_by machine steps written acts) parts)

-- all is right, and the cutter keeps clear of the outline, or does not
abbrev pub IsWatched : Machine → List ℕ → List ℕ → List ℕ → List ℕ → Status → Type 0
IsWatched machine text cl tape outline answer =
    ((segments : ℕ) × (many : ℕ) × (answer ≡ answers.Done (summaries.Guarded segments many)) × IsGuarded machine text cl tape outline segments many)
    ⊎ ((g : Gouge) × (answer ≡ answers.Gouge g) × IsGouged machine text cl tape outline g)

-- the answer to the five texts: the first fault, else what is missed, else whether the cutter keeps clear
abbrev pub IsGuarding : List ℕ → List ℕ → List ℕ → List ℕ → List ℕ → Status → Type 0
IsGuarding text table cl tape outline answer =
    (watched_due text table cl tape outline ≡ Err answer)
    ⊎ ((w : Watched) × (watched_due text table cl tape outline ≡ Ok w)
    × (IsMissed w.judged.machine w.judged.steps w.judged.written w.judged.acts answer ⊎ IsWatched w.judged.machine text cl tape outline answer))
