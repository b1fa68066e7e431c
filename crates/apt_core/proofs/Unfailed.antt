-- Works over files that are all there, where neither reading nor writing fails.
use Rattle.std.proofs.Common.{◌≡◌, ◌⊎◌, inl, inr, ℕ, List, [], ◌∷◌, length, Option, Some, Ok, Err, subst}
use Rattle.apt_shelf.specs.Told.{Contents, Rose}
use Rattle.apt_machine.specs.declared.machine.Machine.{Machine}
use Rattle.apt_machine.specs.Tables.{table_of}
use Rattle.apt_report.specs.declared.status.Status.{Status}
use Rattle.apt_report.specs.declared.status.Status.TheVariants as answers
use Rattle.apt_report.specs.declared.status.Summary.TheVariants as summaries
use Rattle.apt_meaning.specs.Paths.{EveryContour, contours_of}
use Rattle.apt_outline.specs.declared.parts.Part.{Part}
use Rattle.apt_core.specs.Words.{FourNames}
use Rattle.apt_core.specs.Due.{OrNoMemory}
use Rattle.apt_core.specs.Inputs.{Input, Files, part_inputs, inputs, guard_inputs, ReadsAll, IsFirstUnread, IsStopped}
use Rattle.apt_core.specs.Outputs.{Output, output_due}
use Rattle.apt_core.specs.Certificates.{IsRight, IsDone}
use Rattle.apt_core.specs.Guarding.{KeepsClear, Outlines}
use Rattle.apt_core.specs.Promise.{Leaves, Writes, Compiles, Judges, Certifies, Watches, Guards}
use Rattle.apt_core.proofs.Guarding.{right_is_clear}
use Rattle.apt_core.proofs.Right.{same_texts, right_is_done, right_is_read}

-- no count of faults rose
pub record AreUnfailed (before after : Files) : Type 0 where
  pub reading : ¬ (Rose before.read_faults after.read_faults)
  pub writing : ¬ (Rose before.write_faults after.write_faults)

-- only memory stops a work
pub stopped_short : (xs : List Input) (m : Contents) (texts : List (List ℕ)) (before after : Files) (told : Status) → before.told ≡ Some m → ReadsAll (Some m) xs texts
    → AreUnfailed before after → IsStopped xs before after told → told ≡ answers.NoMemory
stopped_short xs m texts before after told there reads fine (inl first) =
    absurd (right_is_read xs m texts before.read_faults after.read_faults told reads
    (subst (λ t. IsFirstUnread t xs before.read_faults after.read_faults told) there first))
stopped_short xs m texts before after told there reads fine (inr (inl failed)) = absurd (fine.reading failed.1)
stopped_short xs m texts before after told there reads fine (inr (inr short)) = short

-- ---- `compile`

-- the output is written whole, and told
pub record IsWritten (n : FourNames) (text table : List ℕ) (before after : Option Contents) (told : Status) : Type 0 where
  pub output : Output
  pub due : output_due text table ≡ Ok output
  pub done : told ≡ answers.Done output.summary
  pub leaves : Leaves n text table output before after

-- a fault or a refused step is told; or the output is written
abbrev pub FaultOrWritten : FourNames → List ℕ → List ℕ → Option Contents → Option Contents → Status → Type 0
FaultOrWritten n text table before after told = (output_due text table ≡ Err told) ⊎ IsWritten n text table before after told

writes_whole : (n : FourNames) (text table : List ℕ) (before after : Files) (told : Status) → AreUnfailed before after → Writes n text table before after told
    → OrNoMemory (FaultOrWritten n text table before.told after.told told) told
writes_whole n text table before after told fine (inl fault) = inl (inl fault.0)
writes_whole n text table before after told fine (inr written) = elim written.2 [
  | inl whole ↦ inl (inr (record { output = written.0; due = written.1; done = whole.0; leaves = whole.1 }))
  | inr cut ↦ elim cut.0 [ inl failed ↦ absurd (fine.writing failed.1) | inr short ↦ inr short ]
]

pub compiles_whole : (n : FourNames) (m : Contents) (text table : List ℕ) (before after : Files) (told : Status) → before.told ≡ Some m
    → ReadsAll (Some m) (part_inputs n) (text ∷ table ∷ []) → AreUnfailed before after → Compiles n before after told
    → OrNoMemory (FaultOrWritten n text table before.told after.told told) told
compiles_whole n m text table before after told there reads fine works = elim works.comes [
  | inl stopped ↦ inr (stopped_short (part_inputs n) m (text ∷ table ∷ []) before after told there reads fine stopped.0)
  | inr read ↦ by_texts read.0 read.1 read.3
      (same_texts m (part_inputs n) (read.0 ∷ read.1 ∷ []) (text ∷ table ∷ []) (subst (λ t. ReadsAll t (part_inputs n) (read.0 ∷ read.1 ∷ [])) there read.2) reads)
]
  where
    by_texts : (a b : List ℕ) → Writes n a b before after told → (a ∷ b ∷ []) ≡ (text ∷ table ∷ []) → OrNoMemory (FaultOrWritten n text table before.told after.told told) told
    by_texts a b is same =
        let t : text ≡ a = cc in
        let u : table ≡ b = cc in
        writes_whole n text table before after told fine (rw (t, u) is)

-- ---- `certify`

-- what is right is certified
pub certifies_right : (machine : Machine) (n : FourNames) (m : Contents) (text table cl tape : List ℕ) (before after : Files) (told : Status) → before.told ≡ Some m
    → ReadsAll (Some m) (inputs n) (text ∷ table ∷ cl ∷ tape ∷ []) → table_of table ≡ Ok machine → IsRight machine text cl tape → AreUnfailed before after → Certifies n before after told
    → OrNoMemory (IsDone machine text cl tape told) told
certifies_right machine n m text table cl tape before after told there reads tabled right fine works = elim works.comes [
  | inl stopped ↦ inr (stopped_short (inputs n) m (text ∷ table ∷ cl ∷ tape ∷ []) before after told there reads fine stopped)
  | inr judges ↦ inl (right_is_done machine n m text table cl tape told reads tabled right (subst (λ t. Judges n t told) there judges))
]

-- ---- `guard`

-- what is right and clear is guarded
pub guards_clear : (machine : Machine) (n : FourNames) (name : List ℕ) (m : Contents) (text table cl tape outline : List ℕ) (before after : Files) (told : Status) (parts : List Part)
    (right : IsRight machine text cl tape) → before.told ≡ Some m → ReadsAll (Some m) (guard_inputs n name) (text ∷ table ∷ cl ∷ tape ∷ outline ∷ []) → table_of table ≡ Ok machine
    → Outlines right.steps outline parts → EveryContour (KeepsClear parts) (contours_of right.records) → AreUnfailed before after → Guards n name before after told
    → OrNoMemory ((segments : ℕ) × (told ≡ answers.Done (summaries.Guarded segments (length parts)))) told
guards_clear machine n name m text table cl tape outline before after told parts right there reads tabled names clear fine works = elim works.comes [
  | inl stopped ↦ inr (stopped_short (guard_inputs n name) m (text ∷ table ∷ cl ∷ tape ∷ outline ∷ []) before after told there reads fine stopped)
  | inr watches ↦ inl (right_is_clear machine n name m text table cl tape outline told parts right reads tabled names clear (subst (λ t. Watches n name t told) there watches))
]
