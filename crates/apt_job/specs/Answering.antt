-- What `jobs` answers where there are none.
use Rattle.std.specs.Prelude.{◌≡◌, ℕ, List, Option, Some, None, Result}
use Rattle.apt_words.specs.Answers.{Comes, Tells}
use Rattle.apt_words.specs.declared.deed.Step.{Step}
use Rattle.apt_records.specs.declared.record.Record.{Record}
use Rattle.apt_meaning.specs.Situations.{first_situation}
use Rattle.apt_meaning.specs.Expectations.{FailsAt}
use Rattle.apt_job.specs.declared.error.JobError.{JobError}
use Rattle.apt_job.specs.declared.error.JobError.TheVariants as errors

-- the number of the record that an error tells
abbrev pub entry_in : JobError → Option ℕ
entry_in (errors.Entry seq) = Some seq
entry_in errors.NoMemory = None

-- the first record that does not answer the steps, or memory ran out
abbrev pub IsEntry : List Step → List Record → JobError → Type 0
IsEntry steps written e = Tells (FailsAt first_situation 1 steps written) (entry_in e)

-- the answer is the record with this number, or memory ran out
abbrev pub IsEntryAt : {A : Type 0} → ℕ → Result A JobError → Type 0
IsEntryAt k = Comes entry_in (λ jobs. ⊥) (λ seq. seq ≡ k)
