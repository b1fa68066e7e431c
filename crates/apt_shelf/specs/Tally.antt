-- Calls of one kind, counted from 1, some of which fail.
use Rattle.std.specs.Prelude.{ℕ, Bool, List, [], if◌then◌else◌}
use Rattle.apt_shelf.specs.Counters.{next, is_listed}

-- how many calls were made, and the numbers of those that fail
pub record Tally : Type 0 where
  pub failing : List ℕ
  pub made : ℕ

-- no call was made, and these are to fail
abbrev pub uncalled : List ℕ → Tally
uncalled failing = record { failing = failing; made = 0 }

-- the next call is one that fails
abbrev pub fails_next : Tally → Bool
fails_next calls = is_listed calls.failing (next calls.made)

-- one call more was made
abbrev pub counted : Tally → Tally
counted calls = record calls { made = next calls.made }

-- the count of faults after the next call
abbrev pub faults_after : Tally → ℕ → ℕ
faults_after calls faults = if fails_next calls then next faults else faults

-- the numbers of the calls on a shelf that fail, of each kind
pub record FailLists : Type 0 where
  pub read_starts : List ℕ
  pub reads : List ℕ
  pub write_starts : List ℕ
  pub appends : List ℕ

abbrev pub no_fails : FailLists
no_fails = record { read_starts = []; reads = []; write_starts = []; appends = [] }
