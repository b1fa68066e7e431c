-- What is begun of a CL file.
use Rattle.std.specs.Prelude.{◌≡◌, ℕ, ◌+◌, ◌==◌, nat_le, Bool, true, false, List, [], length, codes, Result, Ok, Err, if◌then◌else◌}
use Rattle.std.specs.List.{starts_with}
use Rattle.apt_cldata.specs.declared.error.ClCause.{ClCause}
use Rattle.apt_cldata.specs.declared.error.ClCause.TheVariants as causes
use Rattle.apt_cldata.specs.declared.error.ClError.{ClError}
use Rattle.apt_cldata.specs.declared.error.ClError.TheVariants as errors
use Rattle.apt_records.specs.declared.record.Record.{Record}
use Rattle.apt_cldata.specs.Reading.{first_of, read_of}
use Rattle.apt_clreader.specs.declared.state.Part.{Part}
use Rattle.apt_clreader.specs.declared.state.Part.TheVariants as parts

-- what a reading gives in place of a value
abbrev refusal : {A E : Type 0} → (List ℕ → Result A E) → Type 0
refusal {A} {E} read = E

-- a place of a file that can't stand, and why
abbrev pub Fault : Type 0
Fault = refusal read_of

abbrev pub is_truncation : ClCause → Bool
is_truncation causes.Truncated = true
is_truncation _ = false

-- the bytes end within what is read
abbrev pub is_truncated : {A : Type 0} → Result A Fault → Bool
is_truncated (Ok a) = false
is_truncated (Err fault) = is_truncation fault.cause

-- the place of a fault
abbrev pub place_of : {A : Type 0} → Result A Fault → ℕ
place_of (Ok a) = 0
place_of (Err fault) = fault.at

-- an error tells that the bytes end within what is read, and where
abbrev pub tells_end : ClError → Bool
tells_end (errors.Bad at cause) = is_truncation cause
tells_end errors.NoMemory = false

abbrev pub place_in : ClError → ℕ
place_in (errors.Bad at cause) = at
place_in errors.NoMemory = 0

-- a whole head is there: eight bytes, or sixteen where these are of version 2
abbrev pub has_head : List ℕ → Bool
has_head held = if starts_with ◌==◌ held (codes "APTCL 2\n") then nat_le 16 (length held) else nat_le 8 (length held)

-- no more is held than the front of the head or of a record, and there is where the file is cut short if it ends there
abbrev pub IsBegun : Part → List Record → ℕ → ℕ → List ℕ → Type 0
IsBegun parts.Head records at end held = (length records ≡ 0) × (at ≡ 0) × (has_head held ≡ false)
IsBegun parts.Records records at end held = (is_truncated (first_of (length records + 1) at held) ≡ true) × (place_of (first_of (length records + 1) at held) ≡ end)
IsBegun parts.Nothing records at end held = held ≡ []
