-- What a started read goes over.
use Rattle.std.specs.Prelude.{◌≡◌, ℕ, ◌+◌, ◌≤◌, ◌==◌, if◌then◌else◌, List, [], ◌++◌, length, take, drop, slice_get, unwrap_or, option_map}
use Rattle.std.proofs.Common.{String, Vec}
use Rattle.apt_shelf.specs.declared.reading.Source.{Source}
use Rattle.apt_shelf.specs.declared.reading.Source.TheVariants as sources
use Rattle.apt_shelf.specs.declared.reading.Reading.{Reading}

-- the bytes of the file at a place
abbrev pub bytes_at : {A B : Type 0} → List (String A × Vec ℕ B) → ℕ → List ℕ
bytes_at files i = unwrap_or (option_map (λ f. f.1.items) (slice_get files i)) []

-- the bytes of a source
abbrev pub bytes_of : {A B : Type 0} → List (String A × Vec ℕ B) → Source → List ℕ
bytes_of files (sources.File i) = bytes_at files i
bytes_of files (sources.Held bytes) = bytes.items

-- how many files there are at least
abbrev pub files_needed : Source → ℕ
files_needed (sources.File i) = i + 1
files_needed (sources.Held bytes) = 0

-- what is left to read
abbrev pub left_in : {A B : Type 0} → List (String A × Vec ℕ B) → Reading → List ℕ
left_in files r = drop r.at (take r.end (bytes_of files r.source))

-- a read stands within the bytes of its source
abbrev pub IsWithin : {A B : Type 0} → List (String A × Vec ℕ B) → Reading → Type 0
IsWithin files r = (files_needed r.source ≤ length files) × (r.at ≤ r.end) × (r.end ≤ length (bytes_of files r.source))

-- a source once the file at a place is emptied, and its bytes are held elsewhere
abbrev pub moved_source : ℕ → Source → Source → Source
moved_source place held (sources.File i) = if i == place then held else sources.File i
moved_source place held (sources.Held bytes) = sources.Held bytes

abbrev pub moved : ℕ → Source → Reading → Reading
moved place held r = record r { source = moved_source place held r.source }

-- no file is lost, and each has what it had in front
abbrev pub Grows : {A B : Type 0} → List (String A × Vec ℕ B) → List (String A × Vec ℕ B) → Type 0
Grows files now = (length files ≤ length now) × ((i : ℕ) → (more : List ℕ) × (bytes_at now i ≡ bytes_at files i ++ more))
