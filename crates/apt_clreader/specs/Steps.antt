-- The steps of reading, whatever bytes come behind.
use Rattle.std.specs.Prelude.{◌≡◌, ℕ, ◌+◌, ◌*◌, ◌≤◌, Bool, true, false, Option, List, ◌++◌, length, drop, Result, Ok, Err, MatchBool}
use Rattle.apt_words.specs.Answers.{IsFault}
use Rattle.apt_cldata.specs.declared.error.ClError.{ClError}
use Rattle.apt_records.specs.declared.record.Record.{Record}
use Rattle.apt_records.specs.Ranges.{IsRecord, vertices_in}
use Rattle.apt_cldata.specs.Reading.{fault_in, piece, first_of}
use Rattle.apt_clreader.specs.declared.state.Part.{Part}
use Rattle.apt_clreader.specs.declared.state.Part.TheVariants as parts
use Rattle.apt_clreader.specs.declared.state.ClReader.{ClReader}
use Rattle.apt_clreader.specs.declared.state.Taken.{Taken}
use Rattle.apt_clreader.specs.Begun.{is_truncated, place_of, tells_end, place_in}
use Rattle.apt_clreader.specs.Pieces.{comes_to}

-- ---- a record

-- the first record of some bytes, and how many of them it has
pub record IsFirst (seq at : ℕ) (bytes : List ℕ) (r : Record) (size : ℕ) : Type 0 where
  pub read : (more : List ℕ) → first_of seq at (bytes ++ more) ≡ Ok (piece r (at + size) (drop size bytes ++ more))
  pub ranges : IsRecord r
  pub long : 8 * (vertices_in r + 1) ≤ size
  pub there : size ≤ length bytes

-- the first record, or the bytes end within it, or they can't stand
abbrev pub IsNext : ℕ → ℕ → List ℕ → Result (Record × ℕ) ClError → Type 0
IsNext seq at bytes (Ok p) = IsFirst seq at bytes p.0 p.1
IsNext seq at bytes (Err error) =
    MatchBool (tells_end error) ((is_truncated (first_of seq at bytes) ≡ true) × (place_of (first_of seq at bytes) ≡ place_in error)) ((more : List ℕ) → IsFault fault_in (first_of seq at (bytes ++ more)) error)

-- ---- what comes of it

-- one part, records, place and bytes come to what others come to, whatever number the head told
abbrev pub Agree : Part → List Record → ℕ → List ℕ → Part → List Record → ℕ → List ℕ → Type 0
Agree part rs at bytes next ss place rest = (number : Option ℕ) (more : List ℕ) → comes_to part number rs at (bytes ++ more) ≡ comes_to next number ss place (rest ++ more)

abbrev pub Fails : Part → List Record → ℕ → List ℕ → ClError → Type 0
Fails part rs at bytes error = (number : Option ℕ) (more : List ℕ) → IsFault fault_in (comes_to part number rs at (bytes ++ more)) error

-- a reader stands where these stood, or they fail
abbrev pub GoesOn : Part → Option ℕ → List Record → ℕ → List ℕ → Result ClReader ClError → Type 0
GoesOn part number rs at bytes (Ok reader) = (more : List ℕ) → comes_to part number rs at (bytes ++ more) ≡ comes_to reader.part reader.number reader.records.items reader.at (reader.held.items ++ more)
GoesOn part number rs at bytes (Err error) = Fails part rs at bytes error

-- what comes behind records, by whether FINI was the last
abbrev pub part_behind : Bool → Part
part_behind true = parts.Nothing
part_behind false = parts.Records

-- so many bytes were taken by the records that were added
abbrev pub Takes : List Record → ℕ → List ℕ → List Record → Result Taken ClError → Type 0
Takes before at bytes now (Ok t) = Agree parts.Records before at bytes (part_behind t.is_done) now (at + t.bytes) (drop t.bytes bytes)
Takes before at bytes now (Err error) = Fails parts.Records before at bytes error

-- no whole record is left, and it is told where the bytes end, unless FINI was the last
abbrev pub IsLeft : Bool → List Record → ℕ → ℕ → List ℕ → Type 0
IsLeft true now at end rest = Unit {0}
IsLeft false now at end rest = (is_truncated (first_of (length now + 1) at rest) ≡ true) × (place_of (first_of (length now + 1) at rest) ≡ end)
