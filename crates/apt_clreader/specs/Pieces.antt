-- A CL file whose bytes come in pieces.
use Rattle.std.specs.Prelude.{◌≡◌, ℕ, suc, ◌+◌, ◌==◌, Option, List, ◌++◌, length, Result, Ok, Err, if◌then◌else◌}
use Rattle.apt_words.specs.Answers.{IsFault}
use Rattle.apt_cldata.specs.declared.error.ClCause.TheVariants as causes
use Rattle.apt_cldata.specs.declared.error.ClError.{ClError}
use Rattle.apt_records.specs.declared.record.Record.{Record}
use Rattle.apt_cldata.specs.Fields.{◌>>=◌}
use Rattle.apt_cldata.specs.Reading.{fault, fault_in, records_from, counted, read_of}
use Rattle.apt_clreader.specs.declared.state.Part.{Part}
use Rattle.apt_clreader.specs.declared.state.Part.TheVariants as parts
use Rattle.apt_clreader.specs.declared.state.ClReader.{ClReader}
use Rattle.apt_clreader.specs.Begun.{Fault}

-- the records behind some that were read
abbrev pub behind : List Record → Result (List Record) Fault → Result (List Record) Fault
behind records (Ok more) = Ok (records ++ more)
behind records (Err fault) = Err fault

-- what a file comes to, by the part of it that comes next, the number of records that its head told, the records so far, and the bytes from a place on
abbrev pub comes_to : Part → Option ℕ → List Record → ℕ → List ℕ → Result (List Record) Fault
comes_to parts.Head number records at bytes = read_of bytes
comes_to parts.Records number records at bytes = behind records (records_from (suc (length bytes)) (length records + 1) at bytes) >>= counted number
comes_to parts.Nothing number records at bytes = if length bytes == 0 then counted number records else Err (fault at causes.AfterFini)

-- how many bytes were read
abbrev pub count_of : ClReader → ℕ
count_of reader = reader.at + length reader.held.items

-- a reader stands for the front of a file: however the file goes on, it comes to what the reader comes to
abbrev pub StandsFor : ClReader → List ℕ → Type 0
StandsFor reader front = (more : List ℕ) → read_of (front ++ more) ≡ comes_to reader.part reader.number reader.records.items reader.at (reader.held.items ++ more)

-- the reader stands for the front of a file, or the error tells the fault of the file however it goes on
abbrev pub HasRead : List ℕ → Result ClReader ClError → Type 0
HasRead front (Ok reader) = StandsFor reader front
HasRead front (Err error) = (more : List ℕ) → IsFault fault_in (read_of (front ++ more)) error
