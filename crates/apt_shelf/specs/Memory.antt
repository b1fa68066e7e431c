-- What a MemShelf holds, and the calls that it counts.
use Rattle.std.specs.Prelude.{ℕ, Bool, List, Option, Some, is_some}
use Rattle.apt_shelf.specs.Told.{Contents}
use Rattle.apt_shelf.specs.Store as store
use Rattle.apt_shelf.specs.Tally.{FailLists, uncalled}
use Rattle.apt_shelf.specs.declared.memory.Calls.{Calls}
use Rattle.apt_shelf.specs.declared.memory.ShelfCalls.{ShelfCalls}
use Rattle.apt_shelf.specs.declared.memory.MemShelf.{MemShelf}

-- the bytes under each name
abbrev pub files_of : MemShelf → Contents
files_of shelf = store.contents_of shelf.store

-- the same, as a shelf tells it
abbrev pub told_of : MemShelf → Option Contents
told_of shelf = Some (files_of shelf)

-- whether a read is started
abbrev pub reading_of : MemShelf → Bool
reading_of shelf = is_some shelf.store.reading

-- what is left to read
abbrev pub left_of : MemShelf → Option (List ℕ)
left_of shelf = store.left_of shelf.store

-- the name that is being written
abbrev pub writing_of : MemShelf → Option (List ℕ)
writing_of shelf = store.writing_of shelf.store

-- how often starting to read and reading have failed
abbrev pub read_faults_of : MemShelf → ℕ
read_faults_of shelf = shelf.read_faults

-- how often starting to write and appending have failed
abbrev pub write_faults_of : MemShelf → ℕ
write_faults_of shelf = shelf.write_faults

-- the calls of each kind
abbrev pub calls_of : MemShelf → ShelfCalls
calls_of shelf = shelf.calls

-- no call of any kind was made
abbrev pub none_called : FailLists → ShelfCalls
none_called fail = record {
  read_starts = uncalled fail.read_starts;
  reads = uncalled fail.reads;
  write_starts = uncalled fail.write_starts;
  appends = uncalled fail.appends;
}

-- how many calls of each kind were made
abbrev pub made_of : ShelfCalls → Calls
made_of calls = record {
  read_starts = calls.read_starts.made;
  reads = calls.reads.made;
  write_starts = calls.write_starts.made;
  appends = calls.appends.made;
}

-- how many bytes a read gives at most
abbrev pub step_of : MemShelf → ℕ
step_of shelf = shelf.step.bytes
