-- What a store of files in memory has.
use Rattle.std.specs.Prelude.{ℕ, List, Option, option_map}
use Rattle.std.proofs.Common.{string_bytes}
use Rattle.apt_shelf.specs.Told.{Contents}
use Rattle.apt_shelf.specs.Entries.{contents}
use Rattle.apt_shelf.specs.Reading.{left_in}
use Rattle.apt_shelf.specs.declared.store.Store.{Store}

-- the bytes under each name
abbrev pub contents_of : Store → Contents
contents_of s = contents s.files.items

-- what is left to read
abbrev pub left_of : Store → Option (List ℕ)
left_of s = option_map (left_in s.files.items) s.reading

-- the name that is being written
abbrev pub writing_of : Store → Option (List ℕ)
writing_of s = option_map string_bytes s.writing
