-- How many words and bytes records have.
use Rattle.std.proofs.Common.{◌≡◌, ℕ, ◌+◌, ◌*◌, ◌≤◌, List, [], ◌∷◌, ◌++◌, length, refl, arith}
use Rattle.std.specs.List.{flat_map}
use Rattle.apt_records.specs.declared.record.Position.{Position}
use Rattle.apt_records.specs.declared.record.Record.{Record}
use Rattle.apt_records.specs.declared.record.Record.TheVariants as records
use Rattle.apt_records.specs.Ranges.{vertices_in}
use Rattle.apt_records.specs.Words.{position_words, words_of}

-- ---- words

pub triples_length : (ps : List Position) → length (flat_map position_words ps) ≡ 3 * length ps
triples_length [] = refl
triples_length (p ∷ ps) = omega (arith, triples_length ps)

pub vertices_long : (r : Record) → vertices_in r ≤ length (words_of r)
vertices_long (records.Statement line step) = omega arith
vertices_long (records.Note note) = omega arith
vertices_long (records.Drive surface side sense) = omega arith
vertices_long (records.Check surface how) = omega arith
vertices_long (records.Point reach to) = omega arith
vertices_long (records.Contour vertices) = omega (arith, triples_length vertices)

-- ---- bytes

-- the bytes of a record: four for its length, and eight for its number and for each of its words
abbrev pub bytes_in : Record → ℕ
bytes_in r = 12 + 8 * length (words_of r)

abbrev pub bytes_of : List Record → ℕ
bytes_of [] = 0
bytes_of (r ∷ rs) = bytes_in r + bytes_of rs

pub bytes_of-append : (xs ys : List Record) → bytes_of (xs ++ ys) ≡ bytes_of xs + bytes_of ys
bytes_of-append [] ys = omega arith
bytes_of-append (x ∷ xs) ys = omega (arith, bytes_of-append xs ys)
