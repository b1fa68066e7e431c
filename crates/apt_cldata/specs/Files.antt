-- The bytes of a CL file: its head, and its records one behind the other.
use Rattle.std.specs.Prelude.{◌≡◌, ◌⊎◌, ℕ, ◌+◌, ◌*◌, ◌^◌, ◌<◌, ℤ, pos, List, [], ◌∷◌, ◌++◌, length, drop, codes}
use Rattle.std.specs.List.{flat_map}
use Rattle.std.specs.Int.{w32, w64, to_be_bytes, cast_unsigned}
use Rattle.apt_records.specs.declared.record.Record.{Record}
use Rattle.apt_records.specs.Ranges.{IsRecord}
use Rattle.apt_records.specs.declared.record.Position.{Position}
use Rattle.apt_records.specs.Words.{words_of, position_words}
use Rattle.apt_records.specs.Lists.{IsShort}

-- ---- words and bytes

-- a length is four bytes, the highest first
unfoldable pub length_bytes : ℕ → List ℕ
length_bytes n = to_be_bytes w32 n

-- a word is eight bytes, the highest first, in two's complement
unfoldable pub word_bytes : ℤ → List ℕ
word_bytes w = to_be_bytes w64 (cast_unsigned w64 w)

-- words behind their length in bytes
abbrev pub framed : List ℤ → List ℕ
framed ws = length_bytes (8 * length ws) ++ flat_map word_bytes ws

-- a position's three words
abbrev pub position_bytes : Position → List ℕ
position_bytes p = flat_map word_bytes (position_words p)

-- ---- records

-- a record with its number: the number, the class, the subtype, and the words behind them
abbrev pub record_bytes : ℕ → Record → List ℕ
record_bytes seq r = framed (pos seq ∷ words_of r)

-- records, numbered by one from a number on
abbrev pub records_bytes : ℕ → List Record → List ℕ
records_bytes seq [] = []
records_bytes seq (r ∷ rs) = record_bytes seq r ++ records_bytes (seq + 1) rs

-- bytes that begin with a record, and with no other
pub record BeginsAlone (seq : ℕ) (r : Record) (bytes : List ℕ) : Type 0 where
  pub begins : bytes ≡ record_bytes seq r ++ drop (length (record_bytes seq r)) bytes
  pub alone : {n : ℕ} {s : Record} {rest : List ℕ} → n < 2 ^ 63 → IsRecord s → IsShort s → bytes ≡ record_bytes n s ++ rest
      → (seq ≡ n) × (r ≡ s) × (drop (length (record_bytes seq r)) bytes ≡ rest)

-- the bytes of records, numbered by one from a number on, each of which is there alone
abbrev pub StandApart : ℕ → List Record → List ℕ → Type 0
StandApart seq [] bytes = bytes ≡ []
StandApart seq (r ∷ rs) bytes = BeginsAlone seq r bytes × StandApart (seq + 1) rs (drop (length (record_bytes seq r)) bytes)

-- ---- files

-- a number of records is eight bytes, the highest first
unfoldable pub count_bytes : ℕ → List ℕ
count_bytes n = to_be_bytes w64 n

-- the head of a file of so many records, in version 2
abbrev pub head_of : ℕ → List ℕ
head_of n = codes "APTCL 2\n" ++ count_bytes n

-- the file of records: its head, and the records one behind the other
abbrev pub file_of : List Record → List ℕ
file_of rs = head_of (length rs) ++ records_bytes 1 rs

-- the same in version 1, whose head tells no number
abbrev pub first_file_of : List Record → List ℕ
first_file_of rs = codes "APTCL 1\n" ++ records_bytes 1 rs

-- bytes that are the file of records in one of the versions
abbrev pub IsFileOf : List Record → List ℕ → Type 0
IsFileOf rs bytes = (bytes ≡ file_of rs) ⊎ (bytes ≡ first_file_of rs)
