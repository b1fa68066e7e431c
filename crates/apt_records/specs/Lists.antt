-- Which records a CL file can hold: the words of each fit a length, that of FINI stands last, and their numbers fit a word.
use Rattle.std.specs.Prelude.{◌≡◌, ℕ, ◌+◌, ◌*◌, ◌^◌, ◌<◌, ◌≤◌, Bool, true, false, List, [], ◌∷◌, length, MatchBool}
use Rattle.apt_records.specs.declared.record.Record.{Record}
use Rattle.apt_records.specs.Ranges.{AreRecords, Mark, Begin, End, Fini, Other, mark_of}
use Rattle.apt_records.specs.Words.{words_of}

-- ---- short records

-- the most bytes that the words of a record have
abbrev pub most_bytes : ℕ
most_bytes = 67108864

-- the words of each record fit a length
abbrev pub IsShort : Record → Type 0
IsShort r = 8 * (1 + length (words_of r)) ≤ most_bytes

abbrev pub AreShort : List Record → Type 0
AreShort [] = Unit {0}
AreShort (r ∷ rs) = IsShort r × AreShort rs

-- ---- the record of FINI

abbrev pub is_fini_mark : Mark → Bool
is_fini_mark Begin = false
is_fini_mark End = false
is_fini_mark Fini = true
is_fini_mark Other = false

abbrev pub is_fini : Record → Bool
is_fini r = is_fini_mark (mark_of r)

-- the record of FINI stands last and nowhere else
abbrev pub HasFiniLast : List Record → Type 0
HasFiniLast [] = ⊥
HasFiniLast (r ∷ rs) = MatchBool (is_fini r) (rs ≡ []) (HasFiniLast rs)

-- ---- all records of a file

-- the records of a file; their numbers fit a word
pub record IsFile (rs : List Record) : Type 0 where
  pub ranges : AreRecords rs
  pub last : HasFiniLast rs
  pub short : AreShort rs
  pub numbers : length rs < 2 ^ 63
