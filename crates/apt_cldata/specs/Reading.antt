-- How a CL file is read: its records, or the first place that can't stand, with its cause.
use Rattle.std.specs.Prelude.{ℕ, zero, suc, ◌+◌, ◌-◌, ◌*◌, ◌/◌, ◌%◌, ℤ, pos, nat_lt, nat_le, ◌==◌, not, ◌&&◌, Bool, List, [], ◌∷◌, length, take, drop, codes, Result, Ok, Err, if◌then◌else◌, Option, Some, None}
use Rattle.std.specs.Int.{w32, w64, from_be_bytes, cast_signed}
use Rattle.std.specs.Ordering.{int_eq}
use Rattle.apt_cldata.specs.declared.error.ClCause.{ClCause}
use Rattle.apt_cldata.specs.declared.error.ClCause.TheVariants as causes
use Rattle.apt_cldata.specs.declared.error.ClError.{ClError}
use Rattle.apt_cldata.specs.declared.error.ClError.TheVariants as errors
use Rattle.apt_cldata.specs.declared.error.ClFault.{ClFault}
use Rattle.apt_cldata.specs.declared.fields.Misfit.{Misfit}
use Rattle.apt_cldata.specs.declared.fields.Misfit.TheVariants as misfits
use Rattle.apt_records.specs.declared.record.Record.{Record}
use Rattle.apt_cldata.specs.Fields.{◌>>=◌}
use Rattle.apt_cldata.specs.Records.{record_of}
use Rattle.apt_records.specs.Lists.{most_bytes, is_fini}

abbrev pub fault : ℕ → ClCause → ClFault
fault at cause = record { at = at; cause = cause }

-- ---- bytes and words

-- the length in the first four bytes
unfoldable pub length_in : List ℕ → ℕ
length_in bytes = from_be_bytes w32 (take 4 bytes)

-- the word in the first eight bytes
unfoldable pub word_in : List ℕ → ℤ
word_in bytes = cast_signed w64 (from_be_bytes w64 (take 8 bytes))

-- the number that the eight bytes of a word say
unfoldable pub number_of : List ℕ → ℤ
number_of word = cast_signed w64 (from_be_bytes w64 word)

-- the numbers that words say, each of its eight bytes
abbrev pub numbers_of : List (List ℕ) → List ℤ
numbers_of [] = []
numbers_of (word ∷ words) = number_of word ∷ numbers_of words

-- so many words from the front
abbrev pub words_in : ℕ → List ℕ → List ℤ
words_in zero bytes = []
words_in (suc n) bytes = word_in bytes ∷ words_in n (drop 8 bytes)

-- ---- the first record of some bytes, at a place of the file

abbrev pub is_length : ℕ → Bool
is_length n = n % 8 == 0 && nat_le 24 n && nat_le n most_bytes

-- where the file ends
abbrev pub cut_short : ℕ → List ℕ → ClFault
cut_short at bytes = fault (at + length bytes) causes.Truncated

-- the length of the first record, whose bytes are all there
unfoldable pub length_of : ℕ → List ℕ → Result ℕ ClFault
length_of at bytes =
    if nat_lt (length bytes) 4 then Err (cut_short at bytes)
    else if not (is_length (length_in bytes)) then Err (fault at causes.Length)
    else if nat_lt (length bytes) (4 + length_in bytes) then Err (cut_short at bytes)
    else Ok (length_in bytes)

-- the place of a misfit, of a record at a place: behind the length stand the number, the class, the subtype and the words, of eight bytes each
abbrev pub misfit_at : ℕ → Misfit → ClFault
misfit_at at misfits.Class = fault (at + 12) causes.Class
misfit_at at misfits.Subtype = fault (at + 20) causes.Class
misfit_at at misfits.Count = fault at causes.Length
misfit_at at (misfits.Word i) = fault (at + 28 + 8 * i) causes.Range

abbrev pub located : {A : Type 0} → ℕ → Result A Misfit → Result A ClFault
located at (Ok x) = Ok x
located at (Err misfit) = Err (misfit_at at misfit)

-- the record of so many bytes behind their length
unfoldable pub record_in : ℕ → List ℕ → Result Record Misfit
record_in n bytes = record_of (word_in (drop 12 bytes)) (word_in (drop 20 bytes)) (words_in (n / 8 - 3) (drop 28 bytes))

-- that record, if it has the number that is due
unfoldable pub said_by : ℤ → ℕ → ℕ → List ℕ → Result Record ClFault
said_by seq at n bytes =
    if int_eq (word_in (drop 4 bytes)) seq
    then located at (record_in n bytes)
    else Err (fault (at + 4) causes.Seq)

-- a record, and the bytes behind it with their place
pub record Piece : Type 0 where
  pub said : Record
  pub at : ℕ
  pub rest : List ℕ

abbrev pub piece : Record → ℕ → List ℕ → Piece
piece said at rest = record { said = said; at = at; rest = rest }

unfoldable pub first_of : ℕ → ℕ → List ℕ → Result Piece ClFault
first_of seq at bytes =
    length_of at bytes >>= λ n. said_by (pos seq) at n bytes >>= λ r. Ok (piece r (at + (4 + n)) (drop (4 + n) bytes))

-- ---- all records

-- the last record, behind which no bytes stand
abbrev pub last_of : Piece → Result (List Record) ClFault
last_of p = if length p.rest == 0 then Ok (p.said ∷ []) else Err (fault p.at causes.AfterFini)

-- the records from a number and a place on. There are fewer of them than bytes, so that fuel is never short
unfoldable pub records_from : ℕ → ℕ → ℕ → List ℕ → Result (List Record) ClFault
records_from zero seq at bytes = Err (cut_short at bytes)
records_from (suc fuel) seq at bytes =
    first_of seq at bytes >>= λ p.
    if is_fini p.said then last_of p else (records_from fuel (seq + 1) p.at p.rest >>= λ rs. Ok (p.said ∷ rs))

-- ---- the head

-- the bytes behind some that are due, from a place on
abbrev pub behind_head : ℕ → List ℕ → List ℕ → Result (List ℕ) ClFault
behind_head at [] bytes = Ok bytes
behind_head at (h ∷ hs) [] = Err (fault at causes.Truncated)
behind_head at (h ∷ hs) (b ∷ bytes) = if b == h then behind_head (at + 1) hs bytes else Err (fault at causes.Header)

-- what a head tells: the number of records, in version 2, and the bytes behind it with their place
pub record Head : Type 0 where
  pub number : Option ℕ
  pub at : ℕ
  pub rest : List ℕ

abbrev pub head : Option ℕ → ℕ → List ℕ → Head
head number at rest = record { number = number; at = at; rest = rest }

-- the number in the first eight bytes
unfoldable pub count_in : List ℕ → ℕ
count_in bytes = from_be_bytes w64 (take 8 bytes)

-- the head of version 2, from its number on
abbrev pub numbered : ℕ → List ℕ → Result Head ClFault
numbered at bytes = if nat_lt (length bytes) 8 then Err (cut_short at bytes) else Ok (head (Some (count_in bytes)) (at + 8) (drop 8 bytes))

-- the head from its version on, `1` or `2`, behind which LF stands
abbrev pub versioned : ℕ → List ℕ → Result Head ClFault
versioned at [] = Err (fault at causes.Truncated)
versioned at (b ∷ bytes) =
    if b == 49 then (behind_head (at + 1) (10 ∷ []) bytes >>= λ rest. Ok (head None (at + 2) rest))
    else if b == 50 then (behind_head (at + 1) (10 ∷ []) bytes >>= λ rest. numbered (at + 2) rest)
    else Err (fault at causes.Header)

-- the head of a file
abbrev pub head_in : List ℕ → Result Head ClFault
head_in bytes = behind_head 0 (codes "APTCL ") bytes >>= λ rest. versioned 6 rest

-- ---- the file

-- the records behind a head, unless it tells another number of them
abbrev pub counted : Option ℕ → List Record → Result (List Record) ClFault
counted None rs = Ok rs
counted (Some n) rs = if n == length rs then Ok rs else Err (fault 8 causes.Count)

-- the records of a file
unfoldable pub read_of : List ℕ → Result (List Record) ClFault
read_of bytes = head_in bytes >>= λ h. records_from (length bytes) 1 h.at h.rest >>= λ rs. counted h.number rs

-- the fault that an error tells
abbrev pub fault_in : ClError → Option ClFault
fault_in (errors.Bad at cause) = Some (fault at cause)
fault_in errors.NoMemory = None
