-- A small file, and files with one fault, which the checker reads.
use Rattle.std.specs.Prelude.{◌≡◌, ◌+◌, ℕ, List, [], ◌∷◌, ◌++◌, Ok, Err, codes}
use Rattle.std.proofs.Common.{refl}
use Rattle.apt_cldata.specs.declared.error.ClCause.TheVariants as causes
use Rattle.apt_records.specs.declared.record.Note.TheVariants as notes
use Rattle.apt_records.specs.declared.record.Record.{Record}
use Rattle.apt_records.specs.declared.record.Record.TheVariants as records
use Rattle.apt_cldata.specs.Records.{record_of}
use Rattle.apt_cldata.specs.Files.{count_bytes, length_bytes, word_bytes, file_of}
use Rattle.apt_records.specs.Lists.{most_bytes}
use Rattle.apt_cldata.specs.Reading.{fault, count_in, length_in, word_in, length_of, record_in, said_by, first_of, records_from, read_of}

abbrev sample : List Record
sample = records.Statement 1 1 ∷ records.Note (notes.Partno (codes "A")) ∷ records.Note notes.Fini ∷ []

-- the head of so many records
abbrev head : ℕ → List ℕ
head n = 65 ∷ 80 ∷ 84 ∷ 67 ∷ 76 ∷ 32 ∷ 50 ∷ 10 ∷ 0 ∷ 0 ∷ 0 ∷ 0 ∷ 0 ∷ 0 ∷ 0 ∷ n ∷ []

abbrev start : List ℕ
start =
    0 ∷ 0 ∷ 0 ∷ 40
    ∷ 0 ∷ 0 ∷ 0 ∷ 0 ∷ 0 ∷ 0 ∷ 0 ∷ 1
    ∷ 0 ∷ 0 ∷ 0 ∷ 0 ∷ 0 ∷ 0 ∷ 3 ∷ 232
    ∷ 0 ∷ 0 ∷ 0 ∷ 0 ∷ 0 ∷ 0 ∷ 0 ∷ 0
    ∷ 0 ∷ 0 ∷ 0 ∷ 0 ∷ 0 ∷ 0 ∷ 0 ∷ 1
    ∷ 0 ∷ 0 ∷ 0 ∷ 0 ∷ 0 ∷ 0 ∷ 0 ∷ 1
    ∷ []

abbrev middle : ℕ → List ℕ
middle b =
    0 ∷ 0 ∷ 0 ∷ 32
    ∷ 0 ∷ 0 ∷ 0 ∷ 0 ∷ 0 ∷ 0 ∷ 0 ∷ 2
    ∷ 0 ∷ 0 ∷ 0 ∷ 0 ∷ 0 ∷ 0 ∷ 7 ∷ 208
    ∷ 0 ∷ 0 ∷ 0 ∷ 0 ∷ 0 ∷ 0 ∷ 0 ∷ 1
    ∷ 0 ∷ 0 ∷ 0 ∷ 0 ∷ 0 ∷ 0 ∷ 0 ∷ b
    ∷ []

abbrev end : List ℕ
end =
    0 ∷ 0 ∷ 0 ∷ 24
    ∷ 0 ∷ 0 ∷ 0 ∷ 0 ∷ 0 ∷ 0 ∷ 0 ∷ 3
    ∷ 0 ∷ 0 ∷ 0 ∷ 0 ∷ 0 ∷ 0 ∷ 54 ∷ 176
    ∷ 0 ∷ 0 ∷ 0 ∷ 0 ∷ 0 ∷ 0 ∷ 0 ∷ 0
    ∷ []

written : file_of sample ≡ head 3 ++ start ++ middle 65 ++ end
unfolding count_bytes length_bytes word_bytes
written = refl

read : read_of (head 3 ++ start ++ middle 65 ++ end) ≡ Ok sample
unfolding read_of count_in records_from first_of length_of said_by record_in record_of length_in word_in
read = refl

-- a file of version 1
first_read : read_of (codes "APTCL 1\n" ++ start ++ middle 65 ++ end) ≡ Ok sample
unfolding read_of count_in records_from first_of length_of said_by record_in record_of length_in word_in
first_read = refl

-- a byte of the text that is no character, and a record numbered 3 where 2 is due
no_character : read_of (head 3 ++ start ++ middle 31 ++ end) ≡ Err (fault 88 causes.Range)
unfolding read_of count_in records_from first_of length_of said_by record_in record_of length_in word_in
no_character = refl

wrong_number : read_of (head 2 ++ start ++ end) ≡ Err (fault 64 causes.Seq)
unfolding read_of count_in records_from first_of length_of said_by record_in record_of length_in word_in
wrong_number = refl

no_end : read_of (head 3 ++ start ++ middle 65) ≡ Err (fault 96 causes.Truncated)
unfolding read_of count_in records_from first_of length_of said_by record_in record_of length_in word_in
no_end = refl

behind_the_end : read_of (head 3 ++ start ++ middle 65 ++ end ++ 0 ∷ []) ≡ Err (fault 124 causes.AfterFini)
unfolding read_of count_in records_from first_of length_of said_by record_in record_of length_in word_in
behind_the_end = refl

-- ---- heads

other_version : read_of (codes "APTCL 3\n") ≡ Err (fault 6 causes.Header)
unfolding read_of
other_version = refl

blank_for_line_end : read_of (codes "APTCL 2 ") ≡ Err (fault 7 causes.Header)
unfolding read_of
blank_for_line_end = refl

first_without_line_end : read_of (codes "APTCL 1 ") ≡ Err (fault 7 causes.Header)
unfolding read_of
first_without_line_end = refl

cut_before_number : read_of (codes "APTCL 2\n") ≡ Err (fault 8 causes.Truncated)
unfolding read_of
cut_before_number = refl

cut_in_number : read_of (codes "APTCL 2\n" ++ 0 ∷ 0 ∷ 0 ∷ 0 ∷ 0 ∷ 0 ∷ 0 ∷ []) ≡ Err (fault 15 causes.Truncated)
unfolding read_of
cut_in_number = refl

no_records : read_of (head 0) ≡ Err (fault 16 causes.Truncated)
unfolding read_of count_in records_from first_of length_of said_by record_in record_of length_in word_in
no_records = refl

-- the head tells 4 records: that is told last
other_count : read_of (head 4 ++ start ++ middle 65 ++ end) ≡ Err (fault 8 causes.Count)
unfolding read_of count_in records_from first_of length_of said_by record_in record_of length_in word_in
other_count = refl

other_count_and_more : read_of (head 4 ++ start ++ middle 65 ++ end ++ 0 ∷ []) ≡ Err (fault 124 causes.AfterFini)
unfolding read_of count_in records_from first_of length_of said_by record_in record_of length_in word_in
other_count_and_more = refl

-- ---- two causes in one record, and lengths at their ends

-- the first record with another length, number and class, whose words are three numbers
abbrev first : ℕ → ℕ → ℕ → List ℕ
first length number thousand =
    0 ∷ 0 ∷ 0 ∷ length
    ∷ 0 ∷ 0 ∷ 0 ∷ 0 ∷ 0 ∷ 0 ∷ 0 ∷ number
    ∷ 0 ∷ 0 ∷ 0 ∷ 0 ∷ 0 ∷ 0 ∷ thousand ∷ 232
    ∷ 0 ∷ 0 ∷ 0 ∷ 0 ∷ 0 ∷ 0 ∷ 0 ∷ 0
    ∷ 0 ∷ 0 ∷ 0 ∷ 0 ∷ 0 ∷ 0 ∷ 0 ∷ 0
    ∷ []

-- a number that is not due is told before a class that is none, a record that lacks a word, and a word out of its range
number_before_class : read_of (head 2 ++ first 32 2 4) ≡ Err (fault 20 causes.Seq)
unfolding read_of count_in records_from first_of length_of said_by record_in record_of length_in word_in
number_before_class = refl

class_alone : read_of (head 2 ++ first 32 1 4) ≡ Err (fault 28 causes.Class)
unfolding read_of count_in records_from first_of length_of said_by record_in record_of length_in word_in
class_alone = refl

number_before_count_of_words : read_of (head 2 ++ first 32 2 3) ≡ Err (fault 20 causes.Seq)
unfolding read_of count_in records_from first_of length_of said_by record_in record_of length_in word_in
number_before_count_of_words = refl

count_of_words_alone : read_of (head 2 ++ first 32 1 3) ≡ Err (fault 16 causes.Length)
unfolding read_of count_in records_from first_of length_of said_by record_in record_of length_in word_in
count_of_words_alone = refl

-- a length that is none is told before the number, and a record that is cut short before it too
length_before_number : read_of (head 2 ++ first 31 2 3) ≡ Err (fault 16 causes.Length)
unfolding read_of count_in records_from first_of length_of said_by record_in record_of length_in word_in
length_before_number = refl

cut_short_before_number : read_of (head 2 ++ first 40 2 3) ≡ Err (fault 52 causes.Truncated)
unfolding read_of count_in records_from first_of length_of said_by record_in record_of length_in word_in
cut_short_before_number = refl

-- the greatest length, and eight bytes more
greatest_length : length_of 16 (length_bytes most_bytes) ≡ Err (fault 20 causes.Truncated)
unfolding length_of length_in length_bytes
greatest_length = refl

eight_bytes_more : length_of 16 (length_bytes (most_bytes + 8)) ≡ Err (fault 16 causes.Length)
unfolding length_of length_in length_bytes
eight_bytes_more = refl
