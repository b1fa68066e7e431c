-- How many bytes a file has.
use Rattle.std.proofs.Common.{◌≡◌, ℕ, ◌+◌, pos, List, [], ◌∷◌, length, refl, arith}
use Rattle.std.proofs.lemmas.List.{length-append}
use Rattle.apt_records.specs.declared.record.Record.{Record}
use Rattle.apt_records.specs.Words.{words_of}
use Rattle.apt_cldata.specs.Files.{head_of, record_bytes, records_bytes, file_of}
use Rattle.apt_cldata.proofs.HeadLaws.{count_length}
use Rattle.apt_cldata.proofs.PieceLaws.{framed_length}
use Rattle.apt_records.proofs.Lengths.{bytes_of}

records_length : (seq : ℕ) (rs : List Record) → length (records_bytes seq rs) ≡ bytes_of rs
records_length seq [] = refl
records_length seq (r ∷ rs) =
    omega (arith, length-append (record_bytes seq r) (records_bytes (seq + 1) rs), framed_length (pos seq ∷ words_of r), records_length (seq + 1) rs)

pub file_length : (rs : List Record) → length (file_of rs) ≡ 16 + bytes_of rs
file_length rs = omega (arith, length-append (head_of (length rs)) (records_bytes 1 rs), count_length (length rs), records_length 1 rs)
