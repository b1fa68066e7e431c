-- A file is read as what was written, and only as that.
use Rattle.std.proofs.Common.{◌≡◌, ℕ, zero, suc, ◌+◌, ◌^◌, ◌≤◌, ◌<◌, ◌==◌, Bool, true, false, MatchBool, pos, List, [], ◌∷◌, ◌++◌, length, get_or, drop, cond, Option, Some, None, Ok, Err, inl, inr, refl, ap, sym, ◌∙◌, subst, arith}
use Rattle.std.specs.Prelude.{codes}
use Rattle.std.proofs.lemmas.Bool.Decides.{nat_tests}
use Rattle.std.proofs.lemmas.List.{length-append, nil_from_length}
use Rattle.apt_cldata.specs.declared.error.ClCause.TheVariants as causes
use Rattle.apt_records.specs.declared.record.Record.{Record}
use Rattle.apt_records.specs.Ranges.{vertex_count, AreRecords}
use Rattle.apt_records.specs.Words.{words_of}
use Rattle.apt_cldata.specs.Fields.{◌>>=◌}
use Rattle.apt_cldata.specs.Files.{record_bytes, records_bytes, head_of, file_of, first_file_of, IsFileOf, StandApart}
use Rattle.apt_records.specs.Lists.{is_fini, HasFiniLast, AreShort, IsFile}
use Rattle.apt_cldata.specs.Reading.{fault, Piece, piece, first_of, last_of, records_from, head, head_in, counted, read_of}
use Rattle.apt_cldata.proofs.FieldLaws.{bind_only, equal_test, pick, pick_both}
use Rattle.apt_cldata.proofs.RecordLaws.{bind_again}
use Rattle.apt_records.proofs.Lengths.{vertices_long}
use Rattle.apt_cldata.proofs.ByteLaws.{AreBytes}
use Rattle.apt_cldata.proofs.HeadLaws.{HeadBy, second_head, first_head, head_in_only, behind_count}
use Rattle.apt_cldata.proofs.PieceLaws.{framed_length, piece_again, piece_only, records_apart}

-- ---- records

pub some_bytes : (seq : ℕ) (r : Record) (rest : List ℕ) → length rest < length (record_bytes seq r ++ rest)
some_bytes seq r rest = omega (arith, length-append (record_bytes seq r) rest, framed_length (pos seq ∷ words_of r))

-- behind the first record, which ends the file or doesn't
next_again : (fuel seq at : ℕ) (r : Record) (rs : List Record) → (HasFiniLast rs → records_from fuel (seq + 1) at (records_bytes (seq + 1) rs) ≡ Ok rs)
    → (b : Bool) → is_fini r ≡ b → MatchBool b (rs ≡ []) (HasFiniLast rs)
    → cond (is_fini r) (last_of (piece r at (records_bytes (seq + 1) rs))) (records_from fuel (seq + 1) at (records_bytes (seq + 1) rs) >>= λ rs. Ok (r ∷ rs)) ≡ Ok (r ∷ rs)
next_again fuel seq at r rs more true is none =
    let empty : (length (records_bytes (seq + 1) rs) == 0) ≡ true = ap (λ rs. length (records_bytes (seq + 1) rs) == 0) none in
    ap (λ b. cond b (last_of (piece r at (records_bytes (seq + 1) rs))) (records_from fuel (seq + 1) at (records_bytes (seq + 1) rs) >>= λ rs. Ok (r ∷ rs))) is
    ∙ ap (λ b. cond b (Ok (r ∷ [])) (Err (fault at causes.AfterFini))) empty
    ∙ ap (λ rs. Ok (r ∷ rs)) (sym none)
next_again fuel seq at r rs more false is last =
    ap (λ b. cond b (last_of (piece r at (records_bytes (seq + 1) rs))) (records_from fuel (seq + 1) at (records_bytes (seq + 1) rs) >>= λ rs. Ok (r ∷ rs))) is
    ∙ bind_again (records_from fuel (seq + 1) at (records_bytes (seq + 1) rs)) (λ rs. Ok (r ∷ rs)) rs (Ok (r ∷ rs)) (more last) refl

records_again : (fuel seq at : ℕ) (rs : List Record) → AreRecords rs → HasFiniLast rs → AreShort rs → seq + length rs ≤ 2 ^ 63 → length (records_bytes seq rs) < fuel
    → records_from fuel seq at (records_bytes seq rs) ≡ Ok rs
unfolding records_from
records_again zero seq at rs are last short few enough = absurd (omega arith)
records_again (suc fuel) seq at [] are last short few enough = absurd last
records_again (suc fuel) seq at (r ∷ rs) are last short few enough =
    let rest = records_bytes (seq + 1) rs in
    let next = at + length (record_bytes seq r) in
    let more : HasFiniLast rs → records_from fuel (seq + 1) next rest ≡ Ok rs
    = λ last. records_again fuel (seq + 1) next rs are.1 last short.1 (omega arith) (omega (arith, some_bytes seq r rest)) in
    bind_again (first_of seq at (record_bytes seq r ++ rest)) _ (piece r next rest) (Ok (r ∷ rs)) (piece_again seq at r rest are.0 short.0 (omega arith)) (next_again fuel seq next r rs more (is_fini r) refl last)

-- ---- a file that was written is read

behind_again : (n : ℕ) (all : List ℕ) (o : Option ℕ) (rs : List Record) → IsFile rs → length (records_bytes 1 rs) < length all → counted o rs ≡ Ok rs
    → (records_from (length all) 1 n (records_bytes 1 rs) >>= λ rs. counted o rs) ≡ Ok rs
behind_again n all o rs is long same =
    bind_again (records_from (length all) 1 n (records_bytes 1 rs)) (λ rs. counted o rs) rs (Ok rs) (records_again (length all) 1 n rs is.ranges is.last is.short (omega (arith, is.numbers)) long) same

pub file_again : (rs : List Record) → IsFile rs → read_of (file_of rs) ≡ Ok rs
unfolding read_of
file_again rs is =
    let all = file_of rs in
    let rest = records_bytes 1 rs in
    let long : length rest < length all = omega (arith, length-append (head_of (length rs)) rest) in
    bind_again (head_in all) (λ h. records_from (length all) 1 h.at h.rest >>= λ rs. counted h.number rs) (head (Some (length rs)) 16 rest) (Ok rs) (second_head (length rs) rest (omega (arith, is.numbers)))
    (behind_again 16 all (Some (length rs)) rs is long (ap (λ t. cond t (Ok rs) (Err (fault 8 causes.Count))) (same (length rs))))
  where
    same : (n : ℕ) → (n == n) ≡ true
    same n = grind (arith, nat_tests)

pub first_file_again : (rs : List Record) → IsFile rs → read_of (first_file_of rs) ≡ Ok rs
unfolding read_of
first_file_again rs is =
    let all = first_file_of rs in
    let rest = records_bytes 1 rs in
    let long : length rest < length all = omega (arith, length-append (codes "APTCL 1\n") rest) in
    bind_again (head_in all) (λ h. records_from (length all) 1 h.at h.rest >>= λ rs. counted h.number rs) (head None 8 rest) (Ok rs) (first_head rest) (behind_again 8 all None rs is long refl)

-- a file of either version is read as its records
pub each_again : (bytes : List ℕ) (rs : List Record) → IsFile rs → IsFileOf rs bytes → read_of bytes ≡ Ok rs
each_again bytes rs is (inl second) = ap read_of second ∙ file_again rs is
each_again bytes rs is (inr first) = ap read_of first ∙ first_file_again rs is

pub file_apart : (rs : List Record) → IsFile rs → StandApart 1 rs (drop 16 (file_of rs))
file_apart rs is = subst (StandApart 1 rs) (sym (behind_count (length rs) (records_bytes 1 rs))) (records_apart 1 rs is.ranges is.short (omega (arith, is.numbers)))

-- ---- only a file that was written is read

record AreRead (seq : ℕ) (bytes : List ℕ) (rs : List Record) : Type 0 where
  written : bytes ≡ records_bytes seq rs
  ranges : AreRecords rs
  last : HasFiniLast rs
  short : AreShort rs
  few : seq + length rs ≤ 2 ^ 63

last_only : (p : Piece) (rs : List Record) → last_of p ≡ Ok rs → (p.rest ≡ []) × (p.said ∷ [] ≡ rs)
last_only p rs e =
    pick (length p.rest == 0) _ _ _ (λ none same. (nil_from_length p.rest (equal_test (length p.rest) 0 none), (cc))) (λ bad. absurd (cc)) e

records_only : (fuel seq at : ℕ) (bytes : List ℕ) (rs : List Record) → AreBytes bytes → records_from fuel seq at bytes ≡ Ok rs → AreRead seq bytes rs
unfolding records_from
records_only zero seq at bytes rs small e = absurd (cc)
records_only (suc fuel) seq at bytes rs small e =
    let a = bind_only (first_of seq at bytes) _ rs e in
    let p = a.0 in
    let h = piece_only seq at bytes p small a.1 in
    pick_both (is_fini p.said) _ _ _
    (λ fini e.
    let l = last_only p rs e in
    subst (AreRead seq bytes) l.1 (record {
      written = h.written ∙ ap (λ rest. record_bytes seq p.said ++ rest) l.0;
      ranges = (h.ranges, tt);
      last = subst (λ (b : Bool). MatchBool b (◌≡◌ {A = List Record} [] []) ⊥) (sym fini) refl;
      short = (h.short, tt);
      few = omega (arith, h.number);
    }))
    (λ more e.
    let b = bind_only (records_from fuel (seq + 1) p.at p.rest) _ rs e in
    let k = records_only fuel (seq + 1) p.at p.rest b.0 h.rest b.1 in
    let same : p.said ∷ b.0 ≡ rs = cc in
    subst (AreRead seq bytes) same (record {
      written = h.written ∙ ap (λ rest. record_bytes seq p.said ++ rest) k.written;
      ranges = (h.ranges, k.ranges);
      last = subst (λ x. MatchBool x (b.0 ≡ []) (HasFiniLast b.0)) (sym more) k.last;
      short = (h.short, k.short);
      few = omega (arith, k.few);
    }))
    a.2

counted_only : (o : Option ℕ) (rs ss : List Record) (bytes rest : List ℕ) → counted o rs ≡ Ok ss → HeadBy bytes rest o → rest ≡ records_bytes 1 rs → (rs ≡ ss) × IsFileOf ss bytes
counted_only None rs ss bytes rest e head is =
    let it : rs ≡ ss = cc in
    (it, inr (head ∙ ap (λ r. codes "APTCL 1\n" ++ r) is ∙ ap first_file_of it))
counted_only (Some n) rs ss bytes rest e head is =
    pick (n == length rs) _ _ _
    (λ many same.
    let it : rs ≡ ss = cc in
    (it, inl (head ∙ (λ i. head_of (equal_test n (length rs) many i) ++ is i) ∙ ap file_of it)))
    (λ bad. absurd (cc))
    e

-- a file that is read is that of its records, in one of the versions
pub read_only : (bytes : List ℕ) (rs : List Record) → AreBytes bytes → read_of bytes ≡ Ok rs → IsFileOf rs bytes × IsFile rs
unfolding read_of
read_only bytes rs small e =
    let a = bind_only (head_in bytes) _ rs e in
    let h = head_in_only bytes a.0 small a.1 in
    let b = bind_only (records_from (length bytes) 1 a.0.at a.0.rest) _ rs a.2 in
    let k = records_only (length bytes) 1 a.0.at a.0.rest b.0 h.small b.1 in
    let c = counted_only a.0.number b.0 rs bytes a.0.rest b.2 h.written k.written in
    (c.1, subst IsFile c.0 (record { ranges = k.ranges; last = k.last; short = k.short; numbers = omega (arith, k.few) }))

pub read_gives_bytes : (bytes : List ℕ) (rs : List Record) → ((i : ℕ) → get_or bytes i 0 < 256) → read_of bytes ≡ Ok rs → IsFileOf rs bytes
read_gives_bytes bytes rs small is = (read_only bytes rs (record { small = small }) is).0

pub read_gives_file : (bytes : List ℕ) (rs : List Record) → ((i : ℕ) → get_or bytes i 0 < 256) → read_of bytes ≡ Ok rs → IsFile rs
read_gives_file bytes rs small is = (read_only bytes rs (record { small = small }) is).1

-- ---- how much a file holds

records_long : (seq : ℕ) (rs : List Record) → vertex_count rs + length rs ≤ length (records_bytes seq rs)
records_long seq [] = omega arith
records_long seq (r ∷ rs) =
    omega (arith, length-append (record_bytes seq r) (records_bytes (seq + 1) rs), framed_length (pos seq ∷ words_of r), vertices_long r, records_long (seq + 1) rs)

-- there are fewer records and vertices than bytes
pub file_long : (rs : List Record) → vertex_count rs + length rs ≤ length (file_of rs)
file_long rs = omega (arith, length-append (head_of (length rs)) (records_bytes 1 rs), records_long 1 rs)

first_file_long : (rs : List Record) → vertex_count rs + length rs ≤ length (first_file_of rs)
first_file_long rs = omega (arith, length-append (codes "APTCL 1\n") (records_bytes 1 rs), records_long 1 rs)

pub read_gives_few : (bytes : List ℕ) (rs : List Record) → ((i : ℕ) → get_or bytes i 0 < 256) → read_of bytes ≡ Ok rs → vertex_count rs + length rs ≤ length bytes
read_gives_few bytes rs small is = elim (read_gives_bytes bytes rs small is) [
  | inl second ↦ subst (λ b. vertex_count rs + length rs ≤ length b) (sym second) (file_long rs)
  | inr first ↦ subst (λ b. vertex_count rs + length rs ≤ length b) (sym first) (first_file_long rs)
]
