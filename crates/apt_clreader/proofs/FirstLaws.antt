-- The first record of some bytes is read in the same way whatever comes behind them, unless they end within it.
use Rattle.std.proofs.Common.{◌≡◌, ℕ, zero, suc, ◌+◌, ◌-◌, ◌*◌, ◌/◌, ◌≤◌, ◌<◌, ◌⊎◌, inl, inr, ℤ, pos, Bool, true, false, cond, nat_lt, List, [], ◌∷◌, ◌++◌, length, get_or, take, drop, Result, Ok, Err, IfOk, MatchBool, refl, ap, sym, ◌∙◌, subst, arith}
use Rattle.std.specs.Int.{w32, w64, from_be_bytes, cast_signed}
use Rattle.std.specs.Ordering.{int_eq}
use Rattle.std.proofs.lemmas.Bool.Decides.{nat_tests}
use Rattle.std.proofs.lemmas.List.{take-append-le, drop-append-le, drop-drop, length-drop, length-append}
use Rattle.apt_words.specs.Answers.{IsFault, IsDueAs}
use Rattle.apt_cldata.specs.declared.error.ClCause.{ClCause}
use Rattle.apt_cldata.specs.declared.error.ClCause.TheVariants as causes
use Rattle.apt_cldata.specs.declared.error.ClError.{ClError}
use Rattle.apt_cldata.specs.declared.error.ClError.TheVariants as errors
use Rattle.apt_records.specs.declared.record.Record.{Record}
use Rattle.apt_cldata.specs.Fields.{◌>>=◌}
use Rattle.apt_records.specs.Words.{words_of}
use Rattle.apt_cldata.specs.Records.{record_of}
use Rattle.apt_cldata.specs.Files.{record_bytes}
use Rattle.apt_cldata.specs.Reading.{fault, fault_in, cut_short, length_in, word_in, words_in, is_length, length_of, located, record_in, said_by, Piece, piece, first_of}
use Rattle.apt_records.proofs.Lengths.{vertices_long}
use Rattle.apt_cldata.proofs.PieceLaws.{IsPiece, piece_only, framed_length}
use Rattle.apt_clreader.specs.Begun.{Fault, is_truncation, is_truncated, place_of, tells_end, place_in}
use Rattle.apt_clreader.specs.Steps.{IsFirst, IsNext}

-- ---- words

length_in_more : (bytes more : List ℕ) → 4 ≤ length bytes → length_in (bytes ++ more) ≡ length_in bytes
unfolding length_in
length_in_more bytes more long = ap (from_be_bytes w32) (take-append-le 4 bytes more long)

word_more : (k : ℕ) (bytes more : List ℕ) → k + 8 ≤ length bytes → word_in (drop k (bytes ++ more)) ≡ word_in (drop k bytes)
unfolding word_in
word_more k bytes more long =
    ap (λ b. cast_signed w64 (from_be_bytes w64 (take 8 b))) (drop-append-le k bytes more (omega arith))
    ∙ ap (λ b. cast_signed w64 (from_be_bytes w64 b)) (take-append-le 8 (drop k bytes) more (omega (arith, length-drop k bytes)))

words_more : (c k : ℕ) (bytes more : List ℕ) → k + 8 * c ≤ length bytes → words_in c (drop k (bytes ++ more)) ≡ words_in c (drop k bytes)
words_more zero k bytes more long = refl
words_more (suc c) k bytes more long =
    let behind = ap (words_in c) (drop-drop 8 k (bytes ++ more)) ∙ words_more c (k + 8) bytes more (omega arith) ∙ ap (words_in c) (sym (drop-drop 8 k bytes)) in
    λ i. word_more k bytes more (omega arith) i ∷ behind i

record_more : (n : ℕ) (bytes more : List ℕ) → 24 ≤ n → 4 + n ≤ length bytes → record_in n (bytes ++ more) ≡ record_in n bytes
unfolding record_in
record_more n bytes more least there =
    λ i. record_of (word_more 12 bytes more (omega arith) i) (word_more 20 bytes more (omega arith) i) (words_more (n / 8 - 3) 28 bytes more (omega arith) i)

said_more : (seq : ℤ) (at n : ℕ) (bytes more : List ℕ) → 24 ≤ n → 4 + n ≤ length bytes → said_by seq at n (bytes ++ more) ≡ said_by seq at n bytes
unfolding said_by
said_more seq at n bytes more least there =
    λ i. cond (int_eq (word_more 4 bytes more (omega arith) i) seq) (located at (record_more n bytes more least there i)) (Err (fault (at + 4) causes.Seq))

-- ---- lengths

-- a length is read in the same way whatever comes behind
record IsKnown (at : ℕ) (bytes more : List ℕ) : Type 0 where
  same : length_of at (bytes ++ more) ≡ length_of at bytes
  least : IfOk (length_of at bytes) (λ n. 24 ≤ n)
  there : IfOk (length_of at bytes) (λ n. 4 + n ≤ length bytes)

not_less_only : (a b : ℕ) → nat_lt a b ≡ false → b ≤ a
not_less_only a b h = grind (arith, nat_tests)

not_less_more : (a : ℕ) (bytes more : List ℕ) → nat_lt (length bytes) a ≡ false → nat_lt (length (bytes ++ more)) a ≡ false
not_less_more a bytes more h = let e = length-append bytes more in let low = not_less_only (length bytes) a h in not_less (length (bytes ++ more)) a (omega arith)
  where
    not_less : (a b : ℕ) → b ≤ a → nat_lt a b ≡ false
    not_less a b h = grind (arith, nat_tests)

least_length : (n : ℕ) → is_length n ≡ true → 24 ≤ n
least_length n h = grind (arith, nat_tests)

length_known : (at : ℕ) (bytes more : List ℕ) → (length_of at bytes ≡ Err (cut_short at bytes)) ⊎ IsKnown at bytes more
unfolding length_of
length_known at bytes more = by_tests (nat_lt (length bytes) 4) (is_length (length_in bytes)) (nat_lt (length bytes) (4 + length_in bytes)) refl refl refl
  where
    by_tests : (a b c : Bool) → nat_lt (length bytes) 4 ≡ a → is_length (length_in bytes) ≡ b → nat_lt (length bytes) (4 + length_in bytes) ≡ c → (length_of at bytes ≡ Err (cut_short at bytes)) ⊎ IsKnown at bytes more
    by_tests true b c p q r = inl (rw p refl)
    by_tests false true true p q r = inl (rw (p, q, r) refl)
    by_tests false false c p q r =
        let e = length_in_more bytes more (not_less_only (length bytes) 4 p) in
        inr (record {
          same = rw (not_less_more 4 bytes more p, e, p, q) refl;
          least = rw (p, q) tt;
          there = rw (p, q) tt;
        })
    by_tests false true false p q r =
        let e = length_in_more bytes more (not_less_only (length bytes) 4 p) in
        inr (record {
          same = rw (not_less_more 4 bytes more p, e, p, q, r, not_less_more (4 + length_in bytes) bytes more r) refl;
          least = rw (p, q, r) (least_length (length_in bytes) q);
          there = rw (p, q, r) (not_less_only (length bytes) (4 + length_in bytes) r);
        })

-- ---- records

-- more bytes behind a piece
abbrev pub with_more : List ℕ → Result Piece Fault → Result Piece Fault
with_more more (Ok p) = Ok (piece p.said p.at (p.rest ++ more))
with_more more (Err f) = Err f

abbrev after_said : ℕ → ℕ → List ℕ → Result Record Fault → Result Piece Fault
after_said at n bytes said = said >>= λ r. Ok (piece r (at + (4 + n)) (drop (4 + n) bytes))

abbrev after_length : ℕ → ℕ → List ℕ → Result ℕ Fault → Result Piece Fault
after_length seq at bytes l = l >>= λ n. after_said at n bytes (said_by (pos seq) at n bytes)

said_settled : (at n : ℕ) (bytes more : List ℕ) (said : Result Record Fault) → 4 + n ≤ length bytes → after_said at n (bytes ++ more) said ≡ with_more more (after_said at n bytes said)
said_settled at n bytes more (Ok r) there = ap (λ rest. Ok (piece r (at + (4 + n)) rest)) (drop-append-le (4 + n) bytes more there)
said_settled at n bytes more (Err f) there = refl

length_settled : (seq at : ℕ) (bytes more : List ℕ) (l : Result ℕ Fault) → IfOk l (λ n. 24 ≤ n) → IfOk l (λ n. 4 + n ≤ length bytes) → after_length seq at (bytes ++ more) l ≡ with_more more (after_length seq at bytes l)
length_settled seq at bytes more (Ok n) least there =
    ap (after_said at n (bytes ++ more)) (said_more (pos seq) at n bytes more least there) ∙ said_settled at n bytes more (said_by (pos seq) at n bytes) there
length_settled seq at bytes more (Err f) least there = refl

-- the bytes end within the first record, or it is read in the same way whatever comes behind
first_settled : (seq at : ℕ) (bytes more : List ℕ) → (first_of seq at bytes ≡ Err (cut_short at bytes)) ⊎ (first_of seq at (bytes ++ more) ≡ with_more more (first_of seq at bytes))
unfolding first_of
first_settled seq at bytes more = elim (length_known at bytes more) [
  | inl cut ↦ inl (ap (after_length seq at bytes) cut)
  | inr k ↦ inr (ap (after_length seq at (bytes ++ more)) k.same ∙ length_settled seq at bytes more (length_of at bytes) k.least k.there)
]

pub first_of_more : (seq at : ℕ) (bytes more : List ℕ) (p : Piece) → first_of seq at bytes ≡ Ok p → first_of seq at (bytes ++ more) ≡ Ok (piece p.said p.at (p.rest ++ more))
first_of_more seq at bytes more p is = elim (first_settled seq at bytes more) [
  | inl cut ↦ absurd (let e : Ok p ≡ Err (cut_short at bytes) = sym is ∙ cut in cc)
  | inr s ↦ s ∙ ap (with_more more) is
]

pub fault_of_more : (seq at : ℕ) (bytes more : List ℕ) (f : Fault) → first_of seq at bytes ≡ Err f → is_truncated (first_of seq at bytes) ≡ false → first_of seq at (bytes ++ more) ≡ Err f
fault_of_more seq at bytes more f is whole = elim (first_settled seq at bytes more) [
  | inl cut ↦ absurd (let e : true ≡ false = ap is_truncated (sym cut) ∙ whole in cc)
  | inr s ↦ s ∙ ap (with_more more) is
]

-- what is told of the first record of some bytes, of those with more behind them
next_ends : (seq at : ℕ) (bytes : List ℕ) (e : ClError) → IsFault fault_in (first_of seq at bytes) e → tells_end e ≡ true → is_truncated (first_of seq at bytes) ≡ true
next_ends seq at bytes errors.NoMemory is ends = absurd (cc)
next_ends seq at bytes (errors.Bad place cause) is ends = ap is_truncated is ∙ ends

next_place : (seq at : ℕ) (bytes : List ℕ) (e : ClError) → IsFault fault_in (first_of seq at bytes) e → tells_end e ≡ true → place_of (first_of seq at bytes) ≡ place_in e
next_place seq at bytes errors.NoMemory is ends = absurd (cc)
next_place seq at bytes (errors.Bad place cause) is ends = ap place_of is

next_fails : (seq at : ℕ) (bytes : List ℕ) (e : ClError) → IsFault fault_in (first_of seq at bytes) e → tells_end e ≡ false → (more : List ℕ) → IsFault fault_in (first_of seq at (bytes ++ more)) e
next_fails seq at bytes errors.NoMemory is goes = λ more. tt
next_fails seq at bytes (errors.Bad place cause) is goes = λ more. fault_of_more seq at bytes more (fault place cause) is (ap is_truncated is ∙ goes)

-- ---- how long a record is

said_shorter : (at n : ℕ) (bytes : List ℕ) (said : Result Record Fault) (p : Piece) → 4 + n ≤ length bytes → after_said at n bytes said ≡ Ok p → length p.rest < length bytes
said_shorter at n bytes (Ok r) p there is =
    let e : drop (4 + n) bytes ≡ p.rest = cc in
    omega (arith, ap length e, length-drop (4 + n) bytes)
said_shorter at n bytes (Err f) p there is = absurd (cc)

length_shorter : (seq at : ℕ) (bytes : List ℕ) (l : Result ℕ Fault) (p : Piece) → IfOk l (λ n. 4 + n ≤ length bytes) → after_length seq at bytes l ≡ Ok p → length p.rest < length bytes
length_shorter seq at bytes (Ok n) p there is = said_shorter at n bytes (said_by (pos seq) at n bytes) p there is
length_shorter seq at bytes (Err f) p there is = absurd (cc)

pub first_shorter : (seq at : ℕ) (bytes : List ℕ) (p : Piece) → first_of seq at bytes ≡ Ok p → length p.rest < length bytes
unfolding first_of
first_shorter seq at bytes p is = elim (length_known at bytes []) [
  | inl cut ↦ absurd (let e : Err (cut_short at bytes) ≡ Ok p = sym (ap (after_length seq at bytes) cut) ∙ is in cc)
  | inr k ↦ length_shorter seq at bytes (length_of at bytes) p k.there is
]

pub first_is : (seq at : ℕ) (bytes : List ℕ) (r : Record) (size : ℕ) → ((i : ℕ) → get_or bytes i 0 < 256) → size ≤ length bytes → first_of seq at bytes ≡ Ok (piece r (at + size) (drop size bytes)) → IsFirst seq at bytes r size
first_is seq at bytes r size small there is =
    let h : IsPiece seq at bytes (piece r (at + size) (drop size bytes)) = piece_only seq at bytes (piece r (at + size) (drop size bytes)) (record { small = small }) is in
    record {
      read = λ more. first_of_more seq at bytes more (piece r (at + size) (drop size bytes)) is;
      ranges = h.ranges;
      long = omega (arith, ap length h.written, length-append (record_bytes seq r) (drop size bytes), length-drop size bytes, framed_length (pos seq ∷ words_of r), vertices_long r);
      there = there;
    }

-- what is answered of the first record is so whatever comes behind, unless the bytes end within it
pub next_is : (seq at : ℕ) (bytes : List ℕ) (result : Result (Record × ℕ) ClError) → ((i : ℕ) → get_or bytes i 0 < 256)
    → IsDueAs (λ p. piece p.0 (at + p.1) (drop p.1 bytes)) fault_in (first_of seq at bytes) result → IfOk result (λ p. p.1 ≤ length bytes) → IsNext seq at bytes result
next_is seq at bytes (Ok p) small is there = first_is seq at bytes p.0 p.1 small there is
next_is seq at bytes (Err e) small is there = by_end (tells_end e) refl
  where
    by_end : (b : Bool) → tells_end e ≡ b → MatchBool b ((is_truncated (first_of seq at bytes) ≡ true) × (place_of (first_of seq at bytes) ≡ place_in e)) ((more : List ℕ) → IsFault fault_in (first_of seq at (bytes ++ more)) e)
    by_end true ends = (next_ends seq at bytes e is ends, next_place seq at bytes e is ends)
    by_end false goes = next_fails seq at bytes e is goes

pub next_goes : (seq at : ℕ) (bytes : List ℕ) (e : ClError) → IsNext seq at bytes (Err e) → tells_end e ≡ false → (more : List ℕ) → IsFault fault_in (first_of seq at (bytes ++ more)) e
next_goes seq at bytes e is goes = subst (λ b. MatchBool b ((is_truncated (first_of seq at bytes) ≡ true) × (place_of (first_of seq at bytes) ≡ place_in e)) ((more : List ℕ) → IsFault fault_in (first_of seq at (bytes ++ more)) e)) goes is

pub next_cut : (seq at : ℕ) (bytes : List ℕ) (e : ClError) → IsNext seq at bytes (Err e) → tells_end e ≡ true → (is_truncated (first_of seq at bytes) ≡ true) × (place_of (first_of seq at bytes) ≡ place_in e)
next_cut seq at bytes e is ends = subst (λ b. MatchBool b ((is_truncated (first_of seq at bytes) ≡ true) × (place_of (first_of seq at bytes) ≡ place_in e)) ((more : List ℕ) → IsFault fault_in (first_of seq at (bytes ++ more)) e)) ends is

-- what is truncated at a place is told as such
pub cut_is_fault : (r : Result Piece Fault) (end : ℕ) → is_truncated r ≡ true → place_of r ≡ end → IsFault fault_in r (errors.Bad end causes.Truncated)
cut_is_fault (Ok p) end is place = absurd (cc)
cut_is_fault (Err f) end is place = by_cause f.cause refl
  where
    by_cause : (cause : ClCause) → f.cause ≡ cause → ◌≡◌ {A = Result Piece Fault} (Err f) (Err (fault end causes.Truncated))
    by_cause causes.Truncated e = λ i. Err (record { at = place i; cause = e i })
    by_cause causes.Header e = absurd (let h : false ≡ true = sym (ap is_truncation e) ∙ is in cc)
    by_cause causes.Length e = absurd (let h : false ≡ true = sym (ap is_truncation e) ∙ is in cc)
    by_cause causes.Seq e = absurd (let h : false ≡ true = sym (ap is_truncation e) ∙ is in cc)
    by_cause causes.Class e = absurd (let h : false ≡ true = sym (ap is_truncation e) ∙ is in cc)
    by_cause causes.Range e = absurd (let h : false ≡ true = sym (ap is_truncation e) ∙ is in cc)
    by_cause causes.AfterFini e = absurd (let h : false ≡ true = sym (ap is_truncation e) ∙ is in cc)
    by_cause causes.Count e = absurd (let h : false ≡ true = sym (ap is_truncation e) ∙ is in cc)
