-- The first record of some bytes is read as what was written, and only as that.
use Rattle.std.proofs.Common.{◌≡◌, ℕ, suc, ◌+◌, ◌-◌, ◌*◌, ◌/◌, ◌%◌, ◌^◌, ◌≤◌, ◌<◌, ℤ, pos, List, [], ◌∷◌, ◌++◌, length, take, drop, nat_lt, nat_le, ◌==◌, not, ◌&&◌, Bool, true, false, cond, Result, Ok, Err, refl, ap, sym, ◌∙◌, subst, arith, append_assoc, take-append-drop}
use Rattle.std.specs.Prelude.{FitsSigned}
use Rattle.std.specs.List.{flat_map}
use Rattle.std.specs.Int.{w64}
use Rattle.std.specs.Ordering.{int_eq}
use Rattle.std.proofs.Math.Seq.{take-add}
use Rattle.std.proofs.lemmas.Bool.Decides.{nat_tests}
use Rattle.std.proofs.lemmas.List.{drop_at, drop-drop, length-drop, length-append}
use Rattle.apt_cldata.specs.declared.error.ClCause.TheVariants as causes
use Rattle.apt_cldata.specs.declared.fields.Misfit.{Misfit}
use Rattle.apt_records.specs.declared.record.Record.{Record}
use Rattle.apt_records.specs.Ranges.{IsRecord, AreRecords}
use Rattle.apt_records.specs.Words.{words_of}
use Rattle.apt_cldata.specs.Records.{record_of}
use Rattle.apt_records.specs.Lists.{most_bytes, IsShort, AreShort}
use Rattle.apt_cldata.specs.Files.{length_bytes, word_bytes, framed, record_bytes, records_bytes, StandApart}
use Rattle.apt_cldata.specs.Reading.{fault, length_in, word_in, words_in, is_length, length_of, located, record_in, said_by, Piece, piece, first_of}
use Rattle.apt_cldata.proofs.FieldLaws.{bind_only, equal_test, less_test, equal_only, equal_again, pick, pick_both}
use Rattle.apt_cldata.proofs.RecordLaws.{bind_again, SaidBy, record_again}
use Rattle.apt_cldata.proofs.RecordOnly.{record_only}
use Rattle.apt_cldata.proofs.ByteLaws.{AreBytes, AllFit, bytes_behind, word_fits, length_again, length_only, length_length, words_again, words_only, words_length, words_count}
use Rattle.apt_cldata.proofs.WordsFit.{words_fit}
use Rattle.apt_words.proofs.Bools.{both}

-- ---- lengths

length_tests : (n : ℕ) → n % 8 ≡ 0 → 24 ≤ n → n ≤ most_bytes → is_length n ≡ true
length_tests n whole low high = grind (arith, nat_tests)

not_less : (a b : ℕ) → b ≤ a → nat_lt a b ≡ false
not_less a b h = grind (arith, nat_tests)

not_less_only : (a b : ℕ) → nat_lt a b ≡ false → b ≤ a
not_less_only a b h = grind (arith, nat_tests)

length_of_again : (at : ℕ) (bytes : List ℕ) (n : ℕ) → length_in bytes ≡ n → 4 + n ≤ length bytes → n % 8 ≡ 0 → 24 ≤ n → n ≤ most_bytes → length_of at bytes ≡ Ok n
unfolding length_of
length_of_again at bytes n is there whole low high =
    rw (is, not_less (length bytes) 4 (omega arith), length_tests n whole low high, not_less (length bytes) (4 + n) there)

pub record IsLengthOf (bytes : List ℕ) (n : ℕ) : Type 0 where
  pub is : length_in bytes ≡ n
  pub there : 4 + n ≤ length bytes
  pub whole : n % 8 ≡ 0
  pub low : 24 ≤ n
  pub high : n ≤ most_bytes

length_tests_only : (n : ℕ) → is_length n ≡ true → (n % 8 ≡ 0) × (24 ≤ n) × (n ≤ most_bytes)
length_tests_only n h =
    let a = both (n % 8 == 0 && nat_le 24 n) (nat_le n most_bytes) h in
    let b = both (n % 8 == 0) (nat_le 24 n) a.0 in
    (equal_test (n % 8) 0 b.0, less_test 24 n b.1, less_test n most_bytes a.1)

not_false_only : (b : Bool) → not b ≡ false → b ≡ true
not_false_only true h = refl
not_false_only false h = sym h

length_of_only : (at : ℕ) (bytes : List ℕ) (n : ℕ) → length_of at bytes ≡ Ok n → IsLengthOf bytes n
unfolding length_of
length_of_only at bytes n e =
    pick (nat_lt (length bytes) 4) _ _ _ (λ short bad. absurd (cc))
    (pick_both (not (is_length (length_in bytes))) _ _ _ (λ wrong bad. absurd (cc))
    (λ right. pick_both (nat_lt (length bytes) (4 + length_in bytes)) _ _ _ (λ short bad. absurd (cc))
    (λ there same.
    let is : length_in bytes ≡ n = cc in
    let tests = length_tests_only (length_in bytes) (not_false_only (is_length (length_in bytes)) right) in
    subst (λ n. IsLengthOf bytes n) is (record { is = refl; there = not_less_only (length bytes) (4 + length_in bytes) there; whole = tests.0; low = tests.1; high = tests.2 }))))
    e

-- ---- what was written is read

-- the first three words, and the words behind them
three_first : (k : ℕ) (bytes : List ℕ) (a b c : ℤ) (ws : List ℤ) → words_in (suc (suc (suc k))) bytes ≡ a ∷ b ∷ c ∷ ws
    → (word_in bytes ≡ a) × (word_in (drop 8 bytes) ≡ b) × (word_in (drop 16 bytes) ≡ c) × (words_in k (drop 24 bytes) ≡ ws)
three_first k bytes a b c ws e =
    let p : drop 8 (drop 8 bytes) ≡ drop 16 bytes = drop-drop 8 8 bytes in
    let q : drop 8 (drop 16 bytes) ≡ drop 24 bytes = drop-drop 8 16 bytes in
    let f : word_in bytes ∷ word_in (drop 8 bytes) ∷ word_in (drop 16 bytes) ∷ words_in k (drop 24 bytes) ≡ a ∷ b ∷ c ∷ ws
    = (λ i. word_in bytes ∷ word_in (drop 8 bytes) ∷ word_in (sym p i) ∷ words_in k (sym q i)) ∙ (λ i. word_in bytes ∷ word_in (drop 8 bytes) ∷ word_in (drop 8 (drop 8 bytes)) ∷ words_in k (drop 8 (sym p i))) ∙ e in
    (cc, cc, cc, cc)

-- the words of a record that stands in front, and what they say
said_again : (seq at : ℕ) (class sub : ℤ) (ws : List ℤ) (r : Record) (bytes : List ℕ) (n : ℕ) → words_in (suc (suc (suc (length ws)))) (drop 4 bytes) ≡ pos seq ∷ class ∷ sub ∷ ws → n / 8 - 3 ≡ length ws
    → record_of class sub ws ≡ Ok r → said_by (pos seq) at n bytes ≡ Ok r
unfolding said_by record_in
said_again seq at class sub ws r bytes n e count said =
    let h = three_first (length ws) (drop 4 bytes) (pos seq) class sub ws e in
    let c : word_in (drop 12 bytes) ≡ class = ap word_in (sym (drop-drop 8 4 bytes)) ∙ h.1 in
    let s : word_in (drop 20 bytes) ≡ sub = ap word_in (sym (drop-drop 16 4 bytes)) ∙ h.2 in
    let w : words_in (n / 8 - 3) (drop 28 bytes) ≡ ws = ap (λ k. words_in k (drop 28 bytes)) count ∙ ap (words_in (length ws)) (sym (drop-drop 24 4 bytes)) ∙ h.3 in
    let same : record_of (word_in (drop 12 bytes)) (word_in (drop 20 bytes)) (words_in (n / 8 - 3) (drop 28 bytes)) ≡ Ok r = (λ i. record_of (c i) (s i) (w i)) ∙ said in
    let due : int_eq (word_in (drop 4 bytes)) (pos seq) ≡ true = ap (λ v. int_eq v (pos seq)) h.0 ∙ equal_again (pos seq) in
    ap (λ b. cond b (located at (record_of (word_in (drop 12 bytes)) (word_in (drop 20 bytes)) (words_in (n / 8 - 3) (drop 28 bytes)))) (Err (fault (at + 4) causes.Seq))) due
    ∙ ap (located at) same

-- words behind their length, and the bytes behind them
record FramedAt (ws : List ℤ) (rest : List ℕ) : Type 0 where
  stands : length_in (framed ws ++ rest) ≡ 8 * length ws
  body : drop 4 (framed ws ++ rest) ≡ flat_map word_bytes ws ++ rest
  behind : drop (4 + 8 * length ws) (framed ws ++ rest) ≡ rest
  long : length (framed ws ++ rest) ≡ 4 + 8 * length ws + length rest

pub framed_length : (ws : List ℤ) → length (framed ws) ≡ 4 + 8 * length ws
framed_length ws = omega (arith, length-append (length_bytes (8 * length ws)) (flat_map word_bytes ws), length_length (8 * length ws), words_length ws)

framed_at : (ws : List ℤ) (rest : List ℕ) → 8 * length ws ≤ most_bytes → FramedAt ws rest
framed_at ws rest short =
    let n = 8 * length ws in
    let e = append_assoc (length_bytes n) (flat_map word_bytes ws) rest in
    record {
      stands = ap length_in e ∙ length_again n (flat_map word_bytes ws ++ rest) (omega arith);
      body = ap (drop 4) e ∙ drop_at (length_bytes n) (flat_map word_bytes ws ++ rest) 4 (length_length n);
      behind = drop_at (framed ws) rest (4 + n) (framed_length ws);
      long = length-append (framed ws) rest ∙ ap (λ k. k + length rest) (framed_length ws);
    }

framed_again : (seq at : ℕ) (ws : List ℤ) (r : Record) (rest : List ℕ) → SaidBy ws r → AllFit ws → 8 * (1 + length ws) ≤ most_bytes → seq < 2 ^ 63
    → first_of seq at (framed (pos seq ∷ ws) ++ rest) ≡ Ok (piece r (at + length (framed (pos seq ∷ ws))) rest)
unfolding first_of
framed_again seq at [] r rest said fit short few = absurd said
framed_again seq at (class ∷ []) r rest said fit short few = absurd said
framed_again seq at (class ∷ sub ∷ ws) r rest said fit short few =
    let all = pos seq ∷ class ∷ sub ∷ ws in
    let n = 8 * length all in
    let bytes = framed all ++ rest in
    let short : 8 * length all ≤ most_bytes = omega arith in
    let f = framed_at all rest short in
    let fits : AllFit all = (record { sfits = few }, fit) in
    let words : words_in (length all) (drop 4 bytes) ≡ all = ap (words_in (length all)) f.body ∙ words_again all rest fits in
    let length_is : length_of at bytes ≡ Ok n = length_of_again at bytes n f.stands (omega (arith, f.long)) (omega arith) (omega arith) short in
    let said_is : said_by (pos seq) at n bytes ≡ Ok r = said_again seq at class sub ws r bytes n words (omega arith) said in
    let place : at + (4 + n) ≡ at + length (framed all) = ap (λ k. at + k) (sym (framed_length all)) in
    bind_again (length_of at bytes) _ n _ length_is
    (bind_again (said_by (pos seq) at n bytes) _ r _ said_is (λ i. Ok (piece r (place i) (f.behind i))))

pub piece_again : (seq at : ℕ) (r : Record) (rest : List ℕ) → IsRecord r → IsShort r → seq < 2 ^ 63
    → first_of seq at (record_bytes seq r ++ rest) ≡ Ok (piece r (at + length (record_bytes seq r)) rest)
piece_again seq at r rest is short few = framed_again seq at (words_of r) r rest (record_again r is) (words_fit r is) short few

-- ---- only what was written is read

-- what is known of the first record of some bytes
pub record IsPiece (seq at : ℕ) (bytes : List ℕ) (p : Piece) : Type 0 where
  pub written : bytes ≡ record_bytes seq p.said ++ p.rest
  pub ranges : IsRecord p.said
  pub short : IsShort p.said
  pub number : seq < 2 ^ 63
  pub rest : AreBytes p.rest
  pub less : length p.rest < length bytes

said_only : (seq at n : ℕ) (bytes : List ℕ) (r : Record) → said_by (pos seq) at n bytes ≡ Ok r
    → (word_in (drop 4 bytes) ≡ pos seq) × (record_of (word_in (drop 12 bytes)) (word_in (drop 20 bytes)) (words_in (n / 8 - 3) (drop 28 bytes)) ≡ Ok r)
unfolding said_by record_in
said_only seq at n bytes r e =
    pick (int_eq (word_in (drop 4 bytes)) (pos seq)) _ _ _
    (λ is same. (equal_only (word_in (drop 4 bytes)) (pos seq) is, located_only at (record_of (word_in (drop 12 bytes)) (word_in (drop 20 bytes)) (words_in (n / 8 - 3) (drop 28 bytes))) r same))
    (λ bad. absurd (cc))
    e
  where
    located_only : (at : ℕ) (read : Result Record Misfit) (r : Record) → located at read ≡ Ok r → read ≡ Ok r
    located_only at (Ok s) r e = let same : s ≡ r = cc in ap Ok same
    located_only at (Err m) r e = absurd (cc)

-- the words of the record that is read are those that stand there
words_are : (k : ℕ) (bytes : List ℕ) → words_in (suc (suc (suc k))) bytes ≡ word_in bytes ∷ word_in (drop 8 bytes) ∷ word_in (drop 16 bytes) ∷ words_in k (drop 24 bytes)
words_are k bytes =
    let p : drop 8 (drop 8 bytes) ≡ drop 16 bytes = drop-drop 8 8 bytes in
    let q : drop 8 (drop 16 bytes) ≡ drop 24 bytes = drop-drop 8 16 bytes in
    (λ i. word_in bytes ∷ word_in (drop 8 bytes) ∷ word_in (drop 8 (drop 8 bytes)) ∷ words_in k (drop 8 (p i)))
    ∙ (λ i. word_in bytes ∷ word_in (drop 8 bytes) ∷ word_in (p i) ∷ words_in k (q i))

framed_only : (n k : ℕ) (bytes : List ℕ) (ws : List ℤ) → IsLengthOf bytes n → AreBytes bytes → 8 * k ≡ n → ws ≡ words_in k (drop 4 bytes) → framed ws ≡ take (4 + n) bytes
framed_only n k bytes ws h small count is =
    let long : length ws ≡ k = ap length is ∙ words_count k (drop 4 bytes) in
    let size : 8 * length ws ≡ length_in bytes = ap (λ k. 8 * k) long ∙ count ∙ sym h.is in
    let front : length_bytes (8 * length ws) ≡ take 4 bytes = ap length_bytes size ∙ length_only bytes (omega (arith, h.there)) small in
    let body : flat_map word_bytes ws ≡ take n (drop 4 bytes)
    = ap (flat_map word_bytes) is ∙ words_only k (drop 4 bytes) (omega (arith, length-drop 4 bytes, h.there)) (bytes_behind 4 bytes small) ∙ ap (λ m. take m (drop 4 bytes)) count in
    (λ i. front i ++ body i) ∙ sym (take-add 4 n bytes)

pub piece_only : (seq at : ℕ) (bytes : List ℕ) (p : Piece) → AreBytes bytes → first_of seq at bytes ≡ Ok p → IsPiece seq at bytes p
unfolding first_of
piece_only seq at bytes p small e =
    let a = bind_only (length_of at bytes) _ p e in
    let n = a.0 in
    let b = bind_only (said_by (pos seq) at n bytes) _ p a.2 in
    let r = b.0 in
    let h = length_of_only at bytes n a.1 in
    let s = said_only seq at n bytes r b.1 in
    let k = n / 8 - 3 in
    let count : 8 * suc (suc (suc k)) ≡ n = omega (arith, h.whole, h.low) in
    let said = record_only (word_in (drop 12 bytes)) (word_in (drop 20 bytes)) (words_in k (drop 28 bytes)) r s.1 in
    let ws = pos seq ∷ words_of r in
    let words : ws ≡ words_in (suc (suc (suc k))) (drop 4 bytes)
    = (λ i. sym s.0 i ∷ said.0 i)
    ∙ (λ i. word_in (drop 4 bytes) ∷ word_in (sym (drop-drop 8 4 bytes) i) ∷ word_in (sym (drop-drop 16 4 bytes) i) ∷ words_in k (sym (drop-drop 24 4 bytes) i))
    ∙ sym (words_are k (drop 4 bytes)) in
    let frame : framed ws ≡ take (4 + n) bytes = framed_only n (suc (suc (suc k))) bytes ws h small count words in
    let long : length ws ≡ suc (suc (suc k)) = ap length words ∙ words_count (suc (suc (suc k))) (drop 4 bytes) in
    let fit : FitsSigned w64 (pos seq) = subst (FitsSigned w64) s.0 (word_fits (drop 4 bytes) (bytes_behind 4 bytes small)) in
    let same : piece r (at + (4 + n)) (drop (4 + n) bytes) ≡ p = cc in
    subst (IsPiece seq at bytes) same (record {
      written = sym (take-append-drop (4 + n) bytes) ∙ ap (λ f. f ++ drop (4 + n) bytes) (sym frame);
      ranges = said.1;
      short = omega (arith, long, count, h.high);
      number = omega (arith, fit.sfits);
      rest = bytes_behind (4 + n) bytes small;
      less = omega (arith, length-drop (4 + n) bytes, h.there, h.low);
    })

-- ---- no record's bytes begin another's

framed_alone : (ws vs : List ℤ) (xs ys : List ℕ) → AllFit ws → AllFit vs → 8 * length ws ≤ most_bytes → 8 * length vs ≤ most_bytes → framed ws ++ xs ≡ framed vs ++ ys → (ws ≡ vs) × (xs ≡ ys)
framed_alone ws vs xs ys fit_w fit_v short_w short_v e =
    let a = framed_at ws xs short_w in
    let b = framed_at vs ys short_v in
    let size : 8 * length ws ≡ 8 * length vs = sym a.stands ∙ ap length_in e ∙ b.stands in
    let count : length ws ≡ length vs = omega (arith, size) in
    let read_w : words_in (length ws) (drop 4 (framed ws ++ xs)) ≡ ws = ap (words_in (length ws)) a.body ∙ words_again ws xs fit_w in
    let read_v : words_in (length vs) (drop 4 (framed vs ++ ys)) ≡ vs = ap (words_in (length vs)) b.body ∙ words_again vs ys fit_v in (
      sym read_w ∙ (λ i. words_in (count i) (drop 4 (e i))) ∙ read_v,
      sym a.behind ∙ (λ i. drop (4 + 8 * count i) (e i)) ∙ b.behind,
    )

said_once : (ws : List ℤ) (r s : Record) → SaidBy ws r → SaidBy ws s → r ≡ s
said_once [] r s h k = absurd h
said_once (class ∷ []) r s h k = absurd h
said_once (class ∷ sub ∷ ws) r s h k = let same : Ok r ≡ Ok s = sym h ∙ k in cc

-- bytes that begin with a record begin with no other
record_alone : (m n : ℕ) (r s : Record) (xs ys : List ℕ) → IsRecord r → IsRecord s → IsShort r → IsShort s → m < 2 ^ 63 → n < 2 ^ 63 → record_bytes m r ++ xs ≡ record_bytes n s ++ ys → (m ≡ n) × (r ≡ s) × (xs ≡ ys)
record_alone m n r s xs ys is_r is_s short_r short_s few_m few_n e =
    let fit_r : AllFit (pos m ∷ words_of r) = (record { sfits = few_m }, words_fit r is_r) in
    let fit_s : AllFit (pos n ∷ words_of s) = (record { sfits = few_n }, words_fit s is_s) in
    let h = framed_alone (pos m ∷ words_of r) (pos n ∷ words_of s) xs ys fit_r fit_s (omega arith) (omega arith) e in
    let words : words_of r ≡ words_of s = cc in
    (cc, said_once (words_of s) r s (subst (λ ws. SaidBy ws r) words (record_again r is_r)) (record_again s is_s), h.1)

pub records_apart : (seq : ℕ) (rs : List Record) → AreRecords rs → AreShort rs → seq + length rs ≤ 2 ^ 63 → StandApart seq rs (records_bytes seq rs)
records_apart seq [] are short few = refl
records_apart seq (r ∷ rs) are short few =
    let rest = records_bytes (seq + 1) rs in
    let behind : drop (length (record_bytes seq r)) (record_bytes seq r ++ rest) ≡ rest = drop_at (record_bytes seq r) rest (length (record_bytes seq r)) refl in (
      record {
        begins = ap (λ bytes. record_bytes seq r ++ bytes) (sym behind);
        alone = λ {n} {s} {rest = more} few_n is short_s e.
            let h = record_alone seq n r s rest more are.0 is short.0 short_s (omega arith) few_n e in
            (h.0, h.1, behind ∙ h.2);
      },
      subst (StandApart (seq + 1) rs) (sym behind) (records_apart (seq + 1) rs are.1 short.1 (omega arith)),
    )
