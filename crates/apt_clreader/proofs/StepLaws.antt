-- What a reader comes to, step by step.
use Rattle.std.proofs.Common.{◌≡◌, ℕ, zero, suc, ◌+◌, ◌*◌, ◌≤◌, ◌<◌, ◌==◌, Bool, true, false, cond, Option, List, [], ◌∷◌, ◌++◌, length, drop, Result, Ok, Err, refl, ap, sym, ◌∙◌, subst, arith, append_assoc}
use Rattle.std.proofs.lemmas.List.{length-append, length-drop, drop-drop}
use Rattle.apt_words.specs.Answers.{IsFault}
use Rattle.apt_cldata.specs.declared.error.ClCause.TheVariants as causes
use Rattle.apt_cldata.specs.declared.error.ClError.{ClError}
use Rattle.apt_cldata.specs.declared.error.ClError.TheVariants as errors
use Rattle.apt_records.specs.declared.record.Record.{Record}
use Rattle.apt_records.specs.Ranges.{IsRecord, AreRecords, vertices_in, vertex_count}
use Rattle.apt_cldata.specs.Fields.{◌>>=◌}
use Rattle.apt_records.specs.Lists.{is_fini}
use Rattle.apt_cldata.specs.Reading.{fault, fault_in, Piece, piece, first_of, last_of, records_from, counted}
use Rattle.apt_clreader.specs.declared.state.Part.{Part}
use Rattle.apt_clreader.specs.declared.state.Part.TheVariants as parts
use Rattle.apt_clreader.specs.Begun.{Fault}
use Rattle.apt_clreader.specs.Pieces.{behind, comes_to}
use Rattle.apt_clreader.specs.Steps.{IsFirst, Agree, Fails}
use Rattle.apt_clreader.proofs.FirstLaws.{first_shorter}

-- ---- records behind a front

behind_one : (front : List Record) (r : Record) (rest : Result (List Record) Fault) → behind (front ++ r ∷ []) rest ≡ behind front (rest >>= λ rs. Ok (r ∷ rs))
behind_one front r (Ok rs) = ap Ok (append_assoc front (r ∷ []) rs)
behind_one front r (Err f) = refl

pub vertex_count_one : (rs : List Record) (r : Record) → vertex_count (rs ++ r ∷ []) ≡ vertex_count rs + vertices_in r
vertex_count_one [] r = omega arith
vertex_count_one (s ∷ rs) r = omega (arith, vertex_count_one rs r)

pub ranges_one : (rs : List Record) (r : Record) → AreRecords rs → IsRecord r → AreRecords (rs ++ r ∷ [])
ranges_one [] r are is = (is, tt)
ranges_one (s ∷ rs) r are is = (are.0, ranges_one rs r are.1 is)

-- ---- records by their first

-- the records, by the first piece
abbrev rest_by : ℕ → ℕ → Piece → Result (List Record) Fault
rest_by fuel seq p = cond (is_fini p.said) (last_of p) (records_from fuel (seq + 1) p.at p.rest >>= λ rs. Ok (p.said ∷ rs))

by_first : (fuel seq at : ℕ) (bytes : List ℕ) (r : Result Piece Fault) → first_of seq at bytes ≡ r → records_from (suc fuel) seq at bytes ≡ r >>= rest_by fuel seq
unfolding records_from
by_first fuel seq at bytes r is = ap (λ r. r >>= rest_by fuel seq) is

-- enough fuel is as good as any
fuel_by : (f g seq : ℕ) (bytes : List ℕ) (r : Result Piece Fault)
    → ((p : Piece) → r ≡ Ok p → records_from f (seq + 1) p.at p.rest ≡ records_from g (seq + 1) p.at p.rest) → r >>= rest_by f seq ≡ r >>= rest_by g seq
fuel_by f g seq bytes (Ok p) next = ap (λ rest. cond (is_fini p.said) (last_of p) (rest >>= λ rs. Ok (p.said ∷ rs))) (next p refl)
fuel_by f g seq bytes (Err e) next = refl

pub same_fuel : (f g seq at : ℕ) (bytes : List ℕ) → length bytes < f → length bytes < g → records_from f seq at bytes ≡ records_from g seq at bytes
unfolding records_from
same_fuel zero g seq at bytes a b = absurd (omega arith)
same_fuel (suc f) zero seq at bytes a b = absurd (omega arith)
same_fuel (suc f) (suc g) seq at bytes a b =
    fuel_by f g seq bytes (first_of seq at bytes)
    (λ p is. same_fuel f g (seq + 1) p.at p.rest (omega (arith, first_shorter seq at bytes p is)) (omega (arith, first_shorter seq at bytes p is)))

-- what records come to, by the first behind them
comes_by_first : (number : Option ℕ) (rs : List Record) (at : ℕ) (bytes : List ℕ) (r : Result Piece Fault) → first_of (length rs + 1) at bytes ≡ r
    → comes_to parts.Records number rs at bytes ≡ behind rs (r >>= rest_by (length bytes) (length rs + 1)) >>= counted number
comes_by_first number rs at bytes r is = ap (λ r. behind rs r >>= counted number) (by_first (length bytes) (length rs + 1) at bytes r is)

-- a record that goes on
one_more : (number : Option ℕ) (rs : List Record) (at : ℕ) (bytes : List ℕ) (p : Piece) → first_of (length rs + 1) at bytes ≡ Ok p → is_fini p.said ≡ false
    → comes_to parts.Records number rs at bytes ≡ comes_to parts.Records number (rs ++ p.said ∷ []) p.at p.rest
one_more number rs at bytes p is more =
    let count : length rs + 1 + 1 ≡ length (rs ++ p.said ∷ []) + 1 = omega (arith, length-append rs (p.said ∷ [])) in
    let rest = records_from (length bytes) (length rs + 1 + 1) p.at p.rest in
    comes_by_first number rs at bytes (Ok p) is
    ∙ ap (λ b. behind rs (cond b (last_of p) (rest >>= λ rs. Ok (p.said ∷ rs))) >>= counted number) more
    ∙ ap (λ r. r >>= counted number) (sym (behind_one rs p.said rest))
    ∙ ap (λ r. behind (rs ++ p.said ∷ []) r >>= counted number)
    (same_fuel (length bytes) (suc (length p.rest)) (length rs + 1 + 1) p.at p.rest (first_shorter (length rs + 1) at bytes p is) (omega arith)
    ∙ ap (λ seq. records_from (suc (length p.rest)) seq p.at p.rest) count)

-- the last record
one_last : (number : Option ℕ) (rs : List Record) (at : ℕ) (bytes : List ℕ) (p : Piece) → first_of (length rs + 1) at bytes ≡ Ok p → is_fini p.said ≡ true
    → comes_to parts.Records number rs at bytes ≡ comes_to parts.Nothing number (rs ++ p.said ∷ []) p.at p.rest
one_last number rs at bytes p is last =
    comes_by_first number rs at bytes (Ok p) is
    ∙ ap (λ b. behind rs (cond b (last_of p) (records_from (length bytes) (length rs + 1 + 1) p.at p.rest >>= λ rs. Ok (p.said ∷ rs))) >>= counted number) last
    ∙ by_test (length p.rest == 0)
  where
    by_test : (b : Bool) → (behind rs (cond b (Ok (p.said ∷ [])) (Err (fault p.at causes.AfterFini))) >>= counted number) ≡ cond b (counted number (rs ++ p.said ∷ [])) (Err (fault p.at causes.AfterFini))
    by_test true = refl
    by_test false = refl

-- ---- steps, whatever comes behind

pub goes_on : (rs : List Record) (at : ℕ) (bytes : List ℕ) (r : Record) (size : ℕ) → IsFirst (length rs + 1) at bytes r size → is_fini r ≡ false
    → Agree parts.Records rs at bytes parts.Records (rs ++ r ∷ []) (at + size) (drop size bytes)
goes_on rs at bytes r size is more = λ number behind. one_more number rs at (bytes ++ behind) (piece r (at + size) (drop size bytes ++ behind)) (is.read behind) more

pub is_last : (rs : List Record) (at : ℕ) (bytes : List ℕ) (r : Record) (size : ℕ) → IsFirst (length rs + 1) at bytes r size → is_fini r ≡ true
    → Agree parts.Records rs at bytes parts.Nothing (rs ++ r ∷ []) (at + size) (drop size bytes)
is_last rs at bytes r size is last = λ number behind. one_last number rs at (bytes ++ behind) (piece r (at + size) (drop size bytes ++ behind)) (is.read behind) last

-- the same behind bytes that were taken
pub takes_more : (before rs : List Record) (at taken : ℕ) (bytes : List ℕ) (r : Record) (size : ℕ) → Agree parts.Records before at bytes parts.Records rs (at + taken) (drop taken bytes)
    → IsFirst (length rs + 1) (at + taken) (drop taken bytes) r size → is_fini r ≡ false
    → Agree parts.Records before at bytes parts.Records (rs ++ r ∷ []) (at + (taken + size)) (drop (taken + size) bytes)
takes_more before rs at taken bytes r size same is more =
    let place : at + taken + size ≡ at + (taken + size) = omega arith in
    let step = goes_on rs (at + taken) (drop taken bytes) r size is more in
    λ number behind. same number behind ∙ step number behind ∙ (λ i. comes_to parts.Records number (rs ++ r ∷ []) (place i) (drop-drop size taken bytes i ++ behind))

pub takes_last : (before rs : List Record) (at taken : ℕ) (bytes : List ℕ) (r : Record) (size : ℕ) → Agree parts.Records before at bytes parts.Records rs (at + taken) (drop taken bytes)
    → IsFirst (length rs + 1) (at + taken) (drop taken bytes) r size → is_fini r ≡ true
    → Agree parts.Records before at bytes parts.Nothing (rs ++ r ∷ []) (at + (taken + size)) (drop (taken + size) bytes)
takes_last before rs at taken bytes r size same is last =
    let place : at + taken + size ≡ at + (taken + size) = omega arith in
    let step = is_last rs (at + taken) (drop taken bytes) r size is last in
    λ number behind. same number behind ∙ step number behind ∙ (λ i. comes_to parts.Nothing number (rs ++ r ∷ []) (place i) (drop-drop size taken bytes i ++ behind))

pub few_one : (rs : List Record) (at taken : ℕ) (r : Record) (size : ℕ) → 8 * (vertex_count rs + length rs) ≤ at + taken → 8 * (vertices_in r + 1) ≤ size
    → 8 * (vertex_count (rs ++ r ∷ []) + length (rs ++ r ∷ [])) ≤ at + (taken + size)
few_one rs at taken r size few long = omega (arith, vertex_count_one rs r, length-append rs (r ∷ []))

pub there_one : (bytes : List ℕ) (taken size : ℕ) → taken ≤ length bytes → size ≤ length (drop taken bytes) → taken + size ≤ length bytes
there_one bytes taken size there is = omega (arith, length-drop taken bytes)

pub agree_fails : (part next : Part) (rs ss : List Record) (at place : ℕ) (bytes rest : List ℕ) (e : ClError)
    → Agree part rs at bytes next ss place rest → Fails next ss place rest e → Fails part rs at bytes e
agree_fails part next rs ss at place bytes rest e a b = λ number more. subst (λ due. IsFault fault_in due e) (sym (a number more)) (b number more)

-- a fault of the first record is one of the file that ends there
pub first_is_fault : (number : Option ℕ) (rs : List Record) (at : ℕ) (bytes : List ℕ) (e : ClError) → IsFault fault_in (first_of (length rs + 1) at bytes) e → IsFault fault_in (comes_to parts.Records number rs at bytes) e
first_is_fault number rs at bytes errors.NoMemory h = tt
first_is_fault number rs at bytes (errors.Bad place cause) h = comes_by_first number rs at bytes (Err (fault place cause)) h

-- a fault of the first record is one of the file
pub first_fails : (rs : List Record) (at : ℕ) (bytes : List ℕ) (e : ClError) → ((more : List ℕ) → IsFault fault_in (first_of (length rs + 1) at (bytes ++ more)) e) → Fails parts.Records rs at bytes e
first_fails rs at bytes e h = λ number more. first_is_fault number rs at (bytes ++ more) e (h more)
