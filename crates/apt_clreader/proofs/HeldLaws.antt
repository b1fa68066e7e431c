-- The head of a file, and what a reader has read.
use Rattle.std.proofs.Common.{◌≡◌, ℕ, suc, ◌+◌, ◌≤◌, ◌==◌, nat_lt, nat_le, Bool, true, false, cond, Option, Some, None, List, [], ◌∷◌, ◌++◌, length, Result, Ok, Err, refl, ap, sym, ◌∙◌, subst, arith, append_assoc}
use Rattle.std.specs.Prelude.{codes}
use Rattle.std.specs.Int.{w64, from_be_bytes}
use Rattle.std.specs.List.{starts_with}
use Rattle.std.proofs.lemmas.Bool.Decides.{nat_tests}
use Rattle.std.proofs.lemmas.List.{length-append, take-append-le, drop-append-le, append-nil}
use Rattle.apt_words.specs.Answers.{IsFault}
use Rattle.apt_cldata.specs.declared.error.ClCause.TheVariants as causes
use Rattle.apt_cldata.specs.declared.error.ClError.{ClError}
use Rattle.apt_cldata.specs.declared.error.ClError.TheVariants as errors
use Rattle.apt_records.specs.declared.record.Record.{Record}
use Rattle.apt_cldata.specs.Fields.{◌>>=◌}
use Rattle.apt_cldata.specs.Reading.{fault, fault_in, first_of, records_from, behind_head, Head, head, count_in, numbered, versioned, head_in, counted, read_of}
use Rattle.apt_clreader.specs.declared.state.Part.{Part}
use Rattle.apt_clreader.specs.declared.state.Part.TheVariants as parts
use Rattle.apt_clreader.specs.declared.state.ClReader.{ClReader}
use Rattle.apt_clreader.specs.Begun.{Fault, has_head, IsBegun}
use Rattle.apt_clreader.specs.Pieces.{behind, comes_to, StandsFor, HasRead}
use Rattle.apt_clreader.specs.Steps.{Agree, Fails, GoesOn}
use Rattle.apt_cldata.proofs.FieldLaws.{bind_only, equal_test, pick_both}
use Rattle.apt_cldata.proofs.HeadLaws.{head_only, head_there, head_place}
use Rattle.apt_clreader.proofs.StepLaws.{same_fuel, first_is_fault, agree_fails}

-- ---- the head, whatever comes behind

-- more bytes behind some that were due
abbrev rest_more : List ℕ → Result (List ℕ) Fault → Result (List ℕ) Fault
rest_more more (Ok rest) = Ok (rest ++ more)
rest_more more (Err f) = Err f

due_more : (at : ℕ) (hs bytes more : List ℕ) → length hs ≤ length bytes → behind_head at hs (bytes ++ more) ≡ rest_more more (behind_head at hs bytes)
due_more at [] bytes more long = refl
due_more at (h ∷ hs) [] more long = absurd (omega arith)
due_more at (h ∷ hs) (b ∷ bytes) more long = by_test (b == h) (due_more (at + 1) hs bytes more (omega arith))
  where
    by_test : (t : Bool) → behind_head (at + 1) hs (bytes ++ more) ≡ rest_more more (behind_head (at + 1) hs bytes)
        → cond t (behind_head (at + 1) hs (bytes ++ more)) (Err (fault at causes.Header)) ≡ rest_more more (cond t (behind_head (at + 1) hs bytes) (Err (fault at causes.Header)))
    by_test true next = next
    by_test false next = refl

-- more bytes behind a head
abbrev pub with_more : List ℕ → Result Head Fault → Result Head Fault
with_more more (Ok h) = Ok (head h.number h.at (h.rest ++ more))
with_more more (Err f) = Err f

not_less : (a b : ℕ) → b ≤ a → nat_lt a b ≡ false
not_less a b h = grind (arith, nat_tests)

count_in_more : (bytes more : List ℕ) → 8 ≤ length bytes → count_in (bytes ++ more) ≡ count_in bytes
unfolding count_in
count_in_more bytes more long = ap (from_be_bytes w64) (take-append-le 8 bytes more long)

numbered_more : (at : ℕ) (bytes more : List ℕ) → 8 ≤ length bytes → numbered at (bytes ++ more) ≡ with_more more (numbered at bytes)
numbered_more at bytes more long =
    let all = length-append bytes more in
    rw (not_less (length (bytes ++ more)) 8 (omega (arith, all)), not_less (length bytes) 8 long)
    (λ i. Ok (head (Some (count_in_more bytes more long i)) (at + 8) (drop-append-le 8 bytes more long i)))

-- the head from its version on, of which all is there
versioned_more : (at : ℕ) (bytes more : List ℕ) → 2 ≤ length bytes → ((rest : List ℕ) → bytes ≡ 50 ∷ 10 ∷ rest → 8 ≤ length rest) → versioned at (bytes ++ more) ≡ with_more more (versioned at bytes)
versioned_more at [] more long whole = absurd (omega arith)
versioned_more at (b ∷ bytes) more long whole = by_tests (b == 49) (b == 50) refl (due_more (at + 1) (10 ∷ []) bytes more (omega arith)) (behind_head (at + 1) (10 ∷ []) bytes) refl
  where
    first_more : (r : Result (List ℕ) Fault) → (rest_more more r >>= λ rest. Ok (head None (at + 2) rest)) ≡ with_more more (r >>= λ rest. Ok (head None (at + 2) rest))
    first_more (Ok rest) = refl
    first_more (Err f) = refl

    second_more : (r : Result (List ℕ) Fault) → ((rest : List ℕ) → r ≡ Ok rest → 8 ≤ length rest) → (rest_more more r >>= λ rest. numbered (at + 2) rest) ≡ with_more more (r >>= λ rest. numbered (at + 2) rest)
    second_more (Ok rest) there = numbered_more (at + 2) rest more (there rest refl)
    second_more (Err f) there = refl

    by_tests : (s t : Bool) → (b == 50) ≡ t → behind_head (at + 1) (10 ∷ []) (bytes ++ more) ≡ rest_more more (behind_head (at + 1) (10 ∷ []) bytes) → (r : Result (List ℕ) Fault) → behind_head (at + 1) (10 ∷ []) bytes ≡ r
        → cond s (behind_head (at + 1) (10 ∷ []) (bytes ++ more) >>= λ rest. Ok (head None (at + 2) rest)) (cond t (behind_head (at + 1) (10 ∷ []) (bytes ++ more) >>= λ rest. numbered (at + 2) rest) (Err (fault at causes.Header)))
        ≡ with_more more (cond s (behind_head (at + 1) (10 ∷ []) bytes >>= λ rest. Ok (head None (at + 2) rest)) (cond t (behind_head (at + 1) (10 ∷ []) bytes >>= λ rest. numbered (at + 2) rest) (Err (fault at causes.Header))))
    by_tests true t is same r r_is = ap (λ r. r >>= λ rest. Ok (head None (at + 2) rest)) same ∙ first_more (behind_head (at + 1) (10 ∷ []) bytes)
    by_tests false true is same r r_is =
        ap (λ r. r >>= λ rest. numbered (at + 2) rest) same
        ∙ second_more (behind_head (at + 1) (10 ∷ []) bytes) (λ rest e. whole rest (λ i. equal_test b 50 is i ∷ head_only (at + 1) (10 ∷ []) bytes rest e i))
    by_tests false false is same r r_is = refl

-- ---- a whole head

at_least : (a b : ℕ) → nat_le a b ≡ true → a ≤ b
at_least a b h = grind (arith, nat_tests)

at_least_again : (a b : ℕ) → a ≤ b → nat_le a b ≡ true
at_least_again a b h = grind (arith, nat_tests)

whole_long : (bytes : List ℕ) → has_head bytes ≡ true → 8 ≤ length bytes
whole_long bytes is = by_test (starts_with ◌==◌ bytes (codes "APTCL 2\n")) is
  where
    by_test : (t : Bool) → cond t (nat_le 16 (length bytes)) (nat_le 8 (length bytes)) ≡ true → 8 ≤ length bytes
    by_test true h = let long = at_least 16 (length bytes) h in omega arith
    by_test false h = at_least 8 (length bytes) h

whole_second : (bytes rest : List ℕ) → has_head bytes ≡ true → bytes ≡ codes "APTCL 2\n" ++ rest → 8 ≤ length rest
whole_second bytes rest whole is =
    let long = at_least 16 (length (codes "APTCL 2\n" ++ rest)) (ap has_head (sym is) ∙ whole) in
    omega arith

head_more : (bytes more : List ℕ) → has_head bytes ≡ true → head_in (bytes ++ more) ≡ with_more more (head_in bytes)
head_more bytes more whole =
    let long = whole_long bytes whole in
    ap (λ r. r >>= λ rest. versioned 6 rest) (due_more 0 (codes "APTCL ") bytes more (omega arith)) ∙ by_front (behind_head 0 (codes "APTCL ") bytes) refl
  where
    by_front : (r : Result (List ℕ) Fault) → behind_head 0 (codes "APTCL ") bytes ≡ r → (rest_more more r >>= λ rest. versioned 6 rest) ≡ with_more more (r >>= λ rest. versioned 6 rest)
    by_front (Ok rest) e =
        let is = head_only 0 (codes "APTCL ") bytes rest e in
        let long = whole_long bytes whole in
        versioned_more 6 rest more (omega (arith, ap length is)) (λ behind version. whole_second bytes behind whole (is ∙ ap (λ rest. codes "APTCL " ++ rest) version))
    by_front (Err f) e = refl

-- where a head is read, it is whole
versioned_whole : (bytes : List ℕ) (h : Head) → versioned 6 bytes ≡ Ok h → has_head (codes "APTCL " ++ bytes) ≡ true
versioned_whole [] h e = absurd (cc)
versioned_whole (b ∷ bytes) h e =
    pick_both (b == 49) _ _ _
    (λ first e.
    let a = bind_only (behind_head 7 (10 ∷ []) bytes) _ h e in
    let is : bytes ≡ 10 ∷ a.0 = head_only 7 (10 ∷ []) bytes a.0 a.1 in
    subst (λ bs. has_head bs ≡ true) (λ i. codes "APTCL " ++ sym (equal_test b 49 first) i ∷ sym is i) (at_least_again 8 (length (codes "APTCL 1\n" ++ a.0)) (omega arith)))
    (λ other. pick_both (b == 50) _ _ _
    (λ second e.
    let a = bind_only (behind_head 7 (10 ∷ []) bytes) _ h e in
    let is : bytes ≡ 10 ∷ a.0 = head_only 7 (10 ∷ []) bytes a.0 a.1 in
    subst (λ bs. has_head bs ≡ true) (λ i. codes "APTCL " ++ sym (equal_test b 50 second) i ∷ sym is i) (at_least_again 16 (length (codes "APTCL 2\n" ++ a.0)) (numbered_long a.0 a.2)))
    (λ none bad. absurd (cc)))
    e
  where
    numbered_long : (bytes : List ℕ) → numbered 8 bytes ≡ Ok h → 16 ≤ length (codes "APTCL 2\n" ++ bytes)
    numbered_long bytes e = pick_both (nat_lt (length bytes) 8) _ _ _ (λ short bad. absurd (cc)) (λ long same. grind (arith, nat_tests, long)) e

pub read_is_whole : (bytes : List ℕ) (h : Head) → head_in bytes ≡ Ok h → has_head bytes ≡ true
read_is_whole bytes h e =
    let a = bind_only (behind_head 0 (codes "APTCL ") bytes) _ h e in
    subst (λ bs. has_head bs ≡ true) (sym (head_only 0 (codes "APTCL ") bytes a.0 a.1)) (versioned_whole a.0 h a.2)

-- ---- what comes behind a head

nothing_in_front : (r : Result (List Record) Fault) → behind [] r ≡ r
nothing_in_front (Ok rs) = refl
nothing_in_front (Err f) = refl

-- behind a head that is there, records come
head_is_read : (bytes : List ℕ) (h : Head) → head_in bytes ≡ Ok h → (more : List ℕ) → read_of (bytes ++ more) ≡ comes_to parts.Records h.number [] h.at (h.rest ++ more)
unfolding read_of
head_is_read bytes h is more =
    let all = bytes ++ more in
    let rest = h.rest ++ more in
    let there : head_in all ≡ Ok (head h.number h.at rest) = head_more bytes more (read_is_whole bytes h is) ∙ ap (with_more more) is in
    let size = head_there all (head h.number h.at rest) there in
    let place = head_place bytes h is in
    ap (λ r. r >>= λ h. records_from (length all) 1 h.at h.rest >>= λ rs. counted h.number rs) there
    ∙ ap (λ r. r >>= counted h.number) (same_fuel (length all) (suc (length rest)) 1 h.at rest (omega arith) (omega arith) ∙ sym (nothing_in_front (records_from (suc (length rest)) 1 h.at rest)))

-- what comes of them is what comes of the file
pub head_goes : (bytes : List ℕ) (h : Head) (result : Result ClReader ClError) → head_in bytes ≡ Ok h → GoesOn parts.Records h.number [] h.at h.rest result → GoesOn parts.Head None [] 0 bytes result
head_goes bytes h (Ok reader) is on = λ more. head_is_read bytes h is more ∙ on more
head_goes bytes h (Err e) is on = λ number more. subst (λ due. IsFault fault_in due e) (sym (head_is_read bytes h is more)) (on h.number more)

-- a fault of a head that is whole is one of the file
pub head_fails : (bytes : List ℕ) (e : ClError) → has_head bytes ≡ true → IsFault fault_in (head_in bytes) e → Fails parts.Head [] 0 bytes e
unfolding read_of
head_fails bytes errors.NoMemory whole is = λ number more. tt
head_fails bytes (errors.Bad place cause) whole is = λ number more.
    ap (λ r. r >>= λ h. records_from (length (bytes ++ more)) 1 h.at h.rest >>= λ rs. counted h.number rs) (head_more bytes more whole ∙ ap (with_more more) is)

-- ---- readers

-- where a head is due, no records are told of
pub head_goes_on : (part : Part) (number : Option ℕ) (rs : List Record) (at : ℕ) (bytes : List ℕ) (result : Result ClReader ClError) → part ≡ parts.Head → GoesOn parts.Head None [] 0 bytes result → GoesOn part number rs at bytes result
head_goes_on part number rs at bytes result is on = subst (λ p. GoesOn p number rs at bytes result) (sym is) (any result on)
  where
    any : (result : Result ClReader ClError) → GoesOn parts.Head None [] 0 bytes result → GoesOn parts.Head number rs at bytes result
    any (Ok reader) on = on
    any (Err e) on = on

pub agree_goes_on : (part next : Part) (number : Option ℕ) (rs ss : List Record) (at place : ℕ) (bytes rest : List ℕ) (result : Result ClReader ClError)
    → Agree part rs at bytes next ss place rest → GoesOn next number ss place rest result → GoesOn part number rs at bytes result
agree_goes_on part next number rs ss at place bytes rest (Ok reader) same on = λ more. same number more ∙ on more
agree_goes_on part next number rs ss at place bytes rest (Err e) same on = agree_fails part next rs ss at place bytes rest e same on

-- what comes of the bytes of a reader is what it has read
pub goes_on_has_read : (front piece : List ℕ) (reader : ClReader) (result : Result ClReader ClError) → StandsFor reader front
    → GoesOn reader.part reader.number reader.records.items reader.at (reader.held.items ++ piece) result → HasRead (front ++ piece) result
goes_on_has_read front piece reader (Ok next) stands on = λ more. agrees front piece reader stands more ∙ on more
  where
    agrees : (front piece : List ℕ) (reader : ClReader) → StandsFor reader front → (more : List ℕ)
        → read_of ((front ++ piece) ++ more) ≡ comes_to reader.part reader.number reader.records.items reader.at ((reader.held.items ++ piece) ++ more)
    agrees front piece reader stands more =
        ap read_of (append_assoc front piece more) ∙ stands (piece ++ more) ∙ ap (comes_to reader.part reader.number reader.records.items reader.at) (sym (append_assoc reader.held.items piece more))
goes_on_has_read front piece reader (Err e) stands on = λ more.
    subst (λ due. IsFault fault_in due e) (sym (ap read_of (append_assoc front piece more) ∙ stands (piece ++ more) ∙ ap (comes_to reader.part reader.number reader.records.items reader.at) (sym (append_assoc reader.held.items piece more)))) (on reader.number more)

-- a reader stands for the whole of a file
pub comes_of_file : (reader : ClReader) (file : List ℕ) → StandsFor reader file → read_of file ≡ comes_to reader.part reader.number reader.records.items reader.at reader.held.items
comes_of_file reader file stands =
    ap read_of (sym (append-nil file)) ∙ stands [] ∙ ap (comes_to reader.part reader.number reader.records.items reader.at) (append-nil reader.held.items)

-- its fault is that of the record that is begun
pub record_of_file : (reader : ClReader) (file : List ℕ) (e : ClError) → StandsFor reader file → reader.part ≡ parts.Records
    → IsFault fault_in (first_of (length reader.records.items + 1) reader.at reader.held.items) e → IsFault fault_in (read_of file) e
record_of_file reader file e stands is fails =
    subst (λ due. IsFault fault_in due e) (sym (comes_of_file reader file stands ∙ ap (λ p. comes_to p reader.number reader.records.items reader.at reader.held.items) is))
    (first_is_fault reader.number reader.records.items reader.at reader.held.items e fails)

-- or of its head
head_is_fault : (bytes : List ℕ) (e : ClError) → IsFault fault_in (head_in bytes) e → IsFault fault_in (read_of bytes) e
unfolding read_of
head_is_fault bytes errors.NoMemory is = tt
head_is_fault bytes (errors.Bad place cause) is = ap (λ r. r >>= λ h. records_from (length bytes) 1 h.at h.rest >>= λ rs. counted h.number rs) is

pub head_of_file : (reader : ClReader) (file : List ℕ) (e : ClError) → StandsFor reader file → reader.part ≡ parts.Head → IsFault fault_in (head_in reader.held.items) e → IsFault fault_in (read_of file) e
head_of_file reader file e stands is fails =
    subst (λ due. IsFault fault_in due e) (sym (comes_of_file reader file stands ∙ ap (λ p. comes_to p reader.number reader.records.items reader.at reader.held.items) is)) (head_is_fault reader.held.items e fails)

-- behind FINI there is none, unless the head told another number of records
pub none_of_file : (reader : ClReader) (file : List ℕ) → StandsFor reader file → reader.part ≡ parts.Nothing → read_of file ≡ counted reader.number reader.records.items
none_of_file reader file stands is =
    let none : reader.held.items ≡ [] = subst (λ p. IsBegun p reader.records.items reader.at reader.end reader.held.items) is reader.begun in
    comes_of_file reader file stands ∙ ap (λ p. comes_to p reader.number reader.records.items reader.at reader.held.items) is
    ∙ ap (λ held. comes_to parts.Nothing reader.number reader.records.items reader.at held) none

pub fault_of_file : (file : List ℕ) (e : ClError) → HasRead file (Err e) → IsFault fault_in (read_of file) e
fault_of_file file e h = subst (λ b. IsFault fault_in (read_of b) e) (append-nil file) (h [])
