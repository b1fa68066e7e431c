-- What is looked up in the tables of a program.
use Rattle.std.proofs.Common.{◌≡◌, ℕ, zero, suc, ◌+◌, ◌-◌, ◌≤◌, ◌<◌, nat_le, Bool, true, false, cond, List, [], ◌∷◌, length, drop, slice_get, Option, Some, None, refl, sym, ap, ◌∙◌, subst, arith}
use Rattle.std.specs.Prelude.{if◌then◌else◌}
use Rattle.std.proofs.lemmas.Bool.Decides.{nat_tests}
use Rattle.std.proofs.lemmas.List.{length-drop, nil_from_length}
use Rattle.std.proofs.lemmas.Option.{slice_get_within, slice_get_past}
use Rattle.apt_words.specs.Options.{only_if}
use Rattle.apt_words.specs.declared.body.Stmt.{Stmt}
use Rattle.apt_scalar.specs.Meanings.{meaning}
use Rattle.apt_words.specs.Composition.{flow_of}
use Rattle.apt_words.specs.Flow.{Flow, Onward, MacroBegins, MacroEnds, Calls, LoopBegins, LoopEnds, Jumps, Branches, ProgramEnds, macro_name}
use Rattle.apt_unroll.specs.Places.{begins_macro, ends_macro, behind_macros, executed_from, is_named, name_in, first_named, place_of, target}
use Rattle.apt_unroll.specs.declared.numbers.Naming.{Naming}
use Rattle.apt_unroll.specs.declared.numbers.Naming.TheVariants as namings
use Rattle.apt_unroll.specs.declared.places.Tables.{Tables}
use Rattle.apt_unroll.specs.Trace.{with_number}
use Rattle.apt_unroll.specs.Tables.{executed_in, AreTables, IsMacroAt, or_else, number_if, target_in}

-- ---- the statement that a run comes to

-- the table has what is executed
executed_at : (from i : ℕ) (sts : List Stmt) → i ≤ length sts → slice_get (executed_in from sts) i ≡ Some (behind_macros false (from + i) (drop i sts))
executed_at from zero [] h = ap Some (omega arith)
executed_at from (suc i) [] h = absurd (omega arith)
executed_at from zero (st ∷ sts) h = ap (λ k. Some (behind_macros false k (st ∷ sts))) (omega arith)
executed_at from (suc i) (st ∷ sts) h = executed_at (from + 1) i sts (omega arith) ∙ ap (λ k. Some (behind_macros false k (drop i sts))) (omega arith)

executed_by : (sts : List Stmt) (i : ℕ) → i ≤ length sts → slice_get (executed_in 0 sts) i ≡ Some (executed_from sts i)
executed_by sts i h = executed_at 0 i sts h ∙ ap (λ k. Some (behind_macros false k (drop i sts))) (omega arith)

table_length : (from : ℕ) (sts : List Stmt) → length (executed_in from sts) ≡ length sts + 1
table_length from [] = refl
table_length from (st ∷ sts) = omega (arith, table_length (from + 1) sts)

same_some : (a b : ℕ) → Some a ≡ Some b → a ≡ b
same_some a b h = cc

comes_to : (sts : List Stmt) (t : Tables) (i k : ℕ) → AreTables sts t → slice_get t.executed.items i ≡ Some k → k ≡ executed_from sts i
comes_to sts t i k are h =
    let e : slice_get (executed_in 0 sts) i ≡ Some k = ap (λ xs. slice_get xs i) (sym are.executed) ∙ h in
    let there : i < length (executed_in 0 sts) = slice_get_within (executed_in 0 sts) i k e in
    same_some k (executed_from sts i) (sym e ∙ executed_by sts i (omega (arith, there, table_length 0 sts)))

past_the_end : (sts : List Stmt) (i : ℕ) → length sts ≤ i → drop i sts ≡ []
past_the_end sts i h = nil_from_length (drop i sts) (omega (arith, length-drop i sts))

none_left : (sts : List Stmt) (t : Tables) (i : ℕ) → AreTables sts t → slice_get t.executed.items i ≡ None → slice_get sts (executed_from sts i) ≡ None
none_left sts t i are h = by (nat_le (length sts) i) refl
  where
    by : (b : Bool) → nat_le (length sts) i ≡ b → slice_get sts (executed_from sts i) ≡ None
    by true e = let late : length sts ≤ i = grind (arith, nat_tests) in rw (past_the_end sts i late) (slice_get_past sts i late)
    by false e =
        let early : i ≤ length sts = grind (arith, nat_tests) in
        let is = executed_by sts i early in
        let none : slice_get (executed_in 0 sts) i ≡ None = ap (λ xs. slice_get xs i) (sym are.executed) ∙ h in
        absurd (cc)

-- where no macro is defined, what a run comes to is executed
keeps_place : (from i : ℕ) (sts : List Stmt) (st : Stmt) → slice_get sts i ≡ Some st → begins_macro (flow_of st.body) ≡ false → behind_macros false from (drop i sts) ≡ from
keeps_place from zero [] st h begins = refl
keeps_place from (suc i) [] st h begins = refl
keeps_place from zero (x ∷ sts) st h begins =
    let is : x ≡ st = cc in
    let none : begins_macro (flow_of x.body) ≡ false = ap (λ (st : Stmt). begins_macro (flow_of st.body)) is ∙ begins in
    rw none refl
keeps_place from (suc i) (x ∷ sts) st h begins = keeps_place from i sts st h begins

pub stays : (sts : List Stmt) (i : ℕ) (st : Stmt) → slice_get sts i ≡ Some st → begins_macro (flow_of st.body) ≡ false → executed_from sts i ≡ i
stays sts i st h begins = keeps_place i i sts st h begins

nothing_behind : (from i : ℕ) (sts : List Stmt) → slice_get sts i ≡ None → behind_macros false from (drop i sts) ≡ from
nothing_behind from zero [] h = refl
nothing_behind from (suc i) [] h = refl
nothing_behind from zero (st ∷ sts) h = absurd (cc)
nothing_behind from (suc i) (st ∷ sts) h = nothing_behind from i sts h

pub stays_past : (sts : List Stmt) (i : ℕ) → slice_get sts i ≡ None → executed_from sts i ≡ i
stays_past sts i h = nothing_behind i i sts h

later_by : (b : Bool) (i k : ℕ) → i + 1 ≤ k → i ≤ cond b k i
later_by true i k h = omega (arith, h)
later_by false i k h = omega arith

later : (within : Bool) (i : ℕ) (sts : List Stmt) → i ≤ behind_macros within i sts
later within i [] = omega arith
later true i (st ∷ sts) = omega (arith, later (if ends_macro (flow_of st.body) then false else true) (i + 1) sts)
later false i (st ∷ sts) = later_by (begins_macro (flow_of st.body)) i (behind_macros true (i + 1) sts) (later true (i + 1) sts)

one_later : {A : Type 0} (x : A) (xs : List A) (k i : ℕ) → i + 1 ≤ k → slice_get (x ∷ xs) (k - i) ≡ slice_get xs (k - (i + 1))
one_later x xs k i h = let e : k - i ≡ suc (k - (i + 1)) = omega arith in ap (slice_get (x ∷ xs)) e

lands_by : (b : Bool) (s st : Stmt) (sts : List Stmt) (i k : ℕ) → i + 1 ≤ k → (slice_get sts (k - (i + 1)) ≡ Some st → begins_macro (flow_of st.body) ≡ false)
    → begins_macro (flow_of s.body) ≡ b → slice_get (s ∷ sts) (cond b k i - i) ≡ Some st → begins_macro (flow_of st.body) ≡ false
lands_by true s st sts i k late more begins h = more (sym (one_later s sts k i late) ∙ h)
lands_by false s st sts i k late more begins h =
    let none : i - i ≡ 0 = omega arith in
    let same : Some s ≡ Some st = ap (slice_get (s ∷ sts)) (sym none) ∙ h in
    let is : s ≡ st = cc in
    ap (λ (st : Stmt). begins_macro (flow_of st.body)) (sym is) ∙ begins

lands : (within : Bool) (i : ℕ) (sts : List Stmt) (st : Stmt) → slice_get sts (behind_macros within i sts - i) ≡ Some st → begins_macro (flow_of st.body) ≡ false
lands within i [] st h = absurd (cc)
lands true i (s ∷ sts) st h =
    let more = if ends_macro (flow_of s.body) then false else true in
    lands more (i + 1) sts st (sym (one_later s sts (behind_macros more (i + 1) sts) i (later more (i + 1) sts)) ∙ h)
lands false i (s ∷ sts) st h =
    lands_by (begins_macro (flow_of s.body)) s st sts i (behind_macros true (i + 1) sts) (later true (i + 1) sts) (λ there. lands true (i + 1) sts st there) refl h

get_behind : {A : Type 0} (xs : List A) (i k : ℕ) → i ≤ k → slice_get (drop i xs) (k - i) ≡ slice_get xs k
get_behind xs zero k h = ap (slice_get xs) (omega arith)
get_behind [] (suc i) k h = refl
get_behind (x ∷ xs) (suc i) zero h = absurd (omega arith)
get_behind (x ∷ xs) (suc i) (suc k) h = ap (slice_get (drop i xs)) (omega arith) ∙ get_behind xs i k (omega arith)

-- no macro definition is executed
passed : (sts : List Stmt) (i : ℕ) (st : Stmt) → slice_get sts (executed_from sts i) ≡ Some st → begins_macro (flow_of st.body) ≡ false
passed sts i st h = lands false i (drop i sts) st (get_behind sts i (executed_from sts i) (later false i (drop i sts)) ∙ h)

-- the statement about to run, by the table
pub runs : (sts : List Stmt) (t : Tables) (i k : ℕ) (st : Stmt) → AreTables sts t → slice_get t.executed.items i ≡ Some k → slice_get sts k ≡ Some st
    → Some (k, st) ≡ with_number (executed_from sts i) (slice_get sts (executed_from sts i))
runs sts t i k st are h there = ap (with_number k) (sym there) ∙ ap (λ k. with_number k (slice_get sts k)) (comes_to sts t i k are h)

pub runs_out : (sts : List Stmt) (t : Tables) (i k : ℕ) → AreTables sts t → slice_get t.executed.items i ≡ Some k → slice_get sts k ≡ None
    → None ≡ with_number (executed_from sts i) (slice_get sts (executed_from sts i))
runs_out sts t i k are h there = ap (with_number k) (sym there) ∙ ap (λ k. with_number k (slice_get sts k)) (comes_to sts t i k are h)

pub runs_past : (sts : List Stmt) (t : Tables) (i : ℕ) → AreTables sts t → slice_get t.executed.items i ≡ None
    → None ≡ with_number (executed_from sts i) (slice_get sts (executed_from sts i))
runs_past sts t i are h = ap (with_number (executed_from sts i)) (sym (none_left sts t i are h))

pub no_macro : (sts : List Stmt) (t : Tables) (i k : ℕ) (st : Stmt) → AreTables sts t → slice_get t.executed.items i ≡ Some k → slice_get sts k ≡ Some st
    → begins_macro (flow_of st.body) ≡ false
no_macro sts t i k st are h there = passed sts i st (ap (slice_get sts) (sym (comes_to sts t i k are h)) ∙ there)

-- ---- the MACRO of a name

has_macro_name : (flow : Flow) (name : List ℕ) → is_named (macro_name flow) name ≡ true → begins_macro flow ≡ true
has_macro_name Onward name h = h
has_macro_name (MacroBegins m ps) name h = refl
has_macro_name MacroEnds name h = h
has_macro_name (Calls m args) name h = h
has_macro_name LoopBegins name h = h
has_macro_name LoopEnds name h = h
has_macro_name (Jumps l) name h = h
has_macro_name (Branches e a b c) name h = h
has_macro_name ProgramEnds name h = h

-- among statements from the i-th on
record IsMacroFrom (i : ℕ) (sts : List Stmt) (k : ℕ) : Type 0 where
  later : i ≤ k
  begins : IsMacroAt (slice_get sts (k - i))

macro_by : (b : Bool) (i : ℕ) (st : Stmt) (sts : List Stmt) (name : List ℕ) (k : ℕ) (rest : Option ℕ) → (rest ≡ Some k → IsMacroFrom (i + 1) sts k)
    → is_named (name_in namings.Macros st) name ≡ b → cond b (Some i) rest ≡ Some k → IsMacroFrom i (st ∷ sts) k
macro_by true i st sts name k rest more is h =
    let same : i ≡ k = same_some i k h in
    let none : k - i ≡ 0 = omega (arith, same) in
    record { later = omega (arith, same); begins = subst (λ j. IsMacroAt (slice_get (st ∷ sts) j)) (sym none) (has_macro_name (flow_of st.body) name is) }
macro_by false i st sts name k rest more is h =
    let m = more h in
    record { later = omega (arith, m.later); begins = subst IsMacroAt (sym (one_later st sts k i m.later)) m.begins }

macro_from : (i : ℕ) (sts : List Stmt) (name : List ℕ) (k : ℕ) → first_named namings.Macros i sts name ≡ Some k → IsMacroFrom i sts k
macro_from i [] name k h = absurd (cc)
macro_from i (st ∷ sts) name k h =
    macro_by (is_named (name_in namings.Macros st) name) i st sts name k (first_named namings.Macros (i + 1) sts name) (λ there. macro_from (i + 1) sts name k there) refl h

pub is_macro : (sts : List Stmt) (name : List ℕ) (k : ℕ) → place_of namings.Macros sts name ≡ Some k → IsMacroAt (slice_get sts k)
is_macro sts name k h = let m = macro_from 0 sts name k h in subst (λ j. IsMacroAt (slice_get sts j)) (omega arith) m.begins

-- ---- labels and regions

pub target_is : (sts : List Stmt) (t : Tables) (i : ℕ) (name : List ℕ) → AreTables sts t → target_in t i name ≡ target sts i name
target_is sts t i name are = rw (are.labels name, are.regions) refl

-- ---- how the tables are made

noted_by : (m : Option ℕ) (b : Bool) (i : ℕ) (rest : Option ℕ) → or_else (or_else m (only_if b i)) rest ≡ or_else m (cond b (Some i) rest)
noted_by None true i rest = refl
noted_by None false i rest = refl
noted_by (Some k) b i rest = refl

abbrev pub Numbered : Type 0
Numbered = List (List ℕ × ℕ)

-- one more statement is noted
pub noted : (naming : Naming) (before now : Numbered) (i : ℕ) (st : Stmt) (sts : List Stmt) (name : List ℕ) → meaning now name ≡ or_else (meaning before name) (number_if (name_in naming st) i name)
    → or_else (meaning now name) (first_named naming (i + 1) sts name) ≡ or_else (meaning before name) (first_named naming i (st ∷ sts) name)
noted naming before now i st sts name h =
    ap (λ m. or_else m (first_named naming (i + 1) sts name)) h ∙ noted_by (meaning before name) (is_named (name_in naming st) name) i (first_named naming (i + 1) sts name)

pub all_noted : (m : Option ℕ) → or_else m None ≡ m
all_noted None = refl
all_noted (Some k) = refl
