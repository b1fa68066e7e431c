-- A program is nested.
use Rattle.std.specs.Prelude.{◌≡◌, ℕ, Bool, true, false, List, [], ◌∷◌, ◌++◌, Option, Result, IfOk, is_some}
use Rattle.std.proofs.Common.{refl, sym, None}
use Rattle.std.proofs.lemmas.Bool.{not-false}
use Rattle.std.proofs.lemmas.List.{append_assoc}
use Rattle.apt_words.specs.Composition.{flow_of, is_fini}
use Rattle.apt_words.specs.Flow.{Flow, Onward, MacroBegins, MacroEnds, Calls, LoopBegins, LoopEnds, Jumps, Branches, ProgramEnds, ends_program}
use Rattle.apt_words.specs.Nesting.{Stands, AreNested}
use Rattle.apt_words.specs.declared.body.Stmt.{Stmt}
use Rattle.apt_words.specs.declared.body.Program.{Program}
use Rattle.apt_lexis.specs.declared.error.ParseError.{ParseError}
use Rattle.apt_parse.specs.Statements.{macro_behind, open_macro, is_out_of_place, is_in_macro}
use Rattle.apt_words.specs.Answers.{IsDue}
use Rattle.apt_lexis.specs.Sentences.{fault_in}
use Rattle.apt_parse.specs.Programs.{program_of}
use Rattle.apt_parse.proofs.Reading.{macro_from_behind, no_fault-placed, no_fault-outside}
use Rattle.apt_parse.proofs.Facts.{IsNext, program_of-holds, parsed_holds}

-- a statement that no fault refuses stands before a rest that holds behind it
stands_before : (flow : Flow) (before : Option ℕ) (line : ℕ) (rest : List Stmt) (more : Bool → Type 0)
    → is_out_of_place (is_some before) flow ≡ false → is_in_macro (is_some before) flow ≡ false → ends_program flow ≡ false
    → more (is_some (macro_behind before line flow)) → Stands flow (is_some before) rest more
stands_before Onward before line rest more placed outside on holds = holds
stands_before (MacroBegins m ps) before line rest more placed outside on holds = (outside, holds)
stands_before MacroEnds before line rest more placed outside on holds = (not-false (is_some before) placed, holds)
stands_before (Calls m args) before line rest more placed outside on holds = holds
stands_before LoopBegins before line rest more placed outside on holds = holds
stands_before LoopEnds before line rest more placed outside on holds = holds
stands_before (Jumps l) before line rest more placed outside on holds = holds
stands_before (Branches e a b c) before line rest more placed outside on holds = holds
stands_before ProgramEnds before line rest more placed outside on holds = absurd (cc)

-- FINI stands last
fini_stands : (flow : Flow) (within : Bool) (more : Bool → Type 0) → is_out_of_place within flow ≡ false → ends_program flow ≡ true → Stands flow within [] more
fini_stands Onward within more placed ends = absurd (cc)
fini_stands (MacroBegins m ps) within more placed ends = absurd (cc)
fini_stands MacroEnds within more placed ends = absurd (cc)
fini_stands (Calls m args) within more placed ends = absurd (cc)
fini_stands LoopBegins within more placed ends = absurd (cc)
fini_stands LoopEnds within more placed ends = absurd (cc)
fini_stands (Jumps l) within more placed ends = absurd (cc)
fini_stands (Branches e a b c) within more placed ends = absurd (cc)
fini_stands ProgramEnds within more placed ends = (placed, refl)

-- up to FINI the statements are nested; without it they are, with all that is nested behind what they have opened
abbrev NestedUpTo : Bool → List Stmt → Type 0
NestedUpTo true sts = AreNested false sts
NestedUpTo false before = (sts : List Stmt) → AreNested (is_some (open_macro before)) sts → AreNested false (before ++ sts)

goes_on : (before : List Stmt) (st : Stmt) (last : Bool) → is_fini st.body ≡ last → IsNext before st → NestedUpTo false before → NestedUpTo last (before ++ st ∷ [])
goes_on before st true ends next nested = nested (st ∷ []) (fini_stands (flow_of st.body) (is_some (open_macro before)) _ (no_fault-placed before st.label st.body next.good) ends)
goes_on before st false on next nested = λ sts behind.
    let holds : AreNested (is_some (macro_behind (open_macro before) st.line (flow_of st.body))) sts = rw (sym (macro_from_behind None before st)) behind in
    rw (append_assoc before (st ∷ []) sts) (nested (st ∷ sts) (stands_before (flow_of st.body) (open_macro before) st.line sts (λ now. AreNested now sts)
    (no_fault-placed before st.label st.body next.good) (no_fault-outside before st.label st.body next.good) on holds))

pub program_of-nested : (text : List ℕ) → IfOk (program_of text) (AreNested false)
program_of-nested text = program_of-holds NestedUpTo (λ before st. goes_on before st (is_fini st.body) refl) (λ sts nested. nested) text

pub parsed_nested : (text : List ℕ) (read : Result Program ParseError) → IsDue fault_in (program_of text) read → IfOk read (λ p. AreNested false p)
parsed_nested text read = parsed_holds (AreNested false) text read (program_of-nested text)
