-- How macros stand in a program.
use Rattle.std.specs.Prelude.{◌≡◌, Bool, true, false, List, [], ◌∷◌}
use Rattle.apt_words.specs.Composition.{flow_of}
use Rattle.apt_words.specs.Flow.{Flow, Onward, MacroBegins, MacroEnds, Calls, LoopBegins, LoopEnds, Jumps, Branches, ProgramEnds}
use Rattle.apt_words.specs.declared.body.Stmt.{Stmt}

-- how a statement stands within a macro or outside, and what must hold behind it
abbrev pub Stands : Flow → Bool → List Stmt → (Bool → Type 0) → Type 0
Stands Onward within rest more = more within
Stands (MacroBegins m ps) within rest more = (within ≡ false) × more true
Stands MacroEnds within rest more = (within ≡ true) × more false
Stands (Calls m args) within rest more = more within
Stands LoopBegins within rest more = more within
Stands LoopEnds within rest more = more within
Stands (Jumps l) within rest more = more within
Stands (Branches e a b c) within rest more = more within
Stands ProgramEnds within rest more = (within ≡ false) × (rest ≡ [])

-- each macro ends before the next begins, and FINI stands last, outside of macros; the first statement is within a macro or not
abbrev pub AreNested : Bool → List Stmt → Type 0
AreNested within [] = ⊥
AreNested within (st ∷ sts) = Stands (flow_of st.body) within sts (λ now. AreNested now sts)
