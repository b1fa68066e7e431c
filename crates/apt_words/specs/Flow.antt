-- What statements are to the flow of a program, and how macros stand in it.
use Rattle.std.specs.Prelude.{ℕ, Bool, true, false, List, Option, Some, None}
use Rattle.apt_words.specs.Trees.{Tree}

-- the run goes on with the following statement, but at these
pub data Flow : Type 0 where
  Onward : Flow
  MacroBegins : List ℕ → List (List ℕ × Option Tree) → Flow
  MacroEnds : Flow
  Calls : List ℕ → List (List ℕ × Tree) → Flow
  LoopBegins : Flow
  LoopEnds : Flow
  Jumps : List ℕ → Flow
  Branches : Tree → List ℕ → List ℕ → List ℕ → Flow
  ProgramEnds : Flow

-- ---- FINI and macros

abbrev pub ends_program : Flow → Bool
ends_program ProgramEnds = true
ends_program _ = false

-- the name of the macro that a statement begins
abbrev pub macro_name : Flow → Option (List ℕ)
macro_name (MacroBegins m ps) = Some m
macro_name _ = None
