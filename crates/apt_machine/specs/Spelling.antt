-- The table of a machine, spelled out.
use Rattle.std.specs.Prelude.{ℕ, ◌||◌, Bool, true, false, List, [], ◌∷◌, ◌++◌, codes, if◌then◌else◌}
use Rattle.std.specs.Fmt.{decimal}
use Rattle.apt_lexis.specs.Lines.{line_feed}
use Rattle.apt_tapecode.specs.declared.Code.{Code}
use Rattle.apt_tapecode.specs.declared.Code.TheVariants as codings
use Rattle.apt_machine.specs.declared.machine.Machine.{Machine}

abbrev pub code_word : Code → List ℕ
code_word codings.Rs244 = codes "RS244"
code_word codings.Rs358 = codes "RS358"

-- the second version, where the machine needs a key of it
abbrev pub version_line : Machine → List ℕ
version_line m = if m.incremental || m.short || m.circles || m.cycles then codes "MACHINE 2" else codes "MACHINE 1"

-- a line, where something holds
abbrev pub line_where : Bool → List ℕ → List (List ℕ)
line_where true line = line ∷ []
line_where false line = []

-- the keys that can be left out, where they have their second value
abbrev pub chosen_lines : Machine → List (List ℕ)
chosen_lines m =
    line_where m.changed (codes "WORDS CHANGED")
    ++ line_where m.incremental (codes "MODE INC")
    ++ line_where m.short (codes "ZEROS DROPPED")
    ++ line_where m.circles (codes "ARCS CIRCLES")
    ++ line_where m.cycles (codes "DRILL CYCLES")

-- six lines, and those of the keys that can be left out
abbrev pub table_lines : Machine → List (List ℕ)
table_lines m =
    version_line m
    ∷ (codes "CODE " ++ code_word m.code)
    ∷ (codes "SEQ " ++ decimal m.seq)
    ∷ (codes "FEEDMAX " ++ decimal m.feedmax)
    ∷ (codes "SPINMAX " ++ decimal m.spinmax)
    ∷ (codes "TOOLMAX " ++ decimal m.toolmax)
    ∷ chosen_lines m

-- lines, each with its line feed
abbrev pub text_of : List (List ℕ) → List ℕ
text_of [] = []
text_of (line ∷ lines) = line ++ line_feed ∷ text_of lines

abbrev pub spelled : Machine → List ℕ
spelled m = text_of (table_lines m)
