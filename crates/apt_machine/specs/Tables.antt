-- The machine of a table, or the first cause of its first line that has one.
use Rattle.std.specs.Prelude.{◌≡◌, ℕ, ◌+◌, ◌≤◌, ◌==◌, List, [], ◌∷◌, Option, Some, None, Result, Ok, Err, if◌then◌else◌}
use Rattle.std.specs.List.{list_any}
use Rattle.apt_lexis.specs.Lines.{lines_of, tab}
use Rattle.apt_lexis.specs.Words.{is_readable, in_front, behind}
use Rattle.apt_machine.specs.declared.version.Version.{Version}
use Rattle.apt_machine.specs.declared.key.Key.{Key}
use Rattle.apt_machine.specs.declared.draft.Draft.{Draft}
use Rattle.apt_machine.specs.declared.machine.Machine.{Machine}
use Rattle.apt_machine.specs.declared.cause.MachineCause.{MachineCause}
use Rattle.apt_machine.specs.declared.cause.MachineCause.TheVariants as causes
use Rattle.apt_machine.specs.declared.cause.MachineError.{MachineError}
use Rattle.apt_machine.specs.Keys.{version_of, key_named, blank_draft, has, with_value, machine_of}

abbrev pub fault : ℕ → MachineCause → MachineError
fault n cause = record { line = n; cause = cause }

-- a line with a tab begins with no key
abbrev pub key_of : Version → List ℕ → Option Key
key_of version line = if list_any (λ b. b == tab) line then None else key_named version (in_front line)

abbrev pub valued : Draft → Key → Option (List ℕ) → Result Draft MachineCause
valued d key None = Err causes.Value
valued d key (Some value) = or_value (with_value d key value)
  where
    or_value : Option Draft → Result Draft MachineCause
    or_value None = Err causes.Value
    or_value (Some e) = Ok e

abbrev pub keyed : Draft → Option Key → Option (List ℕ) → Result Draft MachineCause
keyed d None value = Err causes.Key
keyed d (Some key) value = if has d key then Err causes.Twice else valued d key value

-- what is said behind a line; an empty line says nothing
abbrev pub behind_line : Version → Draft → List ℕ → Result Draft MachineCause
behind_line version d [] = Ok d
behind_line version d (b ∷ bs) = if is_readable (b ∷ bs) then keyed d (key_of version (b ∷ bs)) (behind (b ∷ bs)) else Err causes.Byte

abbrev pub finished : ℕ → Option Machine → Result Machine MachineError
finished n None = Err (fault n causes.Missing)
finished n (Some m) = Ok m

-- what follows a line, or its cause
abbrev pub goes_on : ℕ → Result Draft MachineCause → (Draft → Result Machine MachineError) → Result Machine MachineError
goes_on n (Err cause) next = Err (fault n cause)
goes_on n (Ok e) next = next e

-- the machine of the lines from number n on
abbrev pub machine_from : Version → ℕ → Draft → List (List ℕ) → Result Machine MachineError
machine_from version n d [] = finished n (machine_of d)
machine_from version n d (line ∷ lines) = goes_on n (behind_line version d line) (λ e. machine_from version (n + 1) e lines)

-- the machine of the lines behind the first, where that names a version
abbrev pub behind_version : Option Version → List (List ℕ) → Result Machine MachineError
behind_version None lines = Err (fault 1 causes.Header)
behind_version (Some version) lines = machine_from version 2 blank_draft lines

-- the first line says what the text is
abbrev pub machine_of_lines : List (List ℕ) → Result Machine MachineError
machine_of_lines [] = Err (fault 1 causes.Header)
machine_of_lines (line ∷ lines) = if is_readable line then behind_version (version_of line) lines else Err (fault 1 causes.Byte)

abbrev pub table_of : List ℕ → Result Machine MachineError
table_of text = machine_of_lines (lines_of text)

-- ---- where a cause can stand

-- the causes of a line behind the first
abbrev pub IsOfLine : MachineCause → Type 0
IsOfLine causes.Header = ⊥
IsOfLine causes.Missing = ⊥
IsOfLine _ = Unit {0}

-- the lines of a text of so many at which a cause can stand
abbrev pub Stands : ℕ → ℕ → MachineCause → Type 0
Stands many line causes.Byte = (1 ≤ line) × (line ≤ many)
Stands many line causes.Header = line ≡ 1
Stands many line causes.Key = (2 ≤ line) × (line ≤ many)
Stands many line causes.Twice = (2 ≤ line) × (line ≤ many)
Stands many line causes.Value = (2 ≤ line) × (line ≤ many)
Stands many line causes.Missing = line ≡ many + 1
