-- The keys of a machine table, and their values.
use Rattle.std.specs.Prelude.{ℕ, Bool, true, false, List, codes, Option, Some, None, is_some, unwrap_or, if◌then◌else◌}
use Rattle.std.specs.Option.{option_or}
use Rattle.apt_words.specs.Options.{◌>>=◌}
use Rattle.apt_lexis.specs.Words.{is}
use Rattle.apt_tapecode.specs.declared.Code.{Code}
use Rattle.apt_tapecode.specs.declared.Code.TheVariants as codings
use Rattle.apt_machine.specs.declared.version.Version.{Version}
use Rattle.apt_machine.specs.declared.version.Version.TheVariants as versions
use Rattle.apt_machine.specs.declared.key.Key.{Key}
use Rattle.apt_machine.specs.declared.key.Key.TheVariants as keys
use Rattle.apt_machine.specs.declared.draft.Draft.{Draft}
use Rattle.apt_machine.specs.declared.machine.Machine.{Machine}
use Rattle.apt_machine.specs.Numbers.{number_within}

-- the version that a first line names
abbrev pub version_of : List ℕ → Option Version
version_of line =
    if is line (codes "MACHINE 1") then Some versions.First
    else if is line (codes "MACHINE 2") then Some versions.Second
    else None

-- a key that both versions have
abbrev pub first_key : List ℕ → Option Key
first_key name =
    if is name (codes "CODE") then Some keys.Code
    else if is name (codes "SEQ") then Some keys.Seq
    else if is name (codes "FEEDMAX") then Some keys.Feedmax
    else if is name (codes "SPINMAX") then Some keys.Spinmax
    else if is name (codes "TOOLMAX") then Some keys.Toolmax
    else if is name (codes "WORDS") then Some keys.Words
    else None

-- a key that only the second version has
abbrev pub second_key : List ℕ → Option Key
second_key name =
    if is name (codes "MODE") then Some keys.Mode
    else if is name (codes "ZEROS") then Some keys.Zeros
    else if is name (codes "ARCS") then Some keys.Arcs
    else if is name (codes "DRILL") then Some keys.Drill
    else None

-- the key that a name stands for, in a table of a version
abbrev pub key_named : Version → List ℕ → Option Key
key_named versions.First name = first_key name
key_named versions.Second name = option_or (first_key name) (second_key name)

-- nothing is said of a machine
abbrev pub blank_draft : Draft
blank_draft = record { code = None; seq = None; feedmax = None; spinmax = None; toolmax = None; words = None; mode = None; zeros = None; arcs = None; drill = None }

-- a key stands already
abbrev pub has : Draft → Key → Bool
has d keys.Code = is_some d.code
has d keys.Seq = is_some d.seq
has d keys.Feedmax = is_some d.feedmax
has d keys.Spinmax = is_some d.spinmax
has d keys.Toolmax = is_some d.toolmax
has d keys.Words = is_some d.words
has d keys.Mode = is_some d.mode
has d keys.Zeros = is_some d.zeros
has d keys.Arcs = is_some d.arcs
has d keys.Drill = is_some d.drill

-- the tape code that a value names
abbrev pub code_named : List ℕ → Option Code
code_named value =
    if is value (codes "RS244") then Some codings.Rs244
    else if is value (codes "RS358") then Some codings.Rs358
    else None

-- whether a value is the second of two words, where it is one of them
abbrev pub choice : List ℕ → List ℕ → List ℕ → Option Bool
choice first second value =
    if is value first then Some false
    else if is value second then Some true
    else None

-- what is said with one key more, where it can have the value
abbrev pub with_value : Draft → Key → List ℕ → Option Draft
with_value d keys.Code value = code_named value >>= λ code. Some (record d { code = Some code })
with_value d keys.Seq value = number_within 0 999 value >>= λ n. Some (record d { seq = Some n })
with_value d keys.Feedmax value = number_within 1 9999 value >>= λ n. Some (record d { feedmax = Some n })
with_value d keys.Spinmax value = number_within 1 9999 value >>= λ n. Some (record d { spinmax = Some n })
with_value d keys.Toolmax value = number_within 1 99 value >>= λ n. Some (record d { toolmax = Some n })
with_value d keys.Words value = choice (codes "ALL") (codes "CHANGED") value >>= λ b. Some (record d { words = Some b })
with_value d keys.Mode value = choice (codes "ABS") (codes "INC") value >>= λ b. Some (record d { mode = Some b })
with_value d keys.Zeros value = choice (codes "KEPT") (codes "DROPPED") value >>= λ b. Some (record d { zeros = Some b })
with_value d keys.Arcs value = choice (codes "LINES") (codes "CIRCLES") value >>= λ b. Some (record d { arcs = Some b })
with_value d keys.Drill value = choice (codes "MOVES") (codes "CYCLES") value >>= λ b. Some (record d { drill = Some b })

-- the machine, where CODE, SEQ, FEEDMAX, SPINMAX and TOOLMAX stand; a key left out of the others has its first value
abbrev pub machine_of : Draft → Option Machine
machine_of d = do
  code ← d.code
  seq ← d.seq
  feedmax ← d.feedmax
  spinmax ← d.spinmax
  toolmax ← d.toolmax
  Some (record {
    code = code;
    seq = seq;
    feedmax = feedmax;
    spinmax = spinmax;
    toolmax = toolmax;
    changed = unwrap_or d.words false;
    incremental = unwrap_or d.mode false;
    short = unwrap_or d.zeros false;
    circles = unwrap_or d.arcs false;
    cycles = unwrap_or d.drill false;
  })
