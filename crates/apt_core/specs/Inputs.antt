-- The files that a command reads, each with its limit.
use Rattle.std.specs.Prelude.{◌≡◌, ◌⊎◌, ℕ, ◌≤◌, List, [], ◌∷◌, ◌++◌, length, Option}
use Rattle.apt_shelf.specs.declared.shelf.Shelf as shelves
use Rattle.apt_shelf.specs.Told.{Contents, Rose, Lacks}
use Rattle.apt_shelf.specs.Files.{HoldsAt, IsLongerAt}
use Rattle.apt_shelf.specs.declared.files.ReadError.{ReadError}
use Rattle.apt_shelf.specs.declared.files.ReadError.TheVariants as errors
use Rattle.apt_part.specs.Promise.{file_limit}
use Rattle.apt_report.specs.declared.status.Status.{Status}
use Rattle.apt_report.specs.declared.status.Status.TheVariants as answers
use Rattle.apt_core.specs.Words.{FourNames, TapeNames}
use Rattle.apt_core.specs.Due.{OrNoMemory}

-- the bytes under each name, where they are told, the name that is being written, and how often reading and writing have failed
pub record Files : Type 0 where
  pub told : Option Contents
  pub writing : Option (List ℕ)
  pub read_faults : ℕ
  pub write_faults : ℕ

-- the same, as a shelf has it
abbrev pub files_on : {H : Type 0} → shelves.Ghosts H → H → Files
files_on h shelf = record { told = h.told shelf; writing = h.writing shelf; read_faults = h.read_faults shelf; write_faults = h.write_faults shelf }

-- nothing is written
pub record AreRead (before after : Files) : Type 0 where
  pub files : after.told ≡ before.told
  pub writing : after.writing ≡ before.writing
  pub unfailed : after.write_faults ≡ before.write_faults
  pub later : before.read_faults ≤ after.read_faults

-- a name, and the most bytes that are read of it
pub record Input : Type 0 where
  pub name : List ℕ
  pub limit : ℕ

abbrev pub input : List ℕ → ℕ → Input
input name limit = record { name = name; limit = limit }

-- the longest part program and the longest machine table, in bytes
abbrev pub part_limit : ℕ
part_limit = 4194304

abbrev pub machine_limit : ℕ
machine_limit = 65536

-- and the longest outline
abbrev pub outline_limit : ℕ
outline_limit = 65536

-- what `compile`, `certify`, `guard`, `decode` and `list` read, in this order
abbrev pub part_inputs : FourNames → List Input
part_inputs n = input n.part part_limit ∷ input n.machine machine_limit ∷ []

abbrev pub inputs : FourNames → List Input
inputs n = input n.part part_limit ∷ input n.machine machine_limit ∷ input n.cl file_limit ∷ input n.tape file_limit ∷ []

abbrev pub guard_inputs : FourNames → List ℕ → List Input
guard_inputs n outline = inputs n ++ input outline outline_limit ∷ []

abbrev pub tape_inputs : TapeNames → List Input
tape_inputs n = input n.machine machine_limit ∷ input n.tape file_limit ∷ []

abbrev pub list_inputs : List ℕ → List Input
list_inputs name = input name file_limit ∷ []

-- what it holds is read whole
abbrev pub Reads : Option Contents → Input → List ℕ → Type 0
Reads told x text = HoldsAt told x.name text × (length text ≤ x.limit)

abbrev pub ReadsAll : Option Contents → List Input → List (List ℕ) → Type 0
ReadsAll told [] [] = Unit {0}
ReadsAll told [] (text ∷ texts) = ⊥
ReadsAll told (x ∷ xs) [] = ⊥
ReadsAll told (x ∷ xs) (text ∷ texts) = Reads told x text × ReadsAll told xs texts

-- the answer where it is not there, or is too long
abbrev pub IsUnread : Option Contents → Input → ℕ → ℕ → Status → Type 0
IsUnread told x before now answer =
    ((answer ≡ answers.Missing x.name) × Lacks told x.name before now)
    ⊎ ((answer ≡ answers.TooLong x.name) × IsLongerAt told x.name x.limit)

-- the answer for the first that can't be read
abbrev pub IsFirstUnread : Option Contents → List Input → ℕ → ℕ → Status → Type 0
IsFirstUnread told [] before now answer = ⊥
IsFirstUnread told (x ∷ xs) before now answer =
    IsUnread told x before now answer ⊎ ((text : List ℕ) × Reads told x text × IsFirstUnread told xs before now answer)

-- how it is told that a name can't be read
abbrev pub IsToldFor : List ℕ → ReadError → Status → Type 0
IsToldFor name errors.Missing answer = OrNoMemory (answer ≡ answers.Missing name) answer
IsToldFor name errors.Fault answer = answer ≡ answers.ReadFault
IsToldFor name errors.TooLong answer = OrNoMemory (answer ≡ answers.TooLong name) answer
IsToldFor name errors.NoMemory answer = answer ≡ answers.NoMemory

-- the answer where a count of faults rose, or memory ran out
abbrev pub IsShort : Status → ℕ → ℕ → Status → Type 0
IsShort fault before now answer = OrNoMemory ((answer ≡ fault) × Rose before now) answer

-- the answer of a work that stops: the first file that can't be read, or that reading failed, or that memory ran out
abbrev pub IsStopped : List Input → Files → Files → Status → Type 0
IsStopped xs before after answer =
    IsFirstUnread before.told xs before.read_faults after.read_faults answer ⊎ IsShort answers.ReadFault before.read_faults after.read_faults answer
