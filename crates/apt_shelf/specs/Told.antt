-- What a shelf tells, and what its calls do to it.
use Rattle.std.specs.Prelude.{◌≡◌, ◌⊎◌, ℕ, ◌+◌, ◌-◌, ◌^◌, ◌≤◌, min, List, [], ◌++◌, length, take, drop, unwrap_or, Option, Some, None, IsSome, Result, IsErrOf}
use Rattle.std.specs.Ordering.{nat_cmp}
use Rattle.std.specs.Cmp.Lexicographic.{slice_cmp}
use Rattle.std.specs.FinMap.{FinMap, get, insert}
use Rattle.apt_shelf.specs.declared.shelf.ReadStart.{ReadStart}
use Rattle.apt_shelf.specs.declared.shelf.ReadStart.TheVariants as starts
use Rattle.apt_shelf.specs.declared.shelf.ShelfFault.{ShelfFault}
use Rattle.apt_shelf.specs.declared.shelf.ShelfFault.TheVariants as faults

-- the bytes under each name
abbrev pub Contents : Type 0
Contents = FinMap (slice_cmp nat_cmp) (List ℕ)

-- a count is greater than before, or stands at the last value of a u64
abbrev pub Rose : ℕ → ℕ → Type 0
Rose before now = min (before + 1) (2 ^ 64 - 1) ≤ now

-- what a name holds after some bytes are appended
abbrev pub appended : Contents → List ℕ → List ℕ → Contents
appended m name piece = insert m name (unwrap_or (get m name) [] ++ piece)

-- a step of the contents, where they are told
abbrev pub Steps : (Contents → Contents) → Option Contents → Option Contents → Type 0
Steps f None now = Unit {0}
Steps f (Some m) now = now ≡ Some (f m)

-- an Ok of start_read: what is left is what the told map has at the name
abbrev pub StartsAt : Option Contents → List ℕ → Option (List ℕ) → Type 0
StartsAt None name left = Unit {0}
StartsAt (Some m) name left = IsSome (get m name) × (left ≡ get m name)

-- Missing: the told map lacks the name; where none is told, the count rose
abbrev pub Lacks : Option Contents → List ℕ → ℕ → ℕ → Type 0
Lacks None name before now = Rose before now
Lacks (Some m) name before now = get m name ≡ None

-- n bytes at the front of buf came from what is left; 0 only at the end
abbrev pub Takes : Option (List ℕ) → Option (List ℕ) → ℕ → List ℕ → Type 0
Takes None now n buf = Unit {0}
Takes (Some left) now n buf = (n ≤ length left) × (take n buf ≡ take n left) × (now ≡ Some (drop n left)) × (n ≡ 0 → left ≡ [])

-- after a refused start_write: as before, or the name holds nothing
abbrev pub MayBeEmptied : List ℕ → Option Contents → Option Contents → Type 0
MayBeEmptied name None now = Unit {0}
MayBeEmptied name (Some m) now = (now ≡ Some m) ⊎ (now ≡ Some (insert m name []))

-- after a refused append: what it held and a prefix of the piece
abbrev pub KeepsPrefix : Option (List ℕ) → List ℕ → Option Contents → Option Contents → Type 0
KeepsPrefix writing piece None now = Unit {0}
KeepsPrefix None piece (Some m) now = Unit {0}
KeepsPrefix (Some name) piece (Some m) now = (now ≡ Some m) ⊎ ((k : ℕ) × (k ≤ length piece) × (now ≡ Some (appended m name (take k piece))))

-- an Ok of append
abbrev pub Adds : Option (List ℕ) → List ℕ → Option Contents → Option Contents → Type 0
Adds writing piece None now = Unit {0}
Adds None piece (Some m) now = Unit {0}
Adds (Some name) piece (Some m) now = now ≡ Some (appended m name piece)

-- the count does not fall, and Fault comes only where it rose
pub record StartCause {T : Type 0} (before now : ℕ) (result : Result T ReadStart) : Type 0 where
  pub later : before ≤ now
  pub fault : IsErrOf result starts.Fault → Rose before now

pub record FaultCause {T : Type 0} (before now : ℕ) (result : Result T ShelfFault) : Type 0 where
  pub later : before ≤ now
  pub fault : IsErrOf result faults.Fault → Rose before now

-- a sink has the bytes at its end
abbrev pub Puts : List ℕ → Option (List ℕ) → Option (List ℕ) → Type 0
Puts bytes None now = Unit {0}
Puts bytes (Some before) now = now ≡ Some (before ++ bytes)

-- a sink has a prefix of the bytes at its end
abbrev pub PutsPrefix : List ℕ → Option (List ℕ) → Option (List ℕ) → Type 0
PutsPrefix bytes None now = Unit {0}
PutsPrefix bytes (Some before) now = (k : ℕ) × (k ≤ length bytes) × (now ≡ Some (before ++ take k bytes))
