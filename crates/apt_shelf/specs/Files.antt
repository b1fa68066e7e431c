-- Whole files, read and written.
use Rattle.std.specs.Prelude.{◌≡◌, ◌⊎◌, ℕ, ◌+◌, ◌≤◌, ◌<◌, List, [], ◌∷◌, ◌++◌, length, take, Option, Some, None, IsSomeAnd}
use Rattle.std.specs.FinMap.{get, insert}
use Rattle.apt_shelf.specs.Told.{Contents, Adds}

-- the name holds these bytes, where the map is told
abbrev pub HoldsAt : Option Contents → List ℕ → List ℕ → Type 0
HoldsAt None name bytes = Unit {0}
HoldsAt (Some m) name bytes = get m name ≡ Some bytes

-- the name holds more bytes than the limit, where the map is told
abbrev pub IsLongerAt : Option Contents → List ℕ → ℕ → Type 0
IsLongerAt None name limit = Unit {0}
IsLongerAt (Some m) name limit = IsSomeAnd (get m name) (λ bytes. limit < length bytes)

-- behind so many bytes that were read more are left than the limit allows, where that is told
abbrev pub HasMore : Option (List ℕ) → ℕ → ℕ → Type 0
HasMore None so_far limit = Unit {0}
HasMore (Some left) so_far limit = limit < so_far + length left

-- what was read so far, and what is left
abbrev pub HasRead : Option Contents → List ℕ → Option (List ℕ) → List ℕ → Type 0
HasRead None name left bytes = Unit {0}
HasRead (Some m) name left bytes = (rest : List ℕ) × (left ≡ Some rest) × (get m name ≡ Some (bytes ++ rest))

-- bytes were appended by calls of which none was empty: without a byte nothing changes
abbrev pub AddsAny : Option (List ℕ) → List ℕ → Option Contents → Option Contents → Type 0
AddsAny writing [] before now = now ≡ before
AddsAny writing (b ∷ bytes) before now = Adds writing (b ∷ bytes) before now

-- a front part of the bytes was appended so, and the rest is left
abbrev pub AddsFront : Option (List ℕ) → List ℕ → List ℕ → Option Contents → Option Contents → Type 0
AddsFront writing bytes rest before now = (part : List ℕ) × (part ++ rest ≡ bytes) × AddsAny writing part before now

-- after a refused write of a whole file: as before, or the name holds a prefix of the bytes
abbrev pub WritesPrefix : List ℕ → List ℕ → Option Contents → Option Contents → Type 0
WritesPrefix name bytes None now = Unit {0}
WritesPrefix name bytes (Some m) now = (now ≡ Some m) ⊎ ((k : ℕ) × (k ≤ length bytes) × (now ≡ Some (insert m name (take k bytes))))
