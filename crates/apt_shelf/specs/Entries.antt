-- Files in a list, as a finite map. At a name that stands twice the first counts.
use Rattle.std.specs.Prelude.{◌≡◌, ◌≢◌, ℕ, ◌<◌, List, map, length, slice_get, Option, Some, option_map}
use Rattle.std.proofs.Common.{String, Vec, string_bytes}
use Rattle.std.specs.FinMap.{get, from_entries}
use Rattle.apt_shelf.specs.Told.{Contents}

-- a name and its bytes
abbrev pub Entry : Type 0
Entry = List ℕ × List ℕ

abbrev pub entry : {A B : Type 0} → String A × Vec ℕ B → Entry
entry f = (string_bytes f.0, f.1.items)

abbrev pub entries : {A B : Type 0} → List (String A × Vec ℕ B) → List Entry
entries files = map entry files

-- the map of some entries
abbrev pub of_entries : List Entry → Contents
of_entries es = from_entries es

-- the map of some files
abbrev pub contents : {A B : Type 0} → List (String A × Vec ℕ B) → Contents
contents files = of_entries (entries files)

-- what a name holds
abbrev pub held : Contents → List ℕ → Option (List ℕ)
held m name = get m name

abbrev pub name_at : List Entry → ℕ → Option (List ℕ)
name_at es i = option_map (λ e. e.0) (slice_get es i)

-- the first place of a name
pub record IsFirstIndex (es : List Entry) (name : List ℕ) (i : ℕ) : Type 0 where
  pub within : i < length es
  pub here : name_at es i ≡ Some name
  pub before : (j : ℕ) → j < i → name_at es j ≢ Some name

-- a name that stands nowhere
abbrev pub IsAbsent : List Entry → List ℕ → Type 0
IsAbsent es name = (j : ℕ) → name_at es j ≢ Some name
