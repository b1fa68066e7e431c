-- What names mean: parameters of the running macro first, then the names that are common to the program.
use Rattle.std.specs.Prelude.{◌≡◌, ◌≢◌, ℕ, ℤ, ◌++◌, nat_eq, List, [], ◌∷◌, Option, Some, None, Result, Err}
use Rattle.std.specs.Cmp.Lexicographic.{pointwise}
use Rattle.std.specs.Map.{lookup, keys_of}
use Rattle.indexmap.specs.IndexMap.{insert_entry}
use Rattle.apt_words.specs.declared.Case.{Case}
use Rattle.apt_words.specs.declared.Case.TheVariants as cases
use Rattle.apt_scalar.specs.declared.names.Value.{Value}
use Rattle.apt_scalar.specs.declared.names.Value.TheVariants as values
use Rattle.apt_scalar.specs.declared.names.Bound.{Bound}
use Rattle.apt_scalar.specs.declared.names.Bound.TheVariants as bounds
use Rattle.apt_scalar.specs.Scalars.{in_range}

-- the names of a program with what they mean, in the order in which they were first given a meaning
abbrev pub Names : Type 0
Names = List (List ℕ × Value)

-- the parameters of the running macro with what they stand for
abbrev pub Parameters : Type 0
Parameters = List (List ℕ × Bound)

abbrev pub meaning : {A : Type 0} → List (List ℕ × A) → List ℕ → Option A
meaning names name = lookup (pointwise nat_eq name) names

-- the entries after a name is given a value: a new name goes last, a known one keeps its place
abbrev pub with_entry : Names → List ℕ → Value → Names
with_entry names name v = insert_entry (pointwise nat_eq) names name v

-- the same of the names alone
abbrev pub names_with : List (List ℕ) → List ℕ → Option Value → List (List ℕ)
names_with names name None = names ++ name ∷ []
names_with names name (Some v) = names

pub record IsBound (before : Names) (name : List ℕ) (v : Value) (now : Names) : Type 0 where
  pub given : meaning now name ≡ Some v
  pub others : (other : List ℕ) → other ≢ name → meaning now other ≡ meaning before other
  pub order : keys_of now ≡ names_with (keys_of before) name (meaning before name)

-- a figure is no scalar
abbrev pub scalar_in : Option Value → Result ℤ Case
scalar_in (Some (values.Scalar v)) = in_range v
scalar_in (Some (values.Shape kind)) = Err cases.Unknown
scalar_in None = Err cases.Unknown

-- a parameter is a number, or stands for a name of the program
abbrev pub scalar_of : Names → List ℕ → Option Bound → Result ℤ Case
scalar_of names name None = scalar_in (meaning names name)
scalar_of names name (Some (bounds.Scalar v)) = in_range v
scalar_of names name (Some (bounds.Alias other)) = scalar_in (meaning names other)

abbrev pub scalar_named : Names → Parameters → List ℕ → Result ℤ Case
scalar_named names parameters name = scalar_of names name (meaning parameters name)
