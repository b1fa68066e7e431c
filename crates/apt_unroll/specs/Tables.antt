-- The tables in which a program's places are looked up.
use Rattle.std.specs.Prelude.{◌≡◌, ℕ, ◌+◌, Bool, true, false, List, [], ◌∷◌, slice_get, Option, Some, None}
use Rattle.apt_words.specs.Options.{◌>>=◌, only_if}
use Rattle.apt_scalar.specs.Meanings.{meaning}
use Rattle.apt_words.specs.Composition.{flow_of}
use Rattle.apt_words.specs.declared.body.Stmt.{Stmt}
use Rattle.apt_unroll.specs.declared.numbers.Naming.TheVariants as namings
use Rattle.apt_unroll.specs.declared.places.Tables.{Tables}
use Rattle.apt_unroll.specs.Places.{begins_macro, behind_macros, is_named, place_of, regions_of, are_one_region}

-- what is executed where a run comes to the i-th statement, to the next, and so on up to the end
abbrev pub executed_in : ℕ → List Stmt → List ℕ
executed_in i [] = i ∷ []
executed_in i (st ∷ sts) = behind_macros false i (st ∷ sts) ∷ executed_in (i + 1) sts

-- the number of a statement under its name, among statements before
abbrev pub or_else : {A : Type 0} → Option A → Option A → Option A
or_else None other = other
or_else (Some a) other = Some a

abbrev pub number_if : Option (List ℕ) → ℕ → List ℕ → Option ℕ
number_if own i name = only_if (is_named own name) i

pub record AreTables (sts : List Stmt) (t : Tables) : Type 0 where
  pub executed : t.executed.items ≡ executed_in 0 sts
  pub regions : t.regions.items ≡ regions_of sts
  pub labels : (name : List ℕ) → meaning t.labels name ≡ place_of namings.Labels sts name
  pub macros : (name : List ℕ) → meaning t.macros name ≡ place_of namings.Macros sts name

-- the tables, where they are made
abbrev pub AreMade : List Stmt → Option Tables → Type 0
AreMade sts None = Unit {0}
AreMade sts (Some t) = AreTables sts t

-- a program, and whether its tables are made
pub record Listed : Type 0 where
  pub stmts : List Stmt
  pub made : Bool

abbrev pub listed : List Stmt → Listed
listed sts = record { stmts = sts; made = false }

-- the statement with a label, where the tables have it in the region of the i-th
abbrev pub target_in : Tables → ℕ → List ℕ → Option ℕ
target_in t i name = meaning t.labels name >>= λ j. only_if (are_one_region (slice_get t.regions.items i) (slice_get t.regions.items j)) j

abbrev pub IsMacroAt : Option Stmt → Type 0
IsMacroAt None = ⊥
IsMacroAt (Some st) = begins_macro (flow_of st.body) ≡ true
