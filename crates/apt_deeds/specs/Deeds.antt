-- What a statement does where it is executed: its expressions by their values, its names by what they stand for.
use Rattle.std.specs.Prelude.{ℕ, zero, suc, ℤ, pos, Bool, true, false, List, [], ◌∷◌, Option, Some, None, is_some, option_map, Result, Ok, Err, if◌then◌else◌}
use Rattle.apt_words.specs.Asks.{Ask, ask_of, defined_by, listed}
use Rattle.apt_words.specs.Drills.{drill_of}
use Rattle.apt_words.specs.Chains.{◌>>=◌}
use Rattle.apt_words.specs.Composition.{Composition, Meanings, names_with, composition}
use Rattle.apt_words.specs.Trees.{Tree, Num, Name, Neg, Bin, Root, Abs}
use Rattle.apt_words.specs.declared.Case.{Case}
use Rattle.apt_words.specs.declared.Case.TheVariants as cases
use Rattle.apt_words.specs.declared.Stop.{Stop}
use Rattle.apt_words.specs.declared.ask.Form.{Form}
use Rattle.apt_words.specs.declared.ask.Form.TheVariants as forms
use Rattle.apt_words.specs.declared.body.Body.{Body}
use Rattle.apt_words.specs.declared.deed.Deed.{Deed}
use Rattle.apt_words.specs.declared.drill.Drill.{Drill}
use Rattle.apt_words.specs.declared.drill.Drill.TheVariants as drills
use Rattle.apt_scalar.specs.declared.names.Value.{Value}
use Rattle.apt_scalar.specs.declared.names.Value.TheVariants as values
use Rattle.apt_scalar.specs.declared.names.Kind.TheVariants as kinds
use Rattle.apt_scalar.specs.declared.names.Bound.{Bound}
use Rattle.apt_scalar.specs.declared.names.Bound.TheVariants as bounds
use Rattle.apt_scalar.specs.Meanings.{Names, Parameters, meaning, with_entry}
use Rattle.apt_scalar.specs.Evaluation.{value_of}

-- ---- arguments, from left to right

-- a name of a figure: a parameter stands for another name, and a number for none
abbrev pub standing_for : List ℕ → Option Bound → Result (List ℕ) Case
standing_for n None = Ok n
standing_for n (Some (bounds.Alias other)) = Ok other
standing_for n (Some (bounds.Scalar v)) = Err cases.WrongKind

abbrev pub name_for : Parameters → List ℕ → Result (List ℕ) Case
name_for ps n = standing_for n (meaning ps n)

-- the values of expressions, and the names for which names stand
abbrev pub values_of : Names → Parameters → List Tree → Result (List ℤ) Case
values_of names ps [] = Ok []
values_of names ps (e ∷ es) = value_of names ps e >>= λ v. values_of names ps es >>= λ vs. Ok (v ∷ vs)

abbrev pub names_for : Parameters → List (List ℕ) → Result (List (List ℕ)) Case
names_for ps [] = Ok []
names_for ps (n ∷ ns) = name_for ps n >>= λ m. names_for ps ns >>= λ ms. Ok (m ∷ ms)

-- expressions have their values before names are looked up
abbrev pub arguments : Names → Parameters → List Tree → List (List ℕ) → Result (List ℤ × List (List ℕ)) Case
arguments names ps es ns = values_of names ps es >>= λ vs. names_for ps ns >>= λ ms. Ok (vs, ms)

-- arguments that are listed
abbrev pub listed_by : {A B : Type 0} → (A → B) → Result A Case → Result B Case
listed_by list (Ok a) = Ok (list a)
listed_by list (Err case) = Err case

abbrev pub two : {A : Type 0} → A × A → List A
two r = r.0 ∷ r.1 ∷ []

abbrev pub three : {A : Type 0} → A × A × A → List A
three r = r.0 ∷ r.1 ∷ r.2 ∷ []

abbrev pub four : {A : Type 0} → A × A × A × A → List A
four r = r.0 ∷ r.1 ∷ r.2 ∷ r.3 ∷ []

-- a value may be left out behind two, and a name with its stop behind one
abbrev pub two_or_three : ℤ × ℤ × Option ℤ → List ℤ
two_or_three r = r.0 ∷ r.1 ∷ listed r.2

abbrev pub one_or_two : List ℕ × Option (Stop × List ℕ) → List (List ℕ)
one_or_two r = names_with r.0 r.1

-- ---- a lone name whose latest value is a point

abbrev pub point_named : List ℕ → Option Value → Option (List ℕ)
point_named n (Some (values.Shape kinds.Point)) = Some n
point_named n _ = None

abbrev pub point_in : Names → Result (List ℕ) Case → Option (List ℕ)
point_in names (Ok n) = point_named n (meaning names n)
point_in names (Err case) = None

abbrev pub lone_point : Names → Parameters → Tree → Option (List ℕ)
lone_point names ps (Name n) = point_in names (name_for ps n)
lone_point names ps _ = None

abbrev pub with_point : Option (List ℕ) → Option (List (List ℕ)) → Option (List (List ℕ))
with_point None more = None
with_point (Some n) None = None
with_point (Some n) (Some more) = Some (n ∷ more)

abbrev pub lone_points : Names → Parameters → List Tree → Option (List (List ℕ))
lone_points names ps [] = Some []
lone_points names ps (e ∷ es) = with_point (lone_point names ps e) (lone_points names ps es)

-- ---- statements

-- the k-th of some values or names, from 0
abbrev pub nth : {A : Type 0} → A → List A → ℕ → A
nth none [] k = none
nth none (x ∷ xs) zero = x
nth none (x ∷ xs) (suc k) = nth none xs k

-- the latest value of a name is a pattern
abbrev pub is_pattern : Option Value → Bool
is_pattern (Some (values.Shape kinds.Pattern)) = true
is_pattern _ = false

-- a name that may stand for a pattern has its own deed where it does
abbrev pub pattern_or : Option (Meanings → Deed) → Bool → Meanings → Deed → Deed
pattern_or None stands m deed = deed
pattern_or (Some by_pattern) stands m deed = if stands then by_pattern m else deed

unfoldable pub by_values : Names → Parameters → Composition → Result Deed Case
by_values names ps c =
    arguments names ps c.numbers c.names >>= λ r.
    let m = nth [] r.1 in
    Ok (pattern_or c.by_pattern (is_pattern (meaning names (m 0))) m (c.deed (nth (pos 0) r.0) m))

-- expressions that may be points are points where each is a lone name whose latest value is one
abbrev pub points_or : Option (Meanings → Deed) → Option (List (List ℕ)) → Result Deed Case → Result Deed Case
points_or None points values = values
points_or (Some deed) None values = values
points_or (Some deed) (Some points) values = Ok (deed (nth [] points))

unfoldable pub executed : Names → Parameters → Composition → Result Deed Case
executed names ps c = points_or c.by_points (lone_points names ps c.numbers) (by_values names ps c)

-- the deed of a statement; where macros, loops and jumps go on is no part of it
abbrev pub execution : Names → Parameters → Body → Result Deed Case
execution names ps body = executed names ps (composition body)

abbrev pub is_parameter : Parameters → Option (List ℕ) → Bool
is_parameter ps None = false
is_parameter ps (Some n) = is_some (meaning ps n)

-- a name that a statement defines is no parameter of the running macro; then come the values and names of the statement
unfoldable pub deed_of : Names → Parameters → Body → Result Deed Case
deed_of names ps body = if is_parameter ps (composition body).defines then Err cases.BadArgs else execution names ps body

-- ---- the names behind a step

abbrev pub value_by : Form → Value
value_by (forms.Number v) = values.Scalar v
value_by (forms.Point form) = values.Shape kinds.Point
value_by (forms.Line form) = values.Shape kinds.Line
value_by (forms.Circle form) = values.Shape kinds.Circle

-- the name that a step defines, with its value
abbrev pub definition_by : Ask → Option (List ℕ × Value)
definition_by ask = option_map (λ d. (d.0, value_by d.1)) (defined_by ask)

-- the name that a step gives to a pattern
abbrev pub pattern_by : Option Drill → Option (List ℕ × Value)
pattern_by (Some (drills.Pattern n p q v)) = Some (n, values.Shape kinds.Pattern)
pattern_by _ = None

abbrev pub names_after : Names → Option (List ℕ × Value) → Names
names_after names None = names
names_after names (Some entry) = with_entry names entry.0 entry.1

-- a definition counts as made as soon as its step is executed
abbrev pub names_behind : Names → Deed → Names
names_behind names deed = names_after (names_after names (definition_by (ask_of deed))) (pattern_by (drill_of deed))
