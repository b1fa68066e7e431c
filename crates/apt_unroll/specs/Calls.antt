-- What a call binds the parameters of a macro to.
use Rattle.std.specs.Prelude.{ℕ, ◌&&◌, ◌||◌, not, Bool, false, is_some, List, [], ◌∷◌, Option, Some, None, Result, Ok, Err, if◌then◌else◌}
use Rattle.std.specs.List.{list_all, list_any}
use Rattle.std.proofs.Common.{bytes_eq}
use Rattle.apt_words.specs.Chains.{◌>>=◌}
use Rattle.apt_words.specs.Trees.{Tree, Num, Name, Neg, Bin, Root, Abs}
use Rattle.apt_words.specs.declared.Case.{Case}
use Rattle.apt_words.specs.declared.Case.TheVariants as cases
use Rattle.apt_scalar.specs.declared.names.Value.{Value}
use Rattle.apt_scalar.specs.declared.names.Value.TheVariants as values
use Rattle.apt_scalar.specs.declared.names.Bound.{Bound}
use Rattle.apt_scalar.specs.declared.names.Bound.TheVariants as bounds
use Rattle.apt_scalar.specs.Meanings.{Names, Parameters, meaning}
use Rattle.apt_scalar.specs.Evaluation.{value_of}

-- the parameters of a MACRO, each with its default where it has one
abbrev pub Formal : Type 0
Formal = List (List ℕ × Option Tree)

-- the arguments of a CALL
abbrev pub Actual : Type 0
Actual = List (List ℕ × Tree)

-- ---- a lone name that stands for a figure

-- a name whose latest value is a figure stands for itself
abbrev pub if_figure : List ℕ → Option Value → Option (List ℕ)
if_figure name None = None
if_figure name (Some (values.Scalar v)) = None
if_figure name (Some (values.Shape kind)) = Some name

-- a parameter of the caller that stands for a name passes that name on
abbrev pub passed_on : Names → List ℕ → Option Bound → Option (List ℕ)
passed_on names name None = if_figure name (meaning names name)
passed_on names name (Some (bounds.Scalar v)) = None
passed_on names name (Some (bounds.Alias other)) = Some other

abbrev pub lone_name : Names → Parameters → Tree → Option (List ℕ)
lone_name names ps (Name name) = passed_on names name (meaning ps name)
lone_name names ps _ = None

abbrev pub or_number : Option (List ℕ) → Names → Parameters → Tree → Result Bound Case
or_number (Some name) names ps e = Ok (bounds.Alias name)
or_number None names ps e = value_of names ps e >>= λ v. Ok (bounds.Scalar v)

-- what an expression stands for in the caller's names
abbrev pub bound_by : Names → Parameters → Tree → Result Bound Case
bound_by names ps e = or_number (lone_name names ps e) names ps e

-- ---- arguments and parameters

abbrev pub has_name : {A : Type 0} → List (List ℕ × A) → List ℕ → Bool
has_name entries name = list_any (λ e. bytes_eq e.0 name) entries

abbrev pub are_twice : Actual → Bool
are_twice [] = false
are_twice (a ∷ more) = has_name more a.0 || are_twice more

-- each argument is for a parameter
abbrev pub are_known : Formal → Actual → Bool
are_known formal actual = list_all (λ (a : List ℕ × Tree). has_name formal a.0) actual

-- each parameter has an argument or a default
abbrev pub are_given : Formal → Actual → Bool
are_given formal actual = list_all (λ (p : List ℕ × Option Tree). has_name actual p.0 || is_some p.1) formal

-- and none is given twice
abbrev pub fit : Formal → Actual → Bool
fit formal actual = are_known formal actual && not (are_twice actual) && are_given formal actual

-- the expression of a parameter: its argument, else its default
abbrev pub expression_for : Actual → List ℕ × Option Tree → Option Tree
expression_for [] p = p.1
expression_for (a ∷ more) p = if bytes_eq a.0 p.0 then Some a.1 else expression_for more p

abbrev pub bound_or_bad : Names → Parameters → Option Tree → Result Bound Case
bound_or_bad names ps None = Err cases.BadArgs
bound_or_bad names ps (Some e) = bound_by names ps e

-- the parameters with what they stand for, evaluated one after another in the caller's names
abbrev pub bind_each : Names → Parameters → Actual → Formal → Result Parameters Case
bind_each names ps actual [] = Ok []
bind_each names ps actual (p ∷ more) = bound_or_bad names ps (expression_for actual p) >>= λ bound. bind_each names ps actual more >>= λ rest. Ok ((p.0, bound) ∷ rest)

abbrev pub bindings : Names → Parameters → Formal → Actual → Result Parameters Case
bindings names ps formal actual = if fit formal actual then bind_each names ps actual formal else Err cases.BadArgs
