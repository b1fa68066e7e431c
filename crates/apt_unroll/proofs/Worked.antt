-- Worked programs: values by names, refusals, the end, macros, loops and jumps.
use Rattle.std.proofs.Common.{◌++◌, refl, ◌≡◌, ℕ, ◌*◌, List, [], ◌∷◌, Some, None, Ok, Err, pos}
use Rattle.std.specs.Prelude.{ℤ, negsuc, true, codes}
use Rattle.apt_words.specs.Trees.{Tree, Num, Name, Neg, Bin}
use Rattle.apt_words.specs.declared.Case.{Case}
use Rattle.apt_words.specs.declared.Case.TheVariants as cases
use Rattle.apt_words.specs.declared.Go.TheVariants as turns
use Rattle.apt_words.specs.declared.Stop.TheVariants as stops
use Rattle.apt_words.specs.declared.expr.Op.TheVariants.{Add, Div}
use Rattle.apt_words.specs.declared.body.Body.{Body}
use Rattle.apt_words.specs.declared.body.Body.TheVariants as bodies
use Rattle.apt_words.specs.declared.body.Stmt.{Stmt}
use Rattle.apt_words.specs.declared.deed.Deed.{Deed}
use Rattle.apt_words.specs.declared.deed.Deed.TheVariants as deeds
use Rattle.apt_words.specs.declared.deed.Step.{Step}
use Rattle.apt_words.proofs.Contours.{contouring}
use Rattle.apt_scalar.specs.Scalars.{one}
use Rattle.apt_scalar.specs.declared.names.Value.TheVariants as values
use Rattle.apt_scalar.specs.declared.names.Kind.TheVariants as kinds
use Rattle.apt_scalar.specs.declared.names.Bound.TheVariants as bounds
use Rattle.apt_scalar.specs.Meanings.{Names}
use Rattle.apt_deeds.specs.Deeds.{by_values, executed, deed_of, names_behind}
use Rattle.apt_unroll.specs.Places.{regions_of}
use Rattle.apt_unroll.specs.declared.places.Region.TheVariants as regions
use Rattle.apt_unroll.specs.Calls.{bindings}
use Rattle.apt_unroll.specs.Stages.{first_stage}
use Rattle.apt_unroll.specs.Actions.{label_by, action, step_of}
use Rattle.apt_unroll.specs.Trace.{Trace, trace_from, trace_of}

abbrev units : ℕ → ℤ
units n = pos (n * one)

abbrev number : ℕ → Tree
number n = Num (units n)

abbrev X : List ℕ
X = codes "X"

abbrev Y : List ℕ
Y = codes "Y"

abbrev P : List ℕ
P = codes "P"

abbrev L : List ℕ
L = codes "L1"

abbrev C : List ℕ
C = codes "C"

-- a statement on a line
abbrev on : ℕ → Body → Stmt
on line body = record { line = line; label = None; body = body }

abbrev step : ℕ → ℕ → Deed → Step
step line n deed = record { line = line; step = n; deed = deed }

abbrev all_of : List Step → Trace
all_of steps = record { steps = steps; fault = None }

abbrev up_to : List Step → ℕ → ℕ → Case → Trace
up_to steps line n case = record { steps = steps; fault = Some (record { line = line; step = n; case = case }) }

-- a point, a circle and a scalar
abbrev names : Names
names = (P, values.Shape kinds.Point) ∷ (C, values.Shape kinds.Circle) ∷ (X, values.Scalar (units 4)) ∷ []

later_by_earlier : trace_of (on 2 (bodies.Assign X (number 1)) ∷ on 5 (bodies.Assign Y (Bin Add (Name X) (number 2))) ∷ [])
    ≡ all_of (step 2 1 (deeds.Assign X (units 1)) ∷ step 5 2 (deeds.Assign Y (units 3)) ∷ [])
unfolding trace_from action deed_of executed by_values
later_by_earlier = refl

name_given_anew : trace_of (on 1 (bodies.Assign X (number 1)) ∷ on 2 (bodies.Assign X (Bin Add (Name X) (number 2))) ∷ on 3 (bodies.Cutter (Name X)) ∷ [])
    ≡ all_of (step 1 1 (deeds.Assign X (units 1)) ∷ step 2 2 (deeds.Assign X (units 3)) ∷ step 3 3 (deeds.Cutter (units 3)) ∷ [])
unfolding trace_from action deed_of executed by_values
name_given_anew = refl

line_by_values : trace_of (on 1 (bodies.LineXy L (number 0) (number 1) (number 2, Bin Div (number 3) (number 2))) ∷ [])
    ≡ all_of (step 1 1 (deeds.LineXy L (units 0) (units 1) (units 2) (pos 1500000)) ∷ [])
unfolding trace_from action deed_of executed by_values
line_by_values = refl

behind_end : trace_of (on 1 bodies.EndWord ∷ on 2 bodies.Rapid ∷ on 3 bodies.Fini ∷ []) ≡ up_to (step 1 1 deeds.EndWord ∷ []) 2 2 cases.AfterEnd
unfolding trace_from action deed_of executed by_values
behind_end = refl

fini_behind_end : trace_of (on 1 bodies.EndWord ∷ on 2 bodies.Fini ∷ []) ≡ all_of (step 1 1 deeds.EndWord ∷ step 2 2 deeds.Fini ∷ [])
unfolding trace_from action deed_of executed by_values
fini_behind_end = refl

-- the left expression is refused first
left_is_first : trace_of (on 1 (bodies.Godlta (Name X) (Bin Div (number 1) (number 0)) (number 1)) ∷ []) ≡ up_to [] 1 1 cases.Unknown
unfolding trace_from action deed_of executed by_values
left_is_first = refl

second_of_two : trace_of (on 1 (bodies.Assign X (number 1)) ∷ on 2 (bodies.GotoXy (Name X) (Name Y) None) ∷ on 3 bodies.Halt ∷ [])
    ≡ up_to (step 1 1 (deeds.Assign X (units 1)) ∷ []) 2 2 cases.Unknown
unfolding trace_from action deed_of executed by_values
second_of_two = refl

by_zero : trace_of (on 1 (bodies.Fedrat (Bin Div (number 1) (number 0))) ∷ []) ≡ up_to [] 1 1 cases.DivideByZero
unfolding trace_from action deed_of executed by_values
by_zero = refl

-- a figure is no scalar, and a definition that is refused gives no name
figure_as_scalar : trace_of (on 1 (bodies.PointXy P (number 0) (number 0) None) ∷ on 2 (bodies.Assign X (Name P)) ∷ [])
    ≡ up_to (step 1 1 (deeds.PointXy P (units 0) (units 0) None) ∷ []) 2 2 cases.Unknown
unfolding trace_from action deed_of executed by_values
figure_as_scalar = refl

-- the 200,001st step is refused before all else
too_many : step_of [] 200001 (record first_stage { ended = true }) 0 (on 1 bodies.Rapid) ≡ Err cases.Budget
too_many = refl

last_of_all : step_of [] 200000 first_stage 0 (on 1 bodies.Fini) ≡ Ok (deeds.Fini, None)
unfolding action
last_of_all = refl

-- ---- circles

three_points : deed_of names [] (bodies.CircleThree Y (Name P) (Name P) (Name P)) ≡ Ok (deeds.CirclePoints Y P P P)
unfolding deed_of executed by_values
three_points = refl

by_radius : deed_of names [] (bodies.CircleThree Y (number 1) (Name X) (Bin Add (Name X) (Name X))) ≡ Ok (deeds.CircleXyr Y (units 1) (units 4) (units 8))
unfolding deed_of executed by_values
by_radius = refl

two_points_and_circle : deed_of names [] (bodies.CircleThree Y (Name P) (Name P) (Name C)) ≡ Err cases.Unknown
unfolding deed_of executed by_values
two_points_and_circle = refl

-- ---- parameters of macros

parameter_for_figure : deed_of names ((L, bounds.Alias P) ∷ []) (bodies.GotoPoint L) ≡ Ok (deeds.GotoPoint P)
unfolding deed_of executed by_values
parameter_for_figure = refl

number_for_figure : deed_of names ((L, bounds.Scalar (units 1)) ∷ []) (bodies.GoStart stops.To L None) ≡ Err cases.WrongKind
unfolding deed_of executed by_values
number_for_figure = refl

parameter_defined : deed_of names ((X, bounds.Scalar (units 1)) ∷ []) (bodies.Assign X (Name Y)) ≡ Err cases.BadArgs
unfolding deed_of executed by_values
parameter_defined = refl

-- ---- counts of meetings

count_by_parameter : deed_of names ((Y, bounds.Scalar (units 2)) ∷ []) (bodies.Contour (contouring None turns.Forward L stops.On C) (Name Y))
    ≡ Ok (deeds.Contour (contouring None turns.Forward L stops.On C) (units 2))
unfolding deed_of executed by_values
count_by_parameter = refl

-- a count has its value before the surfaces are looked up
count_before_surfaces : deed_of names ((L, bounds.Scalar (units 1)) ∷ []) (bodies.Contour (contouring None turns.Forward L stops.On C) (Name Y)) ≡ Err cases.Unknown
unfolding deed_of executed by_values
count_before_surfaces = refl

number_for_surface : deed_of names ((L, bounds.Scalar (units 1)) ∷ []) (bodies.Contour (contouring None turns.Forward L stops.On C) (number 2)) ≡ Err cases.WrongKind
unfolding deed_of executed by_values
number_for_surface = refl

-- ---- names behind a step

known_name_keeps_place : names_behind names (deeds.Assign P (units 7)) ≡ (P, values.Scalar (units 7)) ∷ (C, values.Shape kinds.Circle) ∷ (X, values.Scalar (units 4)) ∷ []
known_name_keeps_place = refl

no_name : names_behind names (deeds.Fedrat (units 7)) ≡ names
no_name = refl

-- ---- patterns

abbrev A : List ℕ
A = codes "A"

abbrev with_pattern : Names
with_pattern = (A, values.Shape kinds.Pattern) ∷ names

-- GOTO of a name visits its points where the latest value of the name is a pattern
pattern_visited : deed_of with_pattern [] (bodies.GotoPoint A) ≡ Ok (deeds.GotoPatern A)
unfolding deed_of executed by_values
pattern_visited = refl

parameter_for_pattern : deed_of with_pattern ((L, bounds.Alias A) ∷ []) (bodies.GotoPoint L) ≡ Ok (deeds.GotoPatern A)
unfolding deed_of executed by_values
parameter_for_pattern = refl

no_pattern : deed_of with_pattern [] (bodies.GotoPoint P) ≡ Ok (deeds.GotoPoint P)
unfolding deed_of executed by_values
no_pattern = refl

from_no_pattern : deed_of with_pattern [] (bodies.FromPoint A) ≡ Ok (deeds.FromPoint A)
unfolding deed_of executed by_values
from_no_pattern = refl

-- a pattern counts as a figure: it is no scalar, and no point in a list of three
pattern_as_scalar : deed_of with_pattern [] (bodies.Cutter (Name A)) ≡ Err cases.Unknown
unfolding deed_of executed by_values
pattern_as_scalar = refl

pattern_among_points : deed_of with_pattern [] (bodies.CircleThree Y (Name P) (Name A) (Name P)) ≡ Err cases.Unknown
unfolding deed_of executed by_values
pattern_among_points = refl

-- the count has its value before the points are looked up, and the name is a pattern behind the step
pattern_named : deed_of names [] (bodies.Patern A P C (Name X)) ≡ Ok (deeds.Patern A P C (units 4))
unfolding deed_of executed by_values
pattern_named = refl

pattern_behind : names_behind names (deeds.Patern A P C (units 4)) ≡ names ++ (A, values.Shape kinds.Pattern) ∷ []
pattern_behind = refl

point_as_pattern : names_behind names (deeds.Patern P P C (units 4)) ≡ (P, values.Shape kinds.Pattern) ∷ (C, values.Shape kinds.Circle) ∷ (X, values.Scalar (units 4)) ∷ []
point_as_pattern = refl

visited_then_gone : trace_of (on 1 (bodies.Patern A P P (number 2)) ∷ on 2 (bodies.GotoPoint A) ∷ on 3 (bodies.PointXy A (number 1) (number 2) None) ∷ on 4 (bodies.GotoPoint A) ∷ [])
    ≡ all_of (step 1 1 (deeds.Patern A P P (units 2)) ∷ step 2 2 (deeds.GotoPatern A) ∷ step 3 3 (deeds.PointXy A (units 1) (units 2) None) ∷ step 4 4 (deeds.GotoPoint A) ∷ [])
unfolding trace_from action deed_of executed by_values
visited_then_gone = refl

-- ---- loops and jumps

abbrev B : List ℕ
B = codes "B"

abbrev M : List ℕ
M = codes "M"

-- a statement with a label
abbrev marked : List ℕ → ℕ → Body → Stmt
marked l line body = record { line = line; label = Some l; body = body }

-- X counts up to 2
abbrev counting : List Stmt
counting =
    on 1 (bodies.Assign X (number 0))
    ∷ on 2 bodies.Loopst
    ∷ marked A 3 (bodies.Assign X (Bin Add (Name X) (number 1)))
    ∷ on 4 (bodies.If (Bin Add (Name X) (Neg (number 2))) A B B)
    ∷ marked B 5 bodies.Loopnd
    ∷ on 6 bodies.Fini
    ∷ []

loop_twice : trace_of counting
    ≡ all_of (
    step 1 1 (deeds.Assign X (units 0)) ∷ step 2 2 deeds.Loopst
    ∷ step 3 3 (deeds.Assign X (units 1)) ∷ step 4 4 deeds.If
    ∷ step 3 5 (deeds.Assign X (units 2)) ∷ step 4 6 deeds.If
    ∷ step 5 7 deeds.Loopnd ∷ step 6 8 deeds.Fini ∷ []
    )
unfolding trace_from action deed_of executed by_values
loop_twice = refl

-- a jump in no region
jump_outside : trace_of (on 1 (bodies.Jumpto B) ∷ marked B 2 bodies.Fini ∷ []) ≡ up_to [] 1 1 cases.JumpOutside
unfolding trace_from action
jump_outside = refl

-- out of a loop
jump_out : trace_of (on 1 bodies.Loopst ∷ on 2 (bodies.Jumpto B) ∷ on 3 bodies.Loopnd ∷ marked B 4 bodies.Fini ∷ []) ≡ up_to (step 1 1 deeds.Loopst ∷ []) 2 2 cases.JumpOutside
unfolding trace_from action
jump_out = refl

label_of_signs : label_by (negsuc 0) A B M ≡ A
label_of_signs = refl

label_of_zero : label_by (pos 0) A B M ≡ B
label_of_zero = refl

label_above : label_by (pos 1) A B M ≡ M
label_above = refl

-- a macro in a loop is no part of it, but for its MACRO
regions_of_both : regions_of (on 1 bodies.Loopst ∷ on 2 (bodies.Macro M []) ∷ on 3 bodies.Rapid ∷ on 4 bodies.Termac ∷ on 5 bodies.Loopnd ∷ on 6 bodies.Fini ∷ [])
    ≡ regions.Loop 0 ∷ regions.Loop 0 ∷ regions.Macro 1 ∷ regions.Macro 1 ∷ regions.Loop 0 ∷ regions.Outside ∷ []
regions_of_both = refl

-- ---- macros

-- two numbers, the second with a default
abbrev placing : Body
placing = bodies.Macro M ((A, None) ∷ (B, Some (number 2)) ∷ [])

two_calls : trace_of (
    on 1 placing ∷ on 2 (bodies.GotoXy (Name A) (Name B) None) ∷ on 3 bodies.Termac
    ∷ on 4 (bodies.Call M ((A, number 1) ∷ [])) ∷ on 5 (bodies.Call M ((B, number 3) ∷ (A, number 7) ∷ [])) ∷ on 6 bodies.Fini ∷ []
    )
    ≡ all_of (
    step 4 1 deeds.Call ∷ step 2 2 (deeds.GotoXy (units 1) (units 2) None) ∷ step 3 3 deeds.Termac
    ∷ step 5 4 deeds.Call ∷ step 2 5 (deeds.GotoXy (units 7) (units 3) None) ∷ step 3 6 deeds.Termac
    ∷ step 6 7 deeds.Fini ∷ []
    )
unfolding trace_from action deed_of executed by_values
two_calls = refl

-- a macro that calls itself
nine_calls : trace_of (on 1 (bodies.Macro M []) ∷ on 2 (bodies.Call M []) ∷ on 3 bodies.Termac ∷ on 4 (bodies.Call M []) ∷ on 5 bodies.Fini ∷ [])
    ≡ up_to (
    step 4 1 deeds.Call ∷ step 2 2 deeds.Call ∷ step 2 3 deeds.Call ∷ step 2 4 deeds.Call
    ∷ step 2 5 deeds.Call ∷ step 2 6 deeds.Call ∷ step 2 7 deeds.Call ∷ step 2 8 deeds.Call ∷ []
    ) 2 9 cases.Depth
unfolding trace_from action
nine_calls = refl

no_macro : trace_of (on 1 (bodies.Call M []) ∷ on 2 bodies.Fini ∷ []) ≡ up_to [] 1 1 cases.NoSuchMacro
unfolding trace_from action
no_macro = refl

-- behind END the macro does not return
termac_behind_end : trace_of (on 1 (bodies.Macro M []) ∷ on 2 bodies.EndWord ∷ on 3 bodies.Termac ∷ on 4 (bodies.Call M []) ∷ on 5 bodies.Fini ∷ [])
    ≡ up_to (step 4 1 deeds.Call ∷ step 2 2 deeds.EndWord ∷ []) 3 3 cases.AfterEnd
unfolding trace_from action deed_of executed by_values
termac_behind_end = refl

-- a label of a macro's definition stands in the loop
label_on_macro : trace_of (
    on 1 bodies.Loopst ∷ on 2 (bodies.Jumpto A) ∷ on 3 bodies.Rapid ∷ marked A 4 (bodies.Macro M []) ∷ on 5 bodies.Termac ∷ on 6 bodies.Loopnd ∷ on 7 bodies.Fini ∷ []
    )
    ≡ all_of (step 1 1 deeds.Loopst ∷ step 2 2 deeds.Jumpto ∷ step 6 3 deeds.Loopnd ∷ step 7 4 deeds.Fini ∷ [])
unfolding trace_from action
label_on_macro = refl

-- ---- arguments

default_of_caller : bindings names ((X, bounds.Scalar (units 9)) ∷ []) ((A, Some (Name X)) ∷ []) [] ≡ Ok ((A, bounds.Scalar (units 9)) ∷ [])
default_of_caller = refl

-- a lone name of a figure, and one that a parameter of the caller stands for
figure_by_name : bindings names ((L, bounds.Alias C) ∷ []) ((A, None) ∷ (B, None) ∷ []) ((A, Name P) ∷ (B, Name L) ∷ []) ≡ Ok ((A, bounds.Alias P) ∷ (B, bounds.Alias C) ∷ [])
figure_by_name = refl

in_order_of_parameters : bindings names [] ((A, None) ∷ (B, None) ∷ []) ((B, Bin Div (number 1) (number 0)) ∷ (A, Name Y) ∷ []) ≡ Err cases.Unknown
in_order_of_parameters = refl

no_argument : bindings names [] ((A, None) ∷ []) [] ≡ Err cases.BadArgs
no_argument = refl

argument_twice : bindings names [] ((A, None) ∷ []) ((A, number 1) ∷ (A, number 1) ∷ []) ≡ Err cases.BadArgs
argument_twice = refl

no_parameter : bindings names [] ((A, None) ∷ []) ((A, Name Y) ∷ (B, number 1) ∷ []) ≡ Err cases.BadArgs
no_parameter = refl
