-- Worked expressions: roundings, refusals, and what names stand for.
use Rattle.std.proofs.Common.{refl, ◌≡◌, ℕ, ◌-◌, ◌*◌, ◌^◌, [], ◌∷◌, Ok, Err, pos}
use Rattle.std.specs.Prelude.{neg_ℤ, codes}
use Rattle.apt_num.specs.Root.{root}
use Rattle.apt_words.specs.Trees.{Tree, Num, Name, Neg, Bin, Root, Abs}
use Rattle.apt_words.specs.declared.Case.TheVariants as cases
use Rattle.apt_words.specs.declared.Units.TheVariants.{Inch, Mm}
use Rattle.apt_words.specs.declared.expr.Op.TheVariants.{Add, Sub, Mul, Div}
use Rattle.apt_scalar.specs.declared.names.Kind.TheVariants.{Point}
use Rattle.apt_scalar.specs.declared.names.Value.TheVariants as values
use Rattle.apt_scalar.specs.declared.names.Bound.TheVariants as bounds
use Rattle.apt_scalar.specs.Scalars.{one, grid_units, tenths, whole}
use Rattle.apt_scalar.specs.Meanings.{Names, Parameters}
use Rattle.apt_scalar.specs.Evaluation.{value_of}

-- a whole number as an expression
abbrev units : ℕ → Tree
units n = Num (pos (n * one))

-- a scalar and a figure
abbrev names : Names
names = (codes "A", values.Scalar (pos 5)) ∷ (codes "P", values.Shape Point) ∷ []

-- a parameter that is a number, and two that stand for names
abbrev parameters : Parameters
parameters = (codes "A", bounds.Scalar (pos 7)) ∷ (codes "B", bounds.Alias (codes "A")) ∷ (codes "C", bounds.Alias (codes "P")) ∷ []

abbrev no_quotient : Tree
no_quotient = Bin Div (units 1) (units 0)

two_thirds : value_of [] [] (Bin Div (units 2) (units 3)) ≡ Ok (pos 666667)
two_thirds = refl

root_of_two : value_of [] [] (Root (units 2)) ≡ Ok (pos 1414214)
unfolding root
root_of_two = refl

half_away_from_zero : value_of [] [] (Bin Mul (Num (neg_ℤ (pos 1))) (Num (pos 500000))) ≡ Ok (neg_ℤ (pos 1))
half_away_from_zero = refl

quotient_by_zero : value_of [] [] no_quotient ≡ Err cases.DivideByZero
quotient_by_zero = refl

root_of_negative : value_of [] [] (Root (Neg (units 1))) ≡ Err cases.NegativeRoot
root_of_negative = refl

above_a_million : value_of [] [] (Bin Mul (units (10 ^ 6)) (units 2)) ≡ Err cases.TooLarge
above_a_million = refl

a_million : value_of [] [] (Bin Add (units (10 ^ 6 - 1)) (units 1)) ≡ Ok (pos (10 ^ 12))
a_million = refl

size_of_difference : value_of [] [] (Abs (Bin Sub (units 1) (units 3))) ≡ Ok (pos 2000000)
size_of_difference = refl

name_without_value : value_of names parameters (Name (codes "D")) ≡ Err cases.Unknown
name_without_value = refl

name_of_figure : value_of names parameters (Name (codes "P")) ≡ Err cases.Unknown
name_of_figure = refl

name_of_scalar : value_of names [] (Name (codes "A")) ≡ Ok (pos 5)
name_of_scalar = refl

parameter_hides_name : value_of names parameters (Name (codes "A")) ≡ Ok (pos 7)
parameter_hides_name = refl

-- it is a name of the program, also where a parameter hides that
alias_of_name : value_of names parameters (Name (codes "B")) ≡ Ok (pos 5)
alias_of_name = refl

alias_of_figure : value_of names parameters (Name (codes "C")) ≡ Err cases.Unknown
alias_of_figure = refl

left_refusal_first : value_of [] [] (Bin Add no_quotient (Name (codes "D"))) ≡ Err cases.DivideByZero
left_refusal_first = refl

unknown_first : value_of [] [] (Bin Add (Name (codes "D")) no_quotient) ≡ Err cases.Unknown
unknown_first = refl

-- one unit of length, and half a grid unit, which goes away from zero
inch : grid_units Inch (pos one) ≡ pos 100000
inch = refl

inch_back : grid_units Inch (neg_ℤ (pos one)) ≡ neg_ℤ (pos 100000)
inch_back = refl

inch_rounded : grid_units Inch (pos 15) ≡ pos 2
inch_rounded = refl

inch_rounded_down : grid_units Inch (neg_ℤ (pos 14)) ≡ neg_ℤ (pos 1)
inch_rounded_down = refl

millimetre : grid_units Mm (pos one) ≡ pos 10000
millimetre = refl

millimetre_back : grid_units Mm (neg_ℤ (pos one)) ≡ neg_ℤ (pos 10000)
millimetre_back = refl

millimetre_rounded : grid_units Mm (neg_ℤ (pos 150)) ≡ neg_ℤ (pos 2)
millimetre_rounded = refl

millimetre_rounded_down : grid_units Mm (pos 149) ≡ pos 1
millimetre_rounded_down = refl

tenths_of_feed : tenths (pos 12350000) ≡ pos 124
tenths_of_feed = refl

whole_and_half : whole (pos 2500000) ≡ pos 3
whole_and_half = refl
