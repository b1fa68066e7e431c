-- Scalars: whole numbers of millionths, at most 10^12 of them in size. Each result is rounded to the nearest, a half away from zero.
use Rattle.std.specs.Prelude.{ℕ, ◌^◌, ◌≤◌, zero, ℤ, pos, negsuc, ◌+ℤ◌, ◌-ℤ◌, ◌*ℤ◌, ◌*◌, unsigned_abs, nat_le, Result, Ok, Err, if◌then◌else◌}
use Rattle.apt_num.specs.Near.{near}
use Rattle.apt_num.specs.Root.{root_near}
use Rattle.apt_words.specs.declared.Case.{Case}
use Rattle.apt_words.specs.declared.Case.TheVariants as cases
use Rattle.apt_words.specs.declared.Units.{Units}
use Rattle.apt_words.specs.declared.Units.TheVariants.{Inch, Mm}
use Rattle.apt_words.specs.declared.expr.Op.{Op}
use Rattle.apt_words.specs.declared.expr.Op.TheVariants as ops

-- the scalar 1 in millionths
abbrev pub one : ℕ
one = 10 ^ 6

abbrev pub greatest : ℕ
greatest = 10 ^ 12

abbrev pub IsScalar : ℤ → Type 0
IsScalar v = unsigned_abs v ≤ greatest

abbrev pub in_range : ℤ → Result ℤ Case
in_range v = if nat_le (unsigned_abs v) greatest then Ok v else Err cases.TooLarge

abbrev pub product : ℤ → ℤ → Result ℤ Case
product a b = in_range (near (a *ℤ b) (pos one))

abbrev pub quotient : ℤ → ℤ → Result ℤ Case
quotient a (pos zero) = Err cases.DivideByZero
quotient a b = in_range (near (a *ℤ pos one) b)

abbrev pub square_root : ℤ → Result ℤ Case
square_root (pos n) = Ok (pos (root_near (n * one)))
square_root (negsuc n) = Err cases.NegativeRoot

abbrev pub size : ℤ → ℤ
size v = pos (unsigned_abs v)

-- two operands and the operator between them
abbrev pub apply : Op → ℤ → ℤ → Result ℤ Case
apply ops.Add a b = in_range (a +ℤ b)
apply ops.Sub a b = in_range (a -ℤ b)
apply ops.Mul a b = product a b
apply ops.Div a b = quotient a b

-- ---- scalars in other units

-- a grid unit is 0.00001 inch or 0.0001 millimetre
abbrev pub millionths_of : Units → ℤ
millionths_of Inch = pos 10
millionths_of Mm = pos 100

abbrev pub grid_units : Units → ℤ → ℤ
grid_units units v = near v (millionths_of units)

-- tenths of an inch or of a millimetre per minute
abbrev pub tenths : ℤ → ℤ
tenths v = near v (pos (10 ^ 5))

-- a whole number
abbrev pub whole : ℤ → ℤ
whole v = near v (pos one)
