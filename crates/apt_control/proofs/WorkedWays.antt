-- Runs over small tapes of incremental blocks, of words with fewer digits and of foreign words, which the checker computes.
use Rattle.std.specs.Prelude.{◌≡◌, ℕ, pos, negsuc, List, [], ◌∷◌, Ok, Err, Result, map, codes}
use Rattle.std.proofs.Common.{refl}
use Rattle.apt_words.specs.declared.Units.TheVariants.{Inch}
use Rattle.apt_tapecode.specs.declared.Code.TheVariants.{Rs358}
use Rattle.apt_tapecode.specs.Tapecode.{byte_of}
use Rattle.apt_block.specs.declared.block.BlockFault.{BlockFault}
use Rattle.apt_block.specs.declared.block.TapeCause.TheVariants as causes
use Rattle.apt_block.specs.Block.{fault}
use Rattle.apt_control.specs.declared.Act.{Act}
use Rattle.apt_control.specs.declared.Act.TheVariants as acts
use Rattle.apt_control.specs.Control.{control_run}

abbrev run_of : List ℕ → Result (List Act) BlockFault
run_of text = control_run Rs358 (map (byte_of Rs358) text)

-- ---- as many digits as stand, at most so many

fewer_digits : run_of (codes "%G70G00X1Y2Z3\nX-0\nM02\n") ≡ Ok (acts.Units Inch ∷ acts.Rapid (pos 1) (pos 2) (pos 3) ∷ acts.Rapid (pos 0) (pos 2) (pos 3) ∷ acts.End ∷ [])
fewer_digits = refl

leading_zeros : run_of (codes "%G70G00X+0500000Y0Z0\nM02\n") ≡ Ok (acts.Units Inch ∷ acts.Rapid (pos 500000) (pos 0) (pos 0) ∷ acts.End ∷ [])
leading_zeros = refl

-- a value out of range stands at its last digit, known where the next character is no digit
no_feed_of_zero : run_of (codes "%G70G01X1Y2Z3F00S1\nM02\n") ≡ Err (fault 15 causes.BadBlock)
no_feed_of_zero = refl

zero_at_the_end : run_of (codes "%G70G01X1Y2Z3F0\nM02\n") ≡ Err (fault 14 causes.BadBlock)
zero_at_the_end = refl

zero_cut_short : run_of (codes "%G70G01X1Y2Z3F0") ≡ Err (fault 15 causes.Truncated)
zero_cut_short = refl

too_far : run_of (codes "%G70G00X50000001Y0Z0\nM02\n") ≡ Err (fault 15 causes.BadBlock)
too_far = refl

digit_too_many : run_of (codes "%G70G00X123456789Y0Z0\nM02\n") ≡ Err (fault 16 causes.BadBlock)
digit_too_many = refl

number_too_long : run_of (codes "%N12345\n") ≡ Err (fault 6 causes.BadBlock)
number_too_long = refl

no_digit : run_of (codes "%N\n") ≡ Err (fault 2 causes.BadBlock)
no_digit = refl

no_tool_of_zero : run_of (codes "%T0M06\n") ≡ Err (fault 2 causes.BadBlock)
no_tool_of_zero = refl

one_digit_of_two : run_of (codes "%M2\n") ≡ Err (fault 3 causes.BadBlock)
one_digit_of_two = refl

three_digits_of_two : run_of (codes "%N1G71\nG0001\n") ≡ Err (fault 10 causes.BadBlock)
three_digits_of_two = refl

-- ---- groups of G codes

fifth_code : run_of (codes "%G70G90G94G00G91\n") ≡ Err (fault 13 causes.BadG)
fifth_code = refl

two_of_a_group : run_of (codes "%G70G90G91\n") ≡ Err (fault 7 causes.BadG)
two_of_a_group = refl

-- ---- foreign words, at the letter of the first of them

arc : run_of (codes "%G70G02X1\nM02\n") ≡ Err (fault 4 causes.Foreign)
arc = refl

cycle : run_of (codes "%G80\nM02\n") ≡ Err (fault 1 causes.Foreign)
cycle = refl

fault_inside_the_text : run_of (codes "%G70G02X1G99\n") ≡ Err (fault 9 causes.BadBlock)
fault_inside_the_text = refl

foreign_cut_short : run_of (codes "%G70G02X1") ≡ Err (fault 9 causes.Truncated)
foreign_cut_short = refl

first_of_two : run_of (codes "%G70G00X1Y1Z1J5R6\nM02\n") ≡ Err (fault 13 causes.Foreign)
first_of_two = refl

before_the_end_of_block : run_of (codes "%G70R1S5\nM02\n") ≡ Err (fault 4 causes.Foreign)
before_the_end_of_block = refl

-- ---- ways in place of coordinates

ways : run_of (codes "%G70G00X1Y1Z1\nG91X1\nY-2\nG90Z7\nM02\n") ≡
    Ok (acts.Units Inch ∷ acts.Rapid (pos 1) (pos 1) (pos 1) ∷ acts.Rapid (pos 2) (pos 1) (pos 1) ∷ acts.Rapid (pos 2) (negsuc 0) (pos 1) ∷ acts.Rapid (pos 2) (negsuc 0) (pos 7) ∷ acts.End ∷ [])
ways = refl

way_from_nowhere : run_of (codes "%G70G91G00X1Y1Z1\nM02\n") ≡ Err (fault 16 causes.NoPosition)
way_from_nowhere = refl

mode_holds : run_of (codes "%G70G90\nG91\nG00X1\nM02\n") ≡ Err (fault 17 causes.NoPosition)
mode_holds = refl

limit_before_feed : run_of (codes "%G70G00X50000000Y0Z0\nG91G01X1\nM02\n") ≡ Err (fault 29 causes.Limit)
limit_before_feed = refl

limit_of_an_axis_that_stands : run_of (codes "%G70G00X0Y0Z-50000000\nG91X0Z-1\nM02\n") ≡ Err (fault 30 causes.Limit)
limit_of_an_axis_that_stands = refl
