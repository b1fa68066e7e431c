-- The part that `demo` compiles: circles in rows of forty, each cut round from its right in two halves.
use Rattle.std.specs.Prelude.{ℕ, zero, suc, ◌+◌, ◌*◌, ◌/◌, ◌%◌, ℤ, pos, ◌+ℤ◌, ◌-ℤ◌, List, [], ◌++◌, codes}
use Rattle.std.specs.Fmt.{decimal, signed_decimal}
use Rattle.apt_lines.specs.Decimals.{pointed, signed_pointed}

-- the centre of circle k, in inches
abbrev pub centre_x : ℕ → ℤ
centre_x k = pos (20 * (k % 40)) -ℤ pos 400

abbrev pub centre_y : ℕ → ℤ
centre_y k = pos (20 * (k / 40)) -ℤ pos 200

-- its radius, in hundredths of an inch: from 1 to 2.75 inches
abbrev pub radius : ℕ → ℕ
radius k = 100 + 25 * (k % 8)

-- an inch to the right of the circle, in hundredths of an inch
abbrev pub clear_x : ℕ → ℤ
clear_x k = pos (2000 * (k % 40) + radius k + 100) -ℤ pos 40000

-- two numbers of a point
abbrev pub pair : ℤ → ℤ → List ℕ
pair x y = signed_decimal x ++ (codes "," ++ signed_decimal y)

abbrev pub circle_line : ℤ → ℤ → ℕ → List ℕ
circle_line x y r = codes "C=CIRCLE/" ++ (pair x y ++ (codes "," ++ (pointed 2 r ++ codes "\n")))

-- a line through the centre, to the right
abbrev pub line_line : ℤ → ℤ → List ℕ
line_line x y = codes "L=LINE/" ++ (pair x y ++ (codes "," ++ (pair (x +ℤ pos 1) y ++ codes "\n")))

-- a rapid move to the right of the circle, down, up to it, round it in two halves, and up
abbrev pub cut_lines : ℤ → ℤ → List ℕ
cut_lines x y =
    codes "RAPID\nGOTO/" ++ (signed_pointed 2 x ++ (codes "," ++ (signed_decimal y
    ++ codes ",.5\nGODLTA/0,0,-.5\nGO/TO,C\nGORGT/C,ON,L\nGOFWD/C,ON,L\nGODLTA/0,0,.5\n")))

-- the statements of circle k
abbrev pub circle_block : ℕ → List ℕ
circle_block k =
    circle_line (centre_x k) (centre_y k) (radius k)
    ++ (line_line (centre_x k) (centre_y k) ++ cut_lines (clear_x k) (centre_y k))

-- the statements of the first circles
abbrev pub circle_blocks : ℕ → List ℕ
circle_blocks zero = []
circle_blocks (suc k) = circle_blocks k ++ circle_block k

abbrev pub head : ℕ → List ℕ
head n = codes "PARTNO DEMO " ++ (decimal n ++ codes "\nCUTTER/.5\nFEDRAT/10\nFROM/-450,-450,.5\nTLRGT\n")

abbrev pub demo_part : ℕ → List ℕ
demo_part n = head n ++ (circle_blocks n ++ codes "FINI\n")
