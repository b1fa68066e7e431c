-- Worked gaps and axes: a circle of the radius 1 about (0, 0), and what touches it.
use Rattle.std.proofs.Common.{refl, ◌≡◌, ℕ, true, false, ℤ, pos, Some, None}
use Rattle.apt_num.specs.declared.Sign.TheVariants as signs
use Rattle.apt_plane.specs.declared.figures.Pt.{Pt}
use Rattle.apt_plane.specs.declared.figures.Dir.{Dir}
use Rattle.apt_plane.specs.declared.figures.Line.{Line}
use Rattle.apt_plane.specs.declared.figures.Circ.{Circ}
use Rattle.apt_plane.specs.declared.figures.Surface.TheVariants as surfaces
use Rattle.apt_stop.specs.Gaps.{is_touching}
use Rattle.apt_stop.specs.Tangencies.{axis, tangent_axis}

abbrev point : ℤ → ℤ → Pt
point x y = record { x = x; y = y }

abbrev way : ℤ → ℤ → Dir
way x y = record { dx = x; dy = y }

-- to the right, at a height
abbrev level : ℕ → Line
level y = record { base = point (pos 0) (pos y); dir = way (pos 1) (pos 0) }

-- about a point to the right of the origin
abbrev circle : ℕ → ℕ → Circ
circle x r = record { c = point (pos x) (pos 0); r = pos r }

abbrev unit : Circ
unit = circle 0 100000

line_two_off : is_touching (surfaces.Line (level 100002)) (surfaces.Circ unit) ≡ true
line_two_off = refl

line_three_off : is_touching (surfaces.Line (level 100003)) (surfaces.Circ unit) ≡ false
line_three_off = refl

line_two_in : is_touching (surfaces.Circ unit) (surfaces.Line (level 99998)) ≡ true
line_two_in = refl

line_three_in : is_touching (surfaces.Circ unit) (surfaces.Line (level 99997)) ≡ false
line_three_in = refl

circle_two_off : is_touching (surfaces.Circ unit) (surfaces.Circ (circle 300002 200000)) ≡ true
circle_two_off = refl

circle_three_off : is_touching (surfaces.Circ unit) (surfaces.Circ (circle 300003 200000)) ≡ false
circle_three_off = refl

circle_two_in : is_touching (surfaces.Circ unit) (surfaces.Circ (circle 100002 200000)) ≡ true
circle_two_in = refl

circle_three_in : is_touching (surfaces.Circ unit) (surfaces.Circ (circle 100003 200000)) ≡ false
circle_three_in = refl

-- a line above touches it on the half above
axis_below_line : tangent_axis (surfaces.Circ unit) (surfaces.Line (level 100000)) ≡ Some (axis (point (pos 0) (pos 0)) (way (pos 0) (pos 1)) signs.Plus)
axis_below_line = refl

-- a greater circle goes round it to the right, and touches it on the left
axis_in_circle : tangent_axis (surfaces.Circ unit) (surfaces.Circ (circle 100000 200000)) ≡ Some (axis (point (pos 0) (pos 0)) (way (pos 100000) (pos 0)) signs.Minus)
axis_in_circle = refl

axis_of_one_centre : tangent_axis (surfaces.Circ unit) (surfaces.Circ (circle 0 200000)) ≡ None
axis_of_one_centre = refl
