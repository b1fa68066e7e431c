-- Definitions worked out by hand, in both units, and those that a word turns the other way.
use Rattle.std.proofs.Common.{refl, ◌≡◌, ◌^◌, [], ◌∷◌, Some, pos, neg_ℤ, true, false, Ok, Err}
use Rattle.std.specs.Prelude.{codes}
use Rattle.apt_num.specs.Root.{root}
use Rattle.apt_words.specs.declared.Case.TheVariants as cases
use Rattle.apt_words.specs.declared.Pick.TheVariants.{XLarge, XSmall, YLarge, YSmall}
use Rattle.apt_words.specs.declared.Units.TheVariants.{Inch, Mm}
use Rattle.apt_words.specs.declared.ask.CircleForm.TheVariants as circles
use Rattle.apt_words.specs.declared.ask.Form.TheVariants as forms
use Rattle.apt_words.specs.declared.ask.LineForm.TheVariants as lines
use Rattle.apt_words.specs.declared.ask.PointForm.TheVariants as points
use Rattle.apt_plane.specs.declared.figures.Surface.TheVariants as surfaces
use Rattle.apt_canon.proofs.Figures.{pt, line, circ}
use Rattle.apt_defs.specs.declared.figure.Figure.TheVariants as figures
use Rattle.apt_defs.specs.Figures.{Table}
use Rattle.apt_defs.specs.Definitions.{figure_of}
use Rattle.apt_defs.specs.Names.{names_of, first_case}

-- a point, both axes, two circles beside each other, and two above each other
abbrev table : Table
table =
    (codes "P", figures.Point (pt (pos 10000) (pos 20000)) (pos 7))
    ∷ (codes "LX", figures.Shape (surfaces.Line (line (pos 0) (pos 0) (pos 100000) (pos 0))))
    ∷ (codes "LY", figures.Shape (surfaces.Line (line (pos 0) (pos 0) (pos 0) (pos 100000))))
    ∷ (codes "C", figures.Shape (surfaces.Circ (circ (pos 0) (pos 0) (pos 200000))))
    ∷ (codes "D", figures.Shape (surfaces.Circ (circ (pos 500000) (pos 0) (pos 100000))))
    ∷ (codes "E", figures.Shape (surfaces.Circ (circ (pos 0) (pos 0) (pos 300))))
    ∷ (codes "F", figures.Shape (surfaces.Circ (circ (pos 0) (pos 500) (pos 400))))
    ∷ []

-- ---- millimetres, each of 10,000 grid units, and inches of 100,000

point_by_millimetres : figure_of Mm [] (forms.Point (points.Xy (pos 25400000) (neg_ℤ (pos 1000000)) (Some (pos 500000))))
    ≡ Ok (figures.Point (pt (pos 254000) (neg_ℤ (pos 10000))) (pos 5000))
point_by_millimetres = refl

point_by_inches : figure_of Inch [] (forms.Point (points.Xy (pos 2540000) (neg_ℤ (pos 100000)) (Some (pos 50000))))
    ≡ Ok (figures.Point (pt (pos 254000) (neg_ℤ (pos 10000))) (pos 5000))
point_by_inches = refl

line_by_millimetres : figure_of Mm [] (forms.Line (lines.Xy (pos 1000000) (pos 0) (pos 4000000) (pos 4000000)))
    ≡ Ok (figures.Shape (surfaces.Line (line (pos 10000) (pos 0) (pos 30000) (pos 40000))))
line_by_millimetres = refl

parallel_by_millimetres : figure_of Mm table (forms.Line (lines.Beside (codes "LX") YLarge (pos 2500000)))
    ≡ Ok (figures.Shape (surfaces.Line (line (pos 0) (pos 25000) (pos 100000) (pos 0))))
unfolding root
parallel_by_millimetres = refl

parallel_below : figure_of Mm table (forms.Line (lines.Beside (codes "LX") YSmall (pos 2500000)))
    ≡ Ok (figures.Shape (surfaces.Line (line (pos 0) (neg_ℤ (pos 25000)) (pos 100000) (pos 0))))
unfolding root
parallel_below = refl

circle_by_millimetres : figure_of Mm [] (forms.Circle (circles.Xyr (pos 10000000) (pos 0) (pos 500000)))
    ≡ Ok (figures.Shape (surfaces.Circ (circ (pos 100000) (pos 0) (pos 5000))))
circle_by_millimetres = refl

radius_by_millimetres : figure_of Mm table (forms.Circle (circles.Radius (codes "P") (pos 2500000)))
    ≡ Ok (figures.Shape (surfaces.Circ (circ (pos 10000) (pos 20000) (pos 25000))))
radius_by_millimetres = refl

corner_by_millimetres : figure_of Mm table (forms.Circle (circles.Corner YLarge (codes "LX") XSmall (codes "LY") (pos 1000000)))
    ≡ Ok (figures.Shape (surfaces.Circ (circ (neg_ℤ (pos 10000)) (pos 10000) (pos 10000))))
unfolding root
corner_by_millimetres = refl

-- ---- between two circles

left_then_right : figure_of Inch table (forms.Line (lines.PastTwo true (codes "C") false (codes "D")))
    ≡ Ok (figures.Shape (surfaces.Line (line (pos 120000) (pos 160000) (pos 79999200) (neg_ℤ (pos 59999400)))))
unfolding root
left_then_right = refl

right_then_left : figure_of Inch table (forms.Line (lines.PastTwo false (codes "C") true (codes "D")))
    ≡ Ok (figures.Shape (surfaces.Line (line (pos 120000) (neg_ℤ (pos 160000)) (pos 79999200) (pos 59999400))))
unfolding root
right_then_left = refl

-- ---- one of two meetings: a triangle of sides of 3, 4 and 5

greater_x : figure_of Inch table (forms.Point (points.Picked XLarge (codes "E") (codes "F"))) ≡ Ok (figures.Point (pt (pos 240) (pos 180)) (pos 0))
unfolding root
greater_x = refl

smaller_x : figure_of Inch table (forms.Point (points.Picked XSmall (codes "E") (codes "F"))) ≡ Ok (figures.Point (pt (neg_ℤ (pos 240)) (pos 180)) (pos 0))
unfolding root
smaller_x = refl

-- of the same y, the one with the greater x, or the smaller
greater_y : figure_of Inch table (forms.Point (points.Picked YLarge (codes "E") (codes "F"))) ≡ Ok (figures.Point (pt (pos 240) (pos 180)) (pos 0))
unfolding root
greater_y = refl

smaller_y : figure_of Inch table (forms.Point (points.Picked YSmall (codes "E") (codes "F"))) ≡ Ok (figures.Point (pt (neg_ℤ (pos 240)) (pos 180)) (pos 0))
unfolding root
smaller_y = refl

-- ---- which name refuses

first_name_refuses : figure_of Inch table (forms.Line (lines.Past (codes "LX") true (codes "Q"))) ≡ Err cases.WrongKind
first_name_refuses = refl

second_name_refuses : figure_of Inch table (forms.Line (lines.Past (codes "P") true (codes "Q"))) ≡ Err cases.Undefined
second_name_refuses = refl

first_case_of_names : first_case table (names_of (forms.Line (lines.Past (codes "LX") true (codes "Q")))) ≡ Some cases.WrongKind
first_case_of_names = refl

name_before_number : figure_of Inch table (forms.Circle (circles.Radius (codes "Q") (pos (10 ^ 12)))) ≡ Err cases.Undefined
name_before_number = refl
