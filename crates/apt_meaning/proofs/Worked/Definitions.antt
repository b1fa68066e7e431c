-- What each definition asks for, and what refuses it.
use Rattle.std.specs.Prelude.{◌≡◌, refl, ℕ, ◌*◌, ℤ, pos, neg_ℤ, true, codes, List, [], ◌∷◌, Option, Some, None}
use Rattle.apt_num.specs.Root.{root}
use Rattle.apt_words.specs.declared.Case.TheVariants as cases
use Rattle.apt_words.specs.declared.Pick.TheVariants as picks
use Rattle.apt_words.specs.declared.deed.Deed.TheVariants as deeds
use Rattle.apt_plane.specs.declared.figures.Pt.{Pt}
use Rattle.apt_plane.specs.declared.figures.Surface.{Surface}
use Rattle.apt_plane.specs.declared.figures.Surface.TheVariants as surfaces
use Rattle.apt_defs.specs.declared.figure.Figure.{Figure}
use Rattle.apt_defs.specs.declared.figure.Figure.TheVariants as figures
use Rattle.apt_meaning.specs.declared.situation.Situation.{Situation}
use Rattle.apt_meaning.specs.declared.effect.Effect.{Effect}
use Rattle.apt_meaning.specs.declared.effect.Effect.TheVariants as effects
use Rattle.apt_meaning.specs.Situations.{first_situation}
use Rattle.apt_meaning.specs.Effects.{defined, effect_of}
use Rattle.apt_meaning.specs.Refusals.{refused_form, refusal_of}

-- ---- names: lines to the right and up, points, circles, a line to the left, one that meets the first far off, and a number

abbrev line : ℤ → ℤ → ℤ → ℤ → Surface
line x y dx dy = surfaces.Line (record { base = record { x = x; y = y }; dir = record { dx = dx; dy = dy } })

abbrev place : ℤ → ℤ → Pt
place x y = record { x = x; y = y }

abbrev round : ℤ → ℤ → ℤ → Figure
round x y r = figures.Shape (surfaces.Circ (record { c = place x y; r = r }))

abbrev standing : Situation
standing = record first_situation {
  table =
      (codes "L1", figures.Shape (line (pos 0) (pos 0) (pos 100000) (pos 0))) ∷ (codes "L2", figures.Shape (line (pos 100000) (pos 0) (pos 0) (pos 100000)))
      ∷ (codes "P1", figures.Point (place (pos 0) (pos 0)) (pos 0)) ∷ (codes "P2", figures.Point (place (pos 400000) (pos 0)) (pos 50))
      ∷ (codes "P3", figures.Point (place (pos 0) (pos 200000)) (pos 0))
      ∷ (codes "C1", round (pos 0) (pos 0) (pos 200000)) ∷ (codes "C2", round (pos 500000) (pos 0) (pos 300000))
      ∷ (codes "L4", figures.Shape (line (pos 0) (pos 50000) (neg_ℤ (pos 100000)) (pos 0)))
      ∷ (codes "L5", figures.Shape (line (pos 0) (pos 50000) (pos 100000) (neg_ℤ (pos 1)))) ∷ (codes "A", figures.Scalar) ∷ [];
}

-- a whole number in millionths
abbrev whole : ℕ → ℤ
whole n = pos (n * 1000000)

abbrev point : List ℕ → ℤ → ℤ → ℤ → Option Effect
point name x y z = Some (effects.Defines name (figures.Point (place x y) z))

abbrev some_line : List ℕ → ℤ → ℤ → ℤ → ℤ → Option Effect
some_line name x y dx dy = Some (effects.Defines name (figures.Shape (line x y dx dy)))

abbrev circle : List ℕ → ℤ → ℤ → ℤ → Option Effect
circle name x y r = Some (effects.Defines name (round x y r))

-- ---- figures

assign : effect_of standing (deeds.Assign (codes "A") (whole 5)) ≡ Some (effects.Defines (codes "A") figures.Scalar)
unfolding defined
assign = refl

-- 1 inch is 100000 grid units
line_xy : effect_of standing (deeds.LineXy (codes "L3") (whole 1) (pos 0) (whole 1) (whole 2)) ≡
    Some (effects.Defines (codes "L3") (figures.Shape (line (pos 100000) (pos 0) (pos 0) (pos 200000))))
unfolding defined
line_xy = refl

-- a point keeps its height
point_xy : effect_of standing (deeds.PointXy (codes "P4") (whole 1) (whole 2) (Some (whole 3))) ≡ point (codes "P4") (pos 100000) (pos 200000) (pos 300000)
unfolding defined
point_xy = refl

point_lines : effect_of standing (deeds.PointLines (codes "P4") (codes "L2") (codes "L1")) ≡ point (codes "P4") (pos 100000) (pos 0) (pos 0)
unfolding root defined
point_lines = refl

-- of the two points in which the line meets the circle, the one further to the right
point_pick : effect_of standing (deeds.PointPick (codes "P4") picks.XLarge (codes "L1") (codes "C1")) ≡ point (codes "P4") (pos 200000) (pos 0) (pos 0)
unfolding root defined
point_pick = refl

centre_point : effect_of standing (deeds.PointCenter (codes "P4") (codes "C2")) ≡ point (codes "P4") (pos 500000) (pos 0) (pos 0)
unfolding defined
centre_point = refl

line_points : effect_of standing (deeds.LinePoints (codes "L3") (codes "P3") (codes "P2")) ≡ some_line (codes "L3") (pos 0) (pos 200000) (pos 400000) (neg_ℤ (pos 200000))
unfolding defined
line_points = refl

line_par : effect_of standing (deeds.LinePar (codes "L3") (codes "P3") (codes "L1")) ≡ some_line (codes "L3") (pos 0) (pos 200000) (pos 100000) (pos 0)
unfolding defined
line_par = refl

line_perp : effect_of standing (deeds.LinePerp (codes "L3") (codes "P3") (codes "L1")) ≡ some_line (codes "L3") (pos 0) (pos 200000) (pos 0) (pos 100000)
unfolding defined
line_perp = refl

line_at : effect_of standing (deeds.LineAt (codes "L3") (codes "L1") picks.YSmall (whole 1)) ≡ some_line (codes "L3") (pos 0) (neg_ℤ (pos 100000)) (pos 100000) (pos 0)
unfolding root defined
line_at = refl

-- seen from the first name to the second, the line is on the left of each circle
line_tan : effect_of standing (deeds.LineTan (codes "L3") (codes "P1") true (codes "C2")) ≡ some_line (codes "L3") (pos 0) (pos 0) (pos 79999200) (pos 59999400)
unfolding root defined
line_tan = refl

line_two : effect_of standing (deeds.LineTwo (codes "L3") true (codes "C1") true (codes "C2")) ≡ some_line (codes "L3") (neg_ℤ (pos 40000)) (pos 195959) (pos 97978610) (pos 19999800)
unfolding root defined
line_two = refl

circle_xyr : effect_of standing (deeds.CircleXyr (codes "C3") (whole 1) (whole 2) (whole 3)) ≡ circle (codes "C3") (pos 100000) (pos 200000) (pos 300000)
unfolding defined
circle_xyr = refl

circle_points : effect_of standing (deeds.CirclePoints (codes "C3") (codes "P1") (codes "P2") (codes "P3")) ≡ circle (codes "C3") (pos 200000) (pos 100000) (pos 223607)
unfolding root defined
circle_points = refl

circle_radius : effect_of standing (deeds.CircleRadius (codes "C3") (codes "P2") (whole 1)) ≡ circle (codes "C3") (pos 400000) (pos 0) (pos 100000)
unfolding defined
circle_radius = refl

circle_tan : effect_of standing (deeds.CircleTan (codes "C3") (codes "P3") (codes "L1")) ≡ circle (codes "C3") (pos 0) (pos 200000) (pos 200000)
unfolding root defined
circle_tan = refl

circle_through : effect_of standing (deeds.CircleThrough (codes "C3") (codes "P1") (codes "P2")) ≡ circle (codes "C3") (pos 0) (pos 0) (pos 400000)
unfolding root defined
circle_through = refl

-- above the first line and to the left of the second
circle_corner : effect_of standing (deeds.CircleCorner (codes "C3") picks.YLarge (codes "L1") picks.XSmall (codes "L2") (whole 1)) ≡ circle (codes "C3") (pos 0) (pos 100000) (pos 100000)
unfolding root defined
circle_corner = refl

-- ---- refusals

far_line : refusal_of standing (deeds.LineXy (codes "L9") (pos 0) (pos 0) (pos 0) (whole 501)) ≡ Some cases.OutOfRange
unfolding refused_form
far_line = refl

-- its points are 0 and 4 millionths: the same on the grid
short_line : refusal_of standing (deeds.LineXy (codes "L9") (pos 0) (pos 0) (pos 4) (pos 0)) ≡ Some cases.Degenerate
unfolding refused_form
short_line = refl

far_point : refusal_of standing (deeds.PointXy (codes "P9") (pos 0) (pos 0) (Some (whole 501))) ≡ Some cases.OutOfRange
unfolding refused_form
far_point = refl

-- names are tried before numbers
unknown_name : refusal_of standing (deeds.CircleRadius (codes "C9") (codes "B") (whole 1001)) ≡ Some cases.Undefined
unfolding refused_form
unknown_name = refl

-- the first name's kind is tried before the second is looked for
other_kind : refusal_of standing (deeds.LinePar (codes "L9") (codes "L1") (codes "B")) ≡ Some cases.WrongKind
unfolding refused_form
other_kind = refl

one_point : refusal_of standing (deeds.LinePoints (codes "L9") (codes "P1") (codes "P1")) ≡ Some cases.Degenerate
unfolding refused_form
one_point = refl

parallel_lines : refusal_of standing (deeds.PointLines (codes "P9") (codes "L1") (codes "L4")) ≡ Some cases.NoMeeting
unfolding root refused_form
parallel_lines = refl

far_meeting : refusal_of standing (deeds.PointLines (codes "P9") (codes "L1") (codes "L5")) ≡ Some cases.OutOfRange
unfolding root refused_form
far_meeting = refl

great_circle : refusal_of standing (deeds.CircleXyr (codes "C9") (whole 480) (pos 0) (whole 11)) ≡ Some cases.CircleTooLarge
unfolding refused_form
great_circle = refl

greatest_circle : refusal_of standing (deeds.CircleXyr (codes "C9") (whole 480) (pos 0) (whole 10)) ≡ None
unfolding refused_form
greatest_circle = refl
