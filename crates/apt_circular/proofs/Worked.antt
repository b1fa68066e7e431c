-- Plans of a few records, which the checker works out.
use Rattle.std.proofs.Common.{refl, ◌≡◌, ℤ, pos, negsuc, List, [], ◌∷◌, ◌++◌}
use Rattle.apt_words.specs.declared.Units.TheVariants.{Inch}
use Rattle.apt_words.specs.declared.Side.TheVariants as sides
use Rattle.apt_words.specs.declared.Stop.TheVariants as stops
use Rattle.apt_plane.specs.declared.figures.Circ.{Circ}
use Rattle.apt_plane.specs.declared.figures.Surface.TheVariants as surfaces
use Rattle.apt_records.specs.declared.record.Note.TheVariants as notes
use Rattle.apt_records.specs.declared.record.Position.{Position}
use Rattle.apt_records.specs.declared.record.Reach.TheVariants as reaches
use Rattle.apt_records.specs.declared.record.Record.{Record}
use Rattle.apt_records.specs.declared.record.Record.TheVariants as records
use Rattle.apt_control.specs.declared.Act.TheVariants as acts
use Rattle.apt_circular.specs.declared.ArcAct.{ArcAct}
use Rattle.apt_circular.specs.declared.ArcAct.TheVariants.{Plain, Arc}
use Rattle.apt_circular.specs.ArcPlan.{plan_arcs}
use Rattle.apt_circular.specs.ArcsSaid.{arcs_of}

abbrev at : ℤ → ℤ → Position
at x y = record { xy = record { x = x; y = y }; z = pos 0 }

abbrev cut : ℤ → ℤ → ArcAct
cut x y = Plain (acts.Cut x y (pos 0) (pos 100))

abbrev low : ℤ
low = negsuc 224999

abbrev circle : Circ
circle = record { c = record { x = pos 0; y = pos 0 }; r = pos 200000 }

-- a feed, and a start above the circle
abbrev front : List Record
front = records.Note (notes.Feed (pos 100)) ∷ records.Point reaches.From (at (pos 0) (pos 400000)) ∷ []

-- half round the circle, clockwise, and the end
abbrev half : List Record
half =
    records.Drive (surfaces.Circ circle) sides.Left (negsuc 0) ∷ records.Check (surfaces.Circ circle) stops.On
    ∷ records.Contour (at (pos 225000) (pos 0) ∷ at (pos 0) low ∷ []) ∷ records.Note notes.Fini ∷ []

-- from a position that the tape has given, a leg round a circle is one arc
behind_a_move : plan_arcs (front ++ records.Point reaches.Start (at (pos 0) (pos 225000)) ∷ half)
    ≡ Plain (acts.Units Inch) ∷ cut (pos 0) (pos 225000) ∷ Arc (negsuc 0) (pos 0) low (pos 0) (pos 0) (pos 0) (pos 100) ∷ Plain acts.End ∷ []
behind_a_move = refl

-- FROM gives the tape none
behind_from : plan_arcs (front ++ half) ≡ Plain (acts.Units Inch) ∷ cut (pos 225000) (pos 0) ∷ cut (pos 0) low ∷ Plain acts.End ∷ []
behind_from = refl

-- a second leg, which comes behind a contour, is an arc there too
second_leg : plan_arcs (front ++ records.Drive (surfaces.Circ circle) sides.Left (pos 1) ∷ records.Contour (at (pos 0) (pos 225000) ∷ []) ∷ records.Contour (at low (pos 0) ∷ at (pos 0) low ∷ []) ∷ [])
    ≡ Plain (acts.Units Inch) ∷ cut (pos 0) (pos 225000) ∷ Arc (pos 1) (pos 0) low (pos 0) (pos 0) (pos 0) (pos 100) ∷ []
second_leg = refl

-- round a circle, along a line, and round another circle
a_line_between : plan_arcs (
    front ++ records.Point reaches.Goto (at (pos 0) (pos 225000)) ∷ records.Drive (surfaces.Circ circle) sides.Left (negsuc 0) ∷ records.Contour (at (pos 225000) (pos 0) ∷ []) ∷
    records.Drive (surfaces.Line (record { base = record { x = pos 200000; y = pos 0 }; dir = record { dx = pos 0; dy = negsuc 0 } })) sides.Left (pos 1)
    ∷ records.Contour (at (pos 225000) low ∷ []) ∷ records.Drive (surfaces.Circ (record { c = record { x = pos 225000; y = negsuc 324999 }; r = pos 75000 })) sides.Left (negsuc 0)
    ∷ records.Contour (at (pos 325000) (negsuc 324999) ∷ []) ∷ [])
    ≡ Plain (acts.Units Inch) ∷ cut (pos 0) (pos 225000) ∷ Arc (negsuc 0) (pos 225000) (pos 0) (pos 0) (pos 0) (pos 0) (pos 100) ∷ cut (pos 225000) low
    ∷ Arc (negsuc 0) (pos 325000) (negsuc 324999) (pos 0) (pos 225000) (negsuc 324999) (pos 100) ∷ []
a_line_between = refl

-- ---- the same, read off the records alone

asked_behind_a_goto : arcs_of (front ++ records.Point reaches.Goto (at (pos 0) (pos 225000)) ∷ half)
    ≡ Plain (acts.Units Inch) ∷ cut (pos 0) (pos 225000) ∷ Arc (negsuc 0) (pos 0) low (pos 0) (pos 0) (pos 0) (pos 100) ∷ Plain acts.End ∷ []
asked_behind_a_goto = refl

-- behind FROM alone each vertex is cut to
asked_behind_from : arcs_of (front ++ half) ≡ Plain (acts.Units Inch) ∷ cut (pos 225000) (pos 0) ∷ cut (pos 0) low ∷ Plain acts.End ∷ []
asked_behind_from = refl
