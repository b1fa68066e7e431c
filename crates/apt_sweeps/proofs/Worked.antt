-- The arcs of small tapes, which the checker works out.
use Rattle.std.proofs.Common.{refl, ◌≡◌, ℤ, pos, negsuc, List, [], ◌∷◌, ◌++◌, Option, Some, None}
use Rattle.apt_words.specs.declared.Command.TheVariants as commands
use Rattle.apt_words.specs.declared.Side.TheVariants as sides
use Rattle.apt_words.specs.declared.Stop.TheVariants as stops
use Rattle.apt_plane.specs.declared.figures.Pt.{Pt}
use Rattle.apt_plane.specs.declared.figures.Circ.{Circ}
use Rattle.apt_plane.specs.declared.figures.Surface.TheVariants as surfaces
use Rattle.apt_plane.specs.Sweeps.{Sweep}
use Rattle.apt_records.specs.declared.record.Note.TheVariants as notes
use Rattle.apt_records.specs.declared.record.Position.{Position}
use Rattle.apt_records.specs.declared.record.Reach.TheVariants as reaches
use Rattle.apt_records.specs.declared.record.Record.{Record}
use Rattle.apt_records.specs.declared.record.Record.TheVariants as records
use Rattle.apt_control.specs.declared.Act.TheVariants as acts
use Rattle.apt_circular.specs.declared.ArcAct.TheVariants.{Plain, Arc}
use Rattle.apt_circular.specs.ArcPlan.{plan_arcs}
use Rattle.apt_sweeps.specs.ArcSweeps.{sweeps_of}

abbrev at : ℤ → ℤ → Position
at x y = record { xy = record { x = x; y = y }; z = pos 0 }

abbrev point : ℤ → ℤ → Pt
point x y = record { x = x; y = y }

-- about the origin, clockwise
abbrev clockwise : Pt → Pt → Option Sweep
clockwise start end = Some (record { start = start; end = end; centre = point (pos 0) (pos 0); sense = negsuc 0 })

abbrev low : ℤ
low = negsuc 224999

abbrev circle : Circ
circle = record { c = point (pos 0) (pos 0); r = pos 200000 }

-- a feed, and a start above the circle
abbrev front : List Record
front = records.Note (notes.Feed (pos 100)) ∷ records.Point reaches.From (at (pos 0) (pos 400000)) ∷ []

-- half round the circle, clockwise
abbrev half : List Record
half =
    records.Drive (surfaces.Circ circle) sides.Left (negsuc 0) ∷ records.Check (surfaces.Circ circle) stops.On
    ∷ records.Contour (at (pos 225000) (pos 0) ∷ at (pos 0) low ∷ []) ∷ []

-- an arc goes from where the move before it led to the last vertex of its leg
half_round : sweeps_of (plan_arcs (front ++ records.Point reaches.Start (at (pos 0) (pos 225000)) ∷ half)) ≡ clockwise (point (pos 0) (pos 225000)) (point (pos 0) low) ∷ []
half_round = refl

-- and the arc of a second leg from where the first ended
second_leg : sweeps_of (plan_arcs (front ++ records.Point reaches.Start (at (pos 0) (pos 225000)) ∷ half ++ records.Contour (at low (pos 0) ∷ []) ∷ []))
    ≡ clockwise (point (pos 0) (pos 225000)) (point (pos 0) low) ∷ clockwise (point (pos 0) low) (point low (pos 0)) ∷ []
second_leg = refl

-- behind FROM alone a leg is cut vertex by vertex, and the next one from the last of them
behind_from : sweeps_of (plan_arcs (front ++ half ++ records.Contour (at low (pos 0) ∷ []) ∷ [])) ≡ clockwise (point (pos 0) low) (point low (pos 0)) ∷ []
behind_from = refl

-- an arc at the beginning of a tape comes from nowhere
from_nowhere : sweeps_of (Arc (negsuc 0) (pos 0) low (pos 0) (pos 0) (pos 0) (pos 100) ∷ []) ≡ None ∷ []
from_nowhere = refl

-- a rapid move leads on as a cut does, and what is no move leaves the tool
behind_a_rapid : sweeps_of (Plain (acts.Rapid (pos 0) (pos 225000) (pos 0)) ∷ Plain (acts.Do commands.Stop) ∷ Arc (negsuc 0) (pos 0) low (pos 0) (pos 0) (pos 0) (pos 100) ∷ [])
    ≡ clockwise (point (pos 0) (pos 225000)) (point (pos 0) low) ∷ []
behind_a_rapid = refl
