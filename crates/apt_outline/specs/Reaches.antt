-- How near the cutter of each contour record may come, by the records before it.
use Rattle.std.specs.Prelude.{pos, List, [], ◌∷◌, ◌++◌, Option, Some, None}
use Rattle.apt_words.specs.Asks.{listed}
use Rattle.apt_records.specs.declared.record.Note.{Note}
use Rattle.apt_records.specs.declared.record.Note.TheVariants as notes
use Rattle.apt_records.specs.declared.record.Record.{Record}
use Rattle.apt_records.specs.declared.record.Record.TheVariants as records
use Rattle.apt_records.specs.Ranges.{IsFromTo}
use Rattle.apt_meaning.specs.Paths.{Contour, radius_by, counted}
use Rattle.apt_outline.specs.declared.parts.Reach.{Reach}
use Rattle.apt_outline.specs.declared.cutter.Cutter.{Cutter}
use Rattle.apt_outline.specs.Clearances.{clearance}
use Rattle.apt_outline.specs.Guards.{Pass}

-- before the first record: a cutter without a diameter, and INTOL 0
abbrev pub nothing_said : Cutter
nothing_said = record { diameter = pos 0; intol = pos 0 }

-- the cutter's diameter and INTOL, as a note more says them
abbrev pub cutter_noted : Cutter → Note → Cutter
cutter_noted said (notes.Cutter d) = record said { diameter = d }
cutter_noted said (notes.Intol t) = record said { intol = t }
cutter_noted said _ = said

-- and as a record more says them
abbrev pub cutter_behind : Cutter → Record → Cutter
cutter_behind said (records.Note note) = cutter_noted said note
cutter_behind said _ = said

-- the radius is half the diameter, rounded up; INTOL counts as at least a grid step
abbrev pub reach_by : Cutter → Reach
reach_by said = record { r = radius_by said.diameter; i = counted said.intol }

-- a contour record has a reach
abbrev pub reach_at : Cutter → Record → Option Reach
reach_at said (records.Contour vertices) = Some (reach_by said)
reach_at said _ = None

-- the reaches of the contours among records, behind what was said before
abbrev pub reaches_behind : Cutter → List Record → List Reach
reaches_behind said [] = []
reaches_behind said (r ∷ rs) = listed (reach_at said r) ++ reaches_behind (cutter_behind said r) rs

-- the reaches of all contours of a CL file
abbrev pub reaches_of : List Record → List Reach
reaches_of rs = reaches_behind nothing_said rs

-- the radius and the inner tolerance with which a leg is cut
abbrev pub reach_of : Contour → Reach
reach_of c = record { r = c.motion.radius; i = c.motion.inner }

-- the path of a leg, and how far its points keep from what is cut
abbrev pub pass_said : Contour → Pass
pass_said c = record { points = c.motion.start.xy ∷ c.vertices; rho = clearance (reach_of c) }

-- ---- in range

-- a diameter and an INTOL that records can have
pub record IsCutter (said : Cutter) : Type 0 where
  pub diameter : IsFromTo (pos 0) (pos 1000000) said.diameter
  pub intol : IsFromTo (pos 0) (pos 10000) said.intol
