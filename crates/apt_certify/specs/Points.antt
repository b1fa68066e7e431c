-- The points of a motion, however they are held.
use Rattle.std.specs.Prelude.{List}
use Rattle.apt_plane.specs.declared.figures.Pt.{Pt}
use Rattle.apt_certify.specs.declared.leg.Kept.{Kept}
use Rattle.apt_certify.specs.declared.leg.Kept.TheVariants as kept

-- both ends of a segment, or all points
abbrev pub points_of : Kept → List Pt
points_of (kept.Ends ends) = ends
points_of (kept.All points) = points.items
