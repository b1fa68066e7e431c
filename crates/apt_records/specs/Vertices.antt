-- The vertices of a contour, however they are held.
use Rattle.std.specs.Prelude.{ℤ, List, map}
use Rattle.apt_plane.specs.declared.figures.Pt.{Pt}
use Rattle.apt_records.specs.declared.record.Position.{Position}
use Rattle.apt_records.specs.declared.vertices.Held.{Held}
use Rattle.apt_records.specs.declared.vertices.Held.TheVariants as held

-- a point at a height
abbrev pub at_height : ℤ → Pt → Position
at_height z p = record { xy = p; z = z }

abbrev pub point_of : Position → Pt
point_of p = p.xy

-- a single one, points at one height, or positions
abbrev pub listed : Held → List Position
listed (held.One vertex) = vertex
listed (held.Level z points) = map (at_height z) points.items
listed (held.Apart list) = list.items
