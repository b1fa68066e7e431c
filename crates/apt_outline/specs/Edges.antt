-- Where the line through the ends of an edge crosses a segment, and where it misses the edge.
use Rattle.std.specs.Prelude.{◌⊎◌, ℤ, pos, ◌<ℤ◌}
use Rattle.apt_plane.specs.declared.figures.Pt.{Pt}
use Rattle.apt_plane.specs.Vectors.{displacement, cross}

-- how far a point lies to the left of a segment, times its length
abbrev pub side : Pt → Pt → Pt → ℤ
side p a b = cross (displacement a b) (displacement a p)

-- the line of an edge crosses a segment only where both ends of the edge are on one side of the segment: ga and gb are how far the segment's ends lie to the left of the edge, k and l how far the edge's ends lie to the left of the segment
pub record IsMissed (ga gb k l : ℤ) : Type 0 where
  pub down : pos 0 <ℤ ga → gb <ℤ pos 0 → (pos 0 <ℤ k) ⊎ (l <ℤ pos 0)
  pub up : ga <ℤ pos 0 → pos 0 <ℤ gb → (k <ℤ pos 0) ⊎ (pos 0 <ℤ l)

-- the line of the edge PQ misses the edge on the segment AB
abbrev pub IsMissedBy : Pt → Pt → Pt → Pt → Type 0
IsMissedBy p q a b = IsMissed (cross (displacement p q) (displacement p a)) (cross (displacement p q) (displacement p b)) (side p a b) (side q a b)
