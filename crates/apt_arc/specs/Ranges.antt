-- The ranges of arcs, and the pieces that they are cut from.
use Rattle.std.specs.Prelude.{◌≢◌, ◌+◌, ◌≤◌, ℤ, pos, ◌*ℤ◌, ◌≤ℤ◌, ◌<ℤ◌, unsigned_abs, List, [], ◌∷◌}
use Rattle.apt_plane.specs.declared.figures.Pt.{Pt}
use Rattle.apt_plane.specs.declared.figures.Circ.{Circ}
use Rattle.apt_plane.specs.Vectors.{displacement, cross, dot}
use Rattle.apt_plane.specs.Ranges.{IsDir, IsSense}
use Rattle.apt_plane.specs.Order.{turn_class}
use Rattle.apt_canon.specs.Scale.{IsNearCircle}
use Rattle.apt_arc.specs.declared.arc.Arc.{Arc}

-- the circle along which a tool's centre runs
pub record IsTrack (t : Circ) : Type 0 where
  pub least : pos 100 ≤ℤ t.r
  pub x : unsigned_abs t.c.x + unsigned_abs t.r ≤ 49500000
  pub y : unsigned_abs t.c.y + unsigned_abs t.r ≤ 49500000

-- how far chords may lie inside of a track
pub record IsSag (t : Circ) (sag : ℤ) : Type 0 where
  pub least : pos 8 ≤ℤ sag
  pub most : (pos 4 *ℤ sag) ≤ℤ t.r

-- an arc can be divided: its ends are near the track, and do not lie in one direction from the centre
pub record IsArc (a : Arc) : Type 0 where
  pub track : IsTrack a.track
  pub sense : IsSense a.sense
  pub axis : IsDir a.axis
  pub sag : IsSag a.track a.sag
  pub start : IsNearCircle a.track (pos 3) a.start
  pub end : IsNearCircle a.track (pos 3) a.end
  pub apart : turn_class (displacement a.track.c a.start) a.sense (displacement a.track.c a.end) ≢ 0

-- two points near a track, a turn of at most a quarter apart
pub record IsPiece (t : Circ) (sense : ℤ) (a b : Pt) : Type 0 where
  pub onwards : pos 0 <ℤ (sense *ℤ cross (displacement t.c a) (displacement t.c b))
  pub ahead : pos 0 ≤ℤ dot (displacement t.c a) (displacement t.c b)
  pub start : IsNearCircle t (pos 3) a
  pub end : IsNearCircle t (pos 3) b

-- each from the one before, the first from a
abbrev pub ArePieces : Circ → ℤ → Pt → List Pt → Type 0
ArePieces t sense a [] = Unit {0}
ArePieces t sense a (q ∷ qs) = IsPiece t sense a q × ArePieces t sense q qs
