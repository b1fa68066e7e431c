-- What a legal leg's arc keeps, as a control cuts it.
use Rattle.std.specs.Prelude.{◌≢◌, ℕ, ◌≤◌, unsigned_abs, ℤ, pos, negsuc, ◌+ℤ◌, ◌-ℤ◌, List}
use Rattle.apt_plane.specs.declared.figures.Pt.{Pt}
use Rattle.apt_plane.specs.declared.figures.Band.{Band}
use Rattle.apt_plane.specs.Vectors.{Scaled}
use Rattle.apt_plane.specs.Distances.{InBand}
use Rattle.apt_plane.specs.Sweeps.{Sweep}
use Rattle.apt_offset.specs.Edges as edges
use Rattle.apt_offset.specs.Edges.{widened}
use Rattle.apt_certify.specs.declared.leg.Leg.{Leg}
use Rattle.apt_certify.specs.Legs.{slack_of}
use Rattle.apt_certify.specs.Legal.{last_of}

-- the least distance from a centre in a band: none is below 0
abbrev pub innermost : ℤ → ℕ
innermost (pos n) = n
innermost (negsuc n) = 0

-- how wide a band about a centre is
abbrev pub width : Band → ℤ
width b = b.hi -ℤ pos (innermost b.lo)

-- a point is not beyond the edge of a leg's stop by more than its slack and a length
abbrev pub IsWithinBy : ℤ → Leg → Scaled → Type 0
IsWithinBy more leg s = edges.IsWithinEdge leg.check (widened leg.stop_band (slack_of leg +ℤ more)) leg.beyond s

-- the arc of a leg about the centre of its drive surface
abbrev pub sweep_of : Pt → ℤ → Pt → List Pt → Sweep
sweep_of centre sense start vertices = record { start = start; end = last_of start vertices; centre = centre; sense = sense }

-- a point of it is in the band of the leg's drive surface, and past the edge of its stop by at most its slack and the width of that band
pub record StaysBy (leg : Leg) (x : Scaled) : Type 0 where
  pub band : InBand leg.drive leg.band x
  pub edge : IsWithinBy (width leg.band) leg x

-- its start, its end and its centre are three points, and the centre is at most so far from the start in x and in y
pub record IsThree (most : ℕ) (w : Sweep) : Type 0 where
  pub start_off : w.start ≢ w.centre
  pub end_off : w.end ≢ w.centre
  pub apart : w.start ≢ w.end
  pub way_x : unsigned_abs (w.centre.x -ℤ w.start.x) ≤ most
  pub way_y : unsigned_abs (w.centre.y -ℤ w.start.y) ≤ most
