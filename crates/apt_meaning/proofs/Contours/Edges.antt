-- A course that keeps on its side of the stop, up to 8 units, does not pass the far edge of the stop's band.
use Rattle.std.proofs.Common.{arith, ℤ, pos, ◌+ℤ◌, ◌-ℤ◌, ◌≤ℤ◌}
use Rattle.std.proofs.lemmas.Int.{ints}
use Rattle.apt_num.specs.declared.Sign.{Sign}
use Rattle.apt_num.specs.declared.Sign.TheVariants as signs
use Rattle.apt_plane.specs.declared.figures.Pt.{Pt}
use Rattle.apt_plane.specs.declared.figures.Surface.{Surface}
use Rattle.apt_plane.specs.declared.figures.Surface.TheVariants as surfaces
use Rattle.apt_plane.specs.Distances.{EveryPoint}
use Rattle.apt_plane.proofs.Weaker.{every_over, every_under}
use Rattle.apt_offset.specs.Edges.{IsWithinEdge, widened}
use Rattle.apt_offset.specs.Targets.{signed, offset_surface, band_at}
use Rattle.apt_offset.proofs.Rooms.{circle_room}
use Rattle.apt_certify.specs.Legs.{beyond_of}
use Rattle.apt_stop.specs.Nearness.{near_stop}
use Rattle.apt_stop.specs.Ends.{IsKept}
use Rattle.apt_meaning.proofs.Contours.Bands.{band_at-HasRoom}

-- with no slack, as along a line
pub kept_before : (check : Surface) (v side : Sign) (r i o : ℤ) (p q : Pt) → pos 8 ≤ℤ i → pos 8 ≤ℤ o
    → EveryPoint p q (IsKept (offset_surface check v r) near_stop side)
    → EveryPoint p q (IsWithinEdge check (widened (band_at check v r i o) (pos 0)) (beyond_of check side))
kept_before (surfaces.Line l) v signs.Plus r i o p q inner outer kept =
    let room = band_at-HasRoom l v r i o inner outer in
    every_over (surfaces.Line l) (signed v r -ℤ pos 8) ((band_at (surfaces.Line l) v r i o).lo -ℤ pos 0) p q (omega (arith, ints, room.lo)) kept
kept_before (surfaces.Line l) v signs.Minus r i o p q inner outer kept =
    let room = band_at-HasRoom l v r i o inner outer in
    every_under (surfaces.Line l) (signed v r +ℤ pos 8) ((band_at (surfaces.Line l) v r i o).hi +ℤ pos 0) p q (omega (arith, ints, room.hi)) kept
kept_before (surfaces.Line l) v signs.Zero r i o p q inner outer kept = λ j k h. tt
kept_before (surfaces.Circ c) v signs.Plus r i o p q inner outer kept =
    let room = circle_room c.r v r i o inner outer in
    every_under (surfaces.Circ c) ((c.r -ℤ signed v r) +ℤ pos 8) ((band_at (surfaces.Circ c) v r i o).hi +ℤ pos 0) p q (omega (arith, ints, room.hi)) kept
kept_before (surfaces.Circ c) v signs.Minus r i o p q inner outer kept =
    let room = circle_room c.r v r i o inner outer in
    every_over (surfaces.Circ c) ((c.r -ℤ signed v r) -ℤ pos 8) ((band_at (surfaces.Circ c) v r i o).lo -ℤ pos 0) p q (omega (arith, ints, room.lo)) kept
kept_before (surfaces.Circ c) v signs.Zero r i o p q inner outer kept = λ j k h. tt
