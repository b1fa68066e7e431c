-- Bands about a place that are wider than a distance.
use Rattle.std.proofs.Common.{refl, sym, arith, ℤ, pos, ◌+ℤ◌, ◌-ℤ◌, ◌≤ℤ◌, neg_ℤ}
use Rattle.std.proofs.lemmas.Int.{ints}
use Rattle.apt_num.specs.declared.Sign.{Sign}
use Rattle.apt_num.specs.declared.Sign.TheVariants as signs
use Rattle.apt_num.specs.Sign.{OnLine}
use Rattle.apt_plane.specs.declared.figures.Pt.{Pt}
use Rattle.apt_plane.specs.declared.figures.Line.{Line}
use Rattle.apt_plane.specs.declared.figures.Band.{Band}
use Rattle.apt_plane.specs.declared.figures.Surface.TheVariants as surfaces
use Rattle.apt_plane.specs.Vectors.{displacement, cross, length_squared, scaled}
use Rattle.apt_plane.proofs.Heights.{height_of_point}
use Rattle.apt_plane.proofs.SegmentLaws.{point_in_band}
use Rattle.apt_offset.specs.Targets.{signed, band_at}
use Rattle.apt_plane.specs.declared.figures.Circ.{Circ}
use Rattle.apt_plane.specs.declared.figures.Surface.{Surface}
use Rattle.apt_plane.specs.Distances.{InBand, IsLengthAtMost, IsRootAtMost}
use Rattle.apt_plane.proofs.RingLaws.{tells_over, tells_under}
use Rattle.apt_plane.proofs.Weaker.{point_over, point_under}
use Rattle.apt_canon.specs.Scale.{IsNearCircle}
use Rattle.apt_offset.specs.Targets.{offset_surface}
use Rattle.apt_offset.proofs.Rooms.{HasRoomAbout, circle_room, le_greater}
use Rattle.apt_contact.specs.Meetings.{circle_about}
use Rattle.apt_contact.specs.Contacts.{IsNearTarget}
use Rattle.apt_num.proofs.Sums.{at_least-weaker}

-- the greater of two is at least the first

-- a band has room for 8 units to both sides of a place
pub record HasRoom (band : Band) (offset : ℤ) : Type 0 where
  pub lo : band.lo ≤ℤ (offset -ℤ pos 8)
  pub hi : (offset +ℤ pos 8) ≤ℤ band.hi

pub band_at-HasRoom : (l : Line) (v : Sign) (r i o : ℤ) → pos 8 ≤ℤ i → pos 8 ≤ℤ o → HasRoom (band_at (surfaces.Line l) v r i o) (signed v r)
band_at-HasRoom l signs.Plus r i o p q = record { lo = omega (arith, ints); hi = omega (arith, ints) }
band_at-HasRoom l signs.Minus r i o p q = record { lo = omega (arith, ints); hi = omega (arith, ints) }
band_at-HasRoom l signs.Zero r i o p q = record { lo = omega (arith, ints, le_greater i o); hi = omega (arith, ints, le_greater i o) }

-- a point that is at most 8 units from the place is in the band
pub near_in_band : (l : Line) (band : Band) (offset g : ℤ) (p : Pt) → HasRoom band offset → g ≤ℤ pos 8
    → OnLine (cross l.dir (displacement l.base p)) offset (length_squared l.dir) g → InBand (surfaces.Line l) band (scaled p)
near_in_band l band offset g p room small on =
    let k = cross l.dir (displacement l.base p) in
    (point_in_band l band p k (length_squared l.dir) (sym (height_of_point l p)) refl).0 (
      at_least-weaker k (offset -ℤ g) band.lo (length_squared l.dir) (omega (arith, ints, room.lo)) on.right,
      at_least-weaker (neg_ℤ k) (neg_ℤ offset -ℤ g) (neg_ℤ band.hi) (length_squared l.dir) (omega (arith, ints, room.hi)) on.left,
    )

-- ---- circles

near_in_ring : (c : Circ) (band : Band) (r g : ℤ) (p : Pt) → HasRoomAbout band r → g ≤ℤ pos 8 → IsNearCircle (circle_about c.c r) g p → InBand (surfaces.Circ c) band (scaled p)
near_in_ring c band r g p room small near =
    let way = displacement c.c p in record {
      lo = point_over (surfaces.Circ c) (r -ℤ g) band.lo (scaled p) (omega arith) (omega (arith, ints, room.lo))
          ((tells_over (IsLengthAtMost (r -ℤ g) (length_squared way)) c.c p (r -ℤ g) way (length_squared way) refl refl (λ x. x, λ x. x)).0 near.outside);
      hi = point_under (surfaces.Circ c) (r +ℤ g) band.hi (scaled p) (omega arith) (omega (arith, ints, room.hi))
          ((tells_under (IsRootAtMost (length_squared way) (r +ℤ g)) c.c p (r +ℤ g) way (length_squared way) refl refl (λ x. x, λ x. x)).0 near.inside);
    }

-- ---- every surface: what is at most 8 units from it, moved, is in its band

pub near_surface : (surface : Surface) (v : Sign) (r i o g : ℤ) (p : Pt) → pos 8 ≤ℤ i → pos 8 ≤ℤ o → g ≤ℤ pos 8
    → IsNearTarget (offset_surface surface v r) g p → InBand surface (band_at surface v r i o) (scaled p)
near_surface (surfaces.Line l) v r i o g p inner outer small near = near_in_band l (band_at (surfaces.Line l) v r i o) (signed v r) g p (band_at-HasRoom l v r i o inner outer) small near
near_surface (surfaces.Circ c) v r i o g p inner outer small near = near_in_ring c (band_at (surfaces.Circ c) v r i o) (c.r -ℤ signed v r) g p (circle_room c.r v r i o inner outer) small near
