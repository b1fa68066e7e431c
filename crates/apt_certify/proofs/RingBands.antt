-- The band of a leg about a centre, as a ring in naturals.
use Rattle.std.proofs.Common.{refl, ◌≡◌, ℕ, ◌+◌, ◌-◌, ◌*◌, ◌≤◌, ◌<◌, ◌∙◌, ap, sym, subst, arith, ℤ, pos, negsuc, unsigned_abs}
use Rattle.std.proofs.lemmas.Int.{ints}
use Rattle.apt_num.proofs.Squares.{root_le}
use Rattle.apt_plane.specs.declared.figures.Pt.{Pt}
use Rattle.apt_plane.specs.declared.figures.Circ.{Circ}
use Rattle.apt_plane.specs.declared.figures.Surface.{Surface}
use Rattle.apt_plane.specs.declared.figures.Surface.TheVariants as surfaces
use Rattle.apt_plane.specs.declared.figures.Band.{Band}
use Rattle.apt_plane.specs.Vectors.{Scaled, scaled, displacement, displacement_to, length_squared}
use Rattle.apt_plane.specs.Distances.{IsOver, IsUnder, InBand, about}
use Rattle.apt_plane.proofs.Heights.{one-times}
use Rattle.apt_plane.proofs.RingLaws.{length_at_most, root_at_most, negative_at_most, never_at_most}
use Rattle.apt_plane.proofs.OneRay.{IsInRing}
use Rattle.apt_certify.specs.declared.leg.Leg.{Leg}
use Rattle.apt_certify.specs.Keeping.{innermost, width}

-- ---- a band about a centre, in naturals
low_of : (c : Pt) (lo : ℤ) (s : Scaled) → IsOver (about c) lo s → s.m * s.m * (innermost lo * innermost lo) ≤ length_squared (displacement_to c s)
low_of c (pos h) s is = (length_at_most s.m h (length_squared (displacement_to c s))).0 is
low_of c (negsuc h) s is = omega arith

over_by : (c : Pt) (lo : ℤ) (s : Scaled) → 0 < s.m → s.m * s.m * (innermost lo * innermost lo) ≤ length_squared (displacement_to c s) → IsOver (about c) lo s
over_by c (pos h) s some low = (length_at_most s.m h (length_squared (displacement_to c s))).1 low
over_by c (negsuc h) s some low = negative_at_most s.m h (length_squared (displacement_to c s)) some

pub high_of : (c : Pt) (h : ℕ) (s : Scaled) → IsUnder (about c) (pos h) s → length_squared (displacement_to c s) ≤ s.m * s.m * (h * h)
high_of c h s is = (root_at_most s.m h (length_squared (displacement_to c s))).0 is

under_by : (c : Pt) (h : ℕ) (s : Scaled) → length_squared (displacement_to c s) ≤ s.m * s.m * (h * h) → IsUnder (about c) (pos h) s
under_by c h s high = (root_at_most s.m h (length_squared (displacement_to c s))).1 high

-- its outer edge is no length below 0
pub outer_plus : (c : Pt) (hi : ℤ) (s : Scaled) → 0 < s.m → IsUnder (about c) hi s → hi ≡ pos (unsigned_abs hi)
outer_plus c (pos h) s some is = refl
outer_plus c (negsuc h) s some is = absurd (never_at_most s.m h (length_squared (displacement_to c s)) some is)

-- a band as a ring: from l to l + w
pub record IsRingBand (b : Band) (l w : ℕ) : Type 0 where
  pub low : innermost b.lo ≡ l
  pub high : b.hi ≡ pos (l + w)

pub in_ring : (c : Pt) (b : Band) (l w : ℕ) (s : Scaled) → IsRingBand b l w → 0 < s.m → IsOver (about c) b.lo s → IsUnder (about c) b.hi s → IsInRing c l (l + w) s
in_ring c b l w s is some over under = record {
  some = some;
  low = subst (λ n. s.m * s.m * (n * n) ≤ length_squared (displacement_to c s)) is.low (low_of c b.lo s over);
  high = high_of c (l + w) s (subst (λ (z : ℤ). IsUnder (about c) z s) is.high under);
}

pub of_ring : (c : Pt) (b : Band) (l w : ℕ) (s : Scaled) → IsRingBand b l w → IsInRing c l (l + w) s → IsOver (about c) b.lo s × IsUnder (about c) b.hi s
of_ring c b l w s is ring = (
  over_by c b.lo s ring.some (subst (λ n. s.m * s.m * (n * n) ≤ length_squared (displacement_to c s)) (sym is.low) ring.low),
  subst (λ (z : ℤ). IsUnder (about c) z s) (sym is.high) (under_by c (l + w) s ring.high),
)

-- the way to a point as a fraction
pub one_long : (c p : Pt) → length_squared (displacement_to c (scaled p)) ≡ length_squared (displacement c p)
one_long c p = rw (one-times c.x, one-times c.y) refl

-- a band with a point in it is a ring
pub ring_band : (c p : Pt) (b : Band) → IsOver (about c) b.lo (scaled p) → IsUnder (about c) b.hi (scaled p) → IsRingBand b (innermost b.lo) (unsigned_abs b.hi - innermost b.lo)
ring_band c p b over under =
    let plus = outer_plus c b.hi (scaled p) (omega arith) under in
    let low = low_of c b.lo (scaled p) over in
    let high = high_of c (unsigned_abs b.hi) (scaled p) (subst (λ (z : ℤ). IsUnder (about c) z (scaled p)) plus under) in
    let less : innermost b.lo ≤ unsigned_abs b.hi = root_le (innermost b.lo) (unsigned_abs b.hi) (omega (arith, low, high)) in
    record { low = refl; high = plus ∙ ap (λ n. pos n) (omega (arith, less)) }

pub width_is : (b : Band) (l w : ℕ) → IsRingBand b l w → width b ≡ pos w
width_is b l w is = rw (is.low, is.high) (omega (arith, ints))

-- ---- the band of a leg whose drive surface is a circle
pub in_band : (leg : Leg) (d : Circ) (s : Scaled) → leg.drive ≡ surfaces.Circ d → InBand leg.drive leg.band s → IsOver (about d.c) leg.band.lo s × IsUnder (about d.c) leg.band.hi s
in_band leg d s e is = parts (subst (λ (surface : Surface). InBand surface leg.band s) e is)
  where
    parts : InBand (surfaces.Circ d) leg.band s → IsOver (about d.c) leg.band.lo s × IsUnder (about d.c) leg.band.hi s
    parts is = (is.lo, is.hi)

pub to_band : (leg : Leg) (d : Circ) (s : Scaled) → leg.drive ≡ surfaces.Circ d → IsOver (about d.c) leg.band.lo s × IsUnder (about d.c) leg.band.hi s → InBand leg.drive leg.band s
to_band leg d s e both = subst (λ (surface : Surface). InBand surface leg.band s) (sym e) whole
  where
    whole : InBand (surfaces.Circ d) leg.band s
    whole = record { lo = both.0; hi = both.1 }
