-- The side of a surface on which the cutter's centre is, by its distance.
use Rattle.std.proofs.Common.{refl, ◌≡◌, ◌∙◌, ap, sym, true≢false, arith, false, ℕ, zero, suc, ◌*◌, ◌≤◌, ◌<◌, ℤ, pos, negsuc, neg_ℤ, ◌+ℤ◌, ◌-ℤ◌, ◌*ℤ◌, ◌≤ℤ◌, ◌<ℤ◌, unsigned_abs}
use Rattle.std.proofs.lemmas.Int.{ints}
use Rattle.std.proofs.lemmas.Nat.{mul-le, mul-lt}
use Rattle.apt_num.specs.declared.Sign.{Sign}
use Rattle.apt_num.specs.declared.Sign.TheVariants as signs
use Rattle.apt_num.specs.Sign.{sign_of, AtLeast}
use Rattle.apt_num.proofs.Squares.{size_square}
use Rattle.apt_num.proofs.Nearest.{not_negative}
use Rattle.apt_num.proofs.Products.{plus_sign, minus_sign}
use Rattle.apt_words.specs.declared.Stop.{Stop}
use Rattle.apt_words.specs.declared.Stop.TheVariants as stops
use Rattle.apt_plane.specs.declared.figures.Pt.{Pt}
use Rattle.apt_plane.specs.declared.figures.Line.{Line}
use Rattle.apt_plane.specs.declared.figures.Circ.{Circ}
use Rattle.apt_plane.specs.declared.figures.Surface.{Surface}
use Rattle.apt_plane.specs.declared.figures.Surface.TheVariants as surfaces
use Rattle.apt_plane.specs.Vectors.{scaled, displacement, cross, length_squared}
use Rattle.apt_plane.specs.Distances.{IsLengthAtMost, IsRootAtMost, IsAbove, IsBelow, IsOver, IsUnder, InBand}
use Rattle.apt_plane.specs.Ranges.{IsSurface}
use Rattle.apt_plane.proofs.SegmentLaws.{point_above, point_below}
use Rattle.apt_plane.proofs.RingLaws.{tells_over, tells_under}
use Rattle.apt_offset.specs.Turns.{is_zero}
use Rattle.apt_offset.specs.Sides.{side_at, side_at_check, is_on_check, StopsAside}
use Rattle.apt_offset.specs.Targets.{band_at}

-- ---- signs

no_less : (h n : ℕ) → 0 < h → 1 ≤ n → h * h * n ≤ 0 → ⊥
no_less h n more some le =
    let squares : 1 * 1 ≤ h * h = mul-le 1 1 h h (omega arith) (omega arith) in
    let all : 1 * 1 ≤ h * h * n = mul-le 1 1 (h * h) n (omega arith) some in
    omega arith

-- what is at least a length above 0 is above 0, and what is at most one below 0 below it
pub above : (k h : ℤ) (n : ℕ) → pos 0 <ℤ h → 1 ≤ n → AtLeast k h n → sign_of k ≡ signs.Plus
above (pos zero) (pos h) n more some is = absurd (no_less h n (omega (arith, ints)) some (omega (arith, is)))
above (pos zero) (negsuc h) n more some is = absurd (omega (arith, ints))
above (pos (suc k)) h n more some is = refl
above (negsuc k) (pos h) n more some is = absurd is
above (negsuc k) (negsuc h) n more some is = absurd (omega (arith, ints))

pub below : (k h : ℤ) (n : ℕ) → h <ℤ pos 0 → 1 ≤ n → AtLeast (neg_ℤ k) (neg_ℤ h) n → sign_of k ≡ signs.Minus
below k (pos h) n less some is = absurd (omega (arith, ints))
below (pos zero) (negsuc h) n less some is = absurd (no_less (suc h) n (omega arith) some (omega (arith, is)))
below (pos (suc k)) (negsuc h) n less some is = absurd is
below (negsuc k) (negsuc h) n less some is = refl

-- a root that is at most a length under r is inside of r, and one that is at least a length over it outside
pub inside : (r h : ℤ) (n : ℕ) → h <ℤ r → IsRootAtMost n h → sign_of ((r *ℤ r) -ℤ pos n) ≡ signs.Plus
inside r (negsuc h) n less is = absurd is
inside r (pos h) n less is =
    let small : h * h < unsigned_abs r * unsigned_abs r = mul-lt h h (unsigned_abs r) (unsigned_abs r) (omega (arith, ints)) (omega (arith, ints)) in
    let near : n ≤ h * h = rw (not_negative h) at is in
    plus_sign _ (omega (arith, ints, size_square r))

pub outside : (r h : ℤ) (n : ℕ) → pos 0 ≤ℤ r → r <ℤ h → IsLengthAtMost h n → sign_of ((r *ℤ r) -ℤ pos n) ≡ signs.Minus
outside r (negsuc h) n least more is = absurd (omega (arith, ints))
outside r (pos h) n least more is =
    let great : unsigned_abs r * unsigned_abs r < h * h = mul-lt (unsigned_abs r) (unsigned_abs r) h h (omega (arith, ints)) (omega (arith, ints)) in
    let far : h * h ≤ n = rw (not_negative h) at is in
    minus_sign _ (omega (arith, ints, size_square r))

-- ---- in the band of a place

over_line : (l : Line) (lo : ℤ) (q : Pt) → IsAbove l lo (scaled q) → AtLeast (cross l.dir (displacement l.base q)) lo (length_squared l.dir)
over_line l lo q =
    let k = cross l.dir (displacement l.base q) in
    let n = length_squared l.dir in
    (point_above (AtLeast k lo n) l lo q k n refl refl (λ x. x, λ x. x)).1

under_line : (l : Line) (hi : ℤ) (q : Pt) → IsBelow l hi (scaled q) → AtLeast (neg_ℤ (cross l.dir (displacement l.base q))) (neg_ℤ hi) (length_squared l.dir)
under_line l hi q =
    let k = cross l.dir (displacement l.base q) in
    let n = length_squared l.dir in
    (point_below (AtLeast (neg_ℤ k) (neg_ℤ hi) n) l hi q k n refl refl (λ x. x, λ x. x)).1

over_circle : (c : Circ) (lo : ℤ) (q : Pt) → IsOver (surfaces.Circ c) lo (scaled q) → IsLengthAtMost lo (length_squared (displacement c.c q))
over_circle c lo q =
    let way = displacement c.c q in
    (tells_over (IsLengthAtMost lo (length_squared way)) c.c q lo way (length_squared way) refl refl (λ x. x, λ x. x)).1

under_circle : (c : Circ) (hi : ℤ) (q : Pt) → IsUnder (surfaces.Circ c) hi (scaled q) → IsRootAtMost (length_squared (displacement c.c q)) hi
under_circle c hi q =
    let way = displacement c.c q in
    (tells_under (IsRootAtMost (length_squared way) hi) c.c q hi way (length_squared way) refl refl (λ x. x, λ x. x)).1

-- a cutter whose radius is greater than the inner tolerance has its centre on the side of its place
pub in_band_aside : (s : Surface) (v : Sign) (r i o : ℤ) (q : Pt) → IsSurface s → (v ≡ signs.Zero → ⊥) → i <ℤ r → InBand s (band_at s v r i o) (scaled q) → side_at s q ≡ v
in_band_aside s signs.Zero r i o q is some less near = absurd (some refl)
in_band_aside (surfaces.Line l) signs.Plus r i o q is some less near =
    above (cross l.dir (displacement l.base q)) (r -ℤ i) (length_squared l.dir) (omega (arith, ints)) is.dir.length (over_line l (r -ℤ i) q near.lo)
in_band_aside (surfaces.Line l) signs.Minus r i o q is some less near =
    below (cross l.dir (displacement l.base q)) (neg_ℤ r +ℤ i) (length_squared l.dir) (omega (arith, ints)) is.dir.length (under_line l (neg_ℤ r +ℤ i) q near.hi)
in_band_aside (surfaces.Circ c) signs.Plus r i o q is some less near =
    inside c.r ((c.r -ℤ r) +ℤ i) (length_squared (displacement c.c q)) (omega (arith, ints)) (under_circle c ((c.r -ℤ r) +ℤ i) q near.hi)
in_band_aside (surfaces.Circ c) signs.Minus r i o q is some less near =
    outside c.r ((c.r +ℤ r) -ℤ i) (length_squared (displacement c.c q)) (omega (arith, ints, is.least)) (omega (arith, ints)) (over_circle c ((c.r +ℤ r) -ℤ i) q near.lo)

-- ---- where a motion stops

pub apart_from_zero : (v : Sign) → is_zero v ≡ false → v ≡ signs.Zero → ⊥
apart_from_zero v some none = true≢false (sym (ap is_zero none) ∙ some)

pub stops_aside : (x : Sign) (check : Surface) (how : Stop) (start : Pt) (drive : Surface) (v : Sign) → IsSurface check → x ≡ side_at_check check how start drive v
    → is_on_check how x ≡ false → (r i o : ℤ) (q : Pt) → i <ℤ r → InBand check (band_at check x r i o) (scaled q) → StopsAside check how start q
stops_aside x check stops.To start drive v is e off r i o q less near = in_band_aside check x r i o q is (apart_from_zero x off) less near ∙ e
stops_aside x check stops.Past start drive v is e off r i o q less near = in_band_aside check x r i o q is (apart_from_zero x off) less near ∙ e
stops_aside x check stops.On start drive v is e off r i o q less near = tt
stops_aside x check stops.Tanto start drive v is e off r i o q less near = tt
