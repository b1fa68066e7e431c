-- The side of a surface on which a point is that is near its target.
use Rattle.std.proofs.Common.{refl, ◌≡◌, arith, false, subst, ℤ, neg_ℤ, ◌+ℤ◌, ◌-ℤ◌, ◌<ℤ◌}
use Rattle.std.proofs.lemmas.Int.{ints}
use Rattle.apt_num.specs.declared.Sign.{Sign}
use Rattle.apt_num.specs.declared.Sign.TheVariants as signs
use Rattle.apt_num.specs.Sign.{AtLeast}
use Rattle.apt_words.specs.declared.Stop.{Stop}
use Rattle.apt_words.specs.declared.Stop.TheVariants as stops
use Rattle.apt_plane.specs.declared.figures.Pt.{Pt}
use Rattle.apt_plane.specs.declared.figures.Surface.{Surface}
use Rattle.apt_plane.specs.declared.figures.Surface.TheVariants as surfaces
use Rattle.apt_plane.specs.Ranges.{IsSurface}
use Rattle.apt_plane.specs.Vectors.{displacement, cross, length_squared}
use Rattle.apt_offset.specs.Turns.{opposite}
use Rattle.apt_offset.specs.Sides.{side_at, side_at_check, is_on_check, StopsAside}
use Rattle.apt_offset.specs.Targets.{offset_surface}
use Rattle.apt_offset.proofs.Aside.{above, below, inside, outside, apart_from_zero}
use Rattle.apt_contact.specs.Contacts.{IsNearTarget}

-- a point that is less than the cutter's radius off a target is on the side of its place
near_aside : (s : Surface) (v : Sign) (r g : ℤ) (q : Pt) → IsSurface s → (v ≡ signs.Zero → ⊥) → g <ℤ r → IsNearTarget (offset_surface s v r) g q → side_at s q ≡ v
near_aside s signs.Zero r g q is some less near = absurd (some refl)
near_aside (surfaces.Line l) signs.Plus r g q is some less near =
    above (cross l.dir (displacement l.base q)) (r -ℤ g) (length_squared l.dir) (omega (arith, ints)) is.dir.length near.right
near_aside (surfaces.Line l) signs.Minus r g q is some less near =
    let k = cross l.dir (displacement l.base q) in
    let n = length_squared l.dir in
    let turned : (neg_ℤ (neg_ℤ r) -ℤ g) ≡ neg_ℤ (neg_ℤ r +ℤ g) = omega (arith, ints) in
    below k (neg_ℤ r +ℤ g) n (omega (arith, ints)) is.dir.length (subst (λ (z : ℤ). AtLeast (neg_ℤ k) z n) turned near.left)
near_aside (surfaces.Circ c) signs.Plus r g q is some less near =
    inside c.r ((c.r -ℤ r) +ℤ g) (length_squared (displacement c.c q)) (omega (arith, ints)) near.inside
near_aside (surfaces.Circ c) signs.Minus r g q is some less near =
    outside c.r ((c.r -ℤ neg_ℤ r) -ℤ g) (length_squared (displacement c.c q)) (omega (arith, ints, is.least)) (omega (arith, ints)) near.outside

-- one that is near the target of a stop is where the motion stops
pub near_stops_aside : (check : Surface) (how : Stop) (start : Pt) (drive : Surface) (v : Sign) (r g : ℤ) (q : Pt) → IsSurface check
    → is_on_check how (side_at_check check how start drive v) ≡ false → g <ℤ r → IsNearTarget (offset_surface check (side_at_check check how start drive v) r) g q
    → StopsAside check how start q
near_stops_aside check stops.To start drive v r g q is off less near = near_aside check (side_at check start) r g q is (apart_from_zero (side_at check start) off) less near
near_stops_aside check stops.Past start drive v r g q is off less near =
    near_aside check (opposite (side_at check start)) r g q is (apart_from_zero (opposite (side_at check start)) off) less near
near_stops_aside check stops.On start drive v r g q is off less near = tt
near_stops_aside check stops.Tanto start drive v r g q is off less near = tt
