-- What the deviations of a path tell of it: the greatest to each side, and whether it is in a band.
use Rattle.std.proofs.Common.{◌≡◌, ◌↔◌, subst, ◌≤◌, ◌^◌, List, [], ◌∷◌, arith, IsTrue, int_le, ℤ, pos, negsuc, ◌+ℤ◌, ◌-ℤ◌, ◌≤ℤ◌, unsigned_abs}
use Rattle.std.proofs.lemmas.Int.{ints}
use Rattle.apt_plane.specs.declared.figures.Pt.{Pt}
use Rattle.apt_plane.specs.declared.figures.Surface.{Surface}
use Rattle.apt_plane.specs.declared.figures.Surface.TheVariants as surfaces
use Rattle.apt_plane.specs.Vectors.{Scaled}
use Rattle.apt_plane.specs.Distances.{IsOver, IsUnder, InBand}
use Rattle.apt_offset.specs.declared.Target.{Target}
use Rattle.apt_offset.specs.declared.Target.TheVariants as targets
use Rattle.apt_certify.specs.declared.deviations.Deviations.{Deviations}
use Rattle.apt_certify.specs.declared.leg.Leg.{Leg}
use Rattle.apt_certify.specs.declared.leg.Job.{Job}
use Rattle.apt_certify.specs.Legal.{EveryPointFrom}
use Rattle.apt_certify.specs.Jobs.{IsTrackOf, IsLeg}
use Rattle.apt_certify.specs.Deviations.{track_surface, track_distance, IsAtMostPast, EveryPointAlong, IsWorst}
use Rattle.apt_certify.specs.Tracks.{AreReaches, AreDeviations, deviation_of}
use Rattle.apt_certify.proofs.Merging.{worst_of_one}

-- ---- a side

side_least : (sign : ℤ) (d : Deviations) → AreReaches d → pos 0 ≤ℤ deviation_of sign d
side_least (pos n) d is = is.over.least
side_least (negsuc n) d is = is.under.least

side_bounds : (track : Target) (points : List Pt) (sign : ℤ) (d : Deviations) → AreDeviations track points d → (u : ℤ) → pos 0 ≤ℤ u → EveryPointAlong points (IsAtMostPast track sign u) ↔ (deviation_of sign d ≤ℤ u)
side_bounds track points (pos n) d is u h = is.over u h
side_bounds track points (negsuc n) d is u h = is.under u h

pub side_worst : (side : Job → ℤ) (job : Job) (d : Deviations) (sign w v : ℤ) → AreDeviations job.leg.track job.points d → sign ≡ side job → w ≡ deviation_of sign d → v ≡ w → IsWorst side (job ∷ []) v
side_worst side job d sign w v is e f g =
    worst_of_one side job sign w v (rw f (side_least sign d is.reaches)) (λ u h. rw f (side_bounds job.leg.track job.points sign d is u h)) e g

-- ---- a band

from_both : (P Q R : Scaled → Type 0) (a : Pt) (points : List Pt) → ((s : Scaled) → P s → Q s → R s) → EveryPointFrom a points P → EveryPointFrom a points Q → EveryPointFrom a points R
from_both P Q R a [] tells p q = tt
from_both P Q R a (b ∷ more) tells p q = (λ j k m. tells _ (p.0 j k m) (q.0 j k m), from_both P Q R b more tells p.1 q.1)

along_both : (P Q R : Scaled → Type 0) (points : List Pt) → ((s : Scaled) → P s → Q s → R s) → EveryPointAlong points P → EveryPointAlong points Q → EveryPointAlong points R
along_both P Q R [] tells p q = tt
along_both P Q R (a ∷ points) tells p q = from_both P Q R a points tells p q

-- a track runs along its drive surface
drive_over : (s : Surface) (t : Target) (lo : ℤ) (x : Scaled) → IsTrackOf s t → IsOver (track_surface t) lo x → IsOver s lo x
drive_over (surfaces.Line l) (targets.Line base dir off) lo x is over = rw (is.0, is.1) at over
drive_over (surfaces.Line l) (targets.Circ c r) lo x is over = absurd is
drive_over (surfaces.Circ c) (targets.Line base dir off) lo x is over = absurd is
drive_over (surfaces.Circ c) (targets.Circ centre r) lo x is over = rw is.0 at over

drive_under : (s : Surface) (t : Target) (hi : ℤ) (x : Scaled) → IsTrackOf s t → IsUnder (track_surface t) hi x → IsUnder s hi x
drive_under (surfaces.Line l) (targets.Line base dir off) hi x is under = rw (is.0, is.1) at under
drive_under (surfaces.Line l) (targets.Circ c r) hi x is under = absurd is
drive_under (surfaces.Circ c) (targets.Line base dir off) hi x is under = absurd is
drive_under (surfaces.Circ c) (targets.Circ centre r) hi x is under = rw is.0 at under

pub distance_small : (s : Surface) (t : Target) → IsTrackOf s t → unsigned_abs (track_distance t) ≤ 10 ^ 8
distance_small (surfaces.Line l) (targets.Line base dir off) is = is.2
distance_small (surfaces.Line l) (targets.Circ c r) is = absurd is
distance_small (surfaces.Circ c) (targets.Line base dir off) is = absurd is
distance_small (surfaces.Circ c) (targets.Circ centre r) is = is.1

pub both_within : (lo a b hi x y : ℤ) → lo ≤ℤ a → x ≡ b → y ≡ hi → IsTrue (int_le x y) ↔ ((lo ≤ℤ a) × (b ≤ℤ hi))
both_within lo a b hi x y le e f = rw (e, f) (λ yes. (le, grind (arith, ints)), λ both. grind (arith, ints))

-- what lies no further past its track than the edges of a band do is in the band
pub band_known : (leg : Leg) (points : List Pt) (z : ℤ) (d : Deviations) → IsLeg leg → AreDeviations leg.track points d → z ≡ track_distance leg.track → leg.band.lo ≤ℤ (z -ℤ d.under) → (z +ℤ d.over) ≤ℤ leg.band.hi
    → EveryPointAlong points (InBand leg.drive leg.band)
band_known leg points z d fits is e low high =
    let track = track_surface leg.track in
    let at = track_distance leg.track in
    let below : at -ℤ (z -ℤ leg.band.lo) ≡ leg.band.lo = omega (arith, ints, e) in
    let above : at +ℤ (leg.band.hi -ℤ z) ≡ leg.band.hi = omega (arith, ints, e) in
    let over = subst (λ lo. EveryPointAlong points (IsOver track lo)) below ((is.under (z -ℤ leg.band.lo) (omega (arith, ints, low, is.reaches.under.least))).1 (omega (arith, ints, low))) in
    let under = subst (λ hi. EveryPointAlong points (IsUnder track hi)) above ((is.over (leg.band.hi -ℤ z) (omega (arith, ints, high, is.reaches.over.least))).1 (omega (arith, ints, high))) in
    along_both (IsOver track leg.band.lo) (IsUnder track leg.band.hi) (InBand leg.drive leg.band) points
    (λ s a b. record { lo = drive_over leg.drive leg.track leg.band.lo s fits.track a; hi = drive_under leg.drive leg.track leg.band.hi s fits.track b }) over under
