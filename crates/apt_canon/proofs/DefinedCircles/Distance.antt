-- A rounded radius is within one unit of the distance of a point, or of a line.
use Rattle.std.proofs.Common.{◌≡◌, ℕ, zero, suc, ◌+◌, ◌-◌, ◌*◌, ◌^◌, ◌≤◌, ◌<◌, arith, inl, inr, ℤ, pos, ◌+ℤ◌, ◌-ℤ◌, ◌*ℤ◌, neg_ℤ, unsigned_abs}
use Rattle.std.proofs.Math.IntN.{*ℤ_comm}
use Rattle.std.proofs.lemmas.Int.{ints}
use Rattle.std.proofs.lemmas.Bool.Decides.{leb_tells}
use Rattle.apt_num.specs.Root.{IsNearestRoot, root, root_near}
use Rattle.apt_num.proofs.RootLaws.{root-IsRoot, nearest_below, nearest_above, odd_before}
use Rattle.apt_num.proofs.Roots.{on_line}
use Rattle.apt_num.proofs.Nearest.{near_remainder, not_negative}
use Rattle.apt_plane.specs.declared.figures.Pt.{Pt}
use Rattle.apt_plane.specs.declared.figures.Line.{Line}
use Rattle.apt_plane.specs.Vectors.{displacement, cross, length_squared}
use Rattle.apt_plane.specs.Ranges.{IsPoint, IsLine}
use Rattle.apt_plane.specs.Distances.{IsLengthAtMost, IsRootAtMost}
use Rattle.apt_canon.specs.Scale.{unit, length_of, IsNearCircle}
use Rattle.apt_canon.specs.Rounds.{circle, length_near, distance_from_line}
use Rattle.apt_canon.specs.RoundLaws.{Touches}
use Rattle.apt_canon.proofs.Depths.{length_facts, length_positive}

pub root_near-nearest : (n : ℕ) → n < 2 ^ 128 → IsNearestRoot n (root_near n)
root_near-nearest n h =
    let at = root-IsRoot n h in
    elim (leb_tells (n - root n * root n) (root n)) [
      | inl close ↦ rw close.0 (nearest_below n (root n) at close.1)
      | inr far ↦ rw far.0 (nearest_above n (root n) at far.1)
    ]

-- the square of a length lies between those of one less than its nearest number and of one more
pub nearest_most : (n q : ℕ) → IsNearestRoot n q → n ≤ (q + 1) * (q + 1)
nearest_most n q at = omega (arith, at.above)

pub nearest_least : (n t : ℕ) → IsNearestRoot n (suc t) → t * t ≤ n
nearest_least n t at =
    let below : (2 * t + 1) * (2 * t + 1) < 4 * n = rw (odd_before t) at (at.below (omega arith)) in
    omega (arith, below)

pub size_at_most : (h : ℤ) (t n : ℕ) → h ≡ pos t → t * t ≤ n → IsLengthAtMost h n
size_at_most h t n e p = rw (e, not_negative t) p

pub root_at_size : (h : ℤ) (t n : ℕ) → h ≡ pos t → n ≤ t * t → IsRootAtMost n h
root_at_size h t n e p = rw (e, not_negative t) p

length_at_most : (q n : ℕ) → IsNearestRoot n q → IsLengthAtMost (pos q -ℤ pos 1) n
length_at_most zero n at = tt
length_at_most (suc t) n at = size_at_most (pos (suc t) -ℤ pos 1) t n (omega (arith, ints)) (nearest_least n t at)

root_at_most : (q n : ℕ) → IsNearestRoot n q → IsRootAtMost n (pos q +ℤ pos 1)
root_at_most q n at = root_at_size (pos q +ℤ pos 1) (q + 1) n (omega (arith, ints)) (nearest_most n q at)

-- a circle whose radius is the length of the way to a point
pub passes : (c p : Pt) → length_squared (displacement c p) < 2 ^ 128 → IsNearCircle (circle c (pos (length_near (displacement c p)))) (pos 1) p
passes c p h =
    let at = root_near-nearest (length_squared (displacement c p)) h in record {
      outside = length_at_most (length_near (displacement c p)) (length_squared (displacement c p)) at;
      inside = root_at_most (length_near (displacement c p)) (length_squared (displacement c p)) at;
    }

-- and one whose radius is the distance from a line
to_line : (k s q e : ℤ) → s *ℤ q ≡ (k *ℤ unit) +ℤ e → k *ℤ unit ≡ (q *ℤ s) +ℤ neg_ℤ e
to_line k s q e h = rw (*ℤ_comm q s, h) (omega (arith, ints))

half_small : (e : ℤ) (s : ℕ) → 2 * unsigned_abs e ≤ s → 4 * unsigned_abs (neg_ℤ e) ≤ 3 * s
half_small e s h = omega (arith, ints)

pub touches : (c : Pt) (l : Line) → IsPoint c → IsLine l → unsigned_abs (distance_from_line c l) ≤ 49000000 → Touches (circle c (distance_from_line c l)) l
touches c l at is small =
    let n = length_squared l.dir in
    let s = root (n * 2 ^ 70) in
    let k = pos (unsigned_abs (cross l.dir (displacement l.base c))) in
    let facts = length_facts l.dir is.dir in
    let near = near_remainder (k *ℤ unit) (length_of l.dir) (length_positive l.dir is.dir) in
    on_line k (distance_from_line c l) (neg_ℤ near.0) n s facts.root (to_line k (pos s) (distance_from_line c l) near.0 near.1) (half_small near.0 s near.2) (omega (arith, facts.large, small))
