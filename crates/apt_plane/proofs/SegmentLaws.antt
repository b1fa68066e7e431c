-- The ends of a segment tell of all its points.
use Rattle.std.proofs.Common.{refl, sym, ◌≡◌, ◌↔◌, ◌∙◌, subst, inl, inr, Bool, IsTrue, true, false, true≢false, ℕ, ◌+◌, arith, ℤ, pos, ◌+ℤ◌, ◌*ℤ◌, neg_ℤ}
use Rattle.std.proofs.lemmas.Int.{ints}
use Rattle.apt_num.specs.Sign.{AtLeast}
use Rattle.apt_num.proofs.Ring.{*ℤ-neg, as_diff, diff-pos, diff-same, differences}
use Rattle.apt_num.proofs.AtLeast.{between_root}
use Rattle.apt_plane.specs.declared.figures.Pt.{Pt}
use Rattle.apt_plane.specs.declared.figures.Line.{Line}
use Rattle.apt_plane.specs.declared.figures.Surface.{Surface}
use Rattle.apt_plane.specs.declared.figures.Surface.TheVariants as surfaces
use Rattle.apt_plane.specs.declared.figures.Spot.{Spot}
use Rattle.apt_plane.specs.declared.figures.Band.{Band}
use Rattle.apt_plane.specs.Vectors.{Scaled, scaled, between, displacement, cross, height, length_squared}
use Rattle.apt_plane.specs.Distances.{IsAbove, IsBelow, InBand, EveryPoint}
use Rattle.apt_plane.specs.Segments.{start_spot, end_spot, IsFirstEnd, IsFirstOff}
use Rattle.apt_plane.proofs.Heights.{one-times, height_of_point, height_between}

start_part : (p q : ℤ) → (pos 1 *ℤ p) +ℤ (pos 0 *ℤ q) ≡ p
start_part p q = omega (arith, ints)

end_part : (p q : ℤ) → (pos 0 *ℤ p) +ℤ (pos 1 *ℤ q) ≡ q
end_part p q = omega (arith, ints)

-- the points of the two ends
between-start : (p q : Pt) → between p q 0 1 ≡ scaled p
between-start p q = rw (start_part p.x q.x, start_part p.y q.y) refl

between-end : (p q : Pt) → between p q 1 0 ≡ scaled q
between-end p q = rw (end_part p.x q.x, end_part p.y q.y) refl

-- so they have what every point of it has
pub at_start : (P : Scaled → Type 0) (p q : Pt) → EveryPoint p q P → P (scaled p)
at_start P p q every = subst P (between-start p q) (every 0 1 (omega arith))

pub at_end : (P : Scaled → Type 0) (p q : Pt) → EveryPoint p q P → P (scaled q)
at_end P p q every = subst P (between-end p q) (every 1 0 (omega arith))

-- and no fact of every point is off somewhere
pub end_off : (P : Scaled → Type 0) (p q : Pt) (s : Spot) → IsFirstEnd P p q s → ¬ EveryPoint p q P
end_off P p q s (inl start) = λ every. start.1 (at_start P p q every)
end_off P p q s (inr end) = λ every. end.2 (at_end P p q every)

pub off_somewhere : (surface : Surface) (P : Scaled → Type 0) (p q : Pt) (s : Spot) → IsFirstOff surface P p q s → ¬ EveryPoint p q P
off_somewhere (surfaces.Line l) P p q s end = end_off P p q s end
off_somewhere (surfaces.Circ c) P p q s (inl end) = end_off P p q s end
off_somewhere (surfaces.Circ c) P p q s (inr is) = λ every. is.fails (every is.j is.k (omega (arith, is.foot.behind_start)))

-- what a test tells of a fact
pub holds_by : (b : Bool) (P : Type 0) → b ≡ true → IsTrue b ↔ P → P
holds_by b P e tells = tells.0 e

pub fails_by : (b : Bool) (P : Type 0) → b ≡ false → IsTrue b ↔ P → ¬ P
fails_by b P e tells = λ is. absurd (true≢false (sym (tells.1 is) ∙ e))

-- so an end that it is not true of answers the question about every point
pub start_tells : (surface : Surface) (P : Scaled → Type 0) (p q : Pt) → ¬ P (scaled p) → IsFirstOff surface P p q start_spot
start_tells (surfaces.Line l) P p q fails = inl (refl, fails)
start_tells (surfaces.Circ c) P p q fails = inl (inl (refl, fails))

pub end_tells : (surface : Surface) (P : Scaled → Type 0) (p q : Pt) → P (scaled p) → ¬ P (scaled q) → IsFirstOff surface P p q end_spot
end_tells (surfaces.Line l) P p q start fails = inr (refl, start, fails)
end_tells (surfaces.Circ c) P p q start fails = inl (inr (refl, start, fails))

pub end_is_first : (surface : Surface) (P : Scaled → Type 0) (p q : Pt) (s : Spot) → IsFirstEnd P p q s → IsFirstOff surface P p q s
end_is_first (surfaces.Line l) P p q s end = end
end_is_first (surfaces.Circ c) P p q s end = inl end

pub end_not_all : (P : Scaled → Type 0) (p q : Pt) (s : Spot) → IsFirstEnd P p q s → IsTrue false ↔ EveryPoint p q P
end_not_all P p q s off = (λ e. absurd (true≢false (sym e)), λ every. absurd (end_off P p q s off every))

pub not_all : (surface : Surface) (P : Scaled → Type 0) (p q : Pt) (s : Spot) → IsFirstOff surface P p q s → IsTrue false ↔ EveryPoint p q P
not_all surface P p q s off = (λ e. absurd (true≢false (sym e)), λ every. absurd (off_somewhere surface P p q s off every))

neg_parts : (a b : ℤ) (j k : ℕ) → neg_ℤ ((pos k *ℤ a) +ℤ (pos j *ℤ b)) ≡ (pos k *ℤ neg_ℤ a) +ℤ (pos j *ℤ neg_ℤ b)
neg_parts a b j k = rw (as_diff a, as_diff b, diff-pos k, diff-pos j) (simp differences (diff-same _ _ _ _ (omega arith)))

-- at least a length at both ends: so between
pub above-between : (l : Line) (lo : ℤ) (p q : Pt) (j k : ℕ) → IsAbove l lo (scaled p) → IsAbove l lo (scaled q) → IsAbove l lo (between p q j k)
above-between l lo p q j k a b =
    rw (height_between l p q j k)
    (between_root (height l (scaled p)) (height l (scaled q)) lo (length_squared l.dir) j k (rw (one-times lo) at a) (rw (one-times lo) at b))

pub below-between : (l : Line) (hi : ℤ) (p q : Pt) (j k : ℕ) → IsBelow l hi (scaled p) → IsBelow l hi (scaled q) → IsBelow l hi (between p q j k)
below-between l hi p q j k a b =
    rw (height_between l p q j k, neg_parts (height l (scaled p)) (height l (scaled q)) j k, ← *ℤ-neg (pos (j + k)) hi)
    (between_root (neg_ℤ (height l (scaled p))) (neg_ℤ (height l (scaled q))) (neg_ℤ hi) (length_squared l.dir) j k (rw (one-times hi) at a) (rw (one-times hi) at b))

-- both ends in the band: so is every point between
pub in_band-between : (l : Line) (band : Band) (p q : Pt) → InBand (surfaces.Line l) band (scaled p) → InBand (surfaces.Line l) band (scaled q) → EveryPoint p q (InBand (surfaces.Line l) band)
in_band-between l band p q a b = λ j k h. record {
  lo = above-between l band.lo p q j k a.lo b.lo;
  hi = below-between l band.hi p q j k a.hi b.hi;
}

-- so the two ends tell of all points
pub ends_decide : (l : Line) (band : Band) (p q : Pt) → EveryPoint p q (InBand (surfaces.Line l) band) ↔ (InBand (surfaces.Line l) band (scaled p) × InBand (surfaces.Line l) band (scaled q))
ends_decide l band p q = (
  λ all. (at_start (InBand (surfaces.Line l) band) p q all, at_end (InBand (surfaces.Line l) band) p q all),
  λ ends. in_band-between l band p q ends.0 ends.1,
)

-- of one point, by its height
pub above_at : (l : Line) (lo : ℤ) (p : Pt) → AtLeast (cross l.dir (displacement l.base p)) lo (length_squared l.dir) → IsAbove l lo (scaled p)
above_at l lo p at = rw (height_of_point l p, one-times lo) at

pub below_at : (l : Line) (hi turned : ℤ) (p : Pt) → turned ≡ neg_ℤ hi → AtLeast (neg_ℤ (cross l.dir (displacement l.base p))) turned (length_squared l.dir) → IsBelow l hi (scaled p)
below_at l hi turned p e at = rw (height_of_point l p, one-times hi, ← e) at

-- as its height and the length of the direction tell
pub point_above : (P : Type 0) (l : Line) (lo : ℤ) (p : Pt) (k : ℤ) (n : ℕ) → k ≡ cross l.dir (displacement l.base p) → n ≡ length_squared l.dir → P ↔ AtLeast k lo n → P ↔ IsAbove l lo (scaled p)
point_above P l lo p k n e f is = rw (height_of_point l p, one-times lo) (rw (e, f) at is)

pub point_below : (P : Type 0) (l : Line) (hi : ℤ) (p : Pt) (k : ℤ) (n : ℕ) → k ≡ cross l.dir (displacement l.base p) → n ≡ length_squared l.dir → P ↔ AtLeast (neg_ℤ k) (neg_ℤ hi) n → P ↔ IsBelow l hi (scaled p)
point_below P l hi p k n e f is = rw (height_of_point l p, one-times hi) (rw (e, f) at is)

pub point_in_band : (l : Line) (band : Band) (p : Pt) (k : ℤ) (n : ℕ) → k ≡ height l (scaled p) → n ≡ length_squared l.dir
    → (AtLeast k band.lo n × AtLeast (neg_ℤ k) (neg_ℤ band.hi) n) ↔ InBand (surfaces.Line l) band (scaled p)
point_in_band l band p k n e f =
    rw (e, f) (
      λ both. record { lo = rw (one-times band.lo) both.0; hi = rw (one-times band.hi) both.1 },
      λ is. (rw (one-times band.lo) at is.lo, rw (one-times band.hi) at is.hi),
    )
