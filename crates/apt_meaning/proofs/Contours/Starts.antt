-- How the start of a course round a circle lies to its stop, by the tests: on its side away from the stop, or near the stop and heading into its side.
use Rattle.std.proofs.Common.{refl, ◌≡◌, ◌≢◌, inl, inr, subst, ℕ, suc, zero, ◌+◌, ◌-◌, ◌≤◌, ℤ, pos, negsuc, neg_ℤ, ◌+ℤ◌, ◌-ℤ◌, ◌*ℤ◌, ◌≤ℤ◌, ◌<ℤ◌, Bool, true, false, ◌&&◌, arith}
use Rattle.std.specs.Prelude.{if◌then◌else◌}
use Rattle.std.proofs.lemmas.Int.{ints}
use Rattle.std.proofs.lemmas.Nat.{mul-le}
use Rattle.apt_num.specs.declared.Sign.{Sign}
use Rattle.apt_num.specs.declared.Sign.TheVariants as signs
use Rattle.apt_num.specs.Sign.{square, sign_of, root_sign_of}
use Rattle.apt_plane.specs.declared.figures.Pt.{Pt}
use Rattle.apt_plane.specs.declared.figures.Line.{Line}
use Rattle.apt_plane.specs.Ranges.{IsSense}
use Rattle.apt_plane.specs.Vectors.{displacement, cross, dot, length_squared, scaled}
use Rattle.apt_plane.specs.Distances.{IsOver, IsUnder, about}
use Rattle.apt_plane.proofs.SegmentLaws.{above_at, below_at}
use Rattle.apt_plane.proofs.Turned.{size_sense}
use Rattle.apt_plane.proofs.RingLaws.{over_to, under_to}
use Rattle.apt_offset.specs.declared.Target.TheVariants as targets
use Rattle.apt_stop.specs.Nearness.{is_near, near_stop}
use Rattle.apt_stop.specs.Choices.{is_by_axis}
use Rattle.apt_stop.proofs.NearLaws.{near-OnLine}
use Rattle.apt_stop.proofs.Far.{far_on_side}
use Rattle.apt_stop.proofs.Rings.{ring_true, ring_false}
use Rattle.apt_stop.proofs.Turned.{off_axis}
use Rattle.apt_arc.specs.declared.arc.Arc.{Arc}
use Rattle.apt_arc.specs.Stops.{to_start, IsAhead, IsAback, StartsLeft, StartsRight, StartsInside, StartsOutside}

-- ---- off an axis by more than 8 units

plus_is : (z : ℤ) → sign_of z ≡ signs.Plus → pos 0 <ℤ z
plus_is (pos zero) e = absurd cc
plus_is (pos (suc n)) e = omega (arith, ints)
plus_is (negsuc n) e = absurd cc

minus_is : (z : ℤ) → sign_of z ≡ signs.Minus → z <ℤ pos 0
minus_is (pos zero) e = absurd cc
minus_is (pos (suc n)) e = absurd cc
minus_is (negsuc n) e = omega (arith, ints)

ahead : (sense k : ℤ) (n : ℕ) → IsSense sense → is_by_axis k n ≡ false → sign_of (sense *ℤ k) ≡ signs.Plus → IsAhead (sense *ℤ k) n
ahead sense k n is past e = (plus_is (sense *ℤ k) e, rw (size_sense sense k is) (off_axis k n past))

aback : (sense k : ℤ) (n : ℕ) → IsSense sense → is_by_axis k n ≡ false → sign_of (sense *ℤ k) ≡ signs.Minus → IsAback (sense *ℤ k) n
aback sense k n is past e = (minus_is (sense *ℤ k) e, rw (size_sense sense k is) (off_axis k n past))

-- ---- a line

-- on its left for Plus, on its right for Minus
abbrev pub StartsBeside : Sign → Arc → Line → ℤ → Type 0
StartsBeside signs.Plus a l h = StartsLeft a l h
StartsBeside signs.Minus a l h = StartsRight a l h
StartsBeside signs.Zero a l h = ⊥

pub starts_beside : (side : Sign) (a : Arc) (l : Line) (h : ℤ) (near : Bool) → side ≢ signs.Zero → IsSense a.sense → is_near (targets.Line l.base l.dir h) near_stop a.start ≡ near
    → (near && is_by_axis (dot (to_start a) l.dir) (length_squared l.dir)) ≡ false
    → (if near then sign_of (a.sense *ℤ dot (to_start a) l.dir) else root_sign_of (cross l.dir (displacement l.base a.start)) h (length_squared l.dir)) ≡ side → StartsBeside side a l h
starts_beside signs.Zero a l h near some is e past side = absurd (some refl)
starts_beside signs.Plus a l h true some is e past side =
    inr (above_at l (h -ℤ pos 8) a.start (near-OnLine l h near_stop a.start e).right, ahead a.sense (dot (to_start a) l.dir) (length_squared l.dir) is past side)
starts_beside signs.Plus a l h false some is e past side =
    inl (above_at l (h +ℤ pos 8) a.start (far_on_side signs.Plus (cross l.dir (displacement l.base a.start)) h (length_squared l.dir) side e))
starts_beside signs.Minus a l h true some is e past side = inr (
  below_at l (h +ℤ pos 8) (neg_ℤ h -ℤ pos 8) a.start (omega (arith, ints)) (near-OnLine l h near_stop a.start e).left,
  aback a.sense (dot (to_start a) l.dir) (length_squared l.dir) is past side,
)
starts_beside signs.Minus a l h false some is e past side =
    inl (below_at l (h -ℤ pos 8) (neg_ℤ h +ℤ pos 8) a.start (omega (arith, ints)) (far_on_side signs.Minus (cross l.dir (displacement l.base a.start)) h (length_squared l.dir) side e))

-- ---- a circle

-- inside of it for Plus, outside for Minus
abbrev pub StartsBy : Sign → Arc → Pt → ℤ → Type 0
StartsBy signs.Plus a q s = StartsInside a q s
StartsBy signs.Minus a q s = StartsOutside a q s
StartsBy signs.Zero a q s = ⊥

less_eight : (n : ℕ) → 100 ≤ n → pos (n - 8) ≡ pos n -ℤ pos 8
less_eight n least = omega (arith, ints, least)

pub starts_by : (side : Sign) (a : Arc) (q : Pt) (s : ℤ) (near : Bool) → side ≢ signs.Zero → pos 100 ≤ℤ s → IsSense a.sense → is_near (targets.Circ q s) near_stop a.start ≡ near
    → (near && is_by_axis (cross (to_start a) (displacement a.track.c q)) (length_squared (displacement a.track.c q))) ≡ false
    → (if near then sign_of (a.sense *ℤ cross (to_start a) (displacement a.track.c q)) else sign_of (pos (square s) -ℤ pos (length_squared (displacement q a.start)))) ≡ side → StartsBy side a q s
starts_by side a q (negsuc n) near some least is e past heads = absurd (omega (arith, ints, least))
starts_by signs.Zero a q (pos n) near some least is e past heads = absurd (some refl)
starts_by signs.Plus a q (pos n) true some least is e past heads =
    let g = displacement a.track.c q in
    let ring = ring_true n 8 (length_squared (displacement q a.start)) (omega (arith, ints, least)) e in
    inr (under_to q a.start (n + 8) ring.1, ahead a.sense (cross (to_start a) g) (length_squared g) is past heads)
starts_by signs.Minus a q (pos n) true some least is e past heads =
    let g = displacement a.track.c q in
    let large : 100 ≤ n = omega (arith, ints, least) in
    let ring = ring_true n 8 (length_squared (displacement q a.start)) (omega (arith, large)) e in
    inr (subst (λ (z : ℤ). IsOver (about q) z (scaled a.start)) (less_eight n large) (over_to q a.start (n - 8) ring.0), aback a.sense (cross (to_start a) g) (length_squared g) is past heads)
starts_by signs.Plus a q (pos n) false some least is e past heads =
    let large : 100 ≤ n = omega (arith, ints, least) in
    let m = length_squared (displacement q a.start) in
    elim (ring_false n 8 m (omega (arith, large)) e) [
      | inl inside ↦ inl (subst (λ (z : ℤ). IsUnder (about q) z (scaled a.start)) (less_eight n large) (under_to q a.start (n - 8) (omega (arith, inside))))
      | inr outside ↦ absurd (omega (arith, ints, outside, plus_is (pos (square (pos n)) -ℤ pos m) heads))
    ]
starts_by signs.Minus a q (pos n) false some least is e past heads =
    let large : 100 ≤ n = omega (arith, ints, least) in
    let m = length_squared (displacement q a.start) in
    elim (ring_false n 8 m (omega (arith, large)) e) [
      | inl inside ↦ absurd (omega (arith, ints, inside, mul-le (n - 8) (n - 8) n n (omega arith) (omega arith), minus_is (pos (square (pos n)) -ℤ pos m) heads))
      | inr outside ↦ inl (over_to q a.start (n + 8) (omega (arith, outside)))
    ]
