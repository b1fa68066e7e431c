-- Where nothing refuses, an arc meets its stop before the axis, or on its ray. The axis leads from the centre towards the stop.
use Rattle.std.proofs.Common.{◌≡◌, ◌⊎◌, ℕ, ◌+◌, ◌*◌, ◌≤◌, ◌<◌, subst, arith, ℤ, pos, ◌+ℤ◌, ◌-ℤ◌, ◌<ℤ◌, ◌≤ℤ◌, unsigned_abs, inl, inr, neg_ℤ, ◌*ℤ◌}
use Rattle.std.proofs.lemmas.Int.{ints}
use Rattle.apt_num.proofs.Ring.{neg-*ℤ}
use Rattle.apt_plane.specs.declared.figures.Pt.{Pt}
use Rattle.apt_plane.specs.declared.figures.Dir.{Dir}
use Rattle.apt_plane.specs.declared.figures.Circ.{Circ}
use Rattle.apt_plane.specs.Vectors.{displacement, length_squared}
use Rattle.apt_plane.specs.Distances.{IsLengthAtMost, IsRootAtMost}
use Rattle.apt_plane.proofs.Turned.{turned_by}
use Rattle.apt_plane.proofs.Around.{Cyc}
use Rattle.apt_canon.specs.Scale.{IsNearCircle}
use Rattle.apt_canon.specs.Circles.{HasSense}
use Rattle.apt_arc.specs.declared.arc.Arc.{Arc}
use Rattle.apt_arc.specs.Ranges.{IsTrack, IsArc}
use Rattle.apt_arc.specs.Stops.{IsRoute, to_start, to_end}
use Rattle.apt_plane.proofs.Nearby.{IsOnCircle}
use Rattle.apt_arc.proofs.Tracks.{within, within_large, nearby, near_track, length_tells, root_tells, ring_tells}
use Rattle.apt_plane.proofs.Governed.{IsHardlyAcross, IsHardlyNearerTo, IsOnRay, away_reached}
use Rattle.apt_plane.proofs.Kept.{IsStopped}
use Rattle.apt_plane.proofs.NearRows.{IsNearRow, near_reached}

-- ---- an end at most a unit from its track
pub on_circle : (t : Circ) (x : Pt) → IsTrack t → IsNearCircle t (pos 1) x → IsOnCircle (within t) (displacement t.c x)
on_circle t x is near =
    let p = within t in
    let ring = (ring_tells t.r (pos 1) (p + 2) (p + 4) (length_squared (displacement t.c x)) (omega (arith, ints, is.least)) (omega (arith, ints, is.least))).0 (near.outside, near.inside) in
    record { low = ring.0; high = ring.1 }

within_three : (p n : ℕ) → (p + 2) * (p + 2) ≤ n → n ≤ (p + 4) * (p + 4) → (p * p ≤ n) × (n ≤ (p + 6) * (p + 6))
within_three p n low high = (omega (arith, low), omega (arith, high))

pub near_three : (t : Circ) (x : Pt) → IsTrack t → IsNearCircle t (pos 1) x → IsNearCircle t (pos 3) x
near_three t x is near =
    let on = on_circle t x is near in
    let both = within_three (within t) (length_squared (displacement t.c x)) on.low on.high in
    near_track t x is (record { low = both.0; high = both.1 })

pub near_end : (a : Arc) → IsRoute a → IsNearCircle a.track (pos 3) a.end
near_end a is = near_three a.track a.end is.track is.end

-- ---- an arc and the axis: its end lies on the far side, or hardly across it
pub record EndsPast (a : Arc) (b : Dir) : Type 0 where
  pub some : 0 < length_squared b
  pub side : (turned_by a.sense b (to_end a) ≤ℤ pos 0) ⊎ IsHardlyAcross a.sense b (to_end a)

abbrev pub Arrives : Arc → Dir → Type 0
Arrives a b = Cyc (to_start a) a.sense (to_end a) b ⊎ IsOnRay a.sense b (to_end a)

pub away_arrives : (a : Arc) (b : Dir) → IsRoute a → EndsPast a b → ¬ IsHardlyNearerTo b (to_start a) (to_end a) → Arrives a b
away_arrives a b is past nearer = away_reached a.sense (to_start a) (to_end a) b is.sense past.some nearer past.side

-- the start lies more than 8 before the axis
pub near_arrives : (a : Arc) (b : Dir) → IsRoute a → EndsPast a b → pos 0 <ℤ turned_by a.sense b (to_start a)
    → 64 * length_squared b < unsigned_abs (turned_by a.sense b (to_start a)) * unsigned_abs (turned_by a.sense b (to_start a)) → Arrives a b
near_arrives a b is past ahead far =
    let p = within a.track in
    let vs = to_start a in
    let ve = to_end a in
    let row : IsNearRow p a.sense vs ve b =
    record {
      turn = is.sense;
      least = within_large a.track is.track;
      axis = past.some;
      start = nearby a.track a.start is.track is.start;
      end = on_circle a.track a.end is.track is.end;
      ahead = ahead;
      far = far;
      hardly = past.side;
    } in
    near_reached p a.sense vs ve b row

-- ---- so it can be divided
pub is_arc : (a : Arc) → IsRoute a → IsArc a
is_arc a is = record { track = is.track; sense = is.sense; axis = is.axis; sag = is.sag; start = is.start; end = near_end a is; apart = is.apart }

pub stopped : (a : Arc) (b : Dir) → IsRoute a → 0 < length_squared b → Cyc (to_start a) a.sense (to_end a) b ⊎ IsOnRay a.sense b (to_end a)
    → IsStopped (within a.track) a.sense (to_start a) (to_end a) b
stopped a b is some met = record {
  turn = is.sense;
  least = within_large a.track is.track;
  axis = some;
  start = nearby a.track a.start is.track is.start;
  end = on_circle a.track a.end is.track is.end;
  met = met;
}

-- ---- a number and its sense
pub far_by : (z k : ℤ) (n m : ℕ) → n ≡ m → unsigned_abs z ≡ unsigned_abs k → 64 * m < unsigned_abs k * unsigned_abs k → 64 * n < unsigned_abs z * unsigned_abs z
far_by z k n m e f h = rw (e, f) h

pub past_side : (sense k : ℤ) (n : ℕ) → HasSense (neg_ℤ sense) k n → unsigned_abs (sense *ℤ k) ≡ unsigned_abs k → ((sense *ℤ k) ≤ℤ pos 0) ⊎ (2 * (unsigned_abs (sense *ℤ k) * unsigned_abs (sense *ℤ k)) ≤ n)
past_side sense k n (inl ahead) same = inl (omega (arith, ints, rw (neg-*ℤ sense k) at ahead))
past_side sense k n (inr short) same = inr (rw same short)

-- ---- a contact is at most a unit from its circle
pub contact_over : (c : Circ) (h : ℕ) (x : Pt) → c.r -ℤ pos 1 ≡ pos h → IsNearCircle c (pos 1) x → h * h ≤ length_squared (displacement c.c x)
contact_over c h x e near =
    let n = length_squared (displacement c.c x) in
    (length_tells h n).0 (subst (λ (z : ℤ). IsLengthAtMost z n) e near.outside)

pub contact_under : (c : Circ) (h : ℕ) (x : Pt) → c.r +ℤ pos 1 ≡ pos h → IsNearCircle c (pos 1) x → length_squared (displacement c.c x) ≤ h * h
contact_under c h x e near =
    let n = length_squared (displacement c.c x) in
    (root_tells h n).0 (subst (λ (z : ℤ). IsRootAtMost n z) e near.inside)
