-- No point of any chord of an arc that stays inside of a circle is more than 12 units outside. The axis leads from the circle's centre to that of the arc.
use Rattle.std.proofs.Common.{refl, ◌≡◌, ◌⊎◌, inl, inr, ℕ, ◌+◌, ◌-◌, ◌*◌, ◌≤◌, ◌<◌, ◌∙◌, ap, sym, subst, arith, List, ℤ, pos, neg_ℤ, ◌+ℤ◌, ◌-ℤ◌, ◌*ℤ◌, ◌≤ℤ◌, unsigned_abs}
use Rattle.std.proofs.lemmas.Int.{ints}
use Rattle.std.proofs.lemmas.Nat.{mul-le}
use Rattle.apt_num.proofs.Ring.{as_diff, diff-same, differences}
use Rattle.apt_num.proofs.Squares.{size_neg}
use Rattle.apt_plane.specs.declared.figures.Pt.{Pt}
use Rattle.apt_plane.specs.declared.figures.Dir.{Dir}
use Rattle.apt_plane.specs.declared.figures.Circ.{Circ}
use Rattle.apt_plane.specs.Vectors.{scaled, displacement, cross, length_squared}
use Rattle.apt_plane.specs.Distances.{IsUnder, about}
use Rattle.apt_plane.proofs.Lengths.{plus}
use Rattle.apt_plane.proofs.RingLaws.{under-between, under_to, under_from}
use Rattle.apt_plane.proofs.Turned.{turned_by, turned_back, size_sense}
use Rattle.apt_plane.proofs.Around.{Cyc}
use Rattle.apt_canon.specs.Scale.{IsNearCircle}
use Rattle.apt_canon.specs.Circles.{HasSense, IsBeyond}
use Rattle.apt_arc.specs.declared.arc.Arc.{Arc}
use Rattle.apt_arc.specs.Divisions.{IsDivision}
use Rattle.apt_arc.specs.Stops.{EveryChord, IsRoute, to_start, to_end, IsAhead, StartsInside}
use Rattle.apt_arc.proofs.Tracks.{within, within_large, nearby}
use Rattle.apt_plane.proofs.Governed.{IsOnRay}
use Rattle.apt_plane.proofs.Kept.{inside_kept, left_over}
use Rattle.apt_plane.proofs.AwayRows.{inside_away}
use Rattle.apt_plane.proofs.Displacements.{back_length}
use Rattle.apt_arc.proofs.Vertices.{IsVertex}
use Rattle.apt_arc.proofs.Arrivals.{EndsPast, Arrives, on_circle, away_arrives, near_arrives, is_arc, stopped, far_by, contact_over, contact_under}
use Rattle.apt_arc.proofs.LineStops.{chords_of}

-- ---- distances from the circle's centre q

pub from_stop : (c q x : Pt) → length_squared (plus (displacement c x) (displacement q c)) ≡ length_squared (displacement q x)
from_stop c q x = rw (left_over x.x c.x q.x, left_over x.y c.y q.y) refl

-- ---- what is kept: S is the circle's radius
wider : (S n k : ℕ) → k ≤ 12 → n ≤ (S + k) * (S + k) → n ≤ (S + 12) * (S + 12)
wider S n k h le = omega (arith, le, mul-le (S + k) (S + k) (S + 12) (S + 12) (omega (arith, h)) (omega (arith, h)))

inside_vertex : (a : Arc) (q : Pt) (S : ℕ) → IsRoute a → 0 < length_squared (displacement q a.track.c)
    → Cyc (to_start a) a.sense (to_end a) (displacement q a.track.c) ⊎ IsOnRay a.sense (displacement q a.track.c) (to_end a) → 58 ≤ S
    → length_squared (displacement q a.start) ≤ (S + 8) * (S + 8) → length_squared (displacement q a.end) ≤ (S + 1) * (S + 1) → (x : Pt) → IsVertex a.track a.sense a.start a.end x
    → IsUnder (about q) (pos (S + 12)) (scaled x)
inside_vertex a q S is some met large start end x (inl same) =
    subst (λ (p : Pt). IsUnder (about q) (pos (S + 12)) (scaled p)) (sym same) (under_to q a.end (S + 12) (wider S (length_squared (displacement q a.end)) 1 (omega arith) end))
inside_vertex a q S is some met large start end x (inr vertex) =
    let c = a.track.c in
    under_to q x (S + 12)
    (subst (λ n. n ≤ (S + 12) * (S + 12)) (from_stop c q x)
    (inside_kept (within a.track) S a.sense (to_start a) (to_end a) (displacement q c) (displacement c x) (stopped a (displacement q c) is some met)
    (subst (λ n. n ≤ (S + 8) * (S + 8)) (sym (from_stop c q a.start)) start) (subst (λ n. n ≤ (S + 1) * (S + 1)) (sym (from_stop c q a.end)) end) large vertex.0 vertex.1))

kept : (a : Arc) (q : Pt) (S : ℕ) → IsRoute a → 0 < length_squared (displacement q a.track.c) → Arrives a (displacement q a.track.c) → 58 ≤ S
    → length_squared (displacement q a.start) ≤ (S + 8) * (S + 8) → length_squared (displacement q a.end) ≤ (S + 1) * (S + 1) → (list : List Pt) → IsDivision a list → EveryChord a.start list (IsUnder (about q) (pos (S + 12)))
kept a q S is some arrives large start end =
    chords_of a (IsUnder (about q) (pos (S + 12))) (is_arc a is) (λ p r u v. under-between q p r (pos (S + 12)) u v)
    (under_to q a.start (S + 12) (wider S (length_squared (displacement q a.start)) 8 (omega arith) start)) (inside_vertex a q S is some arrives large start end)

-- ---- which way it arrives
reverse_parts : (z a b c d x y : ℤ) → z *ℤ (((a -ℤ c) *ℤ y) -ℤ ((b -ℤ d) *ℤ x)) ≡ z *ℤ ((x *ℤ (d -ℤ b)) -ℤ (y *ℤ (c -ℤ a)))
reverse_parts z a b c d x y = rw (as_diff z, as_diff a, as_diff b, as_diff c, as_diff d, as_diff x, as_diff y) (simp differences (diff-same _ _ _ _ (omega arith)))

-- turned from the axis: seen from the way itself towards the circle
turned_axis : (sense : ℤ) (c q : Pt) (v : Dir) → turned_by sense (displacement q c) v ≡ sense *ℤ cross v (displacement c q)
turned_axis sense c q v = reverse_parts sense c.x c.y q.x q.y v.dx v.dy

inside_near : (a : Arc) (q : Pt) → IsRoute a → EndsPast a (displacement q a.track.c) → IsAhead (a.sense *ℤ cross (to_start a) (displacement a.track.c q)) (length_squared (displacement a.track.c q))
    → Arrives a (displacement q a.track.c)
inside_near a q is past ahead =
    let c = a.track.c in
    let b = displacement q c in
    let same = turned_axis a.sense c q (to_start a) in
    near_arrives a b is past (rw same ahead.0) (far_by (turned_by a.sense b (to_start a)) (a.sense *ℤ cross (to_start a) (displacement c q)) (length_squared b) (length_squared (displacement c q)) (back_length c q) (ap unsigned_abs same) ahead.1)

inside_far : (a : Arc) (q : Pt) (S : ℕ) → IsRoute a → EndsPast a (displacement q a.track.c) → 1 ≤ S → length_squared (displacement q a.start) ≤ S * S → (S + 7) * (S + 7) ≤ length_squared (displacement q a.end)
    → Arrives a (displacement q a.track.c)
inside_far a q S is past large far near =
    let t = a.track in
    let c = t.c in
    away_arrives a (displacement q c) is past
    (inside_away (within t) S (to_start a) (to_end a) (displacement q c) (within_large t is.track) large (nearby t a.start is.track is.start) (on_circle t a.end is.track is.end)
    (subst (λ n. n ≤ S * S) (sym (from_stop c q a.start)) far) (subst (λ n. (S + 7) * (S + 7) ≤ n) (sym (from_stop c q a.end)) near))

-- ---- the contact
past_side : (z sense k : ℤ) (n m : ℕ) → z ≡ neg_ℤ (sense *ℤ k) → unsigned_abs (sense *ℤ k) ≡ unsigned_abs k → m ≡ n → HasSense sense k n → (z ≤ℤ pos 0) ⊎ (2 * (unsigned_abs z * unsigned_abs z) ≤ m)
past_side z sense k n m e same f (inl ahead) = inl (rw e (omega (arith, ints, ahead)))
past_side z sense k n m e same f (inr short) = inr (rw (e, f, size_neg (sense *ℤ k), same) short)

swap_turn : (sense : ℤ) (u v : Dir) → sense *ℤ cross v u ≡ neg_ℤ (sense *ℤ cross u v)
swap_turn sense u v = turned_back sense u v

ends_past : (a : Arc) (stop : Circ) → IsRoute a → 0 < length_squared (displacement a.track.c stop.c) → IsBeyond a.track stop a.sense a.end → EndsPast a (displacement stop.c a.track.c)
ends_past a stop is some beyond =
    let c = a.track.c in
    let g = displacement c stop.c in
    let b = displacement stop.c c in
    let ve = to_end a in
    record {
      some = subst (λ n. 0 < n) (sym (back_length c stop.c)) some;
      side =
          past_side (turned_by a.sense b ve) a.sense (cross g ve) (length_squared g) (length_squared b) (turned_axis a.sense c stop.c ve ∙ swap_turn a.sense g ve) (size_sense a.sense (cross g ve) is.sense) (back_length c stop.c) beyond;
    }

-- ---- the radius as a natural number, and 8 less
pub radius_is : (r : ℤ) → pos 100 ≤ℤ r → r ≡ pos (unsigned_abs r)
radius_is r least = omega (arith, ints, least)

large_radius : (r : ℤ) → pos 100 ≤ℤ r → (58 ≤ unsigned_abs r) × (1 ≤ unsigned_abs r - 8)
large_radius r least = (omega (arith, ints, least), omega (arith, ints, least))

more : (S n : ℕ) → n ≤ (S - 8) * (S - 8) → n ≤ (S + 8) * (S + 8)
more S n h = omega (arith, h, mul-le (S - 8) (S - 8) (S + 8) (S + 8) (omega arith) (omega arith))

under_at : (q : Pt) (z : ℤ) (h : ℕ) (x : Pt) → z ≡ pos h → IsUnder (about q) z (scaled x) → length_squared (displacement q x) ≤ h * h
under_at q z h x e is = under_from q x h (subst (λ (i : ℤ). IsUnder (about q) i (scaled x)) e is)

-- where an arc stays inside of a circle at whose contact it ends, no point of its chords is more than 12 units outside
pub circle_inside : (a : Arc) (stop : Circ) → IsRoute a → pos 100 ≤ℤ stop.r → 0 < length_squared (displacement a.track.c stop.c) → IsBeyond a.track stop a.sense a.end → IsNearCircle stop (pos 1) a.end
    → StartsInside a stop.c stop.r → (list : List Pt) → IsDivision a list → EveryChord a.start list (IsUnder (about stop.c) (stop.r +ℤ pos 12))
circle_inside a stop is least some beyond end start list division = elim start [
  | inl away ↦
      let from = under_at stop.c (stop.r -ℤ pos 8) (S - 8) a.start (omega (arith, ints, least)) away in
      told (inside_far a stop.c (S - 8) is past (large_radius stop.r least).1 from (contact_over stop (S - 8 + 7) a.end (omega (arith, ints, least)) end)) (more S (length_squared (displacement stop.c a.start)) from)
  | inr near ↦ told (inside_near a stop.c is past near.1) (under_at stop.c (stop.r +ℤ pos 8) (S + 8) a.start (omega (arith, ints, least)) near.0)
]
  where
    S : ℕ
    S = unsigned_abs stop.r

    past : EndsPast a (displacement stop.c a.track.c)
    past = ends_past a stop is some beyond

    told : Arrives a (displacement stop.c a.track.c) → length_squared (displacement stop.c a.start) ≤ (S + 8) * (S + 8)
        → EveryChord a.start list (IsUnder (about stop.c) (stop.r +ℤ pos 12))
    told arrives from =
        let edge : pos (S + 12) ≡ stop.r +ℤ pos 12 = omega (arith, ints, least) in
        subst (λ (z : ℤ). EveryChord a.start list (IsUnder (about stop.c) z)) edge
        (kept a stop.c S is past.some arrives (large_radius stop.r least).0 from (contact_under stop (S + 1) a.end (omega (arith, ints, least)) end) list division)
