-- No point of any chord of an arc that stays outside of a circle comes nearer to its centre than its radius, less 12 units and the sag. The axis g leads from the centre of the arc to that of the circle.
use Rattle.std.proofs.Common.{refl, ◌≡◌, ◌⊎◌, inl, inr, ℕ, zero, suc, ◌+◌, ◌-◌, ◌*◌, ◌≤◌, ◌<◌, ◌∙◌, ap, sym, subst, arith, List, [], ◌∷◌, ℤ, pos, negsuc, neg_ℤ, ◌+ℤ◌, ◌-ℤ◌, ◌*ℤ◌, ◌≤ℤ◌, ◌<ℤ◌, unsigned_abs}
use Rattle.std.proofs.lemmas.Int.{ints}
use Rattle.std.proofs.lemmas.Nat.{mul-le}
use Rattle.std.proofs.lemmas.Bool.{cases_lt}
use Rattle.apt_num.specs.Sign.{signed_square}
use Rattle.apt_num.proofs.Ring.{as_diff, diff-pos, diff-same, differences, scaled_le, *ℤ_assoc, times_swap}
use Rattle.apt_num.proofs.Squares.{size_neg}
use Rattle.apt_num.proofs.Sums.{signed_square-times}
use Rattle.apt_plane.specs.declared.figures.Pt.{Pt}
use Rattle.apt_plane.specs.declared.figures.Dir.{Dir}
use Rattle.apt_plane.specs.declared.figures.Circ.{Circ}
use Rattle.apt_plane.specs.Vectors.{scaled, between, displacement, displacement_to, cross, dot, length_squared}
use Rattle.apt_plane.specs.Distances.{IsOver, IsLengthAtMost, IsRootAtMost, EveryPoint, about}
use Rattle.apt_plane.specs.Ranges.{IsSense}
use Rattle.apt_plane.proofs.Displacements.{to, dot_times}
use Rattle.apt_plane.proofs.Lengths.{plus, times, length_of_times}
use Rattle.apt_plane.proofs.RingLaws.{length_at_most, root_at_most, negative_over, over_from}
use Rattle.apt_plane.proofs.Turned.{turned_by, turned_back, size_sense}
use Rattle.apt_plane.proofs.Around.{Cyc}
use Rattle.apt_canon.specs.Scale.{IsNearCircle}
use Rattle.apt_canon.specs.Circles.{IsBeyond}
use Rattle.apt_arc.specs.declared.arc.Arc.{Arc}
use Rattle.apt_arc.specs.Ranges.{IsTrack, IsSag}
use Rattle.apt_arc.specs.Steps.{IsStep, IsInside, AreSteps}
use Rattle.apt_arc.specs.Quarters.{Each}
use Rattle.apt_arc.specs.Divisions.{IsDivision}
use Rattle.apt_arc.specs.Stops.{EveryChord, IsRoute, to_start, to_end, IsAback, StartsOutside}
use Rattle.apt_arc.proofs.Tracks.{within, within_large, nearby, chord_length}
use Rattle.apt_num.proofs.Farther.{farther_signed}
use Rattle.apt_plane.proofs.Governed.{IsHardlyAcross, IsOnRay, governed}
use Rattle.apt_plane.proofs.AwayRows.{outside_away, reverse}
use Rattle.apt_plane.proofs.Outside.{HasLessShare, less_times, AreMeeting, IsOnChord, IsOutside, IsContact, outside_from, outside_contact, same_way}
use Rattle.apt_arc.proofs.Vertices.{IsUpToEnd, both_long, steps_up_to_end}
use Rattle.apt_arc.proofs.Inner.{mixed, way_between, mixed_up_to_end}
use Rattle.apt_arc.proofs.Arrivals.{EndsPast, Arrives, on_circle, near_end, away_arrives, near_arrives, far_by, past_side, contact_over, contact_under}
use Rattle.apt_arc.proofs.InsideStops.{from_stop, radius_is}

-- ---- the share of a longer way

share_longer : (g a v : Dir) (m : ℕ) → HasLessShare g a v → HasLessShare g a (times (pos m) v)
share_longer g a v m far =
    rw (
      dot_times g v (pos m),
      length_of_times (pos m) v,
      signed_square-times m (dot g v),
      *ℤ_assoc (pos (m * m)) (signed_square (dot g v)) (pos (length_squared a)),
      times_swap (signed_square (dot g a)) (pos (m * m)) (pos (length_squared v)),
    )
    (scaled_le (m * m) (signed_square (dot g v) *ℤ pos (length_squared a)) (signed_square (dot g a) *ℤ pos (length_squared v)) far)

abbrev SharesLess : Dir → Dir → Dir → Dir → Type 0
SharesLess g s e v = HasLessShare g s v ⊎ HasLessShare g e v

both_longer : (g s e v x : Dir) (m : ℕ) → x ≡ times (pos m) v → SharesLess g s e v → SharesLess g s e x
both_longer g s e v x m same (inl far) = inl (subst (λ (y : Dir). HasLessShare g s y) (sym same) (share_longer g s v m far))
both_longer g s e v x m same (inr far) = inr (subst (λ (y : Dir). HasLessShare g e y) (sym same) (share_longer g e v m far))

-- ---- who governs a way
way_shares : (sense : ℤ) (g s e v : Dir) → IsSense sense → 0 < length_squared g → 0 < length_squared v → Cyc s sense v e → Cyc s sense e g → SharesLess g s e v
way_shares sense g s e v is some some_v on before = elim (governed sense s e g v is some some_v on before) [
  | inl start ↦ inl (farther_signed (dot g s) (length_squared s) (dot g v) (length_squared v) start.1)
  | inr end ↦ inr (farther_signed (dot g e) (length_squared e) (dot g v) (length_squared v) end)
]

same_least : (z : ℤ) → z ≤ℤ z
same_least z = omega (arith, ints)

-- the start, or a vertex after it
abbrev IsFromStart : Circ → ℤ → Pt → Pt → Pt → Type 0
IsFromStart t sense s e x = (x ≡ s) ⊎ IsUpToEnd t sense s e x

vertex_shares : (t : Circ) (sense : ℤ) (g : Dir) (s e x : Pt) → IsSense sense → 0 < length_squared g → 0 < length_squared (displacement t.c x) → Cyc (displacement t.c s) sense (displacement t.c e) g → IsFromStart t sense s e x
    → SharesLess g (displacement t.c s) (displacement t.c e) (displacement t.c x)
vertex_shares t sense g s e x is some some_x before (inl first) =
    let v = displacement t.c s in
    inl (subst (λ (y : Pt). HasLessShare g v (displacement t.c y)) (sym first) (same_least (signed_square (dot g v) *ℤ pos (length_squared v))))
vertex_shares t sense g s e x is some some_x before (inr (inl last)) =
    let v = displacement t.c e in
    inr (subst (λ (y : Pt). HasLessShare g v (displacement t.c y)) (sym last) (same_least (signed_square (dot g v) *ℤ pos (length_squared v))))
vertex_shares t sense g s e x is some some_x before (inr (inr on)) = way_shares sense g (displacement t.c s) (displacement t.c e) (displacement t.c x) is some some_x on before

-- ---- the points of a chord
only_first : (k : ℕ) (x y : ℤ) → (pos k *ℤ x) +ℤ (pos 0 *ℤ y) ≡ pos k *ℤ x
only_first k x y = omega (arith, ints)

only_second : (j : ℕ) (x y : ℤ) → (pos 0 *ℤ x) +ℤ (pos j *ℤ y) ≡ pos j *ℤ y
only_second j x y = omega (arith, ints)

same_dir : (a b c d : ℤ) → a ≡ c → b ≡ d → to a b ≡ to c d
same_dir a b c d e f = rw (e, f) refl

mixed_start : (k : ℕ) (a b : Dir) → mixed 0 k a b ≡ times (pos k) a
mixed_start k a b = same_dir _ _ _ _ (only_first k a.dx b.dx) (only_first k a.dy b.dy)

mixed_end : (j : ℕ) (a b : Dir) → mixed j 0 a b ≡ times (pos j) b
mixed_end j a b = same_dir _ _ _ _ (only_second j a.dx b.dx) (only_second j a.dy b.dy)

in_turn_long : (sense : ℤ) (s x e : Dir) → Cyc s sense x e → 0 < length_squared x
in_turn_long sense s x e (inl two) = (both_long sense s x two.0).1
in_turn_long sense s x e (inr (inl two)) = (both_long sense x e two.0).0
in_turn_long sense s x e (inr (inr two)) = (both_long sense s x two.1).1

chord_shares : (t : Circ) (sense : ℤ) (g : Dir) (s e a x : Pt) (j k : ℕ) → IsSense sense → 0 < length_squared g → 0 < length_squared (displacement t.c s) → Cyc (displacement t.c s) sense (displacement t.c e) g
    → IsStep t sense s a x → IsFromStart t sense s e a → IsUpToEnd t sense s e x → SharesLess g (displacement t.c s) (displacement t.c e) (mixed j k (displacement t.c a) (displacement t.c x))
chord_shares t sense g s e a x zero k is some some_s before step first second =
    let va = displacement t.c a in
    let vx = displacement t.c x in
    both_longer g (displacement t.c s) (displacement t.c e) va (mixed 0 k va vx) k (mixed_start k va vx) (vertex_shares t sense g s e a is some (both_long sense va vx step.0).0 before first)
chord_shares t sense g s e a x (suc j) zero is some some_s before step first second =
    let va = displacement t.c a in
    let vx = displacement t.c x in
    both_longer g (displacement t.c s) (displacement t.c e) vx (mixed (suc j) 0 va vx) (suc j) (mixed_end (suc j) va vx) (vertex_shares t sense g s e x is some (both_long sense va vx step.0).1 before (inr second))
chord_shares t sense g s e a x (suc j) (suc k) is some some_s before step first second =
    let v = mixed (suc j) (suc k) (displacement t.c a) (displacement t.c x) in
    let on = mixed_up_to_end t sense s a x e (suc j) (suc k) is some_s step second (omega arith) (omega arith) in
    way_shares sense g (displacement t.c s) (displacement t.c e) v is some (in_turn_long sense (displacement t.c s) v (displacement t.c e) on) on before

-- ---- an arc and a circle about a point that its track meets; q is 12 less than its radius
abbrev radius : Circ → ℕ
radius t = unsigned_abs t.r

record MeetsTrack (a : Arc) (q : ℕ) (stop : Pt) : Type 0 where
  wide : unsigned_abs a.sag ≤ q
  meets : radius a.track * radius a.track + (q + 12) * (q + 12) ≤ length_squared (displacement a.track.c stop) + 2 * (radius a.track * (q + 12))

meeting : (a : Arc) (q : ℕ) (stop : Pt) → IsRoute a → MeetsTrack a q stop → AreMeeting (radius a.track) q (unsigned_abs a.sag) (length_squared (displacement a.track.c stop))
meeting a q stop is meets =
    record {
      least = omega (arith, ints, is.track.least);
      reach = omega (arith, ints, is.sag.least);
      most = omega (arith, ints, is.sag.most, is.sag.least, is.track.least);
      stop = meets.wide;
      meets = meets.meets;
    }

abbrev way : Circ → Pt → Pt → ℕ → ℕ → Dir
way t p x j k = displacement_to t.c (between p x j k)

inner_edge : (r sag : ℤ) → pos 100 ≤ℤ r → pos 8 ≤ℤ sag → (pos 4 *ℤ sag) ≤ℤ r → r -ℤ sag ≡ pos (unsigned_abs r - unsigned_abs sag)
inner_edge r sag least reach most = omega (arith, ints, least, reach, most)

outer_edge : (r : ℤ) → pos 100 ≤ℤ r → r +ℤ pos 3 ≡ pos (unsigned_abs r + 3)
outer_edge r least = omega (arith, ints, least)

on_chord : (t : Circ) (sag : ℤ) (p x : Pt) (j k : ℕ) → IsTrack t → IsSag t sag → IsInside t sag p x → 0 < j + k → IsOnChord (radius t) (unsigned_abs sag) (j + k) (way t p x j k)
on_chord t sag p x j k is fits inside some =
    let n = length_squared (way t p x j k) in
    record {
      some = some;
      low =
          (length_at_most (j + k) (radius t - unsigned_abs sag) n).0
          (subst (λ (z : ℤ). IsLengthAtMost (pos (j + k) *ℤ z) n) (inner_edge t.r sag is.least fits.least fits.most) (inside j k some).lo);
      high = (root_at_most (j + k) (radius t + 3) n).0 (subst (λ (z : ℤ). IsRootAtMost n (pos (j + k) *ℤ z)) (outer_edge t.r is.least) (inside j k some).hi);
    }

-- ---- the same point from the centre of the circle
shifted_part : (m z c s : ℤ) → (z -ℤ (m *ℤ c)) -ℤ (m *ℤ (s -ℤ c)) ≡ z -ℤ (m *ℤ s)
shifted_part m z c s = rw (as_diff m, as_diff z, as_diff c, as_diff s) (simp differences (diff-same _ _ _ _ (omega arith)))

shifted : (t : Circ) (stop p x : Pt) (j k : ℕ) → length_squared (less_times (j + k) (displacement t.c stop) (way t p x j k)) ≡ length_squared (displacement_to stop (between p x j k))
shifted t stop p x j k =
    let s = between p x j k in
    same_way _ _ _ _ (shifted_part (pos (j + k)) s.x t.c.x stop.x) (shifted_part (pos (j + k)) s.y t.c.y stop.y)

edge_is : (q : ℕ) (sag : ℤ) → pos 8 ≤ℤ sag → unsigned_abs sag ≤ q → pos q -ℤ sag ≡ pos (q - unsigned_abs sag)
edge_is q sag least wide = omega (arith, ints, least, wide)

over : (a : Arc) (q : ℕ) (stop p x : Pt) (j k : ℕ) → IsRoute a → MeetsTrack a q stop
    → (j + k) * (q - unsigned_abs a.sag) * ((j + k) * (q - unsigned_abs a.sag)) ≤ length_squared (less_times (j + k) (displacement a.track.c stop) (way a.track p x j k))
    → IsOver (about stop) (pos q -ℤ a.sag) (between p x j k)
over a q stop p x j k is meets le =
    let n = length_squared (displacement_to stop (between p x j k)) in
    let w = unsigned_abs a.sag in
    let far = subst (λ n. (j + k) * (q - w) * ((j + k) * (q - w)) ≤ n) (shifted a.track stop p x j k) le in
    subst (λ (z : ℤ). IsLengthAtMost (pos (j + k) *ℤ z) n) (sym (edge_is q a.sag is.sag.least meets.wide)) ((length_at_most (j + k) (q - w) n).1 (omega (arith, far)))

-- ---- by an end that lies outside
outside : (a : Arc) (q : ℕ) (stop x : Pt) → IsRoute a → IsNearCircle a.track (pos 3) x → (q + 4) * (q + 4) ≤ length_squared (displacement stop x) → IsOutside (radius a.track) q (displacement a.track.c stop) (displacement a.track.c x)
outside a q stop x is near far = record { near = nearby a.track x is.track near; far = subst (λ n. (q + 4) * (q + 4) ≤ n) (sym (chord_length a.track.c stop x)) far }

point_over : (a : Arc) (q : ℕ) (stop p x : Pt) (j k : ℕ) (end : Dir) → IsRoute a → MeetsTrack a q stop → IsInside a.track a.sag p x → IsOutside (radius a.track) q (displacement a.track.c stop) end → 0 < j + k
    → HasLessShare (displacement a.track.c stop) end (way a.track p x j k) → IsOver (about stop) (pos q -ℤ a.sag) (between p x j k)
point_over a q stop p x j k end is meets inside at some share =
    over a q stop p x j k is meets
    (outside_from (radius a.track) q (unsigned_abs a.sag) (j + k) (displacement a.track.c stop) end (way a.track p x j k) (meeting a q stop is meets) (on_chord a.track a.sag p x j k is.track is.sag inside some) at share)

-- what stays the same along an arc that ends before the axis
record IsBefore (a : Arc) (q : ℕ) (stop : Pt) : Type 0 where
  route : IsRoute a
  meets : MeetsTrack a q stop
  some : 0 < length_squared (displacement a.track.c stop)
  some_start : 0 < length_squared (to_start a)
  start : IsOutside (radius a.track) q (displacement a.track.c stop) (to_start a)
  end : IsOutside (radius a.track) q (displacement a.track.c stop) (to_end a)
  before : Cyc (to_start a) a.sense (to_end a) (displacement a.track.c stop)

chord_over : (a : Arc) (q : ℕ) (stop p x : Pt) → IsBefore a q stop → IsStep a.track a.sense a.start p x → IsInside a.track a.sag p x → IsFromStart a.track a.sense a.start a.end p → IsUpToEnd a.track a.sense a.start a.end x
    → EveryPoint p x (IsOver (about stop) (pos q -ℤ a.sag))
chord_over a q stop p x is step inside first second = λ j k some.
    let g = displacement a.track.c stop in
    let c = a.track.c in
    elim (subst (λ (v : Dir). SharesLess g (to_start a) (to_end a) v) (sym (way_between c p x j k))
    (chord_shares a.track a.sense g a.start a.end p x j k is.route.sense is.some is.some_start is.before step first second)) [
      | inl share ↦ point_over a q stop p x j k (to_start a) is.route is.meets inside is.start some share
      | inr share ↦ point_over a q stop p x j k (to_end a) is.route is.meets inside is.end some share
    ]

chords_over : (a : Arc) (q : ℕ) (stop p : Pt) (list : List Pt) → IsBefore a q stop → IsFromStart a.track a.sense a.start a.end p → AreSteps a.track a.sag a.sense a.start p list a.end
    → Each list (IsUpToEnd a.track a.sense a.start a.end) → EveryChord p list (IsOver (about stop) (pos q -ℤ a.sag))
chords_over a q stop p [] is first steps each = tt
chords_over a q stop p (x ∷ xs) is first steps each = (chord_over a q stop p x is steps.0 steps.1 first each.0, chords_over a q stop x xs is (inr each.0) steps.2 each.1)

before_over : (a : Arc) (q : ℕ) (stop : Pt) (list : List Pt) → IsBefore a q stop → AreSteps a.track a.sag a.sense a.start a.start list a.end → EveryChord a.start list (IsOver (about stop) (pos q -ℤ a.sag))
before_over a q stop list is steps =
    chords_over a q stop a.start list is (inl refl) steps (steps_up_to_end a.track a.sag a.sense a.start a.start a.end list is.route.sense is.some_start steps)

-- ---- where the contact is on the axis no order is asked
axis_over : (a : Arc) (q : ℕ) (stop p : Pt) (list : List Pt) → IsRoute a → MeetsTrack a q stop → IsContact (radius a.track) q (displacement a.track.c stop) (to_end a) → AreSteps a.track a.sag a.sense a.start p list a.end
    → EveryChord p list (IsOver (about stop) (pos q -ℤ a.sag))
axis_over a q stop p [] is meets at steps = tt
axis_over a q stop p (x ∷ xs) is meets at steps = (
  λ j k some. over a q stop p x j k is meets
      (outside_contact (radius a.track) q (unsigned_abs a.sag) (j + k) (displacement a.track.c stop) (to_end a) (way a.track p x j k) (meeting a q stop is meets) (on_chord a.track a.sag p x j k is.track is.sag steps.1 some) at),
  axis_over a q stop x xs is meets at steps.2,
)

-- ---- which way it arrives
reverse_part : (c q : ℤ) → neg_ℤ (q -ℤ c) ≡ c -ℤ q
reverse_part c q = omega (arith, ints)

to_stop : (c q x : Pt) → length_squared (plus (displacement c x) (reverse (displacement c q))) ≡ length_squared (displacement q x)
to_stop c q x = rw (reverse_part c.x q.x, reverse_part c.y q.y) (from_stop c q x)

outside_far : (a : Arc) (q : Pt) (S : ℕ) → IsRoute a → EndsPast a (displacement a.track.c q) → 1 ≤ S → (S + 7) * (S + 7) ≤ length_squared (displacement q a.start) → length_squared (displacement q a.end) ≤ S * S
    → Arrives a (displacement a.track.c q)
outside_far a q S is past large far near =
    let t = a.track in
    let c = t.c in
    away_arrives a (displacement c q) is past
    (outside_away (within t) S (to_start a) (to_end a) (displacement c q) (within_large t is.track) large (nearby t a.start is.track is.start) (on_circle t a.end is.track is.end)
    (subst (λ n. n ≤ S * S) (sym (to_stop c q a.end)) near) (subst (λ n. (S + 7) * (S + 7) ≤ n) (sym (to_stop c q a.start)) far))

ahead_of : (z k : ℤ) → z ≡ neg_ℤ k → k <ℤ pos 0 → pos 0 <ℤ z
ahead_of z k e h = omega (arith, ints, e, h)

outside_near : (a : Arc) (q : Pt) → IsRoute a → EndsPast a (displacement a.track.c q) → IsAback (a.sense *ℤ cross (to_start a) (displacement a.track.c q)) (length_squared (displacement a.track.c q)) → Arrives a (displacement a.track.c q)
outside_near a q is past aback =
    let g = displacement a.track.c q in
    let k = a.sense *ℤ cross (to_start a) g in
    let back = turned_back a.sense (to_start a) g in
    near_arrives a g is past (ahead_of (turned_by a.sense g (to_start a)) k back aback.0)
    (far_by (turned_by a.sense g (to_start a)) k (length_squared g) (length_squared g) refl (ap unsigned_abs back ∙ size_neg k) aback.1)

-- ---- the contact
ends_past : (a : Arc) (stop : Circ) → IsRoute a → 0 < length_squared (displacement a.track.c stop.c) → IsBeyond a.track stop (neg_ℤ a.sense) a.end → EndsPast a (displacement a.track.c stop.c)
ends_past a stop is some beyond =
    let g = displacement a.track.c stop.c in
    record { some = some; side = past_side a.sense (cross g (to_end a)) (length_squared g) beyond (size_sense a.sense (cross g (to_end a)) is.sense) }

hardly_across : (sense : ℤ) (g e : Dir) → IsSense sense → IsHardlyAcross sense g e → 2 * (unsigned_abs (cross g e) * unsigned_abs (cross g e)) ≤ length_squared g
hardly_across sense g e is short = rw (size_sense sense (cross g e) is) at short

-- ---- the radius of the stop is q + 12
abbrev inside_edge : Circ → ℕ
inside_edge stop = unsigned_abs stop.r - 12

meets_parts : (x y : ℤ) → (x -ℤ y) *ℤ (x -ℤ y) ≡ ((x *ℤ x) +ℤ (y *ℤ y)) -ℤ (pos 2 *ℤ (x *ℤ y))
meets_parts x y = rw (as_diff x, as_diff y, diff-pos 2) (simp differences (diff-same _ _ _ _ (omega arith)))

meets_at : (a b n : ℕ) → ((pos a -ℤ pos b) *ℤ (pos a -ℤ pos b)) ≤ℤ pos n → a * a + b * b ≤ n + 2 * (a * b)
meets_at a b n h = omega (arith, ints, h, meets_parts (pos a) (pos b))

squares_meet : (a b : ℕ) (r s : ℤ) → r ≡ pos a → s ≡ pos b → (n : ℕ) → ((r -ℤ s) *ℤ (r -ℤ s)) ≤ℤ pos n → a * a + b * b ≤ n + 2 * (a * b)
squares_meet a b r s e f n h = meets_at a b n (rw (e, f) at h)

edge_plus : (r : ℤ) → pos 100 ≤ℤ r → r ≡ pos (unsigned_abs r - 12 + 12)
edge_plus r least = omega (arith, ints, least)

meets_track : (a : Arc) (stop : Circ) → IsRoute a → pos 100 ≤ℤ stop.r → ((a.track.r -ℤ stop.r) *ℤ (a.track.r -ℤ stop.r)) ≤ℤ pos (length_squared (displacement a.track.c stop.c)) → unsigned_abs a.sag ≤ inside_edge stop
    → MeetsTrack a (inside_edge stop) stop.c
meets_track a stop is least meets wide = record {
  wide = wide;
  meets =
      squares_meet (unsigned_abs a.track.r) (inside_edge stop + 12) a.track.r stop.r (radius_is a.track.r is.track.least) (edge_plus stop.r least) (length_squared (displacement a.track.c stop.c)) meets;
}

over_at : (q : Pt) (z : ℤ) (h : ℕ) (x : Pt) → z ≡ pos h → IsOver (about q) z (scaled x) → h * h ≤ length_squared (displacement q x)
over_at q z h x e is = over_from q x h (subst (λ (i : ℤ). IsOver (about q) i (scaled x)) e is)

contact : (a : Arc) (stop : Circ) → IsRoute a → pos 100 ≤ℤ stop.r → IsNearCircle stop (pos 1) a.end → IsOnRay a.sense (displacement a.track.c stop.c) (to_end a) → IsContact (radius a.track) (inside_edge stop) (displacement a.track.c stop.c) (to_end a)
contact a stop is least near ray =
    let g = displacement a.track.c stop.c in
    record {
      low = contact_over a.track (radius a.track - 1) a.end (omega (arith, ints, is.track.least)) is.end;
      high = contact_under a.track (radius a.track + 1) a.end (omega (arith, ints, is.track.least)) is.end;
      far =
          subst (λ n. (inside_edge stop + 11) * (inside_edge stop + 11) ≤ n) (sym (chord_length a.track.c stop.c a.end))
          (contact_over stop (inside_edge stop + 11) a.end (omega (arith, ints, least)) near);
      ahead = ray.0;
      across = hardly_across a.sense g (to_end a) is.sense ray.1;
    }

four_at : (q n : ℕ) → (q + 11) * (q + 11) ≤ n → (q + 4) * (q + 4) ≤ n
four_at q n h = omega (arith, h)

four_far : (r n : ℕ) → 100 ≤ r → (r + 1 + 7) * (r + 1 + 7) ≤ n → (r - 12 + 4) * (r - 12 + 4) ≤ n
four_far r n least h = omega (arith, h, mul-le (r - 12 + 4) (r - 12 + 4) (r + 1 + 7) (r + 1 + 7) (omega arith) (omega arith))

-- ---- an edge below 0 is met by all
none_over : (c p : Pt) (h : ℕ) (list : List Pt) → EveryChord p list (IsOver (about c) (negsuc h))
none_over c p h [] = tt
none_over c p h (x ∷ xs) = (negative_over c p x h, none_over c x h xs)

below_over : (c p : Pt) (lo : ℤ) (list : List Pt) → lo <ℤ pos 0 → EveryChord p list (IsOver (about c) lo)
below_over c p (pos h) list less = absurd (omega (arith, ints, less))
below_over c p (negsuc h) list less = none_over c p h list

no_edge : (r sag : ℤ) → pos 100 ≤ℤ r → pos 8 ≤ℤ sag → unsigned_abs r - 12 < unsigned_abs sag → ((r -ℤ pos 12) -ℤ sag) <ℤ pos 0
no_edge r sag least reach wide = omega (arith, ints, least, reach, wide)

some_near : (p n : ℕ) → 97 ≤ p → p * p ≤ n → 0 < n
some_near p n least h = omega (arith, h, mul-le 97 97 p p least least)

natural_least : (r : ℤ) → pos 100 ≤ℤ r → 100 ≤ unsigned_abs r
natural_least r least = omega (arith, ints, least)

-- where an arc stays outside of a circle at whose contact it ends, no point of its chords lies further inside than 12 units and the sag
pub circle_outside : (a : Arc) (stop : Circ) → IsRoute a → pos 100 ≤ℤ stop.r → 0 < length_squared (displacement a.track.c stop.c)
    → ((a.track.r -ℤ stop.r) *ℤ (a.track.r -ℤ stop.r)) ≤ℤ pos (length_squared (displacement a.track.c stop.c)) → IsBeyond a.track stop (neg_ℤ a.sense) a.end → IsNearCircle stop (pos 1) a.end → StartsOutside a stop.c stop.r
    → (list : List Pt) → IsDivision a list → EveryChord a.start list (IsOver (about stop.c) ((stop.r -ℤ pos 12) -ℤ a.sag))
circle_outside a stop is least some meets beyond end start list division = elim start [
  | inl away ↦
      let from = over_at stop.c (stop.r +ℤ pos 8) (unsigned_abs stop.r + 1 + 7) a.start (omega (arith, ints, least)) away in
      told (outside_far a stop.c (unsigned_abs stop.r + 1) is past (omega arith) from (contact_under stop (unsigned_abs stop.r + 1) a.end (omega (arith, ints, least)) end))
      (four_far (unsigned_abs stop.r) (length_squared (displacement stop.c a.start)) (natural_least stop.r least) from)
  | inr near ↦ told (outside_near a stop.c is past near.1) (over_at stop.c (stop.r -ℤ pos 8) (q + 4) a.start (omega (arith, ints, least)) near.0)
]
  where
    q : ℕ
    q = inside_edge stop

    past : EndsPast a (displacement a.track.c stop.c)
    past = ends_past a stop is some beyond

    every : Arrives a (displacement a.track.c stop.c) → (q + 4) * (q + 4) ≤ length_squared (displacement stop.c a.start) → MeetsTrack a q stop.c → EveryChord a.start list (IsOver (about stop.c) (pos q -ℤ a.sag))
    every arrives from at = elim arrives [
      | inr ray ↦ axis_over a q stop.c a.start list is at (contact a stop is least end ray) division.steps
      | inl before ↦
          before_over a q stop.c list
          (record {
            route = is;
            meets = at;
            some = some;
            some_start = some_near (within a.track) (length_squared (to_start a)) (within_large a.track is.track) (nearby a.track a.start is.track is.start).low;
            start = outside a q stop.c a.start is is.start from;
            end = outside a q stop.c a.end is (near_end a is) (four_at q (length_squared (displacement stop.c a.end)) (contact_over stop (q + 11) a.end (omega (arith, ints, least)) end));
            before = before;
          })
          division.steps
    ]

    told : Arrives a (displacement a.track.c stop.c) → (q + 4) * (q + 4) ≤ length_squared (displacement stop.c a.start)
        → EveryChord a.start list (IsOver (about stop.c) ((stop.r -ℤ pos 12) -ℤ a.sag))
    told arrives from = elim (cases_lt q (unsigned_abs a.sag)) [
      | inl wide ↦ below_over stop.c a.start ((stop.r -ℤ pos 12) -ℤ a.sag) list (no_edge stop.r a.sag least is.sag.least wide)
      | inr narrow ↦
          let edge : pos q -ℤ a.sag ≡ (stop.r -ℤ pos 12) -ℤ a.sag = omega (arith, ints, least) in
          subst (λ (z : ℤ). EveryChord a.start list (IsOver (about stop.c) z)) edge (every arrives from (meets_track a stop is least meets narrow))
    ]
