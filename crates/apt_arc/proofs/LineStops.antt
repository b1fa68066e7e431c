-- No point of any chord of an arc is more than 12 units past the line at its end.
use Rattle.std.proofs.Common.{◌≡◌, ◌↔◌, ◌⊎◌, inl, inr, ℕ, ◌*◌, ◌≤◌, ◌<◌, ◌∙◌, ap, sym, subst, arith, List, [], ◌∷◌, ℤ, pos, neg_ℤ, ◌+ℤ◌, ◌-ℤ◌, ◌*ℤ◌, ◌≤ℤ◌, ◌<ℤ◌, unsigned_abs}
use Rattle.std.proofs.lemmas.Int.{ints}
use Rattle.apt_num.specs.Sign.{AtLeast, square}
use Rattle.apt_num.proofs.Ring.{as_diff, diff-same, differences, double_neg, *ℤ-neg, neg-*ℤ-neg}
use Rattle.apt_num.proofs.Squares.{size_neg}
use Rattle.apt_num.proofs.Sums.{at_least-weaker}
use Rattle.apt_plane.specs.declared.figures.Pt.{Pt}
use Rattle.apt_plane.specs.declared.figures.Dir.{Dir}
use Rattle.apt_plane.specs.declared.figures.Line.{Line}
use Rattle.apt_plane.specs.Vectors.{Scaled, scaled, between, displacement, displacement_to, height, cross, dot, length_squared}
use Rattle.apt_plane.specs.Distances.{IsAbove, IsBelow, EveryPoint}
use Rattle.apt_plane.proofs.Displacements.{to, dot_swap}
use Rattle.apt_plane.proofs.Heights.{one-times}
use Rattle.apt_plane.proofs.SegmentLaws.{above-between}
use Rattle.apt_plane.proofs.Turned.{turned_by, size_sense}
use Rattle.apt_plane.proofs.Around.{Cyc}
use Rattle.apt_canon.specs.Circles.{HasSense, IsFurther}
use Rattle.apt_arc.specs.declared.arc.Arc.{Arc}
use Rattle.apt_arc.specs.Ranges.{IsArc}
use Rattle.apt_arc.specs.Quarters.{Each}
use Rattle.apt_arc.specs.Divisions.{IsDivision}
use Rattle.apt_arc.specs.Stops.{EveryChord, IsRoute, to_start, to_end, IsAhead, StartsLeft, StartsRight}
use Rattle.apt_arc.proofs.Tracks.{within, within_large, nearby}
use Rattle.apt_plane.proofs.Governed.{IsOnRay}
use Rattle.apt_plane.proofs.Kept.{line_kept}
use Rattle.apt_plane.proofs.AwayRows.{line_away, reverse, dot_reverse, reverse_length}
use Rattle.apt_arc.proofs.Vertices.{IsVertex, division_vertices}
use Rattle.apt_arc.proofs.Arrivals.{EndsPast, Arrives, on_circle, away_arrives, near_arrives, is_arc, stopped, far_by, past_side}

chords_by : (P : Scaled → Type 0) → ((a b : Pt) → P (scaled a) → P (scaled b) → EveryPoint a b P) → (a : Pt) (list : List Pt) → P (scaled a) → Each list (λ x. P (scaled x)) → EveryChord a list P
chords_by P all a [] first each = tt
chords_by P all a (x ∷ xs) first each = (all a x first each.0, chords_by P all x xs each.0 each.1)

each_by : (P Q : Pt → Type 0) → ((x : Pt) → P x → Q x) → (list : List Pt) → Each list P → Each list Q
each_by P Q f [] each = tt
each_by P Q f (x ∷ xs) each = (f x each.0, each_by P Q f xs each.1)

-- every chord of a division, by what its vertices are
pub chords_of : (a : Arc) (P : Scaled → Type 0) → IsArc a → ((p q : Pt) → P (scaled p) → P (scaled q) → EveryPoint p q P) → P (scaled a.start)
    → ((x : Pt) → IsVertex a.track a.sense a.start a.end x → P (scaled x)) → (list : List Pt) → IsDivision a list → EveryChord a.start list P
chords_of a P arc all first vertex list division =
    chords_by P all a.start list first (each_by (IsVertex a.track a.sense a.start a.end) (λ x. P (scaled x)) vertex list (division_vertices a arc list division))

-- ---- the axis of a line left of which an arc stays leads to the right
abbrev line_axis : Line → Dir
line_axis l = to l.dir.dy (neg_ℤ l.dir.dx)

axis_length : (l : Line) → length_squared (line_axis l) ≡ length_squared l.dir
axis_length l = rw (size_neg l.dir.dx) (omega arith)

height_parts : (a b x y u v c d : ℤ) → (a *ℤ (v -ℤ y)) -ℤ (b *ℤ (u -ℤ x)) ≡ ((a *ℤ (d -ℤ y)) -ℤ (b *ℤ (c -ℤ x))) -ℤ ((b *ℤ (u -ℤ c)) +ℤ (neg_ℤ a *ℤ (v -ℤ d)))
height_parts a b x y u v c d = rw (as_diff a, as_diff b, as_diff x, as_diff y, as_diff u, as_diff v, as_diff c, as_diff d) (simp differences (diff-same _ _ _ _ (omega arith)))

height_is : (l : Line) (c x : Pt) → cross l.dir (displacement l.base x) ≡ cross l.dir (displacement l.base c) -ℤ dot (line_axis l) (displacement c x)
height_is l c x = height_parts l.dir.dx l.dir.dy l.base.x l.base.y x.x x.y c.x c.y

abbrev IsLeft : Line → ℤ → Pt → Type 0
IsLeft l h x = AtLeast (cross l.dir (displacement l.base x)) h (length_squared l.dir)

above_tells : (l : Line) (h : ℤ) (x : Pt) → IsAbove l h (scaled x) → IsLeft l h x
above_tells l h x is = rw (one-times l.base.x, one-times l.base.y, one-times h) at is

above_from : (l : Line) (h : ℤ) (x : Pt) → IsLeft l h x → IsAbove l h (scaled x)
above_from l h x is = rw (one-times l.base.x, one-times l.base.y, one-times h) is

left_over : (l : Line) (h : ℤ) (c x : Pt) → IsLeft l h x → AtLeast (cross l.dir (displacement l.base c) -ℤ dot (line_axis l) (displacement c x)) h (length_squared (line_axis l))
left_over l h c x is =
    subst (λ n. AtLeast (cross l.dir (displacement l.base c) -ℤ dot (line_axis l) (displacement c x)) h n) (sym (axis_length l)) (subst (λ (z : ℤ). AtLeast z h (length_squared l.dir)) (height_is l c x) is)

left_from : (l : Line) (h : ℤ) (c x : Pt) → AtLeast (cross l.dir (displacement l.base c) -ℤ dot (line_axis l) (displacement c x)) h (length_squared (line_axis l)) → IsLeft l h x
left_from l h c x is =
    subst (λ (z : ℤ). AtLeast z h (length_squared l.dir)) (sym (height_is l c x)) (subst (λ n. AtLeast (cross l.dir (displacement l.base c) -ℤ dot (line_axis l) (displacement c x)) h n) (axis_length l) is)

left_weaker : (l : Line) (h i : ℤ) (x : Pt) → i ≤ℤ h → IsLeft l h x → IsLeft l i x
left_weaker l h i x less is = at_least-weaker (cross l.dir (displacement l.base x)) h i (length_squared l.dir) less is

-- ---- what is kept
left_vertex : (a : Arc) (l : Line) (h : ℤ) → IsRoute a → 0 < length_squared (line_axis l) → Cyc (to_start a) a.sense (to_end a) (line_axis l) ⊎ IsOnRay a.sense (line_axis l) (to_end a)
    → IsLeft l (h -ℤ pos 8) a.start → IsLeft l (h -ℤ pos 1) a.end → (x : Pt) → IsVertex a.track a.sense a.start a.end x → IsAbove l (h -ℤ pos 12) (scaled x)
left_vertex a l h is some met start end x (inl same) =
    subst (λ (p : Pt). IsAbove l (h -ℤ pos 12) (scaled p)) (sym same) (above_from l (h -ℤ pos 12) a.end (left_weaker l (h -ℤ pos 1) (h -ℤ pos 12) a.end (omega (arith, ints)) end))
left_vertex a l h is some met start end x (inr vertex) =
    let c = a.track.c in
    above_from l (h -ℤ pos 12) x (left_from l (h -ℤ pos 12) c x
    (line_kept (within a.track) a.sense (cross l.dir (displacement l.base c)) h (to_start a) (to_end a) (line_axis l) (displacement c x) (stopped a (line_axis l) is some met)
    (left_over l (h -ℤ pos 8) c a.start start) (left_over l (h -ℤ pos 1) c a.end end) vertex.0 vertex.1))

left_kept : (a : Arc) (l : Line) (h : ℤ) → IsRoute a → 0 < length_squared (line_axis l) → Arrives a (line_axis l) → IsAbove l (h -ℤ pos 8) (scaled a.start) → IsAbove l (h -ℤ pos 1) (scaled a.end)
    → (list : List Pt) → IsDivision a list → EveryChord a.start list (IsAbove l (h -ℤ pos 12))
left_kept a l h is some arrives start end =
    let first = above_tells l (h -ℤ pos 8) a.start start in
    chords_of a (IsAbove l (h -ℤ pos 12)) (is_arc a is) (λ p q r s. λ j k m. above-between l (h -ℤ pos 12) p q j k r s)
    (above_from l (h -ℤ pos 12) a.start (left_weaker l (h -ℤ pos 8) (h -ℤ pos 12) a.start (omega (arith, ints)) first)) (left_vertex a l h is some arrives first (above_tells l (h -ℤ pos 1) a.end end))

-- ---- which way it arrives
line_side_parts : (z a b x y : ℤ) → z *ℤ ((b *ℤ y) -ℤ (neg_ℤ a *ℤ x)) ≡ z *ℤ ((a *ℤ x) +ℤ (b *ℤ y))
line_side_parts z a b x y = rw (as_diff z, as_diff a, as_diff b, as_diff x, as_diff y) (simp differences (diff-same _ _ _ _ (omega arith)))

line_side : (sense : ℤ) (l : Line) (v : Dir) → turned_by sense (line_axis l) v ≡ sense *ℤ dot l.dir v
line_side sense l v = line_side_parts sense l.dir.dx l.dir.dy v.dx v.dy

below_tells : (l : Line) (h : ℤ) (c x : Pt) → IsBelow l h (scaled x) → AtLeast (neg_ℤ (cross l.dir (displacement l.base c) -ℤ dot (line_axis l) (displacement c x))) (neg_ℤ h) (length_squared (line_axis l))
below_tells l h c x is =
    subst (λ n. AtLeast (neg_ℤ (cross l.dir (displacement l.base c) -ℤ dot (line_axis l) (displacement c x))) (neg_ℤ h) n) (sym (axis_length l))
    (subst (λ (z : ℤ). AtLeast (neg_ℤ z) (neg_ℤ h) (length_squared l.dir)) (height_is l c x) (rw (one-times l.base.x, one-times l.base.y, one-times h) at is))

one_more : (h : ℤ) → neg_ℤ (h +ℤ pos 1) ≡ neg_ℤ h -ℤ pos 1
one_more h = omega (arith, ints)

left_away : (a : Arc) (l : Line) (h : ℤ) → IsRoute a → EndsPast a (line_axis l) → IsAbove l (h +ℤ pos 8) (scaled a.start) → IsBelow l (h +ℤ pos 1) (scaled a.end) → Arrives a (line_axis l)
left_away a l h is past far near =
    let t = a.track in
    let c = t.c in
    let end =
    subst (λ (i : ℤ). AtLeast (neg_ℤ (cross l.dir (displacement l.base c) -ℤ dot (line_axis l) (to_end a))) i (length_squared (line_axis l))) (one_more h) (below_tells l (h +ℤ pos 1) c a.end near) in
    away_arrives a (line_axis l) is past
    (line_away (within t) (cross l.dir (displacement l.base c)) h (to_start a) (to_end a) (line_axis l) (within_large t is.track) past.some (nearby t a.start is.track is.start) (on_circle t a.end is.track is.end)
    (left_over l (h +ℤ pos 8) c a.start (above_tells l (h +ℤ pos 8) a.start far)) end)

turn_start : (a : Arc) (l : Line) → turned_by a.sense (line_axis l) (to_start a) ≡ a.sense *ℤ dot (to_start a) l.dir
turn_start a l = line_side a.sense l (to_start a) ∙ ap (λ z. a.sense *ℤ z) (dot_swap l.dir (to_start a))

left_near : (a : Arc) (l : Line) → IsRoute a → EndsPast a (line_axis l) → IsAhead (a.sense *ℤ dot (to_start a) l.dir) (length_squared l.dir) → Arrives a (line_axis l)
left_near a l is past ahead =
    near_arrives a (line_axis l) is past (rw (turn_start a l) ahead.0)
    (far_by (turned_by a.sense (line_axis l) (to_start a)) (a.sense *ℤ dot (to_start a) l.dir) (length_squared (line_axis l)) (length_squared l.dir) (axis_length l) (ap unsigned_abs (turn_start a l)) ahead.1)

-- ---- the contact
by_parts : (z y : ℤ) (n m : ℕ) → z ≡ y → n ≡ m → (y ≤ℤ pos 0) ⊎ (2 * (unsigned_abs y * unsigned_abs y) ≤ m) → (z ≤ℤ pos 0) ⊎ (2 * (unsigned_abs z * unsigned_abs z) ≤ n)
by_parts z y n m e f is = rw (e, f) is

ends_past : (a : Arc) (l : Line) → IsRoute a → 0 < length_squared l.dir → IsFurther l a.track (neg_ℤ a.sense) a.end → EndsPast a (line_axis l)
ends_past a l is some further =
    let ve = to_end a in
    record {
      some = subst (λ n. 0 < n) (sym (axis_length l)) some;
      side =
          by_parts (turned_by a.sense (line_axis l) ve) (a.sense *ℤ dot l.dir ve) (length_squared (line_axis l)) (length_squared l.dir) (line_side a.sense l ve) (axis_length l)
          (past_side a.sense (dot l.dir ve) (length_squared l.dir) further (size_sense a.sense (dot l.dir ve) is.sense));
    }

-- where an arc stays left of a line at whose contact it ends, no point of its chords is more than 12 units past the line
pub line_left : (a : Arc) (l : Line) (h : ℤ) → IsRoute a → 0 < length_squared l.dir → IsFurther l a.track (neg_ℤ a.sense) a.end → IsAbove l (h -ℤ pos 1) (scaled a.end) → IsBelow l (h +ℤ pos 1) (scaled a.end)
    → StartsLeft a l h → (list : List Pt) → IsDivision a list → EveryChord a.start list (IsAbove l (h -ℤ pos 12))
line_left a l h is some further above below start list division = elim start [
  | inl away ↦ told (left_away a l h is past away below) (above_from l (h -ℤ pos 8) a.start (left_weaker l (h +ℤ pos 8) (h -ℤ pos 8) a.start (omega (arith, ints)) (above_tells l (h +ℤ pos 8) a.start away)))
  | inr near ↦ told (left_near a l is past near.1) near.0
]
  where
    past : EndsPast a (line_axis l)
    past = ends_past a l is some further

    told : Arrives a (line_axis l) → IsAbove l (h -ℤ pos 8) (scaled a.start) → EveryChord a.start list (IsAbove l (h -ℤ pos 12))
    told arrives from = left_kept a l h is past.some arrives from above list division

-- ---- the other side: the same line, run the other way
abbrev back_line : Line → Line
back_line l = record { base = l.base; dir = reverse l.dir }

back_height_parts : (a b x y : ℤ) → (neg_ℤ a *ℤ y) -ℤ (neg_ℤ b *ℤ x) ≡ neg_ℤ ((a *ℤ y) -ℤ (b *ℤ x))
back_height_parts a b x y = rw (as_diff a, as_diff b, as_diff x, as_diff y) (simp differences (diff-same _ _ _ _ (omega arith)))

height_back : (l : Line) (s : Scaled) → height (back_line l) s ≡ neg_ℤ (height l s)
height_back l s = back_height_parts l.dir.dx l.dir.dy (displacement_to l.base s).dx (displacement_to l.base s).dy

both_ways : (k h i j : ℤ) (n m : ℕ) → k ≡ h → i ≡ j → n ≡ m → AtLeast k i n ↔ AtLeast h j m
both_ways k h i j n m e f g = rw (e, f, g) (λ is. is, λ is. is)

two_backs : (m lo : ℤ) → m *ℤ lo ≡ neg_ℤ (m *ℤ neg_ℤ lo)
two_backs m lo = rw (*ℤ-neg m lo) (omega (arith, ints))

-- above the one is below the other
above_back : (l : Line) (lo : ℤ) (s : Scaled) → IsAbove (back_line l) lo s ↔ IsBelow l (neg_ℤ lo) s
above_back l lo s =
    both_ways (height (back_line l) s) (neg_ℤ (height l s)) (pos s.m *ℤ lo) (neg_ℤ (pos s.m *ℤ neg_ℤ lo)) (length_squared (back_line l).dir) (length_squared l.dir) (height_back l s) (two_backs (pos s.m) lo) (reverse_length l.dir)

-- and below above
below_back : (l : Line) (hi : ℤ) (s : Scaled) → IsBelow (back_line l) hi s ↔ IsAbove l (neg_ℤ hi) s
below_back l hi s =
    both_ways (neg_ℤ (height (back_line l) s)) (height l s) (neg_ℤ (pos s.m *ℤ hi)) (pos s.m *ℤ neg_ℤ hi) (length_squared (back_line l).dir) (length_squared l.dir)
    (ap neg_ℤ (height_back l s) ∙ double_neg (height l s)) (sym (*ℤ-neg (pos s.m) hi)) (reverse_length l.dir)

every_back : (l : Line) (lo hi : ℤ) (a : Pt) (list : List Pt) → neg_ℤ lo ≡ hi → EveryChord a list (IsAbove (back_line l) lo) → EveryChord a list (IsBelow l hi)
every_back l lo hi a [] same each = tt
every_back l lo hi a (x ∷ xs) same each = (λ j k m. subst (λ (z : ℤ). IsBelow l z (between a x j k)) same ((above_back l lo (between a x j k)).0 (each.0 j k m)), every_back l lo hi x xs same each.1)

from_below : (l : Line) (lo hi : ℤ) (x : Pt) → hi ≡ neg_ℤ lo → IsBelow l hi (scaled x) → IsAbove (back_line l) lo (scaled x)
from_below l lo hi x same is = (above_back l lo (scaled x)).1 (subst (λ (z : ℤ). IsBelow l z (scaled x)) same is)

from_above : (l : Line) (lo hi : ℤ) (x : Pt) → lo ≡ neg_ℤ hi → IsAbove l lo (scaled x) → IsBelow (back_line l) hi (scaled x)
from_above l lo hi x same is = (below_back l hi (scaled x)).1 (subst (λ (z : ℤ). IsAbove l z (scaled x)) same is)

sense_both : (sense k j : ℤ) (n m : ℕ) → j ≡ neg_ℤ k → m ≡ n → HasSense sense k n → HasSense (neg_ℤ sense) j m
sense_both sense k j n m e f (inl ahead) = inl (rw (e, neg-*ℤ-neg sense k) ahead)
sense_both sense k j n m e f (inr short) = inr (rw (e, f, size_neg k) short)

ahead_back : (k j : ℤ) (n m : ℕ) → j ≡ neg_ℤ k → m ≡ n → (k <ℤ pos 0) × (64 * n < square k) → IsAhead j m
ahead_back k j n m e f aback = rw (e, f, size_neg k) (omega (arith, ints, aback.0), aback.1)

turn_back : (a : Arc) (l : Line) → a.sense *ℤ dot (to_start a) (back_line l).dir ≡ neg_ℤ (a.sense *ℤ dot (to_start a) l.dir)
turn_back a l = ap (λ z. a.sense *ℤ z) (dot_swap (to_start a) (reverse l.dir) ∙ dot_reverse l.dir (to_start a) ∙ ap neg_ℤ (dot_swap l.dir (to_start a))) ∙ *ℤ-neg a.sense (dot (to_start a) l.dir)

starts_back : (a : Arc) (l : Line) (h : ℤ) → StartsRight a l h → StartsLeft a (back_line l) (neg_ℤ h)
starts_back a l h (inl away) = inl (from_below l (neg_ℤ h +ℤ pos 8) (h -ℤ pos 8) a.start (omega (arith, ints)) away)
starts_back a l h (inr near) = inr (
  from_below l (neg_ℤ h -ℤ pos 8) (h +ℤ pos 8) a.start (omega (arith, ints)) near.0,
  ahead_back (a.sense *ℤ dot (to_start a) l.dir) (a.sense *ℤ dot (to_start a) (back_line l).dir) (length_squared l.dir) (length_squared (back_line l).dir) (turn_back a l) (reverse_length l.dir) near.1,
)

-- and right of one
pub line_right : (a : Arc) (l : Line) (h : ℤ) → IsRoute a → 0 < length_squared l.dir → IsFurther l a.track a.sense a.end → IsAbove l (h -ℤ pos 1) (scaled a.end) → IsBelow l (h +ℤ pos 1) (scaled a.end)
    → StartsRight a l h → (list : List Pt) → IsDivision a list → EveryChord a.start list (IsBelow l (h +ℤ pos 12))
line_right a l h is some further above below start list division =
    let ve = to_end a in
    let left =
    line_left a (back_line l) (neg_ℤ h) is (subst (λ n. 0 < n) (sym (reverse_length l.dir)) some)
    (sense_both a.sense (dot l.dir ve) (dot (reverse l.dir) ve) (length_squared l.dir) (length_squared (reverse l.dir)) (dot_reverse l.dir ve) (reverse_length l.dir) further)
    (from_below l (neg_ℤ h -ℤ pos 1) (h +ℤ pos 1) a.end (omega (arith, ints)) below) (from_above l (h -ℤ pos 1) (neg_ℤ h +ℤ pos 1) a.end (omega (arith, ints)) above) (starts_back a l h start) list division in
    every_back l (neg_ℤ h -ℤ pos 12) (h +ℤ pos 12) a.start list (omega (arith, ints)) left
