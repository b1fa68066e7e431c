-- The arc that a control cuts for a legal leg: every point of it is in the band of the drive surface, and past the edge of the stop by at most the slack and the width of that band; and its start, its end and its centre are three points.
use Rattle.std.proofs.Common.{◌≡◌, ◌≢◌, ◌⊎◌, inl, inr, ℕ, ◌+◌, ◌-◌, ◌*◌, ◌≤◌, ◌<◌, ◌∙◌, sym, subst, arith, ℤ, pos, ◌+ℤ◌, ◌-ℤ◌, ◌*ℤ◌, ◌≤ℤ◌, ◌<ℤ◌, unsigned_abs, List, [], ◌∷◌}
use Rattle.std.proofs.Math.Nat.{mul-le-mul_left}
use Rattle.std.proofs.lemmas.Int.{ints}
use Rattle.std.proofs.lemmas.Nat.{mul-lt}
use Rattle.apt_num.specs.declared.Sign.{Sign}
use Rattle.apt_num.specs.declared.Sign.TheVariants as signs
use Rattle.apt_num.proofs.Squares.{natural, root_le, size_back, part_short}
use Rattle.apt_plane.specs.declared.figures.Pt.{Pt}
use Rattle.apt_plane.specs.declared.figures.Dir.{Dir}
use Rattle.apt_plane.specs.declared.figures.Circ.{Circ}
use Rattle.apt_plane.specs.declared.figures.Surface.{Surface}
use Rattle.apt_plane.specs.declared.figures.Surface.TheVariants as surfaces
use Rattle.apt_plane.specs.declared.figures.Band.{Band}
use Rattle.apt_plane.specs.Vectors.{Scaled, scaled, between, displacement, displacement_to, length_squared}
use Rattle.apt_plane.specs.Ranges.{IsSense}
use Rattle.apt_plane.specs.Distances.{IsOver, IsUnder, InBand, about}
use Rattle.apt_plane.specs.Order.{turn_class, ComesBefore}
use Rattle.apt_plane.specs.Sweeps.{IsInTurn, LiesBetween, IsOnSweep}
use Rattle.apt_plane.proofs.Displacements.{between_part, no_way}
use Rattle.apt_plane.proofs.Turned.{turned_by}
use Rattle.apt_plane.proofs.SegmentLaws.{at_start}
use Rattle.apt_plane.proofs.Around.{class_of_start}
use Rattle.apt_plane.proofs.Apart.{AreNear, over_near, under_near}
use Rattle.apt_plane.proofs.OneRay.{IsInRing, IsOnRayOf, near_on_ray}
use Rattle.apt_plane.proofs.Cones.{cone_dx, cone_dy}
use Rattle.apt_offset.specs.Edges as edges
use Rattle.apt_offset.specs.Edges.{widened}
use Rattle.apt_certify.specs.declared.leg.Leg.{Leg}
use Rattle.apt_certify.specs.Legs.{slack_of}
use Rattle.apt_certify.specs.Legal.{last_of, IsLegal}
use Rattle.apt_certify.specs.Keeping.{innermost, IsWithinBy, sweep_of, StaysBy, IsThree}
use Rattle.apt_certify.proofs.Chords.{HasChord, has_chord, ends_of, at_last}
use Rattle.apt_certify.proofs.RingBands.{high_of, outer_plus, IsRingBand, in_ring, of_ring, one_long, ring_band, width_is, in_band, to_band}

-- ---- a point between the two ends' distances is in the ring of both
low_between : (m l n a b : ℕ) → LiesBetween (m * m * a) (m * m * b) n → l * l ≤ a → l * l ≤ b → m * m * (l * l) ≤ n
low_between m l n a b is p q = elim is.0 [ inl h ↦ omega (arith, h, mul-le-mul_left (m * m) p) | inr h ↦ omega (arith, h, mul-le-mul_left (m * m) q) ]

high_between : (m h n a b : ℕ) → LiesBetween (m * m * a) (m * m * b) n → a ≤ h * h → b ≤ h * h → n ≤ m * m * (h * h)
high_between m h n a b is p q = elim is.1 [ inl g ↦ omega (arith, g, mul-le-mul_left (m * m) p) | inr g ↦ omega (arith, g, mul-le-mul_left (m * m) q) ]

some_between : (m n a b : ℕ) → 0 < m → LiesBetween (m * m * a) (m * m * b) n → 0 < a → 0 < b → 0 < n
some_between m n a b some is p q = elim is.0 [
  | inl h ↦ omega (arith, h, mul-lt 0 0 (m * m) a (omega (arith, mul-lt 0 0 m m some some)) p)
  | inr h ↦ omega (arith, h, mul-lt 0 0 (m * m) b (omega (arith, mul-lt 0 0 m m some some)) q)
]

one_low : (c p : Pt) (l h : ℕ) → IsInRing c l h (scaled p) → l * l ≤ length_squared (displacement c p)
one_low c p l h ring = omega (arith, ring.low, one_long c p)

one_high : (c p : Pt) (l h : ℕ) → IsInRing c l h (scaled p) → length_squared (displacement c p) ≤ h * h
one_high c p l h ring = omega (arith, ring.high, one_long c p)

-- ---- the point of the chord on the ray
onto : (k j a b q v p : ℤ) → k ≡ pos (unsigned_abs k) → j ≡ pos (unsigned_abs j) → q ≡ pos (unsigned_abs q) → p ≡ (pos (unsigned_abs k) *ℤ a) +ℤ (pos (unsigned_abs j) *ℤ b) → (k *ℤ a) +ℤ (j *ℤ b) ≡ q *ℤ v
    → p ≡ pos (unsigned_abs q) *ℤ v
onto k j a b q v p e f g at cone = at ∙ rw (← e, ← f, ← g) cone

some_of : (j k : ℤ) → pos 0 ≤ℤ j → pos 0 ≤ℤ k → (pos 0 <ℤ j) ⊎ (pos 0 <ℤ k) → 0 < unsigned_abs j + unsigned_abs k
some_of j k p q (inl h) = omega (arith, ints, p, q, h)
some_of j k p q (inr h) = omega (arith, ints, p, q, h)

abbrev chord_point : (leg : Leg) (c : Pt) (v : Dir) → HasChord leg c v → Scaled
chord_point leg c v chord =
    between chord.p chord.q (unsigned_abs (turned_by leg.sense (displacement c chord.p) v)) (unsigned_abs (turned_by leg.sense v (displacement c chord.q)))

on_ray : (leg : Leg) (c : Pt) (x : Scaled) (chord : HasChord leg c (displacement_to c x))
    → IsOnRayOf c (unsigned_abs (turned_by leg.sense (displacement c chord.p) (displacement c chord.q))) x (chord_point leg c (displacement_to c x) chord)
on_ray leg c x chord =
    let v = displacement_to c x in
    let a = displacement c chord.p in
    let b = displacement c chord.q in
    let j = turned_by leg.sense a v in
    let k = turned_by leg.sense v b in
    let q = turned_by leg.sense a b in
    let e = natural k chord.cone.before in
    let f = natural j chord.cone.behind in
    let g = natural q (omega (arith, ints, chord.turns)) in
    record {
      at_x = onto k j a.dx b.dx q v.dx _ e f g (between_part c.x chord.p.x chord.q.x (unsigned_abs j) (unsigned_abs k)) (cone_dx leg.sense a b v);
      at_y = onto k j a.dy b.dy q v.dy _ e f g (between_part c.y chord.p.y chord.q.y (unsigned_abs j) (unsigned_abs k)) (cone_dy leg.sense a b v);
    }

-- ---- an edge
widened_lo : (b s w : ℤ) → (b -ℤ s) -ℤ w ≡ b -ℤ (s +ℤ w)
widened_lo b s w = omega (arith, ints)

widened_hi : (b s w : ℤ) → (b +ℤ s) +ℤ w ≡ b +ℤ (s +ℤ w)
widened_hi b s w = omega (arith, ints)

edge_near : (check : Surface) (stop : Band) (slack : ℤ) (sign : Sign) (w : ℕ) (y x : Scaled) → AreNear w y x → edges.IsWithinEdge check (widened stop slack) sign y
    → edges.IsWithinEdge check (widened stop (slack +ℤ pos w)) sign x
edge_near check stop slack signs.Plus w y x near is = subst (λ (z : ℤ). IsUnder check z x) (widened_hi stop.hi slack (pos w)) (under_near check (stop.hi +ℤ slack) w y x near is)
edge_near check stop slack signs.Minus w y x near is = subst (λ (z : ℤ). IsOver check z x) (widened_lo stop.lo slack (pos w)) (over_near check (stop.lo -ℤ slack) w y x near is)
edge_near check stop slack signs.Zero w y x near is = tt

-- ---- the arc
not_after : (s : Dir) (sense : ℤ) (e v : Dir) → IsInTurn s sense e v → ¬ ComesBefore s sense e v
not_after s sense e v (inr turn) = turn.1
not_after s sense e v (inl same) = λ comes. elim comes [ inl less ↦ omega (arith, less, same) | inr alike ↦ elim alike.1 [ inl one ↦ omega (arith, alike.0, one, same) | inr three ↦ omega (arith, alike.0, three, same) ] ]

-- what a chord's point tells of a point on its ray
by_chord : (leg : Leg) (d : Circ) (x : Scaled) (l w : ℕ) → leg.drive ≡ surfaces.Circ d → IsRingBand leg.band l w → IsInRing d.c l (l + w) x → HasChord leg d.c (displacement_to d.c x) → StaysBy leg x
by_chord leg d x l w e is ring chord =
    let j = unsigned_abs (turned_by leg.sense (displacement d.c chord.p) (displacement_to d.c x)) in
    let k = unsigned_abs (turned_by leg.sense (displacement_to d.c x) (displacement d.c chord.q)) in
    let some : 0 < j + k = some_of (turned_by leg.sense (displacement d.c chord.p) (displacement_to d.c x)) (turned_by leg.sense (displacement_to d.c x) (displacement d.c chord.q)) chord.cone.behind chord.cone.before chord.cone.some in
    let y = between chord.p chord.q j k in
    let band = in_band leg d y e (chord.band j k some) in
    let near : AreNear w y x = near_on_ray d.c l w (unsigned_abs (turned_by leg.sense (displacement d.c chord.p) (displacement d.c chord.q))) x y ring (in_ring d.c leg.band l w y is some band.0 band.1) (on_ray leg d.c x chord) in
    record {
      band = to_band leg d x e (of_ring d.c leg.band l w x is ring);
      edge =
          subst (λ (z : ℤ). IsWithinBy z leg x) (sym (width_is leg.band l w is))
          (edge_near leg.check leg.stop_band (slack_of leg) leg.beyond w y x near (chord.edge j k some));
    }

within : (leg : Leg) (d : Circ) (start b : Pt) (more : List Pt) → leg.drive ≡ surfaces.Circ d → IsSense leg.sense → IsLegal leg start (b ∷ more)
    → (x : Scaled) → IsOnSweep (sweep_of d.c leg.sense start (b ∷ more)) x → StaysBy leg x
within leg d start b more e is legal x on =
    let end = last_of b more in
    let first = in_band leg d (scaled start) e (at_start (InBand leg.drive leg.band) start b legal.band.0) in
    let last = in_band leg d (scaled end) e (at_last (InBand leg.drive leg.band) start b more legal.band) in
    let ring = ring_band d.c start leg.band first.0 first.1 in
    let l = innermost leg.band.lo in
    let w = unsigned_abs leg.band.hi - innermost leg.band.lo in
    let at_first = in_ring d.c leg.band l w (scaled start) ring (omega arith) first.0 first.1 in
    let at_end = in_ring d.c leg.band l w (scaled end) ring (omega arith) last.0 last.1 in
    let inside : IsInRing d.c l (l + w) x = record {
      some = on.some;
      low = low_between x.m l (length_squared (displacement_to d.c x)) (length_squared (displacement d.c start)) (length_squared (displacement d.c end)) on.between (one_low d.c start l (l + w) at_first) (one_low d.c end l (l + w) at_end);
      high = high_between x.m (l + w) (length_squared (displacement_to d.c x)) (length_squared (displacement d.c start)) (length_squared (displacement d.c end)) on.between (one_high d.c start l (l + w) at_first) (one_high d.c end l (l + w) at_end);
    } in
    let ends = ends_of leg d start b more e is legal.order in
    let some : 0 < length_squared (displacement_to d.c x) = some_between x.m (length_squared (displacement_to d.c x)) (length_squared (displacement d.c start)) (length_squared (displacement d.c end)) on.some on.between ends.0 ends.1.some in
    let none = not_after (displacement d.c start) leg.sense (displacement d.c end) (displacement_to d.c x) on.turn in
    by_chord leg d x l w e ring inside (has_chord leg d start b more (displacement_to d.c x) e is some legal.order legal.band legal.edge none)

pub arc_within : (leg : Leg) (d : Circ) (start : Pt) (vertices : List Pt) → leg.drive ≡ surfaces.Circ d → IsSense leg.sense → IsLegal leg start vertices
    → (x : Scaled) → IsOnSweep (sweep_of d.c leg.sense start vertices) x → StaysBy leg x
arc_within leg d start [] e is legal x on = absurd legal.moves
arc_within leg d start (b ∷ more) e is legal x on = within leg d start b more e is legal x on

-- ---- its start, its end and its centre
off_centre : (c p : Pt) → 0 < length_squared (displacement c p) → p ≢ c
off_centre c p some = λ same. omega (arith, some, no_way c p (sym same))

turned_off : (c p q : Pt) (sense : ℤ) → 0 < length_squared (displacement c p) → turn_class (displacement c p) sense (displacement c q) ≢ 0 → p ≢ q
turned_off c p q sense some onwards = λ same. onwards (subst (λ (r : Pt). turn_class (displacement c p) sense (displacement c r) ≡ 0) same (class_of_start sense (displacement c p) some))

other_short : (a b h : ℕ) → a * a + b * b ≤ h * h → b ≤ h
other_short a b h le = root_le b h (omega (arith, le))

three_of : (leg : Leg) (d : Circ) (start b : Pt) (more : List Pt) → leg.drive ≡ surfaces.Circ d → IsSense leg.sense → IsLegal leg start (b ∷ more)
    → IsThree (unsigned_abs leg.band.hi) (sweep_of d.c leg.sense start (b ∷ more))
three_of leg d start b more e is legal =
    let ends = ends_of leg d start b more e is legal.order in
    let band = in_band leg d (scaled start) e (at_start (InBand leg.drive leg.band) start b legal.band.0) in
    let h = unsigned_abs leg.band.hi in
    let high : length_squared (displacement d.c start) ≤ h * h = omega (arith, one_long d.c start, high_of d.c h (scaled start) (subst (λ (z : ℤ). IsUnder (about d.c) z (scaled start)) (outer_plus d.c leg.band.hi (scaled start) (omega arith) band.1) band.1)) in
    record {
      start_off = off_centre d.c start ends.0;
      end_off = off_centre d.c (last_of b more) ends.1.some;
      apart = turned_off d.c start (last_of b more) leg.sense ends.0 ends.1.onwards;
      way_x = subst (λ n. n ≤ h) (size_back start.x d.c.x) (part_short (unsigned_abs (start.x -ℤ d.c.x)) (unsigned_abs (start.y -ℤ d.c.y)) h high);
      way_y = subst (λ n. n ≤ h) (size_back start.y d.c.y) (other_short (unsigned_abs (start.x -ℤ d.c.x)) (unsigned_abs (start.y -ℤ d.c.y)) h high);
    }

pub arc_three : (leg : Leg) (d : Circ) (start : Pt) (vertices : List Pt) → leg.drive ≡ surfaces.Circ d → IsSense leg.sense → IsLegal leg start vertices
    → IsThree (unsigned_abs leg.band.hi) (sweep_of d.c leg.sense start vertices)
arc_three leg d start [] e is legal = absurd legal.moves
arc_three leg d start (b ∷ more) e is legal = three_of leg d start b more e is legal
