-- A leg is legal exactly where it is legal in numbers.
use Rattle.std.proofs.Common.{refl, ◌≡◌, ◌≢◌, ◌↔◌, ◌∙◌, sym, ap, subst, true≢false, arith, ℕ, zero, suc, ◌*◌, ◌≤◌, ℤ, pos, negsuc, neg_ℤ, ◌+ℤ◌, ◌-ℤ◌, ◌<ℤ◌, Bool, true, false, Option, Some, None, List, [], ◌∷◌, cond}
use Rattle.std.specs.Prelude.{int_lt, int_le, ◌||◌, MatchBool, if◌then◌else◌}
use Rattle.std.specs.Option.{IsNone}
use Rattle.std.proofs.lemmas.Int.{ints}
use Rattle.apt_num.specs.declared.Sign.{Sign}
use Rattle.apt_num.specs.declared.Sign.TheVariants as signs
use Rattle.apt_num.specs.Sign.{square, OnLine, sign_of}
use Rattle.apt_words.specs.declared.Stop.{Stop}
use Rattle.apt_words.specs.declared.Stop.TheVariants as stops
use Rattle.apt_plane.specs.declared.figures.Pt.{Pt}
use Rattle.apt_plane.specs.declared.figures.Dir.{Dir}
use Rattle.apt_plane.specs.declared.figures.Surface.{Surface}
use Rattle.apt_plane.specs.declared.figures.Surface.TheVariants as surfaces
use Rattle.apt_plane.specs.declared.figures.Axis.{Axis}
use Rattle.apt_plane.specs.Vectors.{Scaled, scaled, between, displacement, cross, dot, perp, length_squared}
use Rattle.apt_plane.specs.Distances.{IsOver, IsUnder, InBand}
use Rattle.apt_plane.specs.Axes.{IsOnHalf, IsOnAxis}
use Rattle.apt_plane.proofs.Displacements.{turned_cross, turned_dot, turned_length}
use Rattle.apt_words.specs.Asks.{listed}
use Rattle.apt_words.specs.Options.{◌>>=◌}
use Rattle.apt_canon.specs.Circles.{are_concentric}
use Rattle.apt_offset.specs.Turns.{opposite}
use Rattle.apt_offset.specs.Sides.{times, side_or_left, touch_outside}
use Rattle.apt_offset.specs.Targets.{signed, line_band, circle_band, band_at, offset_surface}
use Rattle.apt_offset.specs.Edges.{IsWithinEdge, widened}
use Rattle.apt_stop.specs.Tangencies.{axis, half_towards, touching_half, tangent_axis}
use Rattle.apt_stop.specs.Courses.{is_tanto}
use Rattle.apt_stop.proofs.Touching.{neg_square}
use Rattle.apt_stop.proofs.Axes.{no_axis}
use Rattle.apt_records.specs.declared.record.Note.{Note}
use Rattle.apt_records.specs.declared.record.Note.TheVariants as notes
use Rattle.apt_records.specs.declared.record.Position.{Position}
use Rattle.apt_records.specs.declared.record.Reach.{Reach}
use Rattle.apt_records.specs.declared.record.Reach.TheVariants as reaches
use Rattle.apt_records.specs.declared.record.Record.{Record}
use Rattle.apt_records.specs.declared.record.Record.TheVariants as records
use Rattle.apt_certify.specs.declared.leg.Leg.{Leg}
use Rattle.apt_certify.specs.Legs.{slack, slack_of, beyond_of, IsBounded, IsWithinSlack, IsOnAxisOrNone}
use Rattle.apt_certify.specs.Legal.{EveryPointFrom, AreInOrder, last_of}
use Rattle.apt_meaning.specs.declared.motion.Motion.{Motion}
use Rattle.apt_meaning.specs.Motions.{drive_side, leg_on}
use Rattle.apt_meaning.specs.Paths.{Drive, Due, Told, nothing_said, with_point, counted, Contour, at_points, motion_said, first_leg, due_behind, cut_on, contour_said, with_note, with_record, record_contours, contours_behind, contours_of, IsLegalCut, EveryContour}
use Rattle.apt_meaning.specs.InNumbers.{larger, Numbers, numbers, IsOff, least_off, IsWithin, inner_margin, past_edge, IsBeside, Touches, IsBoundBy, RunsOnwards, far_edge, IsLegalInNumbers, said_at_check, LegsInNumbers, AreLegalInNumbers}
use Rattle.apt_meaning.proofs.Walks.Alone.{every_split, every_join}

-- a fact of equal numbers
alike : (P : ℤ → Type 0) (a b : ℤ) → a ≡ b → P a ↔ P b
alike P a b e = (subst P e, subst P (sym e))

neg_minus : (x e : ℤ) → neg_ℤ x +ℤ e ≡ neg_ℤ (x -ℤ e)
neg_minus x e = omega (arith, ints)

minus_minus : (r x e : ℤ) → (r -ℤ x) +ℤ e ≡ r -ℤ (x -ℤ e)
minus_minus r x e = omega (arith, ints)

plus_minus : (r x e : ℤ) → (r +ℤ x) -ℤ e ≡ r +ℤ (x -ℤ e)
plus_minus r x e = omega (arith, ints)

-- ---- bands

left_edge : (n : Numbers) (v : Sign) → (line_band v n.radius n.into n.off).lo ≡ least_off n v
left_edge n signs.Plus = refl
left_edge n signs.Minus = omega (arith, ints)
left_edge n signs.Zero = refl

right_edge : (n : Numbers) (v : Sign) → (line_band v n.radius n.into n.off).hi ≡ neg_ℤ (least_off n (opposite v))
right_edge n signs.Plus = omega (arith, ints)
right_edge n signs.Minus = omega (arith, ints)
right_edge n signs.Zero = omega (arith, ints)

inner_edge : (n : Numbers) (r : ℤ) (v : Sign) → (circle_band r v n.radius n.into n.off).lo ≡ r +ℤ least_off n (opposite v)
inner_edge n r signs.Plus = omega (arith, ints)
inner_edge n r signs.Minus = omega (arith, ints)
inner_edge n r signs.Zero = omega (arith, ints)

outer_edge : (n : Numbers) (r : ℤ) (v : Sign) → (circle_band r v n.radius n.into n.off).hi ≡ r -ℤ least_off n v
outer_edge n r signs.Plus = omega (arith, ints)
outer_edge n r signs.Minus = omega (arith, ints)
outer_edge n r signs.Zero = omega (arith, ints)

-- ---- chords

margin_is : (n : Numbers) (r : ℤ) (v : Sign) → (r -ℤ signed v n.radius) -ℤ (circle_band r v n.radius n.into n.off).lo ≡ inner_margin n v
margin_is n r signs.Plus = omega (arith, ints)
margin_is n r signs.Minus = omega (arith, ints)
margin_is n r signs.Zero = omega (arith, ints)

near_axis : (k : ℤ) (n : ℕ) → OnLine k (pos 0) n (pos 8) ↔ (square k ≤ 8 * 8 * n)
near_axis (pos zero) n = (λ on. omega arith, λ near. record { right = tt; left = tt })
near_axis (pos (suc m)) n = (λ on. on.left, λ near. record { right = tt; left = near })
near_axis (negsuc m) n = (λ on. on.right, λ near. record { right = near; left = tt })

-- ---- points

band_is : (n : Numbers) (surface : Surface) (v : Sign) (p : Scaled) → InBand surface (band_at surface v n.radius n.into n.off) p ↔ IsWithin n surface v p
band_is n (surfaces.Line l) v p =
    let low = alike (λ (z : ℤ). IsOver (surfaces.Line l) z p) _ _ (left_edge n v) in
    let high = alike (λ (z : ℤ). IsUnder (surfaces.Line l) z p) _ _ (right_edge n v) in
    (λ h. record { left = low.0 h.lo; right = high.0 h.hi }, λ h. record { lo = low.1 h.left; hi = high.1 h.right })
band_is n (surfaces.Circ c) v p =
    let low = alike (λ (z : ℤ). IsOver (surfaces.Circ c) z p) _ _ (inner_edge n c.r v) in
    let high = alike (λ (z : ℤ). IsUnder (surfaces.Circ c) z p) _ _ (outer_edge n c.r v) in
    (λ h. record { left = high.0 h.hi; right = low.0 h.lo }, λ h. record { lo = low.1 h.right; hi = high.1 h.left })

-- the edge beyond which a leg must not run is as far off as the stop's band is on the side of the leg
edge_is : (n : Numbers) (surface : Surface) (side v : Sign) (e : ℤ) (p : Scaled)
    → IsWithinEdge surface (widened (band_at surface v n.radius n.into n.off) e) (beyond_of surface side) p ↔ IsOff surface side (least_off n (times side v) -ℤ e) p
edge_is n (surfaces.Line l) signs.Plus v e p = let is = left_edge n v in alike (λ (z : ℤ). IsOver (surfaces.Line l) z p) _ _ (ap (λ (z : ℤ). z -ℤ e) is)
edge_is n (surfaces.Line l) signs.Minus v e p = let is = right_edge n v in alike (λ (z : ℤ). IsUnder (surfaces.Line l) z p) _ _ (ap (λ (z : ℤ). z +ℤ e) is ∙ neg_minus (least_off n (opposite v)) e)
edge_is n (surfaces.Line l) signs.Zero v e p = (λ h. tt, λ h. tt)
edge_is n (surfaces.Circ c) signs.Plus v e p = let is = outer_edge n c.r v in alike (λ (z : ℤ). IsUnder (surfaces.Circ c) z p) _ _ (ap (λ (z : ℤ). z +ℤ e) is ∙ minus_minus c.r (least_off n v) e)
edge_is n (surfaces.Circ c) signs.Minus v e p = let is = inner_edge n c.r v in alike (λ (z : ℤ). IsOver (surfaces.Circ c) z p) _ _ (ap (λ (z : ℤ). z -ℤ e) is ∙ plus_minus c.r (least_off n (opposite v)) e)
edge_is n (surfaces.Circ c) signs.Zero v e p = (λ h. tt, λ h. tt)

-- a fact of every point is one of every point that says the same
points_alike : (P Q : Scaled → Type 0) → ((p : Scaled) → P p ↔ Q p) → (a : Pt) (vertices : List Pt) → EveryPointFrom a vertices P ↔ EveryPointFrom a vertices Q
points_alike P Q same a [] = (λ h. tt, λ h. tt)
points_alike P Q same a (b ∷ more) =
    let behind = points_alike P Q same b more in
    (λ h. (λ j k some. (same (between a b j k)).0 (h.0 j k some), behind.0 h.1), λ h. (λ j k some. (same (between a b j k)).1 (h.0 j k some), behind.1 h.1))

-- ---- the axis

half_is : (b : Bool) (k : ℤ) → IsOnHalf (cond b signs.Plus signs.Minus) k ↔ MatchBool b (pos 0 <ℤ k) (k <ℤ pos 0)
half_is true k = (λ h. h, λ h. h)
half_is false k = (λ h. h, λ h. h)

towards_by : (b : Bool) (h k : ℤ) → int_lt h (pos 0) ≡ b → IsOnHalf (opposite (side_or_left (sign_of h))) k ↔ MatchBool b (pos 0 <ℤ k) (k <ℤ pos 0)
towards_by true (pos n) k e = absurd (omega (arith, ints, e))
towards_by true (negsuc n) k e = (λ h. h, λ h. h)
towards_by false (pos zero) k e = (λ h. h, λ h. h)
towards_by false (pos (suc n)) k e = (λ h. h, λ h. h)
towards_by false (negsuc n) k e = absurd (omega (arith, ints, e))

-- square to a direction
beside_turned : (d v : Dir) → OnLine (cross (perp d) v) (pos 0) (length_squared (perp d)) (pos 8) ↔ IsBeside (dot d v) d
beside_turned d v =
    let is : OnLine (neg_ℤ (dot d v)) (pos 0) (length_squared d) (pos 8) ↔ (square (neg_ℤ (dot d v)) ≤ 8 * 8 * length_squared d) = near_axis (neg_ℤ (dot d v)) (length_squared d) in
    rw (turned_cross d v, turned_length d) (rw (neg_square (dot d v)) at is)

both_are : (P Q R S : Type 0) → P ↔ Q → R ↔ S → (P × R) ↔ (Q × S)
both_are P Q R S one two = (λ h. (one.0 h.0, two.0 h.1), λ h. (one.1 h.0, two.1 h.1))

-- on an axis, where there is one
abbrev IsOnOne : Option Axis → Pt → Type 0
IsOnOne None q = ⊥
IsOnOne (Some a) q = IsOnAxis a q

unless_none : (b : Bool) (P : Type 0) (a : Axis) (q : Pt) → IsNone (if b then None else Some a) ↔ P → IsOnOne (if b then None else Some a) q ↔ ((¬ P) × IsOnAxis a q)
unless_none true P a q tells = (λ h. absurd h, λ h. absurd (h.0 (tells.0 refl)))
unless_none false P a q tells = (λ h. (λ p. absurd (true≢false (tells.1 p)), h), λ h. h.1)

touches_is : (drive check : Surface) (q : Pt) → IsOnOne (tangent_axis drive check) q ↔ Touches drive check q
touches_is (surfaces.Line l) (surfaces.Line k) q = (λ h. h, λ h. h)
touches_is (surfaces.Line l) (surfaces.Circ d) q =
    let is = beside_turned l.dir (displacement d.c q) in
    (λ h. is.0 h.0, λ h. (is.1 h, tt))
touches_is (surfaces.Circ c) (surfaces.Line k) q =
    let v = displacement c.c q in
    let out = cross k.dir (displacement k.base c.c) in
    let half : IsOnHalf (half_towards k c) (dot (perp k.dir) v) ↔ MatchBool (int_lt out (pos 0)) (pos 0 <ℤ cross k.dir v) (cross k.dir v <ℤ pos 0) =
    rw (turned_dot k.dir v) (towards_by (int_lt out (pos 0)) out (cross k.dir v) refl) in
    both_are _ _ _ _ (beside_turned k.dir v) half
touches_is (surfaces.Circ c) (surfaces.Circ d) q =
    let way = displacement c.c d.c in
    let v = displacement c.c q in
    let a = axis c.c way (touching_half c d) in
    let on : IsOnAxis a q ↔ (IsBeside (cross way v) way × MatchBool (touch_outside c d || int_le d.r c.r) (pos 0 <ℤ dot way v) (dot way v <ℤ pos 0)) =
    both_are _ _ _ _ (near_axis (cross way v) (length_squared way)) (half_is (touch_outside c d || int_le d.r c.r) (dot way v)) in
    let one = unless_none (are_concentric c d) (c.c ≡ d.c) a q (no_axis (tangent_axis (surfaces.Circ c) (surfaces.Circ d)) (surfaces.Circ c) (surfaces.Circ d) refl) in
    (λ h. let parts = on.0 (one.0 h).1 in ((one.0 h).0, parts.0, parts.1), λ h. one.1 (h.0, on.1 (h.1, h.2)))

-- ---- a leg

order_is : (leg : Leg) (start a : Pt) (vertices : List Pt) → AreInOrder leg start a vertices ↔ RunsOnwards leg.drive leg.sense start a vertices
order_is leg start a [] = (λ h. tt, λ h. tt)
order_is leg start a (b ∷ more) =
    let behind = order_is leg start b more in
    (λ h. (h.0, behind.0 h.1), λ h. (h.0, behind.1 h.1))

slack_is : (n : Numbers) (drive : Surface) (v : Sign) (check : Surface) (side : Sign)
    → slack drive check (beyond_of check side) (offset_surface drive v n.radius) (band_at drive v n.radius n.into n.off) ≡ past_edge n drive v check side
slack_is n (surfaces.Line l) v (surfaces.Line k) side = refl
slack_is n (surfaces.Line l) v (surfaces.Circ d) side = refl
slack_is n (surfaces.Circ c) v (surfaces.Line k) side = refl
slack_is n (surfaces.Circ c) v (surfaces.Circ d) signs.Plus = refl
slack_is n (surfaces.Circ c) v (surfaces.Circ d) signs.Minus = ap (λ (z : ℤ). pos 4 +ℤ z) (margin_is n c.r v)
slack_is n (surfaces.Circ c) v (surfaces.Circ d) signs.Zero = refl

some_side : (leg : Leg) (s : Sign) → IsBounded (record leg { beyond = s; axis = None }) ↔ (s ≢ signs.Zero)
some_side leg signs.Plus = (λ h. λ e. absurd cc, λ h. tt)
some_side leg signs.Minus = (λ h. λ e. absurd cc, λ h. tt)
some_side leg signs.Zero = (λ h. absurd h, λ h. h refl)

beyond_there : (check : Surface) (side : Sign) → (beyond_of check side ≢ signs.Zero) ↔ (side ≢ signs.Zero)
beyond_there (surfaces.Line l) signs.Plus = (λ h. λ e. absurd cc, λ h. λ e. absurd cc)
beyond_there (surfaces.Line l) signs.Minus = (λ h. λ e. absurd cc, λ h. λ e. absurd cc)
beyond_there (surfaces.Line l) signs.Zero = (λ h. h, λ h. h)
beyond_there (surfaces.Circ c) side = (λ h. h, λ h. h)

none_beyond : (check : Surface) → beyond_of check signs.Zero ≡ signs.Zero
none_beyond (surfaces.Line l) = refl
none_beyond (surfaces.Circ c) = refl

on_one : (leg : Leg) (o : Option Axis) (q : Pt) → (IsBounded (record leg { beyond = signs.Zero; axis = o }) × IsOnAxisOrNone o q) ↔ IsOnOne o q
on_one leg None q = (λ h. h.0, λ h. absurd h)
on_one leg (Some a) q = (λ h. h.1, λ h. (tt, h))

abbrev axis_by : Stop → Surface → Surface → Option Axis
axis_by how drive check = if is_tanto how then tangent_axis drive check else None

abbrev IsBoundLeg : Leg → Stop → Surface → Surface → Sign → Pt → Type 0
IsBoundLeg leg how drive check side q = IsBounded (record leg { beyond = beyond_of check side; axis = axis_by how drive check }) × IsOnAxisOrNone (axis_by how drive check) q

on_side : (leg : Leg) (check : Surface) (side : Sign) → (IsBounded (record leg { beyond = beyond_of check side; axis = None }) × Unit {0}) ↔ (side ≢ signs.Zero)
on_side leg check side =
    let is = some_side leg (beyond_of check side) in
    let there = beyond_there check side in
    (λ h. there.0 (is.0 h.0), λ h. (is.1 (there.1 h), tt))

touching : (leg : Leg) (drive check : Surface) (q : Pt) (edge : Sign) → edge ≡ signs.Zero
    → (IsBounded (record leg { beyond = edge; axis = tangent_axis drive check }) × IsOnAxisOrNone (tangent_axis drive check) q) ↔ Touches drive check q
touching leg drive check q edge e =
    let one = on_one leg (tangent_axis drive check) q in
    let is = touches_is drive check q in
    rw e (λ h. is.0 (one.0 h), λ h. one.1 (is.1 h))

bound_is : (leg : Leg) (how : Stop) (drive check : Surface) (side : Sign) (q : Pt) → (how ≡ stops.Tanto → side ≡ signs.Zero) → IsBoundLeg leg how drive check side q ↔ IsBoundBy how drive check side q
bound_is leg stops.To drive check side q none = on_side leg check side
bound_is leg stops.On drive check side q none = on_side leg check side
bound_is leg stops.Past drive check side q none = on_side leg check side
bound_is leg stops.Tanto drive check side q none = touching leg drive check q (beyond_of check side) (ap (beyond_of check) (none refl) ∙ none_beyond check)

-- the numbers of a motion
abbrev numbers_of : Motion → Numbers
numbers_of m = record { radius = m.radius; into = m.inner; off = m.outer }

-- a leg that touches its check surface has no side of it
abbrev IsSided : Motion → Sign → Type 0
IsSided m side = m.how ≡ stops.Tanto → side ≡ signs.Zero

legal_is : (c : Contour) → IsSided c.motion c.side → IsLegalCut c ↔ IsLegalInNumbers (numbers_of c.motion) c
legal_is c sided =
    let m = c.motion in
    let n = numbers_of m in
    let v = drive_side m in
    let leg = leg_on m c.side in
    let start = m.start.xy in
    let end = last_of start c.vertices in
    let order = order_is leg start start c.vertices in
    let band = points_alike (InBand m.drive leg.band) (IsWithin n m.drive v) (band_is n m.drive v) start c.vertices in
    let edge =
    points_alike (IsWithinSlack leg leg.beyond) (IsOff m.check c.side (far_edge n c))
    (λ p. rw (sym (slack_is n m.drive v m.check c.side)) (edge_is n m.check c.side m.check_side (slack_of leg) p)) start c.vertices in
    let stop = band_is n m.check m.check_side (scaled end) in
    let bound = bound_is leg m.how m.drive m.check c.side end sided in (
      λ h. record {
        moves = h.legal.moves;
        order = order.0 h.legal.order;
        band = band.0 h.legal.band;
        edge = edge.0 h.legal.edge;
        ends = stop.0 h.legal.stop;
        bound = bound.0 (h.bounded, h.legal.axis);
      },
      λ h.
          let by = bound.1 h.bound in record {
            bounded = by.0;
            legal = record {
              moves = h.moves;
              order = order.1 h.order;
              band = band.1 h.band;
              edge = edge.1 h.edge;
              stop = stop.1 h.ends;
              axis = by.1;
            };
          },
    )

-- ---- the legs of a CL file

-- the leg that is due has the numbers that were said in front of its check record
record IsSaid (before : Told) (d : Due) : Type 0 where
  numbers : numbers_of d.motion ≡ numbers before
  sided : IsSided d.motion d.side

abbrev IsSaidOrNone : Told → Option Due → Type 0
IsSaidOrNone before None = Unit {0}
IsSaidOrNone before (Some d) = IsSaid before d

counted_is : (t : ℤ) → counted t ≡ larger t (pos 8)
counted_is t = grind (arith, ints)

said_first : (s : Told) (start : Position) (drive : Drive) (check : Surface) (how : Stop) → IsSaid s (first_leg (motion_said s start drive check how))
said_first s start drive check how = record { numbers = rw (counted_is s.intol, counted_is s.outtol) refl; sided = λ e. rw e refl }

due_first : (s : Told) (p : Option Position) (d : Option Drive) (check : Surface) (how : Stop)
    → IsSaidOrNone s (p >>= λ start. d >>= λ drive. Some (first_leg (motion_said s start drive check how)))
due_first s None d check how = tt
due_first s (Some start) None check how = tt
due_first s (Some start) (Some drive) check how = said_first s start drive check how

due_next : (before : Told) (o : Option Due) (vertices : List Position) → IsSaidOrNone before o → IsSaidOrNone before (due_behind o vertices)
due_next before None vertices is = tt
due_next before (Some d) vertices is = record { numbers = is.numbers; sided = λ e. ap opposite (is.sided e) }

note_due : (s : Told) (note : Note) → (with_note s note).due ≡ s.due
note_due s (notes.Partno text) = refl
note_due s (notes.Units units) = refl
note_due s (notes.Cutter d) = refl
note_due s (notes.Intol t) = refl
note_due s (notes.Outtol t) = refl
note_due s (notes.Feed f) = refl
note_due s (notes.Do command) = refl
note_due s notes.Rapid = refl
note_due s notes.End = refl
note_due s notes.Fini = refl

point_due : (s : Told) (reach : Reach) (to : Position) → (with_point s reach to).due ≡ s.due
point_due s reaches.From to = refl
point_due s reaches.Goto to = refl
point_due s reaches.Godlta to = refl
point_due s reaches.Start to = refl

due_is : (before s : Told) (r : Record) → IsSaidOrNone before s.due → IsSaidOrNone (said_at_check before s r) (with_record s r).due
due_is before s (records.Statement line step) is = is
due_is before s (records.Note note) is = rw (note_due s note) is
due_is before s (records.Drive surface side sense) is = is
due_is before s (records.Check surface how) is = due_first s s.position s.drive surface how
due_is before s (records.Point reach to) is = rw (point_due s reach to) is
due_is before s (records.Contour vertices) is = due_next before s.due vertices is

leg_is : (before : Told) (o : Option Due) (vertices : List Position) → IsSaidOrNone before o
    → EveryContour IsLegalCut (listed (contour_said o vertices)) ↔ EveryContour (IsLegalInNumbers (numbers before)) (listed (contour_said o vertices))
leg_is before None vertices is = (λ h. tt, λ h. tt)
leg_is before (Some d) vertices is =
    let c = cut_on d (at_points vertices) in
    let legal : IsLegalCut c ↔ IsLegalInNumbers (numbers before) c = subst (λ (n : Numbers). IsLegalCut c ↔ IsLegalInNumbers n c) is.numbers (legal_is c is.sided) in
    (λ h. (legal.0 h.0, tt), λ h. (legal.1 h.0, tt))

record_legs : (before s : Told) (r : Record) → IsSaidOrNone before s.due → EveryContour IsLegalCut (record_contours s r) ↔ EveryContour (IsLegalInNumbers (numbers before)) (record_contours s r)
record_legs before s (records.Statement line step) is = (λ h. h, λ h. h)
record_legs before s (records.Note note) is = (λ h. h, λ h. h)
record_legs before s (records.Drive surface side sense) is = (λ h. h, λ h. h)
record_legs before s (records.Check surface how) is = (λ h. h, λ h. h)
record_legs before s (records.Point reach to) is = (λ h. h, λ h. h)
record_legs before s (records.Contour vertices) is = leg_is before s.due vertices is

legs_are : (before s : Told) (rs : List Record) → IsSaidOrNone before s.due → EveryContour IsLegalCut (contours_behind s rs) ↔ LegsInNumbers before s rs
legs_are before s [] is = (λ h. h, λ h. h)
legs_are before s (r ∷ rs) is =
    let first = record_legs before s r is in
    let behind = legs_are (said_at_check before s r) (with_record s r) rs (due_is before s r is) in
    let cs = record_contours s r in
    let more = contours_behind (with_record s r) rs in (
      λ h.
          let parts = every_split IsLegalCut cs more h in (first.0 parts.0, behind.0 parts.1),
      λ h. every_join IsLegalCut cs more (first.1 h.0) (behind.1 h.1),
    )

-- the legs that records say are legal exactly where they are so in numbers
pub legal_in_numbers : (rs : List Record) → EveryContour IsLegalCut (contours_of rs) ↔ AreLegalInNumbers rs
legal_in_numbers rs = legs_are nothing_said nothing_said rs tt
