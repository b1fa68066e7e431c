-- The vertices of an arc from its start to its end: each step turns onwards by less than a quarter, comes after the one before, and lies inside of the band.
use Rattle.std.proofs.Common.{refl, ◌≡◌, inl, inr, ℕ, zero, suc, ◌+◌, ◌*◌, ◌≤◌, ◌<◌, ap, sym, subst, arith, List, [], ◌∷◌, ◌++◌, ℤ, pos, ◌+ℤ◌, ◌*ℤ◌, ◌<ℤ◌, ◌≤ℤ◌, unsigned_abs}
use Rattle.std.proofs.Math.Nat.{mul-le-mul_left}
use Rattle.std.proofs.lemmas.Nat.{mul-le}
use Rattle.std.proofs.lemmas.Int.{ints}
use Rattle.apt_plane.specs.declared.figures.Pt.{Pt}
use Rattle.apt_plane.specs.declared.figures.Dir.{Dir}
use Rattle.apt_plane.specs.declared.figures.Circ.{Circ}
use Rattle.apt_plane.specs.Vectors.{scaled, between, displacement, displacement_to, dot, length_squared}
use Rattle.apt_plane.specs.Distances.{IsLengthAtMost, IsUnder, about}
use Rattle.apt_plane.specs.Ranges.{IsSense}
use Rattle.apt_plane.specs.Order.{turn_class, ComesBefore}
use Rattle.apt_plane.proofs.Heights.{one-times}
use Rattle.apt_plane.proofs.Displacements.{stewart}
use Rattle.apt_plane.proofs.RingLaws.{length_at_most, under-between}
use Rattle.apt_plane.proofs.Around.{before_between, before_from_start, class_of_start}
use Rattle.apt_canon.specs.Scale.{IsNearCircle}
use Rattle.apt_arc.specs.declared.arc.Arc.{Arc}
use Rattle.apt_arc.specs.Ranges.{IsTrack, IsSag, IsPiece, ArePieces, IsArc}
use Rattle.apt_arc.specs.Cuts.{IsClear, middle, IsCut, AreCuts}
use Rattle.apt_arc.specs.Quarters.{IsQuarterPoint, IsOnTheWay, Each, AreInOrder}
use Rattle.apt_arc.specs.Steps.{IsStep, IsInside, AreSteps}
use Rattle.apt_arc.specs.Divisions.{IsDivision}
use Rattle.apt_arc.specs.Made.{quarters, stations, vertices, divided}
use Rattle.apt_arc.proofs.Spans.{chord_is}
use Rattle.apt_arc.proofs.Lists.{is_false}
use Rattle.apt_arc.proofs.Tracks.{within, within_large, radius_is, nearby, half_pieces, sag_parts, chord_length}
use Rattle.apt_arc.proofs.Depth.{all_cuts}
use Rattle.apt_arc.proofs.Parts.{quarters_divide}
use Rattle.apt_plane.proofs.Nearby.{some_length}

-- ---- a chord that is clear turns by less than a quarter
ahead_core : (p q v A B D X h : ℕ) → 1 * 1 * D + X ≡ (1 + 1) * (1 * A + 1 * B) → D + 2 * h ≡ A + B → A ≤ (p + 6) * (p + 6) → B ≤ (p + 6) * (p + 6)
    → (1 + 1) * (1 + 1) * (q * q) ≤ X → q + v ≡ p → 3 * v + 9 ≤ q → 97 ≤ p → 0 < h
ahead_core p q v A B D X h e f a b clear whole long least =
    let wide : 3 * (p + 3) ≤ 4 * q = omega (arith, whole, long) in
    omega (arith, e, f, a, b, clear, mul-le (3 * (p + 3)) (3 * (p + 3)) (4 * q) (4 * q) wide wide, mul-le-mul_left p least, least)

ahead_of : (z : ℤ) → pos 0 ≤ℤ z → 0 < unsigned_abs z → pos 0 <ℤ z
ahead_of z h g = omega (arith, ints, h, g)

pub clear_ahead : (t : Circ) (sag sense : ℤ) (a b : Pt) → IsTrack t → IsSag t sag → IsPiece t sense a b → IsClear t sag a b → pos 0 <ℤ dot (displacement t.c a) (displacement t.c b)
clear_ahead t sag sense a b is fits piece clear =
    let p = within t in
    let va = displacement t.c a in
    let vb = displacement t.c b in
    let split = sag_parts t.r sag p (radius_is t is) fits.least fits.most in
    let X = length_squared (displacement_to t.c (between a b 1 1)) in
    let over = (length_at_most (1 + 1) split.0 X).0 (subst (λ (z : ℤ). IsLengthAtMost (pos (1 + 1) *ℤ z) X) split.2 (clear 1 1 (omega arith))) in
    let whole : length_squared (displacement a b) + 2 * unsigned_abs (dot va vb) ≡ length_squared va + length_squared vb =
    subst (λ n. n + 2 * unsigned_abs (dot va vb) ≡ length_squared va + length_squared vb) (chord_length t.c a b) (chord_is va vb piece.ahead) in
    ahead_of (dot va vb) piece.ahead
    (ahead_core p split.0 split.1 (length_squared va) (length_squared vb) (length_squared (displacement a b)) X (unsigned_abs (dot va vb)) (stewart t.c a b 1 1) whole
    (nearby t a is piece.start).high (nearby t b is piece.end).high over split.4 split.6 (within_large t is))

-- ---- and lies at most three units outside
under_edge : (t : Circ) (a : Pt) → IsNearCircle t (pos 3) a → IsUnder (about t.c) (t.r +ℤ pos 3) (scaled a)
under_edge t a near = rw (one-times t.c.x, one-times t.c.y, one-times (t.r +ℤ pos 3)) near.inside

pub inside : (t : Circ) (sag sense : ℤ) (a b : Pt) → IsPiece t sense a b → IsClear t sag a b → IsInside t sag a b
inside t sag sense a b piece clear = λ j k some. record { lo = clear j k some; hi = under-between t.c a b (t.r +ℤ pos 3) (under_edge t a piece.start) (under_edge t b piece.end) j k some }

pub step : (t : Circ) (sag sense : ℤ) (s a b : Pt) → IsTrack t → IsSag t sag → IsPiece t sense a b → ComesBefore (displacement t.c s) sense (displacement t.c a) (displacement t.c b) → IsClear t sag a b
    → IsStep t sense s a b
step t sag sense s a b is fits piece before clear = (piece.onwards, clear_ahead t sag sense a b is fits piece clear, before)

-- ---- steps one after the other
pub joined : (t : Circ) (sag sense : ℤ) (s a m b : Pt) (l k : List Pt) → AreSteps t sag sense s a l m → AreSteps t sag sense s m k b → AreSteps t sag sense s a (l ++ k) b
joined t sag sense s a m b [] k one two = subst (λ (x : Pt). AreSteps t sag sense s x k b) (sym one) two
joined t sag sense s a m b (x ∷ xs) k one two = (one.0, one.1, joined t sag sense s x m b xs k one.2 two)

one_step : (t : Circ) (sag sense : ℤ) (s a b : Pt) → IsTrack t → IsSag t sag → IsPiece t sense a b → ComesBefore (displacement t.c s) sense (displacement t.c a) (displacement t.c b) → IsClear t sag a b
    → AreSteps t sag sense s a (b ∷ []) b
one_step t sag sense s a b is fits piece before clear = (step t sag sense s a b is fits piece before clear, inside t sag sense a b piece clear, refl)

pub cut_steps : (n : ℕ) (t : Circ) (sag sense : ℤ) (s a b : Pt) (list : List Pt) → IsTrack t → IsSag t sag → IsSense sense → 0 < length_squared (displacement t.c s) → IsPiece t sense a b
    → ComesBefore (displacement t.c s) sense (displacement t.c a) (displacement t.c b) → IsCut n t sag a b list → AreSteps t sag sense s a list b
cut_steps zero t sag sense s a b list is fits turn some piece before cut =
    subst (λ (xs : List Pt). AreSteps t sag sense s a xs b) (sym cut.1) (one_step t sag sense s a b is fits piece before cut.0)
cut_steps (suc n) t sag sense s a b list is fits turn some piece before (inl cut) =
    subst (λ (xs : List Pt). AreSteps t sag sense s a xs b) (sym cut.1) (one_step t sag sense s a b is fits piece before cut.0)
cut_steps (suc n) t sag sense s a b list is fits turn some piece before (inr cut) =
    let m = middle t a b in
    let two = half_pieces t sag sense a b is fits turn piece (is_false t sag a b cut.0) in
    let least = within_large t is in
    let order =
    before_between sense (displacement t.c s) (displacement t.c a) (displacement t.c m) (displacement t.c b) turn some (some_length (within t) (displacement t.c a) least (nearby t a is piece.start))
    (some_length (within t) (displacement t.c m) least (nearby t m is two.0.end)) (some_length (within t) (displacement t.c b) least (nearby t b is piece.end)) piece.onwards two.0.onwards two.1.onwards before in
    subst (λ (xs : List Pt). AreSteps t sag sense s a xs b) (sym cut.3)
    (joined t sag sense s a m b cut.1 cut.2 (cut_steps n t sag sense s a m cut.1 is fits turn some two.0 order.0 cut.4) (cut_steps n t sag sense s m b cut.2 is fits turn some two.1 order.1 cut.5))

-- through a list of points in order
pub cuts_steps : (n : ℕ) (t : Circ) (sag sense : ℤ) (s a e : Pt) (qs list : List Pt) → IsTrack t → IsSag t sag → IsSense sense → 0 < length_squared (displacement t.c s)
    → ArePieces t sense a (qs ++ e ∷ []) → AreInOrder t sense s a (qs ++ e ∷ []) → AreCuts n t sag a (qs ++ e ∷ []) list → AreSteps t sag sense s a list e
cuts_steps n t sag sense s a e [] list is fits turn some are order cuts =
    subst (λ (xs : List Pt). AreSteps t sag sense s a xs e) (sym cuts.2)
    (joined t sag sense s a e e cuts.0 cuts.1 (cut_steps n t sag sense s a e cuts.0 is fits turn some are.0 order.0 cuts.3) (subst (λ (xs : List Pt). AreSteps t sag sense s e xs e) (sym cuts.4) refl))
cuts_steps n t sag sense s a e (q ∷ qs) list is fits turn some are order cuts =
    subst (λ (xs : List Pt). AreSteps t sag sense s a xs e) (sym cuts.2)
    (joined t sag sense s a q e cuts.0 cuts.1 (cut_steps n t sag sense s a q cuts.0 is fits turn some are.0 order.0 cuts.3) (cuts_steps n t sag sense s q e qs cuts.1 is fits turn some are.1 order.1 cuts.4))

-- the end comes last
order_end : (t : Circ) (sense : ℤ) (u : Dir) (s a e : Pt) (qs : List Pt) → AreInOrder t sense s a qs → Each qs (λ q. IsQuarterPoint t u q × IsOnTheWay t sense s e q)
    → ComesBefore (displacement t.c s) sense (displacement t.c a) (displacement t.c e) → AreInOrder t sense s a (qs ++ e ∷ [])
order_end t sense u s a e [] order each last = (last, tt)
order_end t sense u s a e (q ∷ qs) order each last = (order.0, order_end t sense u s q e qs order.1 each.1 each.0.1.1)

-- the vertices of an arc lead from its start to its end
pub arc_steps : (arc : Arc) → IsArc arc → AreSteps arc.track arc.sag arc.sense arc.start arc.start (divided arc) arc.end
unfolding divided vertices stations
arc_steps arc fits =
    let t = arc.track in
    let sense = arc.sense in
    let s = arc.start in
    let e = arc.end in
    let is = fits.track in
    let qs = quarters t sense s e arc.axis in
    let both = quarters_divide arc fits in
    let some = some_length (within t) (displacement t.c s) (within_large t is) (nearby t s is fits.start) in
    cuts_steps 24 t arc.sag sense s s e qs (divided arc) is fits.sag fits.sense some both.1
    (order_end t sense arc.axis s s e qs both.0.order both.0.each ((before_from_start sense (displacement t.c s) (displacement t.c e) some).1 fits.apart))
    (all_cuts t arc.sag sense s (qs ++ e ∷ []) is fits.sag fits.sense both.1)

-- ---- the last vertex is the end
pub steps_end : (t : Circ) (sag sense : ℤ) (s a b x : Pt) (xs : List Pt) → AreSteps t sag sense s a (x ∷ xs) b → (front : List Pt) × (x ∷ xs ≡ front ++ b ∷ [])
steps_end t sag sense s a b x [] are = ([], subst (λ (z : Pt). x ∷ [] ≡ z ∷ []) are.2 refl)
steps_end t sag sense s a b x (y ∷ ys) are =
    let rest = steps_end t sag sense s x b y ys are.2 in
    (x ∷ rest.0, ap (λ (zs : List Pt). x ∷ zs) rest.1)

ends_apart : (arc : Arc) → IsArc arc → arc.start ≡ arc.end → ⊥
ends_apart arc fits same =
    let t = arc.track in
    fits.apart (subst (λ (z : Pt). turn_class (displacement t.c arc.start) arc.sense (displacement t.c z) ≡ 0) same
    (class_of_start arc.sense (displacement t.c arc.start) (some_length (within t) (displacement t.c arc.start) (within_large t fits.track) (nearby t arc.start fits.track fits.start))))

pub division_ends : (arc : Arc) (list : List Pt) → IsArc arc → IsDivision arc list → (front : List Pt) × (list ≡ front ++ arc.end ∷ [])
division_ends arc [] fits division = absurd (ends_apart arc fits division.steps)
division_ends arc (x ∷ xs) fits division = steps_end arc.track arc.sag arc.sense arc.start arc.start arc.end x xs division.steps
