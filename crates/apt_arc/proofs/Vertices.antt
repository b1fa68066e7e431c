-- The vertices of an arc: each but the end is met before it, and is a point of the circle, rounded.
use Rattle.std.proofs.Common.{refl, ◌≡◌, ◌⊎◌, inl, inr, ℕ, zero, suc, ◌+◌, ◌^◌, ◌*◌, ◌≤◌, ◌<◌, sym, subst, arith, List, [], ◌∷◌, ◌++◌, ℤ, pos, negsuc, ◌*ℤ◌, ◌<ℤ◌, unsigned_abs}
use Rattle.std.proofs.lemmas.Int.{ints}
use Rattle.apt_plane.specs.declared.figures.Pt.{Pt}
use Rattle.apt_plane.specs.declared.figures.Dir.{Dir}
use Rattle.apt_plane.specs.declared.figures.Circ.{Circ}
use Rattle.apt_plane.specs.Vectors.{displacement, cross, length_squared}
use Rattle.apt_plane.specs.Ranges.{IsDir, IsSense}
use Rattle.apt_plane.proofs.Displacements.{cross_square}
use Rattle.apt_plane.proofs.Turned.{turned_by}
use Rattle.apt_plane.proofs.Around.{Cyc, before_cyc, cyc_after}
use Rattle.apt_canon.specs.Scale.{sum}
use Rattle.apt_canon.specs.Feet.{ray_point}
use Rattle.apt_arc.specs.declared.arc.Arc.{Arc}
use Rattle.apt_arc.specs.Ranges.{IsTrack, IsSag, IsPiece, ArePieces, IsArc}
use Rattle.apt_arc.specs.Cuts.{IsCut, AreCuts, middle}
use Rattle.apt_arc.specs.Quarters.{IsQuarterPoint, IsOnTheWay, Each}
use Rattle.apt_arc.specs.Steps.{AreSteps}
use Rattle.apt_arc.specs.Divisions.{IsDivision}
use Rattle.apt_arc.specs.Made.{quarters}
use Rattle.apt_plane.proofs.Nearby.{some_length, IsRoundedPoint}
use Rattle.apt_plane.proofs.Cones.{class_behind}
use Rattle.apt_arc.proofs.Lists.{is_false}
use Rattle.apt_arc.proofs.Tracks.{within, within_large, within_small, nearby, middle_dir, half_pieces, aimed, size_of_radius, sag_least}
use Rattle.apt_arc.proofs.Depth.{deepest}
use Rattle.apt_arc.proofs.Parts.{quarters_divide, quarter_of, dir_turned}
use Rattle.apt_arc.proofs.Divided.{one_quarters}

-- the end, or met before it
abbrev pub IsUpToEnd : Circ → ℤ → Pt → Pt → Pt → Type 0
IsUpToEnd t sense s e x = (x ≡ e) ⊎ Cyc (displacement t.c s) sense (displacement t.c x) (displacement t.c e)

-- the end, or a point of the circle, rounded
abbrev IsEndOrRounded : Circ → Pt → Pt → Type 0
IsEndOrRounded t e x = (x ≡ e) ⊎ IsRoundedPoint (within t) (displacement t.c x)

abbrev pub IsVertex : Circ → ℤ → Pt → Pt → Pt → Type 0
IsVertex t sense s e x = (x ≡ e) ⊎ (Cyc (displacement t.c s) sense (displacement t.c x) (displacement t.c e) × IsRoundedPoint (within t) (displacement t.c x))

-- ---- two ways of which one turns from the other have a length
no_turn : (z x : ℤ) → unsigned_abs x ≡ 0 → pos 0 <ℤ (z *ℤ x) → ⊥
no_turn z (pos zero) e p = omega (arith, ints, p)
no_turn z (pos (suc x)) e p = omega (arith, e)
no_turn z (negsuc x) e p = omega (arith, e)

both_sizes : (m n x : ℕ) → x * x ≤ m * n → (x ≡ 0 → ⊥) → (0 < m) × (0 < n)
both_sizes zero n zero fit some = absurd (some refl)
both_sizes zero n (suc x) fit some = absurd (omega (arith, fit))
both_sizes (suc m) zero zero fit some = absurd (some refl)
both_sizes (suc m) zero (suc x) fit some = absurd (omega (arith, fit))
both_sizes (suc m) (suc n) x fit some = (omega arith, omega arith)

pub both_long : (sense : ℤ) (u v : Dir) → pos 0 <ℤ turned_by sense u v → (0 < length_squared u) × (0 < length_squared v)
both_long sense u v h = both_sizes (length_squared u) (length_squared v) (unsigned_abs (cross u v)) (cross_square u v) (λ e. no_turn sense (cross u v) e h)

-- ---- one after the other

pub up_to_end : (t : Circ) (sense : ℤ) (s e y : Pt) (v : Dir) → IsSense sense → Cyc (displacement t.c s) sense v (displacement t.c y) → IsUpToEnd t sense s e y → Cyc (displacement t.c s) sense v (displacement t.c e)
up_to_end t sense s e y v turn one (inl same) = subst (λ (z : Pt). Cyc (displacement t.c s) sense v (displacement t.c z)) same one
up_to_end t sense s e y v turn one (inr after) = cyc_after sense (displacement t.c s) v (displacement t.c y) (displacement t.c e) turn one after

pub steps_up_to_end : (t : Circ) (sag sense : ℤ) (s a e : Pt) (list : List Pt) → IsSense sense → 0 < length_squared (displacement t.c s) → AreSteps t sag sense s a list e → Each list (IsUpToEnd t sense s e)
steps_up_to_end t sag sense s a e [] turn some steps = tt
steps_up_to_end t sag sense s a e (x ∷ []) turn some steps = (inl steps.2, tt)
steps_up_to_end t sag sense s a e (x ∷ (y ∷ ys)) turn some steps =
    let rest = steps_up_to_end t sag sense s x e (y ∷ ys) turn some steps.2 in
    let vs = displacement t.c s in
    let vx = displacement t.c x in
    let vy = displacement t.c y in
    let long = both_long sense vx vy steps.2.0.0 in
    let later = class_behind vs sense (displacement t.c a) vx steps.0.2 in
    (inr (up_to_end t sense s e y vx turn ((before_cyc sense vs vx vy turn some long.0 long.1 later).0 steps.2.0.2) rest.0), rest)

-- ---- rounded
each_joined : (P : Pt → Type 0) (l k : List Pt) → Each l P → Each k P → Each (l ++ k) P
each_joined P [] k one two = two
each_joined P (x ∷ xs) k one two = (one.0, each_joined P xs k one.1 two)

rounded_point : (t : Circ) (u : Dir) → IsTrack t → IsDir u → IsRoundedPoint (within t) (displacement t.c (ray_point t u))
rounded_point t u is dir =
    let point = aimed t u is dir in
    record { low = point.low; high = point.high }

cut_rounded : (n : ℕ) (t : Circ) (sag sense : ℤ) (a b e : Pt) (list : List Pt) → IsTrack t → IsSag t sag → IsSense sense → IsPiece t sense a b → IsEndOrRounded t e b → IsCut n t sag a b list → Each list (IsEndOrRounded t e)
cut_rounded zero t sag sense a b e list is fits turn piece last cut = subst (λ (xs : List Pt). Each xs (IsEndOrRounded t e)) (sym cut.1) (last, tt)
cut_rounded (suc n) t sag sense a b e list is fits turn piece last (inl cut) = subst (λ (xs : List Pt). Each xs (IsEndOrRounded t e)) (sym cut.1) (last, tt)
cut_rounded (suc n) t sag sense a b e list is fits turn piece last (inr cut) =
    let m = middle t a b in
    let two = half_pieces t sag sense a b is fits turn piece (is_false t sag a b cut.0) in
    let between = rounded_point t (sum (displacement t.c a) (displacement t.c b)) is (middle_dir t sense a b is piece) in
    subst (λ (xs : List Pt). Each xs (IsEndOrRounded t e)) (sym cut.3)
    (each_joined (IsEndOrRounded t e) cut.1 cut.2 (cut_rounded n t sag sense a m e cut.1 is fits turn two.0 (inr between) cut.4) (cut_rounded n t sag sense m b e cut.2 is fits turn two.1 last cut.5))

cuts_rounded : (n : ℕ) (t : Circ) (sag sense : ℤ) (a e : Pt) (qs list : List Pt) → IsTrack t → IsSag t sag → IsSense sense → ArePieces t sense a qs → Each qs (IsEndOrRounded t e) → AreCuts n t sag a qs list
    → Each list (IsEndOrRounded t e)
cuts_rounded n t sag sense a e [] list is fits turn are each cuts = subst (λ (xs : List Pt). Each xs (IsEndOrRounded t e)) (sym cuts) tt
cuts_rounded n t sag sense a e (q ∷ qs) list is fits turn are each cuts =
    subst (λ (xs : List Pt). Each xs (IsEndOrRounded t e)) (sym cuts.2)
    (each_joined (IsEndOrRounded t e) cuts.0 cuts.1 (cut_rounded n t sag sense a q e cuts.0 is fits turn are.0 each.0 cuts.3) (cuts_rounded n t sag sense q e qs cuts.1 is fits turn are.1 each.1 cuts.4))

quarter_rounded : (t : Circ) (u : Dir) (q : Pt) → IsTrack t → IsDir u → IsQuarterPoint t u q → IsRoundedPoint (within t) (displacement t.c q)
quarter_rounded t u q is dir at =
    let of = quarter_of t u q at in
    subst (λ (x : Pt). IsRoundedPoint (within t) (displacement t.c x)) (sym of.2) (rounded_point t of.0 is (dir_turned u of.0 dir of.1))

quarters_rounded : (t : Circ) (sense : ℤ) (u : Dir) (s e : Pt) (qs : List Pt) → IsTrack t → IsDir u → Each qs (λ q. IsQuarterPoint t u q × IsOnTheWay t sense s e q) → Each (qs ++ e ∷ []) (IsEndOrRounded t e)
quarters_rounded t sense u s e [] is dir each = (inl refl, tt)
quarters_rounded t sense u s e (q ∷ qs) is dir each = (inr (quarter_rounded t u q is dir each.0.0), quarters_rounded t sense u s e qs is dir each.1)

-- ---- both
one_vertex : (t : Circ) (sense : ℤ) (s e x : Pt) → IsUpToEnd t sense s e x → IsEndOrRounded t e x → IsVertex t sense s e x
one_vertex t sense s e x (inl same) rounded = inl same
one_vertex t sense s e x (inr met) (inl same) = inl same
one_vertex t sense s e x (inr met) (inr rounded) = inr (met, rounded)

both_of : (t : Circ) (sense : ℤ) (s e : Pt) (list : List Pt) → Each list (IsUpToEnd t sense s e) → Each list (IsEndOrRounded t e) → Each list (IsVertex t sense s e)
both_of t sense s e [] met rounded = tt
both_of t sense s e (x ∷ xs) met rounded = (one_vertex t sense s e x met.0 rounded.0, both_of t sense s e xs met.1 rounded.1)

deep : (a : Arc) → IsArc a → unsigned_abs a.track.r ≤ 3 ^ 24 * unsigned_abs a.sag
deep a arc =
    subst (λ n. n ≤ 3 ^ 24 * unsigned_abs a.sag) (sym (size_of_radius a.track arc.track)) (deepest (within a.track + 3) (unsigned_abs a.sag) (within_small a.track arc.track) (sag_least a.sag arc.sag.least))

pub division_vertices : (a : Arc) → IsArc a → (list : List Pt) → IsDivision a list → Each list (IsVertex a.track a.sense a.start a.end)
division_vertices a arc list division =
    let t = a.track in
    let is = arc.track in
    let qs = division.points in
    let made = quarters_divide a arc in
    let same = one_quarters a qs (quarters t a.sense a.start a.end a.axis) arc division.quarters made.0 in
    let pieces = subst (λ (ps : List Pt). ArePieces t a.sense a.start (ps ++ a.end ∷ [])) (sym same) made.1 in
    let some = some_length (within t) (displacement t.c a.start) (within_large t is) (nearby t a.start is arc.start) in
    both_of t a.sense a.start a.end list (steps_up_to_end t a.sag a.sense a.start a.start a.end list arc.sense some division.steps)
    (cuts_rounded 24 t a.sag a.sense a.start a.end (qs ++ a.end ∷ []) list is arc.sag arc.sense pieces (quarters_rounded t a.sense a.axis a.start a.end qs is arc.axis division.quarters.each) (division.cuts 24 (deep a arc)))
