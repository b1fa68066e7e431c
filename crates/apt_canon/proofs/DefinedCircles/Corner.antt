-- The circle in a corner: why there is none, and how close to both lines its centre is.
use Rattle.std.proofs.Common.{refl, ◌≡◌, ◌≢◌, ◌↔◌, ◌⊎◌, ◌^◌, ◌≤◌, ◌∙◌, subst, arith, inl, inr, ℤ, pos, ◌≤ℤ◌, ◌<ℤ◌, unsigned_abs, Result, Ok, Err, IfOk, IsErrOf}
use Rattle.std.proofs.lemmas.Int.{ints}
use Rattle.apt_num.specs.declared.Sign.{Sign}
use Rattle.apt_num.specs.declared.Sign.TheVariants as signs
use Rattle.apt_words.specs.declared.Pick.{Pick}
use Rattle.apt_words.specs.Chains.{◌>>=◌}
use Rattle.apt_plane.specs.declared.figures.Pt.{Pt}
use Rattle.apt_plane.specs.declared.figures.Line.{Line}
use Rattle.apt_plane.specs.declared.figures.Circ.{Circ}
use Rattle.apt_plane.specs.Vectors.{cross, length_squared}
use Rattle.apt_plane.specs.Ranges.{IsPoint, IsLine, IsCircle}
use Rattle.apt_canon.specs.declared.FormFault.{FormFault}
use Rattle.apt_canon.specs.declared.FormFault.TheVariants as faults
use Rattle.apt_canon.specs.Scale.{in_range, IsNearLine, IsAway, side_of_line}
use Rattle.apt_canon.specs.Meeting.{line_line, meeting_point}
use Rattle.apt_canon.specs.Feet.{side_picked, offset_picked, IsPicked}
use Rattle.apt_canon.specs.Rounds.{circle, circle_of, corner}
use Rattle.apt_canon.specs.RoundLaws.{Touches, IsBeside, HasSides, NoCorner, offset_to, corner_centre}
use Rattle.apt_canon.proofs.Fits.{not_zero-test, zero_tells, point_tells}
use Rattle.apt_canon.proofs.LineMeetings.Meeting.{meeting_point-near}
use Rattle.apt_canon.proofs.Sides.{left_at, right_at, away_left, away_right, picked}
use Rattle.apt_canon.proofs.DefinedCircles.Range.{Answer, TooSmall, TooLarge, Fits, answer, small_tells, too_large, ok_or_fault}

-- ---- a centre

-- the circle about the point in which two moved lines meet
met : Line → ℤ → Line → ℤ → ℤ → Result Circ FormFault
met a ha b hb r = line_line a ha b hb >>= λ c. circle_of c r

met-parallel : (a b : Line) (ha hb r : ℤ) → cross a.dir b.dir ≡ pos 0 → met a ha b hb r ≡ Err faults.NoMeeting
unfolding met
met-parallel a b ha hb r e = rw e refl

met-at : (a b : Line) (ha hb r : ℤ) → cross a.dir b.dir ≢ pos 0 → met a ha b hb r ≡ (in_range (meeting_point a ha b hb) >>= λ c. circle_of c r)
unfolding met
met-at a b ha hb r d = rw (not_zero-test (cross a.dir b.dir) d) refl

fits-outside : (p : Pt) (r : ℤ) → ¬ IsPoint p → (in_range p >>= λ c. circle_of c r) ≡ Err faults.OutOfRange
fits-outside p r h = elim (point_tells p) [
  | inl is ↦ absurd (h is.0)
  | inr out ↦ rw out.1 refl
]

fits-inside : (p : Pt) (r : ℤ) → IsPoint p → (in_range p >>= λ c. circle_of c r) ≡ circle_of p r
fits-inside p r h = elim (point_tells p) [
  | inl is ↦ rw is.1 refl
  | inr out ↦ absurd (out.0 h)
]

-- ---- the sides

sided : Sign → Sign → Line → Line → ℤ → Result Circ FormFault
sided s t a b r = offset_picked s r >>= λ ha. offset_picked t r >>= λ hb. line_line a ha b hb >>= λ c. circle_of c r

no_side : (s t : Sign) (a b : Line) (r : ℤ) → (s ≡ signs.Zero) ⊎ (t ≡ signs.Zero) → sided s t a b r ≡ Err faults.Degenerate
unfolding sided
no_side s t a b r (inl e) = rw e refl
no_side signs.Zero t a b r (inr e) = refl
no_side signs.Plus t a b r (inr e) = rw e refl
no_side signs.Minus t a b r (inr e) = rw e refl

both_sides : (s t : Sign) (a b : Line) (r : ℤ) → s ≢ signs.Zero → t ≢ signs.Zero → sided s t a b r ≡ met a (offset_to s r) b (offset_to t r) r
unfolding sided met
both_sides signs.Zero t a b r p q = absurd (p refl)
both_sides s signs.Zero a b r p q = absurd (q refl)
both_sides signs.Plus signs.Plus a b r p q = refl
both_sides signs.Plus signs.Minus a b r p q = refl
both_sides signs.Minus signs.Plus a b r p q = refl
both_sides signs.Minus signs.Minus a b r p q = refl

side_tells : (s : Sign) → (s ≡ signs.Zero) ⊎ (s ≢ signs.Zero)
side_tells signs.Zero = inl refl
side_tells signs.Plus = inr (λ e. cc)
side_tells signs.Minus = inr (λ e. cc)

-- ---- the answers

too_small : (a b : Line) (pick_a pick_b : Pick) (r : ℤ) → r <ℤ pos 100 → corner a pick_a b pick_b r ≡ Err faults.Degenerate
too_small a b pick_a pick_b r h = elim (small_tells r) [
  | inl small ↦ rw small.0 refl
  | inr least ↦ absurd (omega (arith, ints, least.1, h))
]

long_enough : (a b : Line) (pick_a pick_b : Pick) (r : ℤ) → pos 100 ≤ℤ r → corner a pick_a b pick_b r ≡ sided (side_picked a pick_a) (side_picked b pick_b) a b r
unfolding sided
long_enough a b pick_a pick_b r h = elim (small_tells r) [
  | inl small ↦ absurd (omega (arith, ints, small.1, h))
  | inr least ↦ rw least.0 refl
]

unsided : (a b : Line) (pick_a pick_b : Pick) (r : ℤ) → (side_picked a pick_a ≡ signs.Zero) ⊎ (side_picked b pick_b ≡ signs.Zero) → corner a pick_a b pick_b r ≡ Err faults.Degenerate
unsided a b pick_a pick_b r h = elim (small_tells r) [
  | inl small ↦ too_small a b pick_a pick_b r small.1
  | inr least ↦ long_enough a b pick_a pick_b r least.1 ∙ no_side (side_picked a pick_a) (side_picked b pick_b) a b r h
]

to_met : (a b : Line) (pick_a pick_b : Pick) (r : ℤ) → HasSides a pick_a b pick_b r
    → corner a pick_a b pick_b r ≡ met a (offset_to (side_picked a pick_a) r) b (offset_to (side_picked b pick_b) r) r
to_met a b pick_a pick_b r is = long_enough a b pick_a pick_b r is.radius ∙ both_sides (side_picked a pick_a) (side_picked b pick_b) a b r is.side_a is.side_b

to_circle : (a b : Line) (pick_a pick_b : Pick) (r : ℤ) → HasSides a pick_a b pick_b r → cross a.dir b.dir ≢ pos 0 → IsPoint (corner_centre a pick_a b pick_b r)
    → corner a pick_a b pick_b r ≡ circle_of (corner_centre a pick_a b pick_b r) r
to_circle a b pick_a pick_b r is d at =
    to_met a b pick_a pick_b r is
    ∙ met-at a b (offset_to (side_picked a pick_a) r) (offset_to (side_picked b pick_b) r) r d
    ∙ fits-inside (corner_centre a pick_a b pick_b r) r at

-- each fault is answered
gives : (a b : Line) (pick_a pick_b : Pick) (r : ℤ) (e : FormFault) → NoCorner a pick_a b pick_b r e → corner a pick_a b pick_b r ≡ Err e
gives a b pick_a pick_b r faults.Degenerate (inl h) = too_small a b pick_a pick_b r h
gives a b pick_a pick_b r faults.Degenerate (inr h) = unsided a b pick_a pick_b r h
gives a b pick_a pick_b r faults.NoMeeting h =
    to_met a b pick_a pick_b r h.0 ∙ met-parallel a b (offset_to (side_picked a pick_a) r) (offset_to (side_picked b pick_b) r) r h.1
gives a b pick_a pick_b r faults.OutOfRange h =
    to_met a b pick_a pick_b r h.0
    ∙ met-at a b (offset_to (side_picked a pick_a) r) (offset_to (side_picked b pick_b) r) r h.1
    ∙ fits-outside (corner_centre a pick_a b pick_b r) r h.2
gives a b pick_a pick_b r faults.TooLarge h =
    to_circle a b pick_a pick_b r h.0 h.1 h.2 ∙ (too_large (corner_centre a pick_a b pick_b r) r).1 (h.0.radius, h.3)

data Answers (a : Line) (pick_a : Pick) (b : Line) (pick_b : Pick) (r : ℤ) : Type 0 where
  None : (e : FormFault) → NoCorner a pick_a b pick_b r e → Answers a pick_a b pick_b r
  One : HasSides a pick_a b pick_b r → cross a.dir b.dir ≢ pos 0 → IsCircle (circle (corner_centre a pick_a b pick_b r) r)
      → corner a pick_a b pick_b r ≡ Ok (circle (corner_centre a pick_a b pick_b r) r) → Answers a pick_a b pick_b r

ranged : (a b : Line) (pick_a pick_b : Pick) (r : ℤ) → HasSides a pick_a b pick_b r → cross a.dir b.dir ≢ pos 0 → IsPoint (corner_centre a pick_a b pick_b r)
    → Answer (corner_centre a pick_a b pick_b r) r → Answers a pick_a b pick_b r
ranged a b pick_a pick_b r is d at (TooSmall h e) = None faults.Degenerate (inl h)
ranged a b pick_a pick_b r is d at (TooLarge h e) = None faults.TooLarge (is, d, at, h.1)
ranged a b pick_a pick_b r is d at (Fits h e) = One is d h (to_circle a b pick_a pick_b r is d at ∙ e)

meeting : (a b : Line) (pick_a pick_b : Pick) (r : ℤ) → HasSides a pick_a b pick_b r → Answers a pick_a b pick_b r
meeting a b pick_a pick_b r is = elim (zero_tells (cross a.dir b.dir)) [
  | inl parallel ↦ None faults.NoMeeting (is, parallel.0)
  | inr apart ↦ elim (point_tells (corner_centre a pick_a b pick_b r)) [
    | inl at ↦ ranged a b pick_a pick_b r is apart.0 at.0 (answer (corner_centre a pick_a b pick_b r) r)
    | inr out ↦ None faults.OutOfRange (is, apart.0, out.0)
  ]
]

answers : (a b : Line) (pick_a pick_b : Pick) (r : ℤ) → Answers a pick_a b pick_b r
answers a b pick_a pick_b r = elim (small_tells r) [
  | inl small ↦ None faults.Degenerate (inl small.1)
  | inr least ↦ elim (side_tells (side_picked a pick_a)) [
    | inl e ↦ None faults.Degenerate (inr (inl e))
    | inr side_a ↦ elim (side_tells (side_picked b pick_b)) [
      | inl e ↦ None faults.Degenerate (inr (inr e))
      | inr side_b ↦ meeting a b pick_a pick_b r (record { radius = least.1; side_a = side_a; side_b = side_b })
    ]
  ]
]

-- ---- the laws

same_fault : (x : Result Circ FormFault) (e f : FormFault) → x ≡ Err e → x ≡ Err f → e ≡ f
same_fault x e f p q = cc

tells : (a b : Line) (pick_a pick_b : Pick) (r : ℤ) (f : FormFault) → Answers a pick_a b pick_b r → corner a pick_a b pick_b r ≡ Err f → NoCorner a pick_a b pick_b r f
tells a b pick_a pick_b r f (None e h) p = subst (NoCorner a pick_a b pick_b r) (same_fault (corner a pick_a b pick_b r) e f (gives a b pick_a pick_b r e h) p) h
tells a b pick_a pick_b r f (One is d h e) p = absurd (ok_or_fault (corner a pick_a b pick_b r) (circle (corner_centre a pick_a b pick_b r) r) f e p)

pub corner_refused : (a b : Line) (pick_a pick_b : Pick) (r : ℤ) (e : FormFault) → IsErrOf (corner a pick_a b pick_b r) e ↔ NoCorner a pick_a b pick_b r e
corner_refused a b pick_a pick_b r e = (tells a b pick_a pick_b r e (answers a b pick_a pick_b r), gives a b pick_a pick_b r e)

if_corner : (P : Circ → Type 0) (a b : Line) (pick_a pick_b : Pick) (r : ℤ) → Answers a pick_a b pick_b r
    → (HasSides a pick_a b pick_b r → cross a.dir b.dir ≢ pos 0 → IsCircle (circle (corner_centre a pick_a b pick_b r) r) → P (circle (corner_centre a pick_a b pick_b r) r))
    → IfOk (corner a pick_a b pick_b r) P
if_corner P a b pick_a pick_b r (None e h) f = rw (gives a b pick_a pick_b r e h) tt
if_corner P a b pick_a pick_b r (One is d h e) f = rw e (f is d h)

offset_small : (s : Sign) (r : ℤ) → unsigned_abs r ≤ 10 ^ 8 → unsigned_abs (offset_to s r) ≤ 10 ^ 8
offset_small signs.Plus r h = h
offset_small signs.Zero r h = omega arith
offset_small signs.Minus r h = omega (arith, ints)

beside : (s : Sign) (l : Line) (r : ℤ) (p : Pt) → s ≢ signs.Zero → IsNearLine l (offset_to s r) (pos 1) p → IsBeside s l r p
beside signs.Plus l r p d h = h
beside signs.Zero l r p d h = absurd (d refl)
beside signs.Minus l r p d h = h

pub corner_range : (a b : Line) (pick_a pick_b : Pick) (r : ℤ) → IfOk (corner a pick_a b pick_b r) (λ k. IsCircle k)
corner_range a b pick_a pick_b r = if_corner (λ k. IsCircle k) a b pick_a pick_b r (answers a b pick_a pick_b r) (λ is d h. h)

pub corner_radius : (a b : Line) (pick_a pick_b : Pick) (r : ℤ) → IfOk (corner a pick_a b pick_b r) (λ k. k.r ≡ r)
corner_radius a b pick_a pick_b r = if_corner (λ k. k.r ≡ r) a b pick_a pick_b r (answers a b pick_a pick_b r) (λ is d h. refl)

-- where the distance is more than the rounding, it lies on that side, and the distance is the same without the side
beside_side : (s : Sign) (l : Line) (r : ℤ) (p : Pt) → IsLine l → pos 1 <ℤ r → IsBeside s l r p → side_of_line l p ≡ s
beside_side signs.Plus l r p is long h = left_at _ r (pos 1) (length_squared l.dir) h long is.dir.length
beside_side signs.Zero l r p is long h = absurd h
beside_side signs.Minus l r p is long h = right_at _ r (pos 1) (length_squared l.dir) h long is.dir.length

beside_away : (s : Sign) (l : Line) (r : ℤ) (p : Pt) → IsLine l → pos 1 <ℤ r → IsBeside s l r p → IsAway l r p
beside_away signs.Plus l r p is long h = away_left _ r (pos 1) _ (beside_side signs.Plus l r p is long h) h
beside_away signs.Zero l r p is long h = absurd h
beside_away signs.Minus l r p is long h = away_right _ r (pos 1) _ (beside_side signs.Minus l r p is long h) h

-- the centre is beside both lines
beside_both : (a b : Line) (pick_a pick_b : Pick) (r : ℤ) → IsLine a → IsLine b → unsigned_abs r ≤ 10 ^ 8 → HasSides a pick_a b pick_b r → cross a.dir b.dir ≢ pos 0
    → IsBeside (side_picked a pick_a) a r (corner_centre a pick_a b pick_b r) × IsBeside (side_picked b pick_b) b r (corner_centre a pick_a b pick_b r)
beside_both a b pick_a pick_b r is_a is_b small is d =
    let s = side_picked a pick_a in
    let t = side_picked b pick_b in
    let c = corner_centre a pick_a b pick_b r in
    let near = meeting_point-near a b (offset_to s r) (offset_to t r) is_a is_b (offset_small s r small) (offset_small t r small) d in
    (beside s a r c is.side_a near.0, beside t b r c is.side_b near.1)

pub corner_on_a : (a b : Line) (pick_a pick_b : Pick) (r : ℤ) → IsLine a → IsLine b → unsigned_abs r ≤ 10 ^ 8
    → IfOk (corner a pick_a b pick_b r) (λ k. IsBeside (side_picked a pick_a) a r k.c)
corner_on_a a b pick_a pick_b r is_a is_b small =
    if_corner (λ k. IsBeside (side_picked a pick_a) a r k.c) a b pick_a pick_b r (answers a b pick_a pick_b r) (λ is d h. (beside_both a b pick_a pick_b r is_a is_b small is d).0)

pub corner_on_b : (a b : Line) (pick_a pick_b : Pick) (r : ℤ) → IsLine a → IsLine b → unsigned_abs r ≤ 10 ^ 8
    → IfOk (corner a pick_a b pick_b r) (λ k. IsBeside (side_picked b pick_b) b r k.c)
corner_on_b a b pick_a pick_b r is_a is_b small =
    if_corner (λ k. IsBeside (side_picked b pick_b) b r k.c) a b pick_a pick_b r (answers a b pick_a pick_b r) (λ is d h. (beside_both a b pick_a pick_b r is_a is_b small is d).1)

-- and on the sides that the modifiers name
pub corner_sides : (a b : Line) (pick_a pick_b : Pick) (r : ℤ) → IsLine a → IsLine b → unsigned_abs r ≤ 10 ^ 8
    → IfOk (corner a pick_a b pick_b r) (λ k. IsPicked a pick_a k.c × IsPicked b pick_b k.c)
corner_sides a b pick_a pick_b r is_a is_b small =
    if_corner (λ k. IsPicked a pick_a k.c × IsPicked b pick_b k.c) a b pick_a pick_b r (answers a b pick_a pick_b r) (λ is d h.
    let c = corner_centre a pick_a b pick_b r in
    let both = beside_both a b pick_a pick_b r is_a is_b small is d in
    let long : pos 1 <ℤ r = omega (arith, ints, is.radius) in (
      picked a pick_a c is.side_a (beside_side (side_picked a pick_a) a r c is_a long both.0),
      picked b pick_b c is.side_b (beside_side (side_picked b pick_b) b r c is_b long both.1),
    ))

-- it touches both lines, on whichever side
pub corner_touches : (a b : Line) (pick_a pick_b : Pick) (r : ℤ) → IsLine a → IsLine b → unsigned_abs r ≤ 10 ^ 8
    → IfOk (corner a pick_a b pick_b r) (λ k. Touches k a × Touches k b)
corner_touches a b pick_a pick_b r is_a is_b small =
    if_corner (λ k. Touches k a × Touches k b) a b pick_a pick_b r (answers a b pick_a pick_b r) (λ is d h.
    let c = corner_centre a pick_a b pick_b r in
    let both = beside_both a b pick_a pick_b r is_a is_b small is d in
    let long : pos 1 <ℤ r = omega (arith, ints, is.radius) in
    (beside_away (side_picked a pick_a) a r c is_a long both.0, beside_away (side_picked b pick_b) b r c is_b long both.1))
