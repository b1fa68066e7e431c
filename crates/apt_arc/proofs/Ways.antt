-- The quarter points on the way are in order, and the pieces between them turn by at most a quarter.
use Rattle.std.proofs.Common.{refl, ◌≡◌, ◌⊎◌, inl, inr, ℕ, zero, suc, ◌∙◌, ap, sym, subst, arith, true, true≢false, ℤ, pos, negsuc, neg_ℤ, ◌<ℤ◌, ◌≤ℤ◌, int_lt}
use Rattle.std.specs.Prelude.{int_le}
use Rattle.std.proofs.lemmas.Int.{ints}
use Rattle.std.proofs.lemmas.Bool.{cases_Bool, and_parts, and_from}
use Rattle.apt_plane.specs.declared.figures.Pt.{Pt}
use Rattle.apt_plane.specs.declared.figures.Dir.{Dir}
use Rattle.apt_plane.specs.declared.figures.Circ.{Circ}
use Rattle.apt_plane.specs.Vectors.{displacement, dot, perp}
use Rattle.apt_plane.specs.Ranges.{IsSense}
use Rattle.apt_plane.proofs.Displacements.{dot_swap}
use Rattle.apt_canon.proofs.FootPoints.Sharp.{ray_way, ray_turned}
use Rattle.apt_num.proofs.Ring.{double_neg}
use Rattle.apt_plane.proofs.Turned.{turned_by, turned_back}
use Rattle.apt_plane.proofs.Quarters.{IsOnward, left_is, right, right_is}
use Rattle.apt_arc.specs.Made.{onward, is_behind, first_past}
use Rattle.apt_arc.proofs.Clear.{lt_true, lt_from, le_true, le_from}

-- ---- quarter turns of directions
perp_four : (u : Dir) → perp (perp (perp (perp u))) ≡ u
perp_four u = rw (double_neg u.dx, double_neg u.dy) refl

right_three : (u : Dir) → right u ≡ perp (perp (perp u))
right_three u = rw (double_neg u.dy) refl

right_back : (u : Dir) → right (right (right u)) ≡ perp u
right_back u = rw (double_neg u.dx) refl

perp_right : (u : Dir) → perp (right u) ≡ u
perp_right u = rw (double_neg u.dx) refl

right_perp : (u : Dir) → right (perp u) ≡ u
right_perp u = rw (double_neg u.dy) refl

abbrev pub IsTurned : Dir → Dir → Type 0
IsTurned a b = (b ≡ a) ⊎ ((b ≡ perp a) ⊎ ((b ≡ perp (perp a)) ⊎ (b ≡ perp (perp (perp a)))))

pub turn_on : (a b : Dir) → IsTurned a b → IsTurned a (perp b)
turn_on a b (inl e) = inr (inl (ap perp e))
turn_on a b (inr (inl e)) = inr (inr (inl (ap perp e)))
turn_on a b (inr (inr (inl e))) = inr (inr (inr (ap perp e)))
turn_on a b (inr (inr (inr e))) = inl (ap perp e ∙ perp_four a)

pub turn_round : (a b : Dir) → IsTurned a b → IsTurned b a
turn_round a b (inl e) = inl (sym e)
turn_round a b (inr (inl e)) = inr (inr (inr (sym (perp_four a) ∙ ap (λ (u : Dir). perp (perp (perp u))) (sym e))))
turn_round a b (inr (inr (inl e))) = inr (inr (inl (sym (perp_four a) ∙ ap (λ (u : Dir). perp (perp u)) (sym e))))
turn_round a b (inr (inr (inr e))) = inr (inl (sym (perp_four a) ∙ ap (λ (u : Dir). perp u) (sym e)))

pub turn_after : (a b c : Dir) → IsTurned a b → IsTurned b c → IsTurned a c
turn_after a b c p (inl e) = subst (λ (d : Dir). IsTurned a d) (sym e) p
turn_after a b c p (inr (inl e)) = subst (λ (d : Dir). IsTurned a d) (sym e) (turn_on a b p)
turn_after a b c p (inr (inr (inl e))) = subst (λ (d : Dir). IsTurned a d) (sym e) (turn_on a (perp b) (turn_on a b p))
turn_after a b c p (inr (inr (inr e))) = subst (λ (d : Dir). IsTurned a d) (sym e) (turn_on a (perp (perp b)) (turn_on a (perp b) (turn_on a b p)))

onward_left : (sense : ℤ) (u : Dir) → sense ≡ pos 1 → onward sense u ≡ perp u
onward_left sense u e = rw e refl

onward_right : (sense : ℤ) (u : Dir) → sense ≡ negsuc 0 → onward sense u ≡ right u
onward_right sense u e = rw e refl

pub onward_turned : (sense : ℤ) (u : Dir) → IsSense sense → IsTurned u (onward sense u)
onward_turned sense u (inl e) = inr (inl (onward_left sense u e))
onward_turned sense u (inr e) = inr (inr (inr (onward_right sense u e ∙ right_three u)))

-- in the sense they are the same four: one of the first n from a on
abbrev pub IsOneOf : ℕ → ℤ → Dir → Dir → Type 0
IsOneOf zero sense a b = ⊥
IsOneOf (suc n) sense a b = (b ≡ a) ⊎ IsOneOf n sense (onward sense a) b

two_right : (sense : ℤ) (u : Dir) → sense ≡ negsuc 0 → onward sense (onward sense u) ≡ perp (perp u)
two_right sense u e = rw e refl

three_right : (sense : ℤ) (u : Dir) → sense ≡ negsuc 0 → onward sense (onward sense (onward sense u)) ≡ right (right (right u))
three_right sense u e = rw e refl

two_left : (sense : ℤ) (u : Dir) → sense ≡ pos 1 → onward sense (onward sense u) ≡ perp (perp u)
two_left sense u e = rw e refl

three_left : (sense : ℤ) (u : Dir) → sense ≡ pos 1 → onward sense (onward sense (onward sense u)) ≡ perp (perp (perp u))
three_left sense u e = rw e refl

pub one_of : (sense : ℤ) (a b : Dir) → IsSense sense → IsTurned a b → IsOneOf 4 sense a b
one_of sense a b is (inl f) = inl f
one_of sense a b (inl e) (inr (inl f)) = inr (inl (f ∙ sym (onward_left sense a e)))
one_of sense a b (inl e) (inr (inr (inl f))) = inr (inr (inl (f ∙ sym (two_left sense a e))))
one_of sense a b (inl e) (inr (inr (inr f))) = inr (inr (inr (inl (f ∙ sym (three_left sense a e)))))
one_of sense a b (inr e) (inr (inl f)) = inr (inr (inr (inl (f ∙ sym (right_back a) ∙ sym (three_right sense a e)))))
one_of sense a b (inr e) (inr (inr (inl f))) = inr (inr (inl (f ∙ sym (two_right sense a e))))
one_of sense a b (inr e) (inr (inr (inr f))) = inr (inl (f ∙ sym (right_three a) ∙ sym (onward_right sense a e)))

-- ---- and of the points in them
ray_right : (t : Circ) (u : Dir) → ray_way t (right u) ≡ right (ray_way t u)
ray_right t u = sym (right_perp (ray_way t (right u))) ∙ ap right (sym (ap (ray_way t) (sym (perp_right u)) ∙ ray_turned t (right u)))

pub ray_onward : (t : Circ) (sense : ℤ) (u : Dir) → IsSense sense → IsOnward sense (ray_way t u) (ray_way t (onward sense u))
ray_onward t sense u (inl e) =
    subst (λ (w : Dir). IsOnward sense (ray_way t u) w) (sym (ray_turned t u) ∙ ap (ray_way t) (sym (onward_left sense u e))) (left_is (ray_way t u) sense e)
ray_onward t sense u (inr e) =
    subst (λ (w : Dir). IsOnward sense (ray_way t u) w) (sym (ray_right t u) ∙ ap (ray_way t) (sym (onward_right sense u e))) (right_is (ray_way t u) sense e)

-- ---- the point behind the start
abbrev pub IsPast : Circ → ℤ → Pt → Dir → Type 0
IsPast t sense s u = (pos 0 <ℤ dot (ray_way t u) (displacement t.c s)) × (pos 0 ≤ℤ turned_by sense (ray_way t u) (displacement t.c s))

behind_tells : (t : Circ) (sense : ℤ) (s : Pt) (u : Dir) → is_behind t sense s u ≡ true → IsPast t sense s u
behind_tells t sense s u e =
    let x = dot (ray_way t u) (displacement t.c s) in
    let y = turned_by sense (ray_way t u) (displacement t.c s) in
    let both = and_parts (int_lt (pos 0) x) (int_le (pos 0) y) e in
    (lt_true (pos 0) x both.0, le_true (pos 0) y both.1)

behind_from : (t : Circ) (sense : ℤ) (s : Pt) (u : Dir) → IsPast t sense s u → is_behind t sense s u ≡ true
behind_from t sense s u past =
    let x = dot (ray_way t u) (displacement t.c s) in
    let y = turned_by sense (ray_way t u) (displacement t.c s) in
    and_from (int_lt (pos 0) x) (int_le (pos 0) y) (lt_from (pos 0) x past.0) (le_from (pos 0) y past.1)

abbrev pub Reaches : ℕ → Circ → ℤ → Pt → Dir → Type 0
Reaches zero t sense s u = IsPast t sense s u
Reaches (suc n) t sense s u = IsPast t sense s u ⊎ Reaches n t sense s (onward sense u)

past_or : (d c : ℤ) → (d ≡ pos 0 → c ≡ pos 0 → ⊥)
    → ((pos 0 <ℤ d) × (pos 0 ≤ℤ c)) ⊎ (((pos 0 <ℤ c) × (d ≤ℤ pos 0)) ⊎ (((d <ℤ pos 0) × (c ≤ℤ pos 0)) ⊎ ((c <ℤ pos 0) × (pos 0 ≤ℤ d))))
past_or (pos zero) (pos zero) some = absurd (some refl refl)
past_or (pos zero) (pos (suc c)) some = inr (inl (omega (arith, ints), omega (arith, ints)))
past_or (pos zero) (negsuc c) some = inr (inr (inr (omega (arith, ints), omega (arith, ints))))
past_or (pos (suc d)) (pos c) some = inl (omega (arith, ints), omega (arith, ints))
past_or (pos (suc d)) (negsuc c) some = inr (inr (inr (omega (arith, ints), omega (arith, ints))))
past_or (negsuc d) (pos zero) some = inr (inr (inl (omega (arith, ints), omega (arith, ints))))
past_or (negsuc d) (pos (suc c)) some = inr (inl (omega (arith, ints), omega (arith, ints)))
past_or (negsuc d) (negsuc c) some = inr (inr (inl (omega (arith, ints), omega (arith, ints))))

-- one quarter on, the dot product is the turn before, and the turn the dot product negated
step_dot : (t : Circ) (sense : ℤ) (s : Pt) (u : Dir) → IsSense sense → dot (ray_way t (onward sense u)) (displacement t.c s) ≡ turned_by sense (ray_way t u) (displacement t.c s)
step_dot t sense s u is =
    let vs = displacement t.c s in
    dot_swap (ray_way t (onward sense u)) vs ∙ (ray_onward t sense u is).ahead vs ∙ sym (turned_back sense vs (ray_way t u))

step_turn : (t : Circ) (sense : ℤ) (s : Pt) (u : Dir) → IsSense sense → turned_by sense (ray_way t (onward sense u)) (displacement t.c s) ≡ neg_ℤ (dot (ray_way t u) (displacement t.c s))
step_turn t sense s u is =
    let vs = displacement t.c s in
    turned_back sense vs (ray_way t (onward sense u)) ∙ ap (λ z. neg_ℤ z) ((ray_onward t sense u is).aside vs ∙ dot_swap vs (ray_way t u))

past_at : (t : Circ) (sense : ℤ) (s : Pt) (u : Dir) (d c : ℤ) → dot (ray_way t u) (displacement t.c s) ≡ d → turned_by sense (ray_way t u) (displacement t.c s) ≡ c → pos 0 <ℤ d → pos 0 ≤ℤ c → IsPast t sense s u
past_at t sense s u d c e f p q = (rw e p, rw f q)

pub reaches : (t : Circ) (sense : ℤ) (s : Pt) (u : Dir) → IsSense sense
    → (dot (ray_way t u) (displacement t.c s) ≡ pos 0 → turned_by sense (ray_way t u) (displacement t.c s) ≡ pos 0 → ⊥) → Reaches 3 t sense s u
reaches t sense s u is some =
    let d = dot (ray_way t u) (displacement t.c s) in
    let c = turned_by sense (ray_way t u) (displacement t.c s) in
    let u1 = onward sense u in
    let u2 = onward sense u1 in
    let u3 = onward sense u2 in
    let d1 : dot (ray_way t u1) (displacement t.c s) ≡ c = step_dot t sense s u is in
    let c1 : turned_by sense (ray_way t u1) (displacement t.c s) ≡ neg_ℤ d = step_turn t sense s u is in
    let d2 : dot (ray_way t u2) (displacement t.c s) ≡ neg_ℤ d = step_dot t sense s u1 is ∙ c1 in
    let c2 : turned_by sense (ray_way t u2) (displacement t.c s) ≡ neg_ℤ c = step_turn t sense s u1 is ∙ ap (λ z. neg_ℤ z) d1 in
    let d3 : dot (ray_way t u3) (displacement t.c s) ≡ neg_ℤ c = step_dot t sense s u2 is ∙ c2 in
    let c3 : turned_by sense (ray_way t u3) (displacement t.c s) ≡ neg_ℤ (neg_ℤ d) = step_turn t sense s u2 is ∙ ap (λ z. neg_ℤ z) d2 in
    elim (past_or d c some) [
      | inl p ↦ inl p
      | inr (inl p) ↦ inr (inl (past_at t sense s u1 c (neg_ℤ d) d1 c1 p.0 (omega (arith, ints, p.1))))
      | inr (inr (inl p)) ↦ inr (inr (inl (past_at t sense s u2 (neg_ℤ d) (neg_ℤ c) d2 c2 (omega (arith, ints, p.0)) (omega (arith, ints, p.1)))))
      | inr (inr (inr p)) ↦ inr (inr (inr (past_at t sense s u3 (neg_ℤ c) (neg_ℤ (neg_ℤ d)) d3 c3 (omega (arith, ints, p.0)) (omega (arith, ints, p.1)))))
    ]

-- the direction that the code finds is a quarter turn on from one behind the start
pub first_found : (n : ℕ) (t : Circ) (sense : ℤ) (s : Pt) (u : Dir) → IsSense sense → Reaches n t sense s u
    → (v : Dir) × IsTurned u v × IsPast t sense s v × (first_past n t sense s u ≡ onward sense v)
unfolding first_past
first_found zero t sense s u is past = (u, inl refl, past, refl)
first_found (suc n) t sense s u is past = elim (cases_Bool (is_behind t sense s u)) [
  | inl e ↦ (u, inl refl, behind_tells t sense s u e, rw e refl)
  | inr e ↦
      let next : Reaches n t sense s (onward sense u) = elim past [ inl p ↦ absurd (true≢false (sym (behind_from t sense s u p) ∙ e)) | inr p ↦ p ] in
      let found = first_found n t sense s (onward sense u) is next in
      (found.0, turn_after u (onward sense u) found.0 (onward_turned sense u is) found.1, found.2, rw e found.3)
]
