-- Directions a quarter turn on from each other, between a start and an end: each comes before the next, and the pieces between them turn by at most a quarter.
use Rattle.std.proofs.Common.{refl, ◌≡◌, ◌≢◌, ◌⊎◌, inl, inr, ℕ, zero, suc, ◌<◌, ◌∙◌, ap, subst, arith, ℤ, pos, negsuc, neg_ℤ, ◌+ℤ◌, ◌-ℤ◌, ◌*ℤ◌, ◌<ℤ◌, ◌≤ℤ◌}
use Rattle.std.proofs.Math.IntN.{*ℤ_comm}
use Rattle.std.proofs.lemmas.Int.{ints}
use Rattle.apt_num.proofs.Ring.{as_diff, diff-same, differences}
use Rattle.apt_num.proofs.Products.{sign_cases, side_cases, both_plus, no_minus, one_each, other_each, strict_each}
use Rattle.apt_num.proofs.Turning.{Two, not_first, not_second, not_third}
use Rattle.apt_plane.specs.declared.figures.Dir.{Dir}
use Rattle.apt_plane.specs.Vectors.{cross, dot, length_squared, perp}
use Rattle.apt_plane.specs.Ranges.{IsSense}
use Rattle.apt_plane.specs.Order.{turn_class, ComesBefore}
use Rattle.apt_plane.proofs.Displacements.{square_length_squared, cross_self, dot_swap, turn_parts}
use Rattle.apt_plane.proofs.Heights.{one-times}
use Rattle.apt_plane.proofs.Turned.{turned_by, turned_back, minus-times, plucker_turned, about_start}
use Rattle.apt_plane.proofs.Around.{Cyc, IsPlace, is_place, zero_class, before_cyc, before_onward, before_from_start, cyc_after}

-- w lies a quarter turn on from v
pub record IsOnward (sense : ℤ) (v w : Dir) : Type 0 where
  pub ahead : (x : Dir) → dot x w ≡ neg_ℤ (turned_by sense x v)
  pub aside : (x : Dir) → turned_by sense x w ≡ dot x v

pub left_is : (v : Dir) (sense : ℤ) → sense ≡ pos 1 → IsOnward sense v (perp v)
left_is v sense e = record {
  ahead = λ x. rw (e, one-times (cross x v)) (ahead_parts x.dx x.dy v.dx v.dy);
  aside = λ x. rw (e, one-times (cross x (perp v))) (turn_parts x.dx x.dy v.dx v.dy);
}
  where
    ahead_parts : (a b c d : ℤ) → (a *ℤ neg_ℤ d) +ℤ (b *ℤ c) ≡ neg_ℤ ((a *ℤ d) -ℤ (b *ℤ c))
    ahead_parts a b c d = rw (as_diff a, as_diff b, as_diff c, as_diff d) (simp differences (diff-same _ _ _ _ (omega arith)))

abbrev pub right : Dir → Dir
right u = record { dx = u.dy; dy = neg_ℤ u.dx }

pub right_is : (v : Dir) (sense : ℤ) → sense ≡ negsuc 0 → IsOnward sense v (right v)
right_is v sense e = record {
  ahead = λ x. rw (e, minus-times (cross x v)) (ahead_parts x.dx x.dy v.dx v.dy);
  aside = λ x. rw (e, minus-times (cross x (right v))) (aside_parts x.dx x.dy v.dx v.dy);
}
  where
    ahead_parts : (a b c d : ℤ) → (a *ℤ d) +ℤ (b *ℤ neg_ℤ c) ≡ neg_ℤ (neg_ℤ ((a *ℤ d) -ℤ (b *ℤ c)))
    ahead_parts a b c d = rw (as_diff a, as_diff b, as_diff c, as_diff d) (simp differences (diff-same _ _ _ _ (omega arith)))

    aside_parts : (a b c d : ℤ) → neg_ℤ ((a *ℤ neg_ℤ c) -ℤ (b *ℤ d)) ≡ (a *ℤ c) +ℤ (b *ℤ d)
    aside_parts a b c d = rw (as_diff a, as_diff b, as_diff c, as_diff d) (simp differences (diff-same _ _ _ _ (omega arith)))

-- ---- a quarter turn is a turn of less than a half, and ends square to its start
self_positive : (v : Dir) → 0 < length_squared v → pos 0 <ℤ dot v v
self_positive v some = rw (← square_length_squared v) (omega (arith, ints, some))

pub onward_turn : (sense : ℤ) (v w : Dir) → IsOnward sense v w → 0 < length_squared v → pos 0 <ℤ turned_by sense v w
onward_turn sense v w on some = rw (on.aside v) (self_positive v some)

sense_none : (sense z : ℤ) → z ≡ pos 0 → neg_ℤ (sense *ℤ z) ≡ pos 0
sense_none sense z e = rw e (omega (arith, ints))

pub onward_square : (sense : ℤ) (v w : Dir) → IsOnward sense v w → pos 0 ≤ℤ dot v w
onward_square sense v w on = rw (on.ahead v, sense_none sense (cross v v) (cross_self v)) (omega (arith, ints))

-- the turn from it to another is a dot product
pub from_onward : (sense : ℤ) (v w e : Dir) → IsOnward sense v w → turned_by sense w e ≡ neg_ℤ (dot e v)
from_onward sense v w e on = turned_back sense e w ∙ ap (λ z. neg_ℤ z) (on.aside e)

-- ---- in numbers: sv the turn from s to v, and so on; ws the other way round
last_low : (sv we ws ve es vw sw : ℤ) → (sv *ℤ we) +ℤ (ws *ℤ ve) ≡ es *ℤ vw → ws ≡ neg_ℤ sw → pos 0 <ℤ vw → Two sv ve es → ¬ Two sw we es → we ≤ℤ pos 0
last_low sv we ws ve es vw sw e f p two none = elim (sign_cases we) [
  | inl more ↦ elim (sign_cases sw) [
    | inl q ↦ absurd (none (inl (q, more)))
    | inr q ↦ elim (sign_cases es) [
      | inl r ↦ absurd (none (inr (inl (more, r))))
      | inr r ↦
          let rest = not_third sv ve es r two in
          absurd (omega (arith, ints, e, both_plus sv we rest.0 more, no_minus ws ve (omega (arith, ints, f, q)) (omega (arith, ints, rest.1)), one_each es vw r (omega (arith, ints, p))))
    ]
  ]
  | inr fine ↦ fine
]

last_turn : (sv we ws ve es vw sw : ℤ) → (sv *ℤ we) +ℤ (ws *ℤ ve) ≡ es *ℤ vw → ws ≡ neg_ℤ sw → pos 0 <ℤ vw → Two sv ve es → ¬ Two sw we es → we ≤ℤ pos 0 → pos 0 <ℤ ve
last_turn sv we ws ve es vw sw e f p two none low = elim (sign_cases ve) [
  | inl fine ↦ fine
  | inr less ↦
      let rest = not_second sv ve es less two in
      elim (sign_cases sw) [
        | inl q ↦ absurd (none (inr (inr (rest.0, q))))
        | inr q ↦ absurd (omega (arith, ints, e, other_each sv we (omega (arith, ints, rest.1)) low, other_each ws ve (omega (arith, ints, f, q)) less, both_plus es vw rest.0 p))
      ]
]

-- v is on the way and w not: v lies at most a quarter turn before the end
pub last_piece : (sense : ℤ) (s v w e : Dir) → IsSense sense → IsOnward sense v w → 0 < length_squared v → Cyc s sense v e → ¬ Cyc s sense w e
    → (pos 0 <ℤ turned_by sense v e) × (pos 0 ≤ℤ dot v e)
last_piece sense s v w e is on some two none =
    let sv = turned_by sense s v in
    let we = turned_by sense w e in
    let ws = turned_by sense w s in
    let ve = turned_by sense v e in
    let es = turned_by sense e s in
    let vw = turned_by sense v w in
    let sw = turned_by sense s w in
    let parts : (sv *ℤ we) +ℤ (ws *ℤ ve) ≡ es *ℤ vw = plucker_turned sense s v w e is in
    let back : ws ≡ neg_ℤ sw = turned_back sense s w in
    let turn : pos 0 <ℤ vw = onward_turn sense v w on some in
    let low = last_low sv we ws ve es vw sw parts back turn two none in
    (last_turn sv we ws ve es vw sw parts back turn two none low, omega (arith, ints, low, from_onward sense v w e on, dot_swap v e))

-- the last of four: the start lies before it
last_core : (sv we ws ve es vw : ℤ) → (sv *ℤ we) +ℤ (ws *ℤ ve) ≡ es *ℤ vw → sv ≤ℤ pos 0 → ws <ℤ pos 0 → pos 0 <ℤ ve → pos 0 <ℤ es → pos 0 <ℤ vw → we ≤ℤ pos 0
last_core sv we ws ve es vw e p q r t u = elim (sign_cases we) [
  | inl more ↦ absurd (omega (arith, ints, e, one_each sv we p (omega (arith, ints, more)), strict_each ve ws r q, *ℤ_comm ve ws, both_plus es vw t u))
  | inr fine ↦ fine
]

pub last_of_four : (sense : ℤ) (s v w e : Dir) → IsSense sense → IsOnward sense v w → 0 < length_squared v → turned_by sense s v ≤ℤ pos 0 → pos 0 <ℤ dot s v → Cyc s sense v e
    → (pos 0 <ℤ turned_by sense v e) × (pos 0 ≤ℤ dot v e)
last_of_four sense s v w e is on some low ahead two =
    let sv = turned_by sense s v in
    let we = turned_by sense w e in
    let ws = turned_by sense w s in
    let ve = turned_by sense v e in
    let es = turned_by sense e s in
    let vw = turned_by sense v w in
    let rest = not_first sv ve es low two in
    let under : we ≤ℤ pos 0 =
    last_core sv we ws ve es vw (plucker_turned sense s v w e is) low (omega (arith, ints, from_onward sense v w s on, ahead)) rest.0 rest.1 (onward_turn sense v w on some) in
    (rest.0, omega (arith, ints, under, from_onward sense v w e on, dot_swap v e))

-- ---- after the start and before the end
abbrev pub IsBetween : ℤ → Dir → Dir → Dir → Type 0
IsBetween sense s e q = ComesBefore s sense s q × ComesBefore s sense q e

-- ---- a start and an end
pub record Ends (sense : ℤ) (s e : Dir) : Type 0 where
  pub either : IsSense sense
  pub start : 0 < length_squared s
  pub end : 0 < length_squared e

pub in_turn : (sense : ℤ) (s e q : Dir) → Ends sense s e → 0 < length_squared q → IsBetween sense s e q → Cyc s sense q e
in_turn sense s e q are some between = (before_cyc sense s q e are.either are.start some are.end ((before_from_start sense s q are.start).0 between.0)).0 between.1

-- one in the start's own direction is never in turn between
no_turn : (n : ℕ) (x d c y z : ℤ) → x ≡ pos 0 → pos 0 <ℤ d → pos n *ℤ c ≡ (d *ℤ y) -ℤ (x *ℤ z) → 0 < n → ¬ Two x c (neg_ℤ y)
no_turn n x d c y z e p f some two =
    let rest = not_first x c (neg_ℤ y) (omega (arith, ints, e)) two in
    let whole : pos n *ℤ c ≡ d *ℤ y = f ∙ rw e (omega (arith, ints)) in
    omega (arith, ints, whole, both_plus (pos n) c (omega (arith, ints, some)) rest.0, strict_each d y p (omega (arith, ints, rest.1)))

none_or_some : (k : ℕ) → (k ≡ 0) ⊎ (k ≢ 0)
none_or_some zero = inl refl
none_or_some (suc k) = inr (λ e. omega (arith, e))

not_in_turn : (sense : ℤ) (s e q : Dir) → Ends sense s e → 0 < length_squared q → ¬ IsBetween sense s e q → ¬ Cyc s sense q e
not_in_turn sense s e q are some none two = elim (none_or_some (turn_class s sense q)) [
  | inl same ↦
      let at = zero_class (turned_by sense s q) (dot s q) (turn_class s sense q) same (is_place sense s q are.either are.start some) in
      no_turn (length_squared s) (turned_by sense s q) (dot s q) (turned_by sense q e) (turned_by sense s e) (dot s e) at.0 at.1 (about_start sense s q e) are.start
      (subst (λ (z : ℤ). Two (turned_by sense s q) (turned_by sense q e) z) (turned_back sense s e) two)
  | inr other ↦ none ((before_from_start sense s q are.start).1 other, (before_cyc sense s q e are.either are.start some are.end other).1 two)
]

-- ---- a quarter point, and the next: the first is not in the last quarter of the turn from the start
pub record IsStep (sense : ℤ) (s e v w : Dir) : Type 0 where
  pub ends : Ends sense s e
  pub first : 0 < length_squared v
  pub second : 0 < length_squared w
  pub onward : IsOnward sense v w
  pub early : (pos 0 <ℤ turned_by sense s v) ⊎ (dot s v ≤ℤ pos 0)

some_class : (sense : ℤ) (s e v w : Dir) → IsStep sense s e v w → turn_class s sense v ≢ 0
some_class sense s e v w step same =
    let at = zero_class (turned_by sense s v) (dot s v) (turn_class s sense v) same (is_place sense s v step.ends.either step.ends.start step.first) in
    elim step.early [ inl h ↦ omega (arith, ints, at.0, h) | inr h ↦ omega (arith, ints, at.1, h) ]

-- where it lies up to a quarter turn before the start, but not in its direction
behind : (x d : ℤ) (k : ℕ) → k ≢ 0 → x ≤ℤ pos 0 → pos 0 <ℤ d → IsPlace x d k → x <ℤ pos 0
behind x d k some h g (inl p) = absurd (some p.0)
behind x d k some h g (inr (inl p)) = absurd (omega (arith, ints, p.1, h))
behind x d k some h g (inr (inr (inl p))) = absurd (omega (arith, ints, p.2, g))
behind x d k some h g (inr (inr (inr p))) = p.1

onwards : (x d y c : ℤ) (k : ℕ) → y ≡ d → c ≡ neg_ℤ x → k ≢ 0 → IsPlace y c k → (pos 0 <ℤ x) ⊎ (d ≤ℤ pos 0) → (pos 0 ≤ℤ x) ⊎ (y <ℤ pos 0)
onwards x d y c k e f some at (inl h) = inl (omega (arith, ints))
onwards x d y c k e f some at (inr h) = elim (side_cases x) [ inl below ↦ inr (behind y c k some (omega (arith, ints)) (omega (arith, ints)) at) | inr above ↦ inl above ]

pub before_next : (sense : ℤ) (s e v w : Dir) → IsStep sense s e v w → ComesBefore s sense s w → ComesBefore s sense v w
before_next sense s e v w step after =
    let ends = step.ends in
    (before_onward sense s v w ends.either ends.start step.first step.second (onward_turn sense v w step.onward step.first)).1
    (onwards (turned_by sense s v) (dot s v) (turned_by sense s w) (dot s w) (turn_class s sense w) (step.onward.aside s) (step.onward.ahead s) ((before_from_start sense s w ends.start).0 after)
    (is_place sense s w ends.either ends.start step.second) step.early)

pub next_between : (sense : ℤ) (s e v w : Dir) → IsStep sense s e v w → IsBetween sense s e w → IsBetween sense s e v
next_between sense s e v w step between =
    let ends = step.ends in
    let some = some_class sense s e v w step in
    let turn = (before_cyc sense s v w ends.either ends.start step.first step.second some).0 (before_next sense s e v w step between.0) in (
      (before_from_start sense s v ends.start).1 some,
      (before_cyc sense s v e ends.either ends.start step.first ends.end some).1 (cyc_after sense s v w e ends.either turn (in_turn sense s e w ends step.second between)),
    )

pub last_between : (sense : ℤ) (s e v w : Dir) → IsStep sense s e v w → IsBetween sense s e v → ¬ IsBetween sense s e w → (pos 0 <ℤ turned_by sense v e) × (pos 0 ≤ℤ dot v e)
last_between sense s e v w step one none =
    last_piece sense s v w e step.ends.either step.onward step.first (in_turn sense s e v step.ends step.first one) (not_in_turn sense s e w step.ends step.second none)

-- ---- the end comes before the first
only_core : (n : ℕ) (sw dw we se de es : ℤ) → pos n *ℤ we ≡ (dw *ℤ se) -ℤ (sw *ℤ de) → es ≡ neg_ℤ se → 0 < n → pos 0 <ℤ sw → pos 0 ≤ℤ dw → ¬ Two sw we es → (se ≡ pos 0 → de <ℤ pos 0)
    → (pos 0 <ℤ se) × (pos 0 ≤ℤ de)
only_core n sw dw we se de es e f some p q none not_start =
    let low : we ≤ℤ pos 0 = elim (sign_cases we) [ inl r ↦ absurd (none (inl (p, r))) | inr r ↦ r ] in
    let back : es ≤ℤ pos 0 = elim (sign_cases es) [ inl r ↦ absurd (none (inr (inr (r, p)))) | inr r ↦ r ] in
    let whole : (pos n *ℤ we) ≤ℤ pos 0 = other_each (pos n) we (omega (arith, ints)) low in
    let over : pos 0 ≤ℤ se = omega (arith, ints, f, back) in
    let ahead : pos 0 ≤ℤ de = elim (side_cases de) [
      | inl r ↦ absurd (omega (arith, ints, e, whole, no_minus dw se q over, strict_each sw de p r))
      | inr r ↦ r
    ] in
    (elim (sign_cases se) [ inl r ↦ r | inr r ↦ absurd (omega (arith, ints, ahead, not_start (omega (arith, ints)))) ], ahead)

not_ahead : (x d : ℤ) (k : ℕ) → k ≢ 0 → IsPlace x d k → x ≡ pos 0 → d <ℤ pos 0
not_ahead x d k some (inl p) e = absurd (some p.0)
not_ahead x d k some (inr (inl p)) e = absurd (omega (arith, ints, p.1, e))
not_ahead x d k some (inr (inr (inl p))) e = p.2
not_ahead x d k some (inr (inr (inr p))) e = absurd (omega (arith, ints, p.1, e))

pub none_between : (sense : ℤ) (s e p : Dir) → Ends sense s e → 0 < length_squared p → pos 0 <ℤ turned_by sense s p → pos 0 ≤ℤ dot s p → turn_class s sense e ≢ 0 → ¬ IsBetween sense s e p
    → (pos 0 <ℤ turned_by sense s e) × (pos 0 ≤ℤ dot s e)
none_between sense s e p are first turn ahead some none =
    only_core (length_squared s) (turned_by sense s p) (dot s p) (turned_by sense p e) (turned_by sense s e) (dot s e) (turned_by sense e s) (about_start sense s p e) (turned_back sense s e)
    are.start turn ahead (not_in_turn sense s e p are first none) (not_ahead (turned_by sense s e) (dot s e) (turn_class s sense e) some (is_place sense s e are.either are.start are.end))
