-- A chord is clear exactly where its ends and the foot of the centre tell so.
use Rattle.std.proofs.Common.{refl, ◌≡◌, ◌↔◌, ◌⊎◌, inl, inr, ℕ, ◌+◌, ◌*◌, ◌≤◌, ◌<◌, ◌∙◌, ap, sym, arith, Bool, true, false, true≢false, not, IsTrue, ℤ, pos, negsuc, ◌-ℤ◌, ◌<ℤ◌, ◌≤ℤ◌, int_lt, unsigned_abs}
use Rattle.std.specs.Prelude.{◌&&◌, nat_le, nat_lt, int_le, Option, None, Some, IsNone, IfSome, is_some}
use Rattle.std.proofs.lemmas.Int.{ints}
use Rattle.std.proofs.lemmas.Bool.{cases_Bool, cases_lt, leb-true, le-leb, ltb-true, ltb-false, and_parts, and_left, not_from_false}
use Rattle.apt_plane.specs.declared.figures.Pt.{Pt}
use Rattle.apt_plane.specs.declared.figures.Circ.{Circ}
use Rattle.apt_plane.specs.declared.figures.Spot.{Spot}
use Rattle.apt_plane.specs.Vectors.{between, displacement, displacement_to, cross, dot, length_squared}
use Rattle.apt_plane.specs.Distances.{IsOver, EveryPoint, about}
use Rattle.apt_plane.specs.Segments.{IsFirstFoot}
use Rattle.apt_plane.proofs.SegmentLaws.{at_start, at_end, not_all}
use Rattle.apt_plane.proofs.RingLaws.{length_at_most, over_from, over_to, over-between, negative_over, IsFootFar, IsFootNear, foot_off}
use Rattle.apt_arc.specs.Cuts.{IsClear}
use Rattle.apt_arc.specs.Made.{is_clear, is_over, is_foot_near}

-- ---- tests
pub lt_true : (a b : ℤ) → int_lt a b ≡ true → a <ℤ b
lt_true a b e = grind (arith, ints)

lt_false : (a b : ℤ) → int_lt a b ≡ false → b ≤ℤ a
lt_false a b e = grind (arith, ints)

pub lt_from : (a b : ℤ) → a <ℤ b → int_lt a b ≡ true
lt_from a b h = grind (arith, ints)

pub le_true : (a b : ℤ) → int_le a b ≡ true → a ≤ℤ b
le_true a b e = grind (arith, ints)

pub le_from : (a b : ℤ) → a ≤ℤ b → int_le a b ≡ true
le_from a b h = grind (arith, ints)

second_fails : (a b c : Bool) → a ≡ true → b ≡ false → (a && (b && c)) ≡ false
second_fails a b c e f = rw (e, f) refl

third_fails : (a b c : Bool) → a ≡ true → b ≡ true → c ≡ false → (a && (b && c)) ≡ false
third_fails a b c e f g = rw (e, f, g) refl

none_fails : (a b c : Bool) → a ≡ true → b ≡ true → c ≡ true → (a && (b && c)) ≡ true
none_fails a b c e f g = rw (e, f, g) refl

-- ---- the foot of the centre
far_product : (n a h : ℕ) (z : ℤ) → pos 0 <ℤ z → z <ℤ pos n → h * h * n ≤ a * a → (0 < n) × (h * h * n ≤ a * a)
far_product n a h z p q r = (omega (arith, ints, p, q), r)

foot_cases : (c : Pt) (h : ℕ) (p q : Pt) → ((is_foot_near c h p q ≡ true) × IsFootNear c p q (pos h)) ⊎ ((is_foot_near c h p q ≡ false) × IsFootFar c p q h)
foot_cases c h p q =
    let way = dot (displacement p q) (displacement p c) in
    let n = length_squared (displacement p q) in
    let area = unsigned_abs (cross (displacement p q) (displacement p c)) in
    let first = int_lt (pos 0) way in
    let second = int_lt way (pos n) in
    let third = nat_lt (area * area) (h * h * n) in
    elim (cases_Bool first) [
      | inr e ↦ inr (and_left first (second && third) e, inl (lt_false (pos 0) way e))
      | inl e ↦ elim (cases_Bool second) [
        | inr f ↦ inr (second_fails first second third e f, inr (inl (lt_false way (pos n) f)))
        | inl f ↦ elim (cases_Bool third) [
          | inr g ↦ inr (third_fails first second third e f g, inr (inr (far_product n area h way (lt_true (pos 0) way e) (lt_true way (pos n) f) (ltb-false (area * area) (h * h * n) g))))
          | inl g ↦
              inl (
                none_fails first second third e f g,
                record { length = omega (arith, ints); behind_start = lt_true (pos 0) way e; before_end = lt_true way (pos n) f; nearer = ltb-true (area * area) (h * h * n) g },
              )
        ]
      ]
    ]

over_forwards : (c : Pt) (h : ℕ) (p q : Pt) → is_over c (pos h) p q ≡ true → EveryPoint p q (IsOver (about c) (pos h))
over_forwards c h p q t =
    let start = and_parts (nat_le (h * h) (length_squared (displacement c p))) (nat_le (h * h) (length_squared (displacement c q)) && not (is_foot_near c h p q)) t in
    let rest = and_parts (nat_le (h * h) (length_squared (displacement c q))) (not (is_foot_near c h p q)) start.1 in
    elim (foot_cases c h p q) [
      | inl near ↦ absurd (true≢false (sym rest.1 ∙ ap not near.0))
      | inr far ↦
          over-between c p q h (over_to c p h (leb-true (h * h) (length_squared (displacement c p)) start.0)) (over_to c q h (leb-true (h * h) (length_squared (displacement c q)) rest.0)) far.1
    ]

not_every : (c : Pt) (h : ℕ) (p q : Pt) → IsFootNear c p q (pos h) → ¬ EveryPoint p q (IsOver (about c) (pos h))
not_every c h p q near every =
    let off = foot_off c p q (pos h) (dot (displacement p q) (displacement p c)) (pos (length_squared (displacement p q))) near
    (at_start (IsOver (about c) (pos h)) p q every) (at_end (IsOver (about c) (pos h)) p q every) refl refl in
    off.fails (every off.j off.k (omega (arith, off.foot.behind_start)))

over_back : (c : Pt) (h : ℕ) (p q : Pt) → EveryPoint p q (IsOver (about c) (pos h)) → is_over c (pos h) p q ≡ true
over_back c h p q every = elim (foot_cases c h p q) [
  | inl near ↦ absurd (not_every c h p q near.1 every)
  | inr far ↦
      none_fails (nat_le (h * h) (length_squared (displacement c p))) (nat_le (h * h) (length_squared (displacement c q))) (not (is_foot_near c h p q))
      (le-leb (h * h) (length_squared (displacement c p)) (over_from c p h (at_start (IsOver (about c) (pos h)) p q every)))
      (le-leb (h * h) (length_squared (displacement c q)) (over_from c q h (at_end (IsOver (about c) (pos h)) p q every))) (not_from_false (is_foot_near c h p q) far.0)
]

pub over_tells : (c : Pt) (lo : ℤ) (p q : Pt) → IsTrue (is_over c lo p q) ↔ EveryPoint p q (IsOver (about c) lo)
over_tells c (negsuc h) p q = (λ t. negative_over c p q h, λ every. refl)
over_tells c (pos h) p q = (λ t. over_forwards c h p q t, λ every. over_back c h p q every)

pub clear_tells : (track : Circ) (sag : ℤ) (a b : Pt) → IsTrue (is_clear track sag a b) ↔ IsClear track sag a b
unfolding is_clear
clear_tells track sag a b = over_tells track.c (track.r -ℤ sag) a b

-- ---- by the foot of the centre alone, where the ends are known to be far enough
pub same_answer : (a b : Bool) → (a ≡ true → b ≡ true) → (b ≡ true → a ≡ true) → a ≡ b
same_answer true b f g = sym (f refl)
same_answer false true f g = g refl
same_answer false false f g = refl

-- no foot is too near exactly where the chord is clear
pub none_tells : (track : Circ) (sag : ℤ) (a b : Pt) (foot : Option Spot) (r : Bool) → is_some foot ≡ not r → (IsNone foot → IsClear track sag a b)
    → IfSome foot (λ s. IsFirstFoot track.c (IsOver (about track.c) (track.r -ℤ sag)) a b s) → IsTrue r ↔ IsClear track sag a b
none_tells track sag a b None true e none some = (λ t. none refl, λ clear. refl)
none_tells track sag a b (Some s) false e none some = not_all (about track.c) (IsOver (about track.c) (track.r -ℤ sag)) a b s (inr some)
none_tells track sag a b None false e none some = absurd (true≢false (sym e))
none_tells track sag a b (Some s) true e none some = absurd (true≢false e)

pub answer_is : (track : Circ) (sag : ℤ) (a b : Pt) (r : Bool) → IsTrue r ↔ IsClear track sag a b → r ≡ is_clear track sag a b
answer_is track sag a b r tells =
    let law = clear_tells track sag a b in
    same_answer r (is_clear track sag a b) (λ e. law.1 (tells.0 e)) (λ e. tells.1 (law.0 e))

-- ---- a chord that is not clear, of ends that are far enough from the centre
pub near_point : (c : Pt) (h : ℕ) (p q : Pt) → h * h ≤ length_squared (displacement c p) → h * h ≤ length_squared (displacement c q) → is_over c (pos h) p q ≡ false
    → (j : ℕ) × (k : ℕ) × (length_squared (displacement_to c (between p q j k)) < (j + k) * (j + k) * (h * h))
near_point c h p q start end off = elim (foot_cases c h p q) [
  | inr far ↦
      absurd (true≢false (sym (none_fails (nat_le (h * h) (length_squared (displacement c p))) (nat_le (h * h) (length_squared (displacement c q))) (not (is_foot_near c h p q))
      (le-leb (h * h) (length_squared (displacement c p)) start) (le-leb (h * h) (length_squared (displacement c q)) end) (not_from_false (is_foot_near c h p q) far.0)) ∙ off))
  | inl near ↦
      let spot = foot_off c p q (pos h) (dot (displacement p q) (displacement p c)) (pos (length_squared (displacement p q))) near.1 (over_to c p h start) (over_to c q h end) refl refl in
      let n = length_squared (displacement_to c (between p q spot.j spot.k)) in (
        spot.j,
        spot.k,
        elim (cases_lt n ((spot.j + spot.k) * (spot.j + spot.k) * (h * h))) [
          | inl less ↦ less
          | inr past ↦ absurd (spot.fails ((length_at_most (spot.j + spot.k) h n).1 past))
        ],
      )
]
