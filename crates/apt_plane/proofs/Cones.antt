-- A direction that a turn meets between two others lies in their cone.
use Rattle.std.proofs.Common.{refl, ◌≡◌, ◌≢◌, ◌⊎◌, inl, inr, ℕ, zero, suc, ◌*◌, ◌≤◌, ◌<◌, ◌∙◌, sym, subst, arith, ℤ, pos, neg_ℤ, ◌+ℤ◌, ◌-ℤ◌, ◌*ℤ◌, ◌≤ℤ◌, ◌<ℤ◌, unsigned_abs}
use Rattle.std.proofs.Math.IntN.{*ℤ_comm}
use Rattle.std.proofs.lemmas.Int.{ints}
use Rattle.std.proofs.lemmas.Nat.{mul-le}
use Rattle.apt_num.proofs.Ring.{as_diff, diff-same, differences, *ℤ_assoc, *ℤ-+ℤ}
use Rattle.apt_num.proofs.Products.{sign_cases, both_plus, both_minus, no_minus, one_each, strict_each, plus_of, minus_of}
use Rattle.apt_num.proofs.Turning.{Two, not_second, not_third}
use Rattle.apt_plane.specs.declared.figures.Dir.{Dir}
use Rattle.apt_plane.specs.Vectors.{cross, dot, length_squared}
use Rattle.apt_plane.specs.Ranges.{IsSense}
use Rattle.apt_plane.specs.Order.{turn_class, ComesBefore}
use Rattle.apt_plane.proofs.Displacements.{cross_square}
use Rattle.apt_plane.proofs.Turned.{turned_by, turned_back, size_sense, split_turned, about_start}
use Rattle.apt_plane.proofs.Around.{IsPlace, is_place, Cyc, before_cyc}

-- v lies from a to b, in a turn of less than a half
pub record IsInCone (sense : ℤ) (a b v : Dir) : Type 0 where
  pub behind : pos 0 ≤ℤ turned_by sense a v
  pub before : pos 0 ≤ℤ turned_by sense v b
  pub some : (pos 0 <ℤ turned_by sense a v) ⊎ (pos 0 <ℤ turned_by sense v b)

-- ---- of a start, a, v and b: p, x and g are the cross products of the start with a, b and v, j of a with v, k of v with b and q of a with b
not_both : (a b d : ℤ) → ¬ Two a b d → pos 0 <ℤ b → (a ≤ℤ pos 0) × (d ≤ℤ pos 0)
not_both a b d none plus = (
  elim (sign_cases a) [ inl up ↦ absurd (none (inl (up, plus))) | inr down ↦ down ],
  elim (sign_cases d) [ inl up ↦ absurd (none (inr (inl (plus, up)))) | inr down ↦ down ],
)

not_ends : (a b d : ℤ) → ¬ Two a b d → pos 0 <ℤ d → (a ≤ℤ pos 0) × (b ≤ℤ pos 0)
not_ends a b d none plus = (
  elim (sign_cases a) [ inl up ↦ absurd (none (inr (inr (plus, up)))) | inr down ↦ down ],
  elim (sign_cases b) [ inl up ↦ absurd (none (inr (inl (up, plus)))) | inr down ↦ down ],
)

before_core : (p x g j k q : ℤ) → (p *ℤ k) +ℤ (x *ℤ j) ≡ g *ℤ q → pos 0 <ℤ q → Two p j (neg_ℤ g) → ¬ Two x (neg_ℤ k) (neg_ℤ g) → pos 0 ≤ℤ k
before_core p x g j k q e some two none = elim (sign_cases (neg_ℤ k)) [
  | inr fine ↦ omega (arith, ints, fine)
  | inl below ↦
      let others = not_both x (neg_ℤ k) (neg_ℤ g) none below in
      let ahead = not_third p j (neg_ℤ g) others.1 two in
      absurd (omega (arith, ints, e, strict_each p k ahead.0 (omega (arith, ints, below)), one_each x j others.0 (omega (arith, ints, ahead.1)), no_minus g q (omega (arith, ints, others.1)) (omega (arith, ints, some))))
]

behind_core : (p x g j k q : ℤ) → (p *ℤ k) +ℤ (x *ℤ j) ≡ g *ℤ q → pos 0 <ℤ q → Two p j (neg_ℤ g) → ¬ Two x (neg_ℤ k) (neg_ℤ g) → pos 0 <ℤ j
behind_core p x g j k q e some two none = elim (sign_cases j) [
  | inl fine ↦ fine
  | inr down ↦
      let ahead = not_second p j (neg_ℤ g) down two in
      let others = not_ends x (neg_ℤ k) (neg_ℤ g) none ahead.0 in
      absurd (omega (
        arith,
        ints,
        e,
        no_minus p k (omega (arith, ints, ahead.1)) (omega (arith, ints, others.1)),
        both_minus x j others.0 down,
        strict_each q g some (omega (arith, ints, ahead.0)),
        *ℤ_comm g q,
      ))
]

-- ---- directions that are aside of each other have a length
factors : (x m n : ℕ) → 1 ≤ x → x * x ≤ m * n → (0 < m) × (0 < n)
factors x zero n some le = absurd (omega (arith, le, mul-le 1 1 x x some some))
factors x (suc m) zero some le = absurd (omega (arith, le, mul-le 1 1 x x some some))
factors x (suc m) (suc n) some le = (omega arith, omega arith)

pub aside_some : (sense : ℤ) (u v : Dir) → IsSense sense → pos 0 <ℤ turned_by sense u v → (0 < length_squared u) × (0 < length_squared v)
aside_some sense u v is onwards =
    factors (unsigned_abs (cross u v)) (length_squared u) (length_squared v) (omega (arith, ints, size_sense sense (cross u v) is, onwards)) (cross_square u v)

-- ---- the order from the start
pub class_behind : (s : Dir) (sense : ℤ) (u v : Dir) → ComesBefore s sense u v → turn_class s sense v ≢ 0
class_behind s sense u v (inl less) = λ e. omega (arith, less, e)
class_behind s sense u v (inr same) = λ e. elim same.1 [ inl one ↦ omega (arith, same.0, one, e) | inr three ↦ omega (arith, same.0, three, e) ]

-- behind the start itself nothing else comes first
first_place : (n : ℕ) (x d k q z : ℤ) (class : ℕ) → 0 < n → pos n *ℤ k ≡ (d *ℤ q) -ℤ (x *ℤ z) → pos 0 <ℤ q → pos 0 ≤ℤ x → pos 0 ≤ℤ k → IsPlace x d class → (pos 0 <ℤ x) ⊎ (pos 0 <ℤ k)
first_place n x d k q z class some e turn up fine (inl (zero_, none, ahead)) =
    let whole : pos n *ℤ k ≡ d *ℤ q = e ∙ rw none (omega (arith, ints)) in
    inr (plus_of n k (omega (arith, ints, whole, both_plus d q ahead turn)))
first_place n x d k q z class some e turn up fine (inr (inl near)) = inl near.1
first_place n x d k q z class some e turn up fine (inr (inr (inl (two, none, back)))) =
    let whole : pos n *ℤ k ≡ d *ℤ q = e ∙ rw none (omega (arith, ints)) in
    absurd (omega (arith, ints, fine, minus_of n k (omega (arith, ints, whole, strict_each q d turn back, *ℤ_comm d q))))
first_place n x d k q z class some e turn up fine (inr (inr (inr far))) = absurd (omega (arith, ints, far.1, up))

-- a step from the start
pub first_cone : (sense : ℤ) (s b v : Dir) → IsSense sense → 0 < length_squared s → 0 < length_squared b → 0 < length_squared v
    → pos 0 <ℤ turned_by sense s b → turn_class s sense b ≢ 0 → ¬ ComesBefore s sense b v → IsInCone sense s b v
first_cone sense s b v is ps pb pv turn some none =
    let cyc : ¬ Cyc s sense b v = λ two. none ((before_cyc sense s b v is ps pb pv some).1 two) in
    let ahead : turned_by sense b v ≤ℤ pos 0 = elim (sign_cases (turned_by sense b v)) [ inl up ↦ absurd (cyc (inl (turn, up))) | inr down ↦ down ] in
    let round : turned_by sense v s ≤ℤ pos 0 = elim (sign_cases (turned_by sense v s)) [ inl up ↦ absurd (cyc (inr (inr (up, turn)))) | inr down ↦ down ] in
    let behind : pos 0 ≤ℤ turned_by sense s v = omega (arith, ints, round, turned_back sense v s) in
    let before : pos 0 ≤ℤ turned_by sense v b = omega (arith, ints, ahead, turned_back sense b v) in
    record {
      behind = behind;
      before = before;
      some = first_place (length_squared s) (turned_by sense s v) (dot s v) (turned_by sense v b) (turned_by sense s b) (dot s b) (turn_class s sense v) ps (about_start sense s v b) turn behind before (is_place sense s v is ps pv);
    }

-- a later step
pub later_cone : (sense : ℤ) (s a b v : Dir) → IsSense sense → 0 < length_squared s → 0 < length_squared a → 0 < length_squared b → 0 < length_squared v
    → pos 0 <ℤ turned_by sense a b → turn_class s sense a ≢ 0 → turn_class s sense b ≢ 0 → ComesBefore s sense a v → ¬ ComesBefore s sense b v → IsInCone sense a b v
later_cone sense s a b v is ps pa pb pv turn some_a some_b comes none =
    let two : Two (turned_by sense s a) (turned_by sense a v) (neg_ℤ (turned_by sense s v)) =
    subst (λ (z : ℤ). Two (turned_by sense s a) (turned_by sense a v) z) (turned_back sense s v) ((before_cyc sense s a v is ps pa pv some_a).0 comes) in
    let not_two : ¬ Two (turned_by sense s b) (neg_ℤ (turned_by sense v b)) (neg_ℤ (turned_by sense s v)) =
    λ cyc. none ((before_cyc sense s b v is ps pb pv some_b).1 (back cyc)) in
    let plu = split_turned sense s a v b is in
    let ahead = behind_core (turned_by sense s a) (turned_by sense s b) (turned_by sense s v) (turned_by sense a v) (turned_by sense v b) (turned_by sense a b) plu turn two not_two in
    record {
      behind = omega (arith, ints, ahead);
      before = before_core (turned_by sense s a) (turned_by sense s b) (turned_by sense s v) (turned_by sense a v) (turned_by sense v b) (turned_by sense a b) plu turn two not_two;
      some = inl ahead;
    }
  where
    back : Two (turned_by sense s b) (neg_ℤ (turned_by sense v b)) (neg_ℤ (turned_by sense s v)) → Cyc s sense b v
    back cyc =
        subst (λ (z : ℤ). Two (turned_by sense s b) z (turned_by sense v s)) (sym (turned_back sense v b))
        (subst (λ (z : ℤ). Two (turned_by sense s b) (neg_ℤ (turned_by sense v b)) z) (sym (turned_back sense s v)) cyc)

-- ---- in the cone, k a + j b = q v
cone_part : (a b c d e f : ℤ) → ((((e *ℤ d) -ℤ (f *ℤ c)) *ℤ a) +ℤ (((a *ℤ f) -ℤ (b *ℤ e)) *ℤ c)) ≡ ((a *ℤ d) -ℤ (b *ℤ c)) *ℤ e
cone_part a b c d e f = rw (as_diff a, as_diff b, as_diff c, as_diff d, as_diff e, as_diff f) (simp differences (diff-same _ _ _ _ (omega arith)))

cone_other : (a b c d e f : ℤ) → ((((e *ℤ d) -ℤ (f *ℤ c)) *ℤ b) +ℤ (((a *ℤ f) -ℤ (b *ℤ e)) *ℤ d)) ≡ ((a *ℤ d) -ℤ (b *ℤ c)) *ℤ f
cone_other a b c d e f = rw (as_diff a, as_diff b, as_diff c, as_diff d, as_diff e, as_diff f) (simp differences (diff-same _ _ _ _ (omega arith)))

by_sense : (z k a j b q v : ℤ) → (k *ℤ a) +ℤ (j *ℤ b) ≡ q *ℤ v → ((z *ℤ k) *ℤ a) +ℤ ((z *ℤ j) *ℤ b) ≡ (z *ℤ q) *ℤ v
by_sense z k a j b q v e = rw (*ℤ_assoc z k a, *ℤ_assoc z j b, *ℤ_assoc z q v, ← e) (rw (*ℤ-+ℤ z (k *ℤ a) (j *ℤ b)) refl)

pub cone_dx : (sense : ℤ) (a b v : Dir) → (turned_by sense v b *ℤ a.dx) +ℤ (turned_by sense a v *ℤ b.dx) ≡ turned_by sense a b *ℤ v.dx
cone_dx sense a b v = by_sense sense (cross v b) a.dx (cross a v) b.dx (cross a b) v.dx (cone_part a.dx a.dy b.dx b.dy v.dx v.dy)

pub cone_dy : (sense : ℤ) (a b v : Dir) → (turned_by sense v b *ℤ a.dy) +ℤ (turned_by sense a v *ℤ b.dy) ≡ turned_by sense a b *ℤ v.dy
cone_dy sense a b v = by_sense sense (cross v b) a.dy (cross a v) b.dy (cross a b) v.dy (cone_other a.dx a.dy b.dx b.dy v.dx v.dy)
