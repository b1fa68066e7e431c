-- An arc has one division alone: its quarter points on the way are one list, and so are the cuts between them.
use Rattle.std.proofs.Common.{refl, ◌≡◌, inl, inr, ◌<◌, ◌∙◌, sym, subst, List, [], ◌∷◌, ℤ}
use Rattle.apt_plane.specs.declared.figures.Pt.{Pt}
use Rattle.apt_plane.specs.declared.figures.Circ.{Circ}
use Rattle.apt_plane.specs.Vectors.{displacement, length_squared}
use Rattle.apt_plane.specs.Ranges.{IsSense}
use Rattle.apt_plane.proofs.Around.{Cyc, before_cyc, before_from_start, cyc_after, cyc_once}
use Rattle.apt_arc.specs.Quarters.{AreOrdered, IsIn, Each, AreInOrder}

-- a point that is not the centre, after the start
abbrev pub IsAfter : Circ → ℤ → Pt → Pt → Type 0
IsAfter t sense s q = (0 < length_squared (displacement t.c q)) × AreOrdered t sense s s q

cyc_of : (t : Circ) (sense : ℤ) (s p q : Pt) → IsSense sense → 0 < length_squared (displacement t.c s) → IsAfter t sense s p → IsAfter t sense s q → AreOrdered t sense s p q
    → Cyc (displacement t.c s) sense (displacement t.c p) (displacement t.c q)
cyc_of t sense s p q is some at_p at_q order =
    let vs = displacement t.c s in
    let vp = displacement t.c p in
    (before_cyc sense vs vp (displacement t.c q) is some at_p.0 at_q.0 ((before_from_start sense vs vp some).0 at_p.1)).0 order

-- no two come before each other
pub never_both : (t : Circ) (sense : ℤ) (s p q : Pt) → IsSense sense → 0 < length_squared (displacement t.c s) → IsAfter t sense s p → IsAfter t sense s q
    → AreOrdered t sense s p q → AreOrdered t sense s q p → ⊥
never_both t sense s p q is some at_p at_q one other =
    cyc_once sense (displacement t.c s) (displacement t.c p) (displacement t.c q) (cyc_of t sense s p q is some at_p at_q one) (cyc_of t sense s q p is some at_q at_p other)

pub ordered_after : (t : Circ) (sense : ℤ) (s p q r : Pt) → IsSense sense → 0 < length_squared (displacement t.c s) → IsAfter t sense s p → IsAfter t sense s q → IsAfter t sense s r
    → AreOrdered t sense s p q → AreOrdered t sense s q r → AreOrdered t sense s p r
ordered_after t sense s p q r is some at_p at_q at_r one two =
    let vs = displacement t.c s in
    let vp = displacement t.c p in
    (before_cyc sense vs vp (displacement t.c r) is some at_p.0 at_r.0 ((before_from_start sense vs vp some).0 at_p.1)).1
    (cyc_after sense vs vp (displacement t.c q) (displacement t.c r) is (cyc_of t sense s p q is some at_p at_q one) (cyc_of t sense s q r is some at_q at_r two))

-- one of a list in order comes after what comes before its first
comes_later : (t : Circ) (sense : ℤ) (s a x : Pt) (list : List Pt) → IsSense sense → 0 < length_squared (displacement t.c s) → IsAfter t sense s a → Each list (IsAfter t sense s)
    → AreInOrder t sense s a list → IsIn x list → AreOrdered t sense s a x
comes_later t sense s a x [] is some at each order here = absurd here
comes_later t sense s a x (p ∷ ps) is some at each order (inl e) = subst (λ (z : Pt). AreOrdered t sense s a z) (sym e) order.0
comes_later t sense s a x (p ∷ ps) is some at each order (inr more) =
    comes_later t sense s a x ps is some at each.1 (after_head ps order.1 each.1) more
  where
    after_head : (qs : List Pt) → AreInOrder t sense s p qs → Each qs (IsAfter t sense s) → AreInOrder t sense s a qs
    after_head [] on all = tt
    after_head (q ∷ qs) on all = (ordered_after t sense s a p q is some at each.0 all.0 order.0 on.0, on.1)

-- two lists in order with the same points are one
both_heads : (p q : Pt) (ps qs : List Pt) → p ≡ q → ps ≡ qs → p ∷ ps ≡ q ∷ qs
both_heads p q ps qs e f = rw (e, f) refl

pub one_order : (t : Circ) (sense : ℤ) (s a b : Pt) (list other : List Pt) → IsSense sense → 0 < length_squared (displacement t.c s) → Each list (IsAfter t sense s) → Each other (IsAfter t sense s)
    → AreInOrder t sense s a list → AreInOrder t sense s b other → ((x : Pt) → IsIn x list → IsIn x other) → ((x : Pt) → IsIn x other → IsIn x list) → list ≡ other
one_order t sense s a b [] [] is some each also order on to back = refl
one_order t sense s a b [] (q ∷ qs) is some each also order on to back = absurd (back q (inl refl))
one_order t sense s a b (p ∷ ps) [] is some each also order on to back = absurd (to p (inl refl))
one_order t sense s a b (p ∷ ps) (q ∷ qs) is some each also order on to back =
    let same : p ≡ q = elim (to p (inl refl)) [
      | inl e ↦ e
      | inr more ↦ elim (back q (inl refl)) [
        | inl e ↦ sym e
        | inr less ↦ absurd (never_both t sense s p q is some each.0 also.0 (comes_later t sense s p q ps is some each.0 each.1 order.1 less) (comes_later t sense s q p qs is some also.0 also.1 on.1 more))
      ]
    ] in
    both_heads p q ps qs same
    (one_order t sense s p q ps qs is some each.1 also.1 order.1 on.1
    (λ x here. elim (to x (inr here)) [ inl e ↦ absurd (not_again p x ps each order.1 (e ∙ sym same) here) | inr more ↦ more ])
    (λ x here. elim (back x (inr here)) [ inl e ↦ absurd (not_again q x qs also on.1 (e ∙ same) here) | inr more ↦ more ]))
  where
    not_again : (h x : Pt) (hs : List Pt) → Each (h ∷ hs) (IsAfter t sense s) → AreInOrder t sense s h hs → x ≡ h → IsIn x hs → ⊥
    not_again h x hs all from e here =
        let after = comes_later t sense s h h hs is some all.0 all.1 from (subst (λ (z : Pt). IsIn z hs) e here) in
        never_both t sense s h h is some all.0 all.0 after after
