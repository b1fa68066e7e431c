-- On which side of a stop a start is that is not near it.
use Rattle.std.proofs.Common.{◌≡◌, ◌≢◌, ℕ, sym, ◌∙◌, arith, inl, inr, ℤ, pos, ◌+ℤ◌, ◌-ℤ◌, neg_ℤ, false, subst}
use Rattle.std.proofs.lemmas.Int.{ints}
use Rattle.std.proofs.lemmas.Bool.{and_cases, both_ways}
use Rattle.apt_num.specs.declared.Sign.{Sign}
use Rattle.apt_num.specs.declared.Sign.TheVariants as signs
use Rattle.apt_num.specs.Sign.{AtLeast, root_sign_of, is_at_least}
use Rattle.apt_num.proofs.AtLeast.{root_sign_at_least, root_sign_at_most}
use Rattle.apt_num.proofs.Testing.{is_at_least-false, is_at_least-from}
use Rattle.apt_num.proofs.Sums.{at_least-weaker}
use Rattle.apt_stop.specs.Gaps.{is_within}

-- at least h: so it is not refused at 8 units less
not_lower : (k h : ℤ) (n : ℕ) → AtLeast k h n → is_at_least k (h -ℤ pos 8) n ≡ false → ⊥
not_lower k h n is e =
    both_ways (is_at_least k (h -ℤ pos 8) n) e (is_at_least-from k (h -ℤ pos 8) n (at_least-weaker k h (h -ℤ pos 8) n (omega (arith, ints)) is))

-- the side of a stop
apart_plus : signs.Plus ≡ signs.Minus → ⊥
apart_plus e = cc

apart_zero-minus : signs.Zero ≡ signs.Minus → ⊥
apart_zero-minus e = cc

apart_zero-plus : signs.Zero ≡ signs.Plus → ⊥
apart_zero-plus e = cc

not_right : (k h : ℤ) (n : ℕ) → root_sign_of k h n ≢ signs.Minus → AtLeast k h n
not_right k h n d = (root_sign_at_least k h n).0 d

not_left : (k h : ℤ) (n : ℕ) → root_sign_of k h n ≢ signs.Plus → AtLeast (neg_ℤ k) (neg_ℤ h) n
not_left k h n d = (root_sign_at_most k h n).0 d

-- what is not within 8 is further up or further down
far_left : (k h : ℤ) (n : ℕ) → is_within k h (pos 8) n ≡ false → AtLeast k h n → AtLeast k (h +ℤ pos 8) n
far_left k h n e left = elim (and_cases (is_at_least k (h -ℤ pos 8) n) (is_at_least (neg_ℤ k) (neg_ℤ h -ℤ pos 8) n) e) [
  | inl lower ↦ absurd (not_lower k h n left lower)
  | inr higher ↦
      subst (λ (z : ℤ). AtLeast z (h +ℤ pos 8) n) (omega (arith, ints))
      (subst (λ (z : ℤ). AtLeast (neg_ℤ (neg_ℤ k)) z n) (omega (arith, ints)) (is_at_least-false (neg_ℤ k) (neg_ℤ h -ℤ pos 8) n higher))
]

far_right : (k h : ℤ) (n : ℕ) → is_within k h (pos 8) n ≡ false → AtLeast (neg_ℤ k) (neg_ℤ h) n → AtLeast (neg_ℤ k) (neg_ℤ h +ℤ pos 8) n
far_right k h n e right = elim (and_cases (is_at_least k (h -ℤ pos 8) n) (is_at_least (neg_ℤ k) (neg_ℤ h -ℤ pos 8) n) e) [
  | inl lower ↦ subst (λ (z : ℤ). AtLeast (neg_ℤ k) z n) (omega (arith, ints)) (is_at_least-false k (h -ℤ pos 8) n lower)
  | inr higher ↦ absurd (not_lower (neg_ℤ k) (neg_ℤ h) n right higher)
]

within_both : (k h : ℤ) (n : ℕ) → is_within k h (pos 8) n ≡ false → AtLeast k h n → AtLeast (neg_ℤ k) (neg_ℤ h) n → ⊥
within_both k h n e left right = elim (and_cases (is_at_least k (h -ℤ pos 8) n) (is_at_least (neg_ℤ k) (neg_ℤ h -ℤ pos 8) n) e) [
  | inl lower ↦ not_lower k h n left lower
  | inr higher ↦ not_lower (neg_ℤ k) (neg_ℤ h) n right higher
]

abbrev pub IsFar : Sign → ℤ → ℤ → ℕ → Type 0
IsFar signs.Plus k h n = AtLeast k (h +ℤ pos 8) n
IsFar signs.Minus k h n = AtLeast (neg_ℤ k) (neg_ℤ h +ℤ pos 8) n
IsFar signs.Zero k h n = ⊥

pub far_on_side : (side : Sign) (k h : ℤ) (n : ℕ) → root_sign_of k h n ≡ side → is_within k h (pos 8) n ≡ false → IsFar side k h n
far_on_side signs.Plus k h n e far = far_left k h n far (not_right k h n (λ f. apart_plus (sym e ∙ f)))
far_on_side signs.Minus k h n e far = far_right k h n far (not_left k h n (λ f. apart_plus (sym f ∙ e)))
far_on_side signs.Zero k h n e far =
    within_both k h n far (not_right k h n (λ f. apart_zero-minus (sym e ∙ f))) (not_left k h n (λ f. apart_zero-plus (sym e ∙ f)))
