-- The test whether k is at least h * sqrt(n), and what it tells.
use Rattle.std.proofs.Common.{◌≡◌, ◌≢◌, inl, inr, ℕ, zero, suc, ◌*◌, ◌<◌, refl, sym, ◌∙◌, ℤ, pos, negsuc, neg_ℤ, true, false, true≢false, not, ◌&&◌}
use Rattle.std.proofs.lemmas.Bool.{cases_lt}
use Rattle.apt_num.specs.declared.Sign.{Sign}
use Rattle.apt_num.specs.declared.Sign.TheVariants as signs
use Rattle.apt_num.specs.Sign.{AtLeast, square, root_sign_of, is_minus, is_at_least}
use Rattle.apt_num.proofs.AtLeast.{root_sign_at_least, root_sign_at_most}

not_minus : (s : Sign) → not (is_minus s) ≡ true → s ≢ signs.Minus
not_minus signs.Plus e = λ f. cc
not_minus signs.Zero e = λ f. cc
not_minus signs.Minus e = λ f. cc

not_plus : (s : Sign) → not (is_minus s) ≡ false → s ≢ signs.Plus
not_plus signs.Plus e = λ f. cc
not_plus signs.Zero e = λ f. cc
not_plus signs.Minus e = λ f. cc

tells_minus : (s : Sign) → s ≢ signs.Minus → not (is_minus s) ≡ true
tells_minus signs.Plus d = refl
tells_minus signs.Zero d = refl
tells_minus signs.Minus d = absurd (d refl)

-- the test of k against h times the root of n
pub is_at_least-true : (k h : ℤ) (n : ℕ) → is_at_least k h n ≡ true → AtLeast k h n
is_at_least-true k h n e = (root_sign_at_least k h n).0 (not_minus (root_sign_of k h n) e)

pub is_at_least-false : (k h : ℤ) (n : ℕ) → is_at_least k h n ≡ false → AtLeast (neg_ℤ k) (neg_ℤ h) n
is_at_least-false k h n e = (root_sign_at_most k h n).0 (not_plus (root_sign_of k h n) e)

pub is_at_least-from : (k h : ℤ) (n : ℕ) → AtLeast k h n → is_at_least k h n ≡ true
is_at_least-from k h n is = tells_minus (root_sign_of k h n) ((root_sign_at_least k h n).1 is)

-- not within g + 1 roots of n to both sides of 0: so further off
both_true : (k h : ℤ) (n : ℕ) → AtLeast k h n → AtLeast (neg_ℤ k) h n → (is_at_least k h n && is_at_least (neg_ℤ k) h n) ≡ true
both_true k h n one other = rw (is_at_least-from k h n one, is_at_least-from (neg_ℤ k) h n other) refl

pub not_within : (k : ℤ) (g n : ℕ) → (is_at_least k (negsuc g) n && is_at_least (neg_ℤ k) (negsuc g) n) ≡ false → suc g * suc g * n < square k
not_within (pos zero) g n e = absurd (true≢false (sym (both_true (pos zero) (negsuc g) n tt tt) ∙ e))
not_within (pos (suc k)) g n e = elim (cases_lt (suc g * suc g * n) (suc k * suc k)) [
  | inl past ↦ past
  | inr within ↦ absurd (true≢false (sym (both_true (pos (suc k)) (negsuc g) n tt within) ∙ e))
]
not_within (negsuc k) g n e = elim (cases_lt (suc g * suc g * n) (suc k * suc k)) [
  | inl past ↦ past
  | inr within ↦ absurd (true≢false (sym (both_true (negsuc k) (negsuc g) n within tt) ∙ e))
]
