use Rattle.std.proofs.Common.{◌≡◌, ℕ, suc, ◌*◌, ap, sym, ◌∙◌, arith, ℤ, pos, negsuc, ◌-ℤ◌, ◌*ℤ◌, ◌<ℤ◌, unsigned_abs}
use Rattle.std.proofs.lemmas.Int.{ints}
use Rattle.apt_num.specs.Sign.{signed_square}
use Rattle.apt_num.proofs.Ring.{diff, diff-pos, diff-negsuc, diff-same, differences}

squares : (x y n : ℕ) → pos (y * y * n) -ℤ pos (x * x) ≡ (diff 0 x *ℤ pos x) -ℤ ((diff 0 y *ℤ pos y) *ℤ pos n)
squares x y n = rw (diff-pos (y * y * n), diff-pos (x * x), diff-pos x, diff-pos y, diff-pos n) (simp differences (diff-same _ _ _ _ (omega arith)))

-- where both are negative
pub both_negative : (k h : ℤ) (n : ℕ) → k <ℤ pos 0 → h <ℤ pos 0
    → pos (unsigned_abs h * unsigned_abs h * n) -ℤ pos (unsigned_abs k * unsigned_abs k) ≡ signed_square k -ℤ signed_square h *ℤ pos n
both_negative (pos k) h n p q = absurd (omega (arith, ints))
both_negative (negsuc k) (negsuc h) n p q =
    squares (suc k) (suc h) n
    ∙ sym (ap (λ (z : ℤ). (z *ℤ pos (suc k)) -ℤ ((diff 0 (suc h) *ℤ pos (suc h)) *ℤ pos n)) (diff-negsuc k))
    ∙ sym (ap (λ (z : ℤ). (negsuc k *ℤ pos (suc k)) -ℤ ((z *ℤ pos (suc h)) *ℤ pos n)) (diff-negsuc h))
both_negative (negsuc k) (pos h) n p q = absurd (omega (arith, ints))
