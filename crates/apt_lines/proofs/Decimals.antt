-- Numbers digit by digit, and what stands in front of them.
use Rattle.std.proofs.Common.{◌≡◌, ℕ, ◌+◌, ◌/◌, ◌%◌, ◌^◌, ◌≤◌, List, ◌∷◌, ◌++◌, length, drop, sym, ap, ◌∙◌, arith, add-one, length-append, length-drop}
use Rattle.std.proofs.Math.Nat.{div-div-eq-div-mul, pow-suc}
use Rattle.apt_block.specs.Block.{digits}

pub one_digit_off : (n i : ℕ) → n / 10 ^ i / 10 ≡ n / 10 ^ (i + 1)
one_digit_off n i = div-div-eq-div-mul n (10 ^ i) 10 ∙ ap (λ p. n / p) (sym (pow-suc 10 i) ∙ ap (λ m. 10 ^ m) (sym (add-one i)))

pub digits_more : (n i : ℕ) → digits (i + 1) n ≡ (48 + n / 10 ^ i % 10) ∷ digits i n
digits_more n i = ap (λ m. digits m n) (add-one i)

-- where a text starts that was written in front of what starts at a place
pub starts_at : (room old text : List ℕ) (start end : ℕ) → length room ≡ length old → start ≤ end → end ≤ length old
    → drop start room ≡ text ++ drop end old → start + length text ≡ end
starts_at room old text start end same before within written =
    omega (arith, sym (length-drop start room) ∙ ap length written ∙ length-append text (drop end old), length-drop end old)
