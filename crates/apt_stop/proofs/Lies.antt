-- How the start of a motion along a line lies to a circle to which it leads, by the tests.
use Rattle.std.proofs.Common.{refl, ◌≡◌, ◌⊎◌, inl, inr, ℕ, zero, suc, ◌+◌, ◌-◌, ◌*◌, ◌≤◌, ◌<◌, sym, subst, arith, Bool, true, false, ◌&&◌, ℤ, pos, negsuc, neg_ℤ, ◌-ℤ◌, ◌<ℤ◌, int_le}
use Rattle.std.specs.Prelude.{if◌then◌else◌}
use Rattle.std.proofs.lemmas.Int.{ints}
use Rattle.std.proofs.lemmas.Nat.{mul-le}
use Rattle.apt_num.specs.declared.Sign.{Sign}
use Rattle.apt_num.specs.declared.Sign.TheVariants as signs
use Rattle.apt_num.specs.Sign.{AtLeast, square, sign_of, is_minus}
use Rattle.apt_num.proofs.Testing.{is_at_least-false}
use Rattle.apt_num.proofs.Products.{plus_sign, minus_sign}
use Rattle.apt_stop.specs.Nearness.{near_stop}
use Rattle.apt_stop.specs.Choices.{is_not_ahead}
use Rattle.apt_stop.proofs.Rings.{is_in_ring, ring_true, ring_false}

-- k is how far the line runs on to the centre, times the root of n, and m the square of the start's distance from it
pub data Lies (side : Sign) (k : ℤ) (n m r : ℕ) : Type 0 where
  Near : side ≡ signs.Plus → AtLeast k (pos 8) n → m ≤ (r + 8) * (r + 8) → Lies side k n m r
  Outside : side ≡ signs.Minus → pos 0 <ℤ k → (r + 8) * (r + 8) ≤ m → Lies side k n m r
  Inside : side ≡ signs.Plus → m ≤ (r - 8) * (r - 8) → Lies side k n m r

pub ahead_of : (k : ℤ) (n : ℕ) → is_not_ahead k n ≡ false → AtLeast k (pos 8) n
ahead_of k n e = subst (λ (z : ℤ). AtLeast z (pos 8) n) (omega (arith, ints)) (is_at_least-false (neg_ℤ k) (neg_ℤ near_stop) n e)

ahead_sign : (k : ℤ) (n : ℕ) → 0 < n → AtLeast k (pos 8) n → sign_of k ≡ signs.Plus
ahead_sign (pos zero) n some at = absurd (omega (arith, at, some))
ahead_sign (pos (suc k)) n some at = refl
ahead_sign (negsuc k) n some at = absurd at

positive_of : (k : ℤ) → int_le k (pos 0) ≡ false → pos 0 <ℤ k
positive_of k e = grind (arith, ints)

-- the side of a circle on which a point is
abbrev pub ring_side : ℕ → ℕ → Sign
ring_side r m = sign_of (pos (square (pos r)) -ℤ pos m)

less_square : (r : ℕ) → 8 ≤ r → (r - 8) * (r - 8) ≤ r * r
less_square r h = mul-le (r - 8) (r - 8) r r (omega arith) (omega arith)

on_side : (k : ℤ) (n m r : ℕ) → 8 ≤ r → (is_minus (ring_side r m) && int_le k (pos 0)) ≡ false → (m < (r - 8) * (r - 8)) ⊎ ((r + 8) * (r + 8) < m) → Lies (ring_side r m) k n m r
on_side k n m r least e (inl below) = Inside (plus_sign _ (omega (arith, ints, below, less_square r least))) (omega (arith, below))
on_side k n m r least e (inr past) =
    let side : ring_side r m ≡ signs.Minus = minus_sign _ (omega (arith, ints, past)) in
    Outside side (positive_of k (rw side at e)) (omega (arith, past))

pub lies : (near : Bool) (k : ℤ) (n m r : ℕ) → 8 ≤ r → 0 < n → near ≡ is_in_ring r 8 m
    → (if near then is_not_ahead k n else is_minus (ring_side r m) && int_le k (pos 0)) ≡ false → Lies (if near then sign_of k else ring_side r m) k n m r
lies true k n m r least some f e =
    let ahead = ahead_of k n e in
    Near (ahead_sign k n some ahead) ahead (ring_true r 8 m least (sym f)).1
lies false k n m r least some f e = on_side k n m r least e (ring_false r 8 m least (sym f))
