-- Back from the circle to a point's own distance: r = x + w, q = p + w; V is the square of the distance of the point times m, F its share of the axis, G the square of the length of the axis, and J = r r + G - q q.
use Rattle.std.proofs.Common.{◌≡◌, inl, inr, ℕ, suc, ◌+◌, ◌-◌, ◌*◌, ◌≤◌, ◌<◌, ap, arith, ℤ, pos, negsuc, ◌+ℤ◌, ◌*ℤ◌, ◌≤ℤ◌}
use Rattle.std.proofs.Math.Nat.{mul-le-mul_left}
use Rattle.std.proofs.lemmas.Int.{ints}
use Rattle.std.proofs.lemmas.Nat.{mul-lt}
use Rattle.std.proofs.lemmas.Bool.{cases_lt}
use Rattle.apt_num.specs.Sign.{signed_square}
use Rattle.apt_num.proofs.Ring.{*ℤ-neg, neg-*ℤ}
use Rattle.apt_num.proofs.Squares.{slack, four_le, root_le}
use Rattle.apt_num.proofs.Moves.{IsUpTo, IsCrossing, share_up, share_back}

-- ---- J at most 2 r x
ray_near : (x w p m V J F G L e : ℕ) → 4 * ((x + w) * x * (m * F)) ≤ J * (V + m * m * (x * x)) → J + (p + w) * (p + w) ≡ (x + w) * (x + w) + G
    → J + L ≡ 2 * ((x + w) * x) → V ≡ m * m * (x * x) + e → x * x + p * p ≤ G + 2 * (x * p) → 0 < x → m * m * (p * p) + 2 * (m * F) ≤ V + m * m * G
ray_near x w p m V J F G L e h j jl ve g some = elim (cases_lt (V + m * m * G) (m * m * (p * p) + 2 * (m * F))) [
  | inl past ↦
      absurd (omega (
        arith,
        h,
        mul-le-mul_left (2 * ((x + w) * x)) past,
        mul-lt 0 0 x x some some,
        ve,
        ap (λ n. e * n) jl,
        ap (λ n. m * m * (x * x) * n) jl,
        ap (λ n. J * n) ve,
        ap (λ n. 2 * ((x + w) * x) * n) ve,
        ap (λ n. 2 * (m * m) * (x * x) * n) j,
        mul-le-mul_left (2 * (m * m) * (w * x)) g,
      ))
  | inr fine ↦ fine
]

-- ---- J about 2 r r
ray_across : (r w m V J F G p : ℕ) → 8 * (r * r * (m * F)) ≤ 4 * (r * r * V) + m * m * (J * J) → J + (p + w) * (p + w) ≡ r * r + G
    → J ≤ 2 * (r * r) + 2 * (r * w) → 2 * (r * r) ≤ J + 2 * (r * w) → 0 < r → m * m * (p * p) + 2 * (m * F) ≤ V + m * m * G
ray_across r w m V J F G p h j hi lo some = elim (cases_lt (V + m * m * G) (m * m * (p * p) + 2 * (m * F))) [
  | inl past ↦
      absurd (omega (
        arith,
        h,
        mul-le-mul_left (4 * (r * r)) past,
        mul-lt 0 0 r r some some,
        ap (λ n. 4 * (r * r) * (m * m) * n) j,
        mul-le-mul_left (m * m) (slack J (2 * (r * r) + 2 * (r * w)) (2 * (r * r)) (J + 2 * (r * w)) hi lo),
      ))
  | inr fine ↦ fine
]

-- ---- J beyond: V reaches c beyond the circle, w = c + v
ray_far : (c r v m V J F G p : ℕ) → 4 * (r * (r + c) * (m * F)) ≤ J * (V + m * m * ((r + c) * (r + c)))
    → J + (p + c + v) * (p + c + v) ≡ r * r + G → 2 * (r * (r + c)) ≤ J → V ≤ m * m * ((r + c) * (r + c))
    → G ≤ (r + (p + c + v)) * (r + (p + c + v)) → 0 < r → m * m * (p * p) + 2 * (m * F) ≤ V + m * m * G
ray_far c r v m V J F G p h j lo ve g some = elim (cases_lt (V + m * m * G) (m * m * (p * p) + 2 * (m * F))) [
  | inl past ↦
      absurd (omega (
        arith,
        h,
        mul-le-mul_left (2 * (r * (r + c))) past,
        far_part r c m some,
        slack V (m * m * ((r + c) * (r + c))) (2 * (r * (r + c))) J ve lo,
        ap (λ n. 2 * (m * m) * ((r + c) * (r + c)) * n) j,
        mul-le-mul_left (2 * c * (m * m) * (r + c)) g,
      ))
  | inr fine ↦ fine
]
  where
    far_part : (r c m : ℕ) → 0 < r → 0 < r * (r + c)
    far_part r c m some = mul-lt 0 0 r (r + c) some (omega (arith, some))

-- ---- J below 0: N = - J, and F is the share away from the axis
ray_behind : (x w p m V N F G e : ℕ) → N * (m * x) ≤ 2 * ((x + w) * F) → (p + w) * (p + w) ≡ (x + w) * (x + w) + G + N
    → V ≡ m * m * (x * x) + e → x * x + p * p ≤ G + 2 * (x * p) → 0 < x → m * m * (p * p) ≤ V + m * m * G + 2 * (m * F)
ray_behind x w p m V N F G e h j ve g some = elim (cases_lt (V + m * m * G + 2 * (m * F)) (m * m * (p * p))) [
  | inl past ↦
      absurd (omega (
        arith,
        mul-le-mul_left m h,
        mul-le-mul_left (x + w) past,
        some,
        ve,
        ap (λ n. (x + w) * n) ve,
        ap (λ n. m * m * x * n) j,
        mul-le-mul_left (m * m * w) g,
      ))
  | inr fine ↦ fine
]

-- ---- roots of what is known of the share
-- z is x, or r + 3
share_near : (r z m V J F : ℕ) → 4 * (r * r) * (F * F) ≤ J * J * V → 4 * (r * z * (m * F)) ≤ J * (V + m * m * (z * z))
share_near r z m V J F h =
    root_le (4 * (r * z * (m * F))) (J * (V + m * m * (z * z)))
    (omega (arith, mul-le-mul_left (4 * (m * m * (z * z))) h, mul-le-mul_left (J * J) (four_le V (m * m * (z * z)))))

share_across : (r m V J F : ℕ) → 4 * (r * r) * (F * F) ≤ J * J * V → 8 * (r * r * (m * F)) ≤ 4 * (r * r * V) + m * m * (J * J)
share_across r m V J F h =
    root_le (8 * (r * r * (m * F))) (4 * (r * r * V) + m * m * (J * J))
    (omega (arith, mul-le-mul_left (16 * (m * m * (r * r))) h, four_le (4 * (r * r * V)) (m * m * (J * J))))

share_behind : (r x m V N F : ℕ) → N * N * V ≤ 4 * (r * r) * (F * F) → m * m * (x * x) ≤ V → N * (m * x) ≤ 2 * (r * F)
share_behind r x m V N F h low = root_le (N * (m * x)) (2 * (r * F)) (omega (arith, h, mul-le-mul_left (N * N) low))

-- ---- J from 0
ray_up : (c x v p m V J F G : ℕ) → 4 * ((x + (c + v)) * (x + (c + v))) * (F * F) ≤ J * J * V → J + (p + (c + v)) * (p + (c + v)) ≡ (x + (c + v)) * (x + (c + v)) + G
    → m * m * (x * x) ≤ V → V ≤ m * m * ((x + (c + v) + c) * (x + (c + v) + c)) → x * x + p * p ≤ G + 2 * (x * p)
    → G ≤ (x + (c + v) + (p + (c + v))) * (x + (c + v) + (p + (c + v))) → 0 < x → m * m * (p * p) + 2 * (m * F) ≤ V + m * m * G
ray_up c x v p m V J F G h j lo hi near far some =
    let w = c + v in
    let r = x + w in
    elim (cases_lt (2 * (r * x)) J) [
      | inr small ↦ ray_near x w p m V J F G (2 * (r * x) - J) (V - m * m * (x * x)) (share_near r x m V J F h) j (omega (arith, small)) (omega (arith, lo)) near some
      | inl past ↦ elim (cases_lt (2 * (r * r) + 2 * (r * w)) J) [
        | inr small ↦ ray_across r w m V J F G p (share_across r m V J F h) j small (omega (arith, past)) (omega (arith, some))
        | inl beyond ↦ ray_far c r v m V J F G p (share_near r (r + c) m V J F h) (omega (arith, j)) (omega (arith, beyond, mul-le-mul_left r (least c v))) hi (omega (arith, far)) (omega (arith, some))
      ]
    ]
  where
    least : (c v : ℕ) → c ≤ c + v
    least c v = omega arith

-- ---- of either sign
-- J is not below 0 where the share is not
never : (c F j V : ℕ) → 0 < V → (pos c *ℤ signed_square (pos F)) ≤ℤ (signed_square (negsuc j) *ℤ pos V) → ⊥
never c F j V some h = omega (arith, ints, rw (neg-*ℤ (pos (suc j * suc j)) (pos V)) at h, mul-lt 0 0 (suc j * suc j) V (omega arith) some)

behind_both : (c F j V : ℕ) → (pos c *ℤ signed_square (negsuc F)) ≤ℤ (signed_square (negsuc j) *ℤ pos V) → suc j * suc j * V ≤ c * (suc F * suc F)
behind_both c F j V h = omega (arith, ints, rw (*ℤ-neg (pos c) (pos (suc F * suc F)), neg-*ℤ (pos (suc j * suc j)) (pos V)) at h)

up_both : (c F j V : ℕ) → (pos c *ℤ signed_square (pos F)) ≤ℤ (signed_square (pos j) *ℤ pos V) → c * (F * F) ≤ j * j * V
up_both c F j V h = omega (arith, ints, h)

taken : (c F a b : ℕ) → a ≤ b + c * suc F → (pos a +ℤ (pos c *ℤ negsuc F)) ≤ℤ pos b
taken c F a b h = rw (*ℤ-neg (pos c) (pos (suc F))) (omega (arith, ints, h))

less : (c F a b : ℕ) → a ≤ b → (pos a +ℤ (pos c *ℤ negsuc F)) ≤ℤ pos b
less c F a b h = taken c F a b (omega (arith, h))

-- the radii are r = x + (c + v), q = p + (c + v); the point is at most c outside the circle
pub ray : (c x v p m V G : ℕ) (F J : ℤ) → IsCrossing (x + (c + v)) (p + (c + v)) G J → IsUpTo (x + (c + v)) J F V
    → m * m * (x * x) ≤ V → V ≤ m * m * ((x + (c + v) + c) * (x + (c + v) + c)) → 0 < x → 0 < m
    → (pos (m * m * (p * p)) +ℤ (pos (2 * m) *ℤ F)) ≤ℤ pos (V + m * m * G)
ray c x v p m V G (pos F) (pos j) is up lo hi some one =
    omega (arith, ints, ray_up c x v p m V j F G (up_both (4 * ((x + (c + v)) * (x + (c + v)))) F j V up) (share_up (x + (c + v)) (p + (c + v)) G j is.share) lo hi (omega (arith, is.low)) is.high some)
ray c x v p m V G (negsuc F) (pos j) is up lo hi some one =
    less (2 * m) F (m * m * (p * p)) (V + m * m * G)
    (omega (arith, ray_up c x v p m V j 0 G (omega arith) (share_up (x + (c + v)) (p + (c + v)) G j is.share) lo hi (omega (arith, is.low)) is.high some))
ray c x v p m V G (pos F) (negsuc j) is up lo hi some one =
    absurd (never (4 * ((x + (c + v)) * (x + (c + v)))) F j V (omega (arith, lo, mul-lt 0 0 (m * m) (x * x) (mul-lt 0 0 m m one one) (mul-lt 0 0 x x some some))) up)
ray c x v p m V G (negsuc F) (negsuc j) is up lo hi some one =
    let r = x + (c + v) in
    taken (2 * m) F (m * m * (p * p)) (V + m * m * G)
    (omega (
      arith,
      ray_behind x (c + v) p m V (suc j) (suc F) G (V - m * m * (x * x)) (share_behind r x m V (suc j) (suc F) (behind_both (4 * (r * r)) F j V up) lo)
          (share_back r (p + (c + v)) G j is.share) (omega (arith, lo)) (omega (arith, is.low)) some,
    ))
