-- A point below which a line lies by a depth that was rounded, and the line.
use Rattle.std.proofs.Common.{◌≡◌, ℕ, ◌+◌, ◌-◌, ◌*◌, ◌^◌, ◌≤◌, ◌∙◌, ap, arith, ℤ, pos, neg_ℤ, ◌+ℤ◌, ◌-ℤ◌, ◌*ℤ◌, unsigned_abs}
use Rattle.std.proofs.Math.Nat.{mul-le-mul_left}
use Rattle.std.proofs.lemmas.Nat.{mul-le}
use Rattle.std.proofs.lemmas.Int.{ints}
use Rattle.apt_num.specs.Sign.{OnLine}
use Rattle.apt_num.proofs.Ring.{as_diff, diff-same, differences}
use Rattle.apt_num.proofs.Squares.{root_le, cancel_le, size_mul, size_minus, size_neg}
use Rattle.apt_num.proofs.Roots.{ScaledRoot, five_sevenths, on_line}

-- how far a point lies to the left of a line moved h, times the root in units: c is its cross product
abbrev pub lag : ℕ → ℤ → ℤ → ℤ
lag s c h = (pos (2 ^ 35) *ℤ c) -ℤ (h *ℤ pos s)

-- the depth of a point below a moved line, the depth's own rest, and how a point at this depth below it lies, with the rest of its rounding
pub record IsAtDepth (n s : ℕ) (c h k g e rest : ℤ) : Type 0 where
  pub depth : pos s *ℤ g ≡ (pos (2 ^ 30) *ℤ lag s c h) +ℤ e
  pub depth_short : 2 * unsigned_abs e ≤ s
  pub height : pos s *ℤ k ≡ ((pos s *ℤ c) -ℤ (pos 32 *ℤ (g *ℤ pos n))) +ℤ rest
  pub height_short : 2 * unsigned_abs rest * unsigned_abs rest ≤ n * (s * s)
  pub near : unsigned_abs (lag s c h) ≤ 2 ^ 28 * s

squares_out : (s u k h : ℤ) → (s *ℤ s) *ℤ ((k *ℤ u) -ℤ (h *ℤ s)) ≡ ((s *ℤ u) *ℤ (s *ℤ k)) -ℤ (h *ℤ (s *ℤ (s *ℤ s)))
squares_out s u k h = rw (as_diff s, as_diff u, as_diff k, as_diff h) (simp differences (diff-same _ _ _ _ (omega arith)))

heights_out : (s u c g n t rest h : ℤ) → ((s *ℤ u) *ℤ (((s *ℤ c) -ℤ (t *ℤ (g *ℤ n))) +ℤ rest)) -ℤ (h *ℤ (s *ℤ (s *ℤ s)))
    ≡ (((s *ℤ s) *ℤ ((u *ℤ c) -ℤ (h *ℤ s))) -ℤ (((t *ℤ n) *ℤ u) *ℤ (s *ℤ g))) +ℤ ((s *ℤ u) *ℤ rest)
heights_out s u c g n t rest h =
    rw (as_diff s, as_diff u, as_diff c, as_diff g, as_diff n, as_diff t, as_diff rest, as_diff h) (simp differences (diff-same _ _ _ _ (omega arith)))

depth_out : (q l m p e r : ℤ) → ((q *ℤ l) -ℤ (m *ℤ ((p *ℤ l) +ℤ e))) +ℤ r ≡ (((q -ℤ (m *ℤ p)) *ℤ l) -ℤ (m *ℤ e)) +ℤ r
depth_out q l m p e r = rw (as_diff q, as_diff l, as_diff m, as_diff p, as_diff e, as_diff r) (simp differences (diff-same _ _ _ _ (omega arith)))

-- what the rests make of the scaled distance of the point from the line
distance : (n s : ℕ) (c h k g e rest : ℤ) → IsAtDepth n s c h k g e rest
    → (pos s *ℤ pos s) *ℤ ((k *ℤ pos (2 ^ 35)) -ℤ (h *ℤ pos s))
    ≡ ((((pos s *ℤ pos s) -ℤ (((pos 32 *ℤ pos n) *ℤ pos (2 ^ 35)) *ℤ pos (2 ^ 30))) *ℤ lag s c h) -ℤ (((pos 32 *ℤ pos n) *ℤ pos (2 ^ 35)) *ℤ e)) +ℤ ((pos s *ℤ pos (2 ^ 35)) *ℤ rest)
distance n s c h k g e rest at =
    squares_out (pos s) (pos (2 ^ 35)) k h
    ∙ rw at.height (
    heights_out (pos s) (pos (2 ^ 35)) c g (pos n) (pos 32) rest h
    ∙ rw at.depth (depth_out (pos s *ℤ pos s) (lag s c h) ((pos 32 *ℤ pos n) *ℤ pos (2 ^ 35)) (pos (2 ^ 30)) e ((pos s *ℤ pos (2 ^ 35)) *ℤ rest))
    )

-- what the root leaves over
root_left : (n s : ℕ) → s * s ≤ n * 2 ^ 70 → (pos s *ℤ pos s) -ℤ (((pos 32 *ℤ pos n) *ℤ pos (2 ^ 35)) *ℤ pos (2 ^ 30)) ≡ neg_ℤ (pos (n * 2 ^ 70 - s * s))
root_left n s low = omega (arith, ints, low)

sizes_of_three : (x y z : ℤ) → unsigned_abs ((x -ℤ y) +ℤ z) ≤ unsigned_abs x + unsigned_abs y + unsigned_abs z
sizes_of_three x y z = omega (arith, ints)

negative_size : (m : ℕ) (z : ℤ) → unsigned_abs (neg_ℤ (pos m) *ℤ z) ≡ m * unsigned_abs z
negative_size m z = size_mul (neg_ℤ (pos m)) z ∙ ap (λ k. k * unsigned_abs z) (size_neg (pos m))

-- the same in sizes
distance_size : (n s : ℕ) (c h k g e rest : ℤ) → s * s ≤ n * 2 ^ 70 → IsAtDepth n s c h k g e rest
    → s * s * unsigned_abs ((k *ℤ pos (2 ^ 35)) -ℤ (h *ℤ pos s))
    ≤ (n * 2 ^ 70 - s * s) * unsigned_abs (lag s c h) + 32 * n * 2 ^ 35 * unsigned_abs e + s * 2 ^ 35 * unsigned_abs rest
distance_size n s c h k g e rest low at =
    let w = (k *ℤ pos (2 ^ 35)) -ℤ (h *ℤ pos s) in
    let parts = sizes_of_three (neg_ℤ (pos (n * 2 ^ 70 - s * s)) *ℤ lag s c h) (((pos 32 *ℤ pos n) *ℤ pos (2 ^ 35)) *ℤ e) ((pos s *ℤ pos (2 ^ 35)) *ℤ rest) in
    let whole : (pos s *ℤ pos s) *ℤ w ≡ ((neg_ℤ (pos (n * 2 ^ 70 - s * s)) *ℤ lag s c h) -ℤ (((pos 32 *ℤ pos n) *ℤ pos (2 ^ 35)) *ℤ e)) +ℤ ((pos s *ℤ pos (2 ^ 35)) *ℤ rest) =
    rw (root_left n s low) at (distance n s c h k g e rest at) in
    let both : unsigned_abs ((pos s *ℤ pos s) *ℤ w)
    ≤ unsigned_abs (neg_ℤ (pos (n * 2 ^ 70 - s * s)) *ℤ lag s c h) + unsigned_abs (((pos 32 *ℤ pos n) *ℤ pos (2 ^ 35)) *ℤ e) + unsigned_abs ((pos s *ℤ pos (2 ^ 35)) *ℤ rest) =
    rw whole parts in
    omega (
      arith,
      both,
      size_mul (pos s *ℤ pos s) w,
      negative_size (n * 2 ^ 70 - s * s) (lag s c h),
      size_mul ((pos 32 *ℤ pos n) *ℤ pos (2 ^ 35)) e,
      size_mul (pos s *ℤ pos (2 ^ 35)) rest,
    )

-- of naturals: rho is what the root leaves, l, e and d the sizes of the lag and of the rests
rests : (n s rho l e d w : ℕ) → s * s + rho ≡ n * 2 ^ 70 → rho ≤ 2 * s → 2 * e ≤ s → 2 * d * d ≤ n * (s * s) → l ≤ 2 ^ 28 * s
    → s * s * w ≤ rho * l + 32 * n * 2 ^ 35 * e + s * 2 ^ 35 * d
    → 7 * 2 ^ 31 * (s * s * w) ≤ s * s * (7 * 2 ^ 60 + 7 * (s + 2) + 5 * 2 ^ 31 * (s + 1))
rests n s rho l e d w root small es ds ls h =
    let first : rho * l ≤ 2 ^ 29 * (s * s) = omega (arith, mul-le rho l (2 * s) (2 ^ 28 * s) small ls) in
    let second : 2 ^ 31 * (32 * n * 2 ^ 35 * e) ≤ s * s * (s + 2) = omega (arith, ap (λ m. m * s) root, mul-le-mul_left (n * 2 ^ 70) es, mul-le-mul_left s small) in
    let square : 2 * (2 ^ 35 * d) * (2 ^ 35 * d) ≤ (s * (s + 1)) * (s * (s + 1)) = omega (arith, ap (λ m. m * (s * s)) root, mul-le-mul_left (2 ^ 70) ds, mul-le-mul_left (s * s) small) in
    let third = five_sevenths (2 ^ 35 * d) (s * (s + 1)) square in
    omega (arith, h, first, second, mul-le-mul_left s third)

pub scaled_to : (x y : ℤ) → x ≡ y +ℤ (x -ℤ y)
scaled_to x y = omega (arith, ints)

three_quarters : (s w : ℕ) → 2 ^ 35 ≤ s → 7 * 2 ^ 31 * w ≤ 7 * 2 ^ 60 + 7 * (s + 2) + 5 * 2 ^ 31 * (s + 1) → 4 * w ≤ 3 * s
three_quarters s w large h = omega arith

-- within one unit of the line
pub footed : (n s : ℕ) (c h k g e rest : ℤ) → ScaledRoot n s → IsAtDepth n s c h k g e rest → 4 * unsigned_abs h + 4 ≤ s → OnLine k h n (pos 1)
footed n s c h k g e rest root at small =
    let w = (k *ℤ pos (2 ^ 35)) -ℤ (h *ℤ pos s) in
    let rho = n * 2 ^ 70 - s * s in
    let whole : s * s + rho ≡ n * 2 ^ 70 = omega (arith, root.low) in
    let large = root.large in
    let bound = rests n s rho (unsigned_abs (lag s c h)) (unsigned_abs e) (unsigned_abs rest) (unsigned_abs w) whole root.rest at.depth_short at.height_short at.near (distance_size n s c h k g e rest root.low at) in
    let cancelled : 7 * 2 ^ 31 * unsigned_abs w ≤ 7 * 2 ^ 60 + 7 * (s + 2) + 5 * 2 ^ 31 * (s + 1) =
    cancel_le (s * s) (7 * 2 ^ 31 * unsigned_abs w) (7 * 2 ^ 60 + 7 * (s + 2) + 5 * 2 ^ 31 * (s + 1)) (omega (arith, mul-le (2 ^ 35) (2 ^ 35) s s large large)) (omega (arith, bound)) in
    on_line k h w n s root.root (scaled_to (k *ℤ pos (2 ^ 35)) (h *ℤ pos s)) (three_quarters s (unsigned_abs w) large cancelled) small

-- the cross product with a way between points in range is at most so many units
pub reach : (n s c : ℕ) → ScaledRoot n s → c * c ≤ n * (2 * 10 ^ 16) → 2 ^ 35 * c ≤ 141421358 * s
reach n s c root h =
    let square : (2 ^ 35 * c) * (2 ^ 35 * c) ≤ (141421357 * (s + 1)) * (141421357 * (s + 1)) = omega (arith, h, root.high) in
    let most = root_le (2 ^ 35 * c) (141421357 * (s + 1)) square in
    omega (arith, most, root.large)

-- so it is near a line that is moved by no more than 10^8
pub lag_small : (n s : ℕ) (c h : ℤ) → ScaledRoot n s → unsigned_abs c * unsigned_abs c ≤ n * (2 * 10 ^ 16) → unsigned_abs h ≤ 10 ^ 8 → unsigned_abs (lag s c h) ≤ 2 ^ 28 * s
lag_small n s c h root small off =
    let far = reach n s (unsigned_abs c) root small in
    omega (arith, far, size_minus (pos (2 ^ 35) *ℤ c) (h *ℤ pos s), size_mul (pos (2 ^ 35)) c, size_mul h (pos s), mul-le (unsigned_abs h) s (10 ^ 8) s off (omega arith))
