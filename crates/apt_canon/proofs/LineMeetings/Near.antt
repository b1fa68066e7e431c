-- A point whose scaled height differs from that of a moved line by the rounding of its way is at most one unit from it.
use Rattle.std.proofs.Common.{◌≡◌, ◌≢◌, ℕ, ◌+◌, ◌*◌, ◌^◌, ◌≤◌, ◌<◌, arith, ℤ, pos, ◌+ℤ◌, ◌-ℤ◌, ◌*ℤ◌, unsigned_abs}
use Rattle.std.proofs.lemmas.Int.{ints, unsigned_abs-mul}
use Rattle.std.proofs.lemmas.Nat.{mul-le}
use Rattle.apt_num.specs.Root.{root}
use Rattle.apt_num.specs.Sign.{OnLine}
use Rattle.apt_num.proofs.Ring.{as_diff, diff-same, differences}
use Rattle.apt_num.proofs.Squares.{cancel_le}
use Rattle.apt_num.proofs.Roots.{ScaledRoot, root_facts, five_sevenths, on_line}
use Rattle.apt_num.proofs.Footed.{scaled_to}
use Rattle.apt_plane.specs.declared.figures.Dir.{Dir}
use Rattle.apt_plane.specs.Vectors.{length_squared}
use Rattle.apt_plane.specs.Ranges.{IsDir}
use Rattle.apt_plane.proofs.Heights.{length_squared_small}
use Rattle.apt_canon.specs.Scale.{length_of}
use Rattle.apt_canon.proofs.Products.{not_zero}

taken_out : (d u k h s : ℤ) → ((d *ℤ u) *ℤ k) -ℤ (d *ℤ (h *ℤ s)) ≡ d *ℤ ((k *ℤ u) -ℤ (h *ℤ s))
taken_out d u k h s = rw (as_diff d, as_diff u, as_diff k, as_diff h, as_diff s) (simp differences (diff-same _ _ _ _ (omega arith)))

rest_is : (x y rest z : ℤ) → x ≡ y +ℤ rest → x -ℤ y ≡ z → rest ≡ z
rest_is x y rest z e f = omega (arith, ints)

-- the square of a common factor may be cancelled
cancel_square : (d w n u : ℕ) → 0 < d → 2 * (d * w) * (d * w) ≤ n * ((d * u) * (d * u)) → 2 * w * w ≤ n * (u * u)
cancel_square d w n u h p = cancel_le (d * d) (2 * w * w) (n * (u * u)) (omega (arith, mul-le 1 1 d d h h)) (omega (arith, p))

three_quarters : (w s : ℕ) → 7 * w ≤ 5 * (s + 1) → 2 ^ 35 ≤ s → 4 * w ≤ 3 * s
three_quarters w s p q = omega arith

rest_small : (n s w : ℕ) → ScaledRoot n s → 2 * w * w ≤ n * (2 ^ 35 * 2 ^ 35) → 4 * w ≤ 3 * s
rest_small n s w at p = three_quarters w s (five_sevenths w (s + 1) (omega (arith, p, at.high))) at.large

pub near_line : (d : Dir) (turn k h rest : ℤ) → IsDir d → turn ≢ pos 0 → unsigned_abs h ≤ 10 ^ 8
    → (turn *ℤ pos (2 ^ 35)) *ℤ k ≡ (turn *ℤ (h *ℤ length_of d)) +ℤ rest
    → 2 * unsigned_abs rest * unsigned_abs rest ≤ length_squared d * (unsigned_abs (turn *ℤ pos (2 ^ 35)) * unsigned_abs (turn *ℤ pos (2 ^ 35)))
    → OnLine k h (length_squared d) (pos 1)
near_line d turn k h rest is apart small e p =
    let n = length_squared d in
    let s = root (n * 2 ^ 70) in
    let w = (k *ℤ pos (2 ^ 35)) -ℤ (h *ℤ pos s) in
    let at = root_facts n is.length (length_squared_small d is) in
    let same : rest ≡ turn *ℤ w = rest_is _ _ rest _ e (taken_out turn (pos (2 ^ 35)) k h (pos s)) in
    let sizes : 2 * (unsigned_abs turn * unsigned_abs w) * (unsigned_abs turn * unsigned_abs w) ≤ n * ((unsigned_abs turn * 2 ^ 35) * (unsigned_abs turn * 2 ^ 35)) =
    rw (same, unsigned_abs-mul turn w, unsigned_abs-mul turn (pos (2 ^ 35))) at p in
    let short = rest_small n s (unsigned_abs w) at (cancel_square (unsigned_abs turn) (unsigned_abs w) n (2 ^ 35) (not_zero turn apart) sizes) in
    let offset : 4 * unsigned_abs h + 4 ≤ s = omega (arith, at.large, small) in
    on_line k h w n s at.root (scaled_to (k *ℤ pos (2 ^ 35)) (h *ℤ pos s)) short offset
