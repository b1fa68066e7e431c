-- A number times the part of a whole, over that whole; and the size of a tangent.
use Rattle.std.proofs.Common.{◌≡◌, ◌≢◌, ℕ, ◌+◌, ◌-◌, ◌*◌, ◌^◌, ◌≤◌, ap, arith, ℤ, pos, ◌+ℤ◌, ◌-ℤ◌, ◌*ℤ◌, unsigned_abs, to_z, of_z, FitsSigned, w64}
use Rattle.std.specs.Int.{w128}
use Rattle.std.proofs.Math.Nat.{mul-le-mul_left}
use Rattle.std.proofs.lemmas.Int.{ints, to_z-of_z, unsigned_abs-mul}
use Rattle.apt_num.specs.Near.{near}
use Rattle.apt_num.specs.Root.{IsRoot}
use Rattle.apt_num.proofs.Nearest.{near_bound}
use Rattle.apt_num.proofs.Squares.{root_le}
use Rattle.apt_canon.proofs.Products.{kept}

pub share_small : (n part whole : ℤ) → whole ≢ pos 0 → unsigned_abs part ≤ unsigned_abs whole → unsigned_abs (near (n *ℤ part) whole) ≤ unsigned_abs n
share_small n part whole d h = near_bound (n *ℤ part) whole (unsigned_abs n) d (rw unsigned_abs-mul (mul-le-mul_left (unsigned_abs n) h))

pub reach_small : (n p s : ℕ) → n ≤ 2 * 10 ^ 16 → IsRoot ((n - p) * 2 ^ 60) s → s ≤ 2 ^ 58
reach_small n p s h at = root_le s (2 ^ 58) (omega (arith, at.low))

-- a part that is turned round is as large
pub turned_part_small : (y whole : ℤ) (m : ℕ) → whole ≡ pos m → unsigned_abs whole ≤ 2 ^ 85 → unsigned_abs y ≤ m
    → unsigned_abs (to_z w128 (of_z w128 (pos 0 -ℤ to_z w128 (of_z w128 y)))) ≤ unsigned_abs (to_z w128 (of_z w128 whole))
turned_part_small y whole m e small h =
    let size : unsigned_abs whole ≡ m = ap unsigned_abs e in
    rw (kept y (omega arith), kept (pos 0 -ℤ y) (omega (arith, ints)), kept whole (omega arith)) (omega (arith, ints))

pub side_kept : (n : ℤ) → unsigned_abs n ≤ 10 ^ 8 → to_z w64 (of_z w64 n) ≡ n
side_kept n h = to_z-of_z w64 n (omega (arith, ints))

-- a coordinate of a circle's centre and at most its radius fit
pub reached_fits : (x q n r : ℤ) → unsigned_abs x + unsigned_abs r ≤ 49000000 → unsigned_abs n ≡ unsigned_abs (to_z w64 (of_z w64 r)) → unsigned_abs q ≤ unsigned_abs (to_z w64 (of_z w64 n))
    → FitsSigned w64 (to_z w64 (of_z w64 x) +ℤ to_z w64 (of_z w64 q))
reached_fits x q n r h e p =
    let size : unsigned_abs n ≡ unsigned_abs r = rw (side_kept r (omega arith)) at e in
    let short : unsigned_abs q ≤ unsigned_abs n = rw (side_kept n (omega arith)) at p in
    rw (side_kept x (omega arith), side_kept q (omega arith)) (omega (arith, ints))

pub reached : (x q n r : ℤ) → unsigned_abs x + unsigned_abs r ≤ 49000000 → unsigned_abs n ≡ unsigned_abs (to_z w64 (of_z w64 r)) → unsigned_abs q ≤ unsigned_abs (to_z w64 (of_z w64 n))
    → to_z w64 (of_z w64 (to_z w64 (of_z w64 x) +ℤ to_z w64 (of_z w64 q))) ≡ x +ℤ q
reached x q n r h e p =
    let size : unsigned_abs n ≡ unsigned_abs r = rw (side_kept r (omega arith)) at e in
    let short : unsigned_abs q ≤ unsigned_abs n = rw (side_kept n (omega arith)) at p in
    rw (side_kept x (omega arith), side_kept q (omega arith)) (side_kept (x +ℤ q) (omega (arith, ints)))
