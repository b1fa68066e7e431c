-- The way along a tangent, in the frame of the way that it starts from: how long it is, and how it is turned.
use Rattle.std.proofs.Common.{◌≡◌, ℕ, ◌+◌, ◌-◌, ◌*◌, ◌^◌, ◌≤◌, ap, arith, ℤ, pos, neg_ℤ, ◌+ℤ◌, ◌-ℤ◌, ◌*ℤ◌, unsigned_abs}
use Rattle.std.proofs.Math.Nat.{mul-le-mul_left}
use Rattle.std.proofs.lemmas.Int.{unsigned_abs-mul}
use Rattle.apt_num.specs.Root.{root}
use Rattle.apt_num.specs.Sign.{square}
use Rattle.apt_num.proofs.Ring.{as_diff, diff-pos, diff-same, differences}
use Rattle.apt_num.proofs.RootLaws.{root-IsRoot}
use Rattle.apt_num.proofs.Roots.{root_rest}
use Rattle.apt_num.proofs.Squares.{root_le, size_neg}
use Rattle.apt_plane.specs.declared.figures.Dir.{Dir}
use Rattle.apt_plane.specs.Vectors.{length_squared}
use Rattle.apt_plane.specs.Ranges.{IsDir}
use Rattle.apt_plane.proofs.Frames.{length_in_frame}
use Rattle.apt_plane.proofs.Heights.{length_squared_small}
use Rattle.apt_canon.specs.Tangents.{falling}

-- the length of a tangent between the touching points, in units of 2^-30, and what its root leaves over
abbrev pub reach : Dir → ℤ → ℕ
reach a p = root ((length_squared a - square p) * 2 ^ 60)

abbrev pub reach_rest : Dir → ℤ → ℕ
reach_rest a p = (length_squared a - square p) * 2 ^ 60 - reach a p * reach a p

frame_square : (n q s g rest : ℕ) → q + s ≡ n → rest + g * g ≡ q * 2 ^ 60 → (g * g + s * 2 ^ 60) * n + n * rest ≡ (n * 2 ^ 30) * (n * 2 ^ 30)
frame_square n q s g rest e f = omega (arith, ap (λ x. n * x) e, ap (λ x. n * x) f)

across_size : (p : ℤ) → unsigned_abs (neg_ℤ (p *ℤ pos (2 ^ 30))) * unsigned_abs (neg_ℤ (p *ℤ pos (2 ^ 30))) ≡ square p * 2 ^ 60
across_size p = rw (size_neg (p *ℤ pos (2 ^ 30)), unsigned_abs-mul p (pos (2 ^ 30))) (omega arith)

rest_with_square : (x g : ℕ) → g * g ≤ x → (x - g * g) + g * g ≡ x
rest_with_square x g h = omega arith

less_with : (n s : ℕ) → s ≤ n → (n - s) + s ≡ n
less_with n s h = omega arith

-- the square of its length and the share of the rest make the square of the divisor
pub falling_norm : (a : Dir) (p : ℤ) → IsDir a → square p ≤ length_squared a
    → length_squared (falling a p) + length_squared a * reach_rest a p ≡ (length_squared a * 2 ^ 30) * (length_squared a * 2 ^ 30)
falling_norm a p is fits =
    let n = length_squared a in
    let g = reach a p in
    let bound = length_squared_small a is in
    let at = root-IsRoot ((n - square p) * 2 ^ 60) (omega (arith, bound)) in
    rw (length_in_frame a (pos g) (neg_ℤ (p *ℤ pos (2 ^ 30))), across_size p)
    (frame_square n (n - square p) (square p) g (reach_rest a p) (less_with n (square p) fits) (rest_with_square ((n - square p) * 2 ^ 60) g at.low))

part_small : (x y z m : ℕ) → (x * x + y * y) + z ≡ m * m → (x ≤ m) × (y ≤ m)
part_small x y z m e = (root_le x m (omega (arith, e)), root_le y m (omega (arith, e)))

-- so neither part is more than the divisor
pub falling_small : (a : Dir) (p : ℤ) → IsDir a → square p ≤ length_squared a
    → (unsigned_abs (falling a p).dx ≤ length_squared a * 2 ^ 30) × (unsigned_abs (falling a p).dy ≤ length_squared a * 2 ^ 30)
falling_small a p is fits =
    part_small (unsigned_abs (falling a p).dx) (unsigned_abs (falling a p).dy) (length_squared a * reach_rest a p) (length_squared a * 2 ^ 30) (falling_norm a p is fits)

-- as the parts are computed
pub falling_x : (dx dy g c : ℤ) → (dx *ℤ g) -ℤ (dy *ℤ (pos 0 -ℤ c)) ≡ (g *ℤ dx) +ℤ (neg_ℤ c *ℤ neg_ℤ dy)
falling_x dx dy g c = rw (as_diff dx, as_diff dy, as_diff g, as_diff c, diff-pos 0) (simp differences (diff-same _ _ _ _ (omega arith)))

pub falling_y : (dx dy g c : ℤ) → (dy *ℤ g) -ℤ (dx *ℤ c) ≡ (g *ℤ dy) +ℤ (neg_ℤ c *ℤ dx)
falling_y dx dy g c = rw (as_diff dx, as_diff dy, as_diff g, as_diff c) (simp differences (diff-same _ _ _ _ (omega arith)))

-- of all this only the rest takes length away, and little
rest_share : (n g rest : ℕ) → rest ≤ 2 * g → g ≤ n * 2 ^ 30 → 4 * 99999000 * (n * rest) ≤ (n * 2 ^ 30) * (n * 2 ^ 30)
rest_share n g rest p q = omega (arith, mul-le-mul_left n p, mul-le-mul_left n q)

reach_bound : (n s g : ℕ) → 1 ≤ n → g * g ≤ (n - s) * 2 ^ 60 → g ≤ n * 2 ^ 30
reach_bound n s g one p = root_le g (n * 2 ^ 30) (omega (arith, p, mul-le-mul_left n one))

pub rest_small : (a : Dir) (p : ℤ) → IsDir a → 4 * 99999000 * (length_squared a * reach_rest a p) ≤ (length_squared a * 2 ^ 30) * (length_squared a * 2 ^ 30)
rest_small a p is =
    let n = length_squared a in
    let g = reach a p in
    let bound = length_squared_small a is in
    let at = root-IsRoot ((n - square p) * 2 ^ 60) (omega (arith, bound)) in
    rest_share n g (reach_rest a p) (root_rest ((n - square p) * 2 ^ 60) g at) (reach_bound n (square p) g is.length at.low)

-- ---- a multiple of it against the same multiple of the divisor

pub stretched_up : (r w rest m : ℕ) → w + rest ≡ m * m → 16 * (r * r) * w ≤ ((4 * r + 1) * m) * ((4 * r + 1) * m)
stretched_up r w rest m e = omega (arith, ap (λ x. 16 * (r * r) * x) e)

pub stretched_down : (t w rest m : ℕ) → t + 1 ≤ 99999000 → w + rest ≡ m * m → 4 * 99999000 * rest ≤ m * m
    → ((4 * t + 3) * m) * ((4 * t + 3) * m) ≤ 16 * ((t + 1) * (t + 1)) * w
stretched_down t w rest m small e p =
    let share : 4 * (t + 1) * rest ≤ m * m = omega (arith, p, mul-le-mul_left rest small) in
    omega (arith, ap (λ x. 16 * ((t + 1) * (t + 1)) * x) e, mul-le-mul_left (4 * (t + 1)) share)
