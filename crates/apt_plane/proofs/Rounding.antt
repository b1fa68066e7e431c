-- What the rounding of a way to nearest quotients moves.
use Rattle.std.proofs.Common.{◌≡◌, ◌≢◌, ℕ, ◌*◌, ◌≤◌, ◌∙◌, sym, arith, ℤ, pos, ◌+ℤ◌, ◌*ℤ◌, unsigned_abs}
use Rattle.std.proofs.Math.Nat.{mul-le-mul_left}
use Rattle.apt_num.specs.Near.{near}
use Rattle.apt_num.proofs.Nearest.{near_remainder, halves}
use Rattle.apt_plane.specs.declared.figures.Dir.{Dir}
use Rattle.apt_plane.specs.Vectors.{cross, dot, length_squared}
use Rattle.apt_plane.proofs.Displacements.{to, cross_sum, cross_times, cross_square, dot_sum, dot_times, dot_square}
use Rattle.apt_plane.proofs.Lengths.{IsRounded}

-- the nearest quotients of a way over m, by parts
abbrev pub near_displacement : Dir → ℤ → Dir
near_displacement u m = to (near u.dx m) (near u.dy m)

-- what is left over
pub displacement_rest : (u : Dir) (m : ℤ) → m ≢ pos 0 → (e : Dir) × IsRounded u (near_displacement u m) e m
displacement_rest u m d =
    let x = near_remainder u.dx m d in
    let y = near_remainder u.dy m d in
    (to x.0 y.0, record { dx = x.1; dy = y.1; short = halves (unsigned_abs x.0) (unsigned_abs y.0) (unsigned_abs m) x.2 y.2 })

half_square : (c n e m : ℕ) → c * c ≤ n * e → 2 * e ≤ m * m → 2 * c * c ≤ n * (m * m)
half_square c n e m p q = omega (arith, p, mul-le-mul_left n q)

-- the products with the quotients, times m, are those with the way up to the products with one rest
pub moved_both : (d u : Dir) (m : ℤ) → m ≢ pos 0
    → (e : Dir) × IsRounded u (near_displacement u m) e m
    × (m *ℤ cross d (near_displacement u m) ≡ cross d u +ℤ cross d e)
    × (m *ℤ dot d (near_displacement u m) ≡ dot d u +ℤ dot d e)
moved_both d u m h =
    let left = displacement_rest u m h in
    let e = left.0 in (
      e,
      left.1,
      sym (cross_times d (near_displacement u m) m) ∙ rw (left.1.dx, left.1.dy) (cross_sum d u e),
      sym (dot_times d (near_displacement u m) m) ∙ rw (left.1.dx, left.1.dy) (dot_sum d u e),
    )

-- twice the square of the rest of one is at most the square of the length times m
pub moved : (d u : Dir) (m : ℤ) → m ≢ pos 0
    → (rest : ℤ) × (m *ℤ cross d (near_displacement u m) ≡ cross d u +ℤ rest) × (2 * unsigned_abs rest * unsigned_abs rest ≤ length_squared d * (unsigned_abs m * unsigned_abs m))
moved d u m h =
    let both = moved_both d u m h in
    let e = both.0 in
    (cross d e, both.2, half_square (unsigned_abs (cross d e)) (length_squared d) (length_squared e) (unsigned_abs m) (cross_square d e) both.1.short)

pub moved_dot : (d u : Dir) (m : ℤ) → m ≢ pos 0
    → (rest : ℤ) × (m *ℤ dot d (near_displacement u m) ≡ dot d u +ℤ rest) × (2 * unsigned_abs rest * unsigned_abs rest ≤ length_squared d * (unsigned_abs m * unsigned_abs m))
moved_dot d u m h =
    let both = moved_both d u m h in
    let e = both.0 in
    (dot d e, both.3, half_square (unsigned_abs (dot d e)) (length_squared d) (length_squared e) (unsigned_abs m) (dot_square d e) both.1.short)
