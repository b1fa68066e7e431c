-- How large the numbers are from which circles are made.
use Rattle.std.proofs.Common.{refl, ◌≡◌, ◌≢◌, ℕ, zero, suc, ◌+◌, ◌*◌, ◌^◌, ◌≤◌, ◌<◌, arith, ℤ, pos, ◌*ℤ◌, unsigned_abs, FitsSigned, to_z, of_z, w64}
use Rattle.std.specs.Int.{w128}
use Rattle.std.specs.Prelude.{nat_lt, false}
use Rattle.std.proofs.lemmas.Bool.Decides.{nat_tests}
use Rattle.std.proofs.lemmas.Int.{ints, unsigned_abs-mul}
use Rattle.std.proofs.lemmas.Nat.{mul-le}
use Rattle.apt_num.specs.Root.{IsNearestRoot, root}
use Rattle.apt_num.proofs.Squares.{root_lt, square_le, no_square}
use Rattle.apt_num.proofs.Nearest.{near_bound}
use Rattle.apt_num.proofs.RootLaws.{odd_before}
use Rattle.apt_plane.specs.declared.figures.Pt.{Pt}
use Rattle.apt_plane.specs.declared.figures.Dir.{Dir}
use Rattle.apt_plane.specs.declared.figures.Line.{Line}
use Rattle.apt_plane.specs.Vectors.{displacement, cross, length_squared}
use Rattle.apt_plane.specs.Ranges.{IsPoint, IsDir, IsLine}
use Rattle.apt_plane.proofs.Displacements.{cross_square, cross_swap}
use Rattle.apt_plane.proofs.Heights.{cross_small, displacement_height_small}
use Rattle.apt_canon.specs.Scale.{unit, length_of}
use Rattle.apt_canon.specs.Rounds.{distance_from_line}
use Rattle.apt_canon.proofs.Ways.{way_is_dir}
use Rattle.apt_canon.proofs.Depths.{length_facts, length_positive}
use Rattle.apt_canon.proofs.Products.{kept, size_in_units}

-- the nearest root of the square of a length between points
pub nearest_root_small : (n q : ℕ) → n ≤ 8 * 10 ^ 16 → IsNearestRoot n q → q ≤ 10 ^ 9
nearest_root_small n zero h at = omega arith
nearest_root_small n (suc t) h at =
    let below : (2 * t + 1) * (2 * t + 1) < 4 * n = rw (odd_before t) at (at.below (omega arith)) in
    let less : (2 * t + 1) * (2 * t + 1) < 10 ^ 9 * 10 ^ 9 = omega (arith, below, h) in
    omega (arith, root_lt (2 * t + 1) (10 ^ 9) less)

pub way_small : (v : Dir) → unsigned_abs v.dx ≤ 2 * 10 ^ 8 → unsigned_abs v.dy ≤ 2 * 10 ^ 8 → length_squared v ≤ 8 * 10 ^ 16
way_small v p q = omega (arith, square_le (unsigned_abs v.dx) (2 * 10 ^ 8) p, square_le (unsigned_abs v.dy) (2 * 10 ^ 8) q)

pub between_small : (p q : Pt) → IsPoint p → IsPoint q → length_squared (displacement p q) ≤ 8 * 10 ^ 16
between_small p q at_p at_q = way_small (displacement p q) (omega (arith, ints, at_p.x, at_q.x)) (omega (arith, ints, at_p.y, at_q.y))

-- twice a cross product
pub twice_size : (z : ℤ) → unsigned_abs z ≤ 2 * 10 ^ 16 → unsigned_abs (pos 2 *ℤ z) ≤ 4 * 10 ^ 16
twice_size z h = omega (arith, ints)

pub twice_fits : (z : ℤ) → unsigned_abs z ≤ 2 * 10 ^ 16 → FitsSigned w128 (pos 2 *ℤ to_z w128 (of_z w128 z))
twice_fits z h = rw (kept z (omega arith)) (omega (arith, ints))

pub twice_kept : (z : ℤ) → unsigned_abs z ≤ 2 * 10 ^ 16 → to_z w128 (of_z w128 (pos 2 *ℤ to_z w128 (of_z w128 z))) ≡ pos 2 *ℤ z
twice_kept z h = rw (kept z (omega arith)) (kept (pos 2 *ℤ z) (omega (arith, twice_size z h)))

pub twice_not_zero : (z : ℤ) → z ≢ pos 0 → pos 2 *ℤ z ≢ pos 0
twice_not_zero z d = λ e. d (omega (arith, ints))

size_zero : (z : ℤ) → unsigned_abs z ≡ 0 → z ≡ pos 0
size_zero z e = omega (arith, ints)

one_or_none : (n : ℕ) → (n ≡ 0 → ⊥) → 1 ≤ n
one_or_none zero h = absurd (h refl)
one_or_none (suc n) h = omega arith

long_first : (b c : Dir) → cross b c ≢ pos 0 → 1 ≤ length_squared b
long_first b c d = one_or_none (length_squared b) (λ e. d (size_zero (cross b c) (no_square (unsigned_abs (cross b c)) (length_squared c) (rw e at (cross_square b c)))))

long_second : (b c : Dir) → cross b c ≢ pos 0 → 1 ≤ length_squared c
long_second b c d = long_first c b (λ e. d (size_zero (cross b c) (omega (arith, ints, cross_swap b c, e))))

-- the ways between points that are not on one line
pub first_way : (p q r : Pt) → IsPoint p → IsPoint q → cross (displacement p q) (displacement p r) ≢ pos 0 → IsDir (displacement p q)
first_way p q r at_p at_q d = way_is_dir p q at_p at_q (long_first (displacement p q) (displacement p r) d)

pub second_way : (p q r : Pt) → IsPoint p → IsPoint r → cross (displacement p q) (displacement p r) ≢ pos 0 → IsDir (displacement p r)
second_way p q r at_p at_r d = way_is_dir p r at_p at_r (long_second (displacement p q) (displacement p r) d)

-- a distance from a line
in_units : (x s : ℕ) → x ≤ 2 * 10 ^ 16 → 2 ^ 35 ≤ s → x * 2 ^ 35 ≤ (2 * 10 ^ 16) * s
in_units x s p q = mul-le x (2 ^ 35) (2 * 10 ^ 16) s p q

pub distance_small : (p : Pt) (l : Line) → IsPoint p → IsLine l → unsigned_abs (distance_from_line p l) ≤ 2 * 10 ^ 16
distance_small p l at is =
    let k = cross l.dir (displacement l.base p) in
    let facts = length_facts l.dir is.dir in
    near_bound (pos (unsigned_abs k) *ℤ unit) (length_of l.dir) (2 * 10 ^ 16) (length_positive l.dir is.dir)
    (rw unsigned_abs-mul (in_units (unsigned_abs k) (root (length_squared l.dir * 2 ^ 70)) (displacement_height_small l.base l.dir p is.base is.dir at) facts.large))

pub distance_plain : (p : Pt) (l : Line) → IsPoint p → IsLine l → FitsSigned w64 (distance_from_line p l)
distance_plain p l at is = omega (arith, ints, distance_small p l at is)

pub turn_small : (p q r : Pt) → IsPoint p → IsPoint q → IsPoint r → cross (displacement p q) (displacement p r) ≢ pos 0
    → unsigned_abs (cross (displacement p q) (displacement p r)) ≤ 2 * 10 ^ 16
turn_small p q r at_p at_q at_r d = cross_small (displacement p q) (displacement p r) (first_way p q r at_p at_q d) (second_way p q r at_p at_r d)

-- a size in units
pub size_units_kept : (n : ℕ) → n ≤ 2 * 10 ^ 16 → to_z w128 (of_z w128 (pos n *ℤ unit)) ≡ pos n *ℤ unit
size_units_kept n h = kept (pos n *ℤ unit) (omega (arith, size_in_units (pos n) h))

pub not_far : (z : ℤ) → unsigned_abs z ≤ 2 * 10 ^ 8 → nat_lt (2 * 10 ^ 8) (unsigned_abs z) ≡ false
not_far z h = grind (arith, nat_tests, h)
