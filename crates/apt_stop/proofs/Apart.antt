-- The end of a motion round a circle does not lie in the direction of its start: away from its stop, near it, and where it touches.
use Rattle.std.proofs.Common.{refl, ◌≡◌, ℕ, ◌+◌, ◌-◌, ◌*◌, ◌≤◌, ◌<◌, subst, arith, ℤ, pos, neg_ℤ, ◌+ℤ◌, ◌-ℤ◌, unsigned_abs}
use Rattle.std.proofs.Math.Nat.{mul-le-mul_left}
use Rattle.std.proofs.lemmas.Nat.{mul-le}
use Rattle.std.proofs.lemmas.Int.{ints}
use Rattle.apt_num.specs.declared.Sign.{Sign}
use Rattle.apt_num.specs.declared.Sign.TheVariants as signs
use Rattle.apt_num.specs.Sign.{AtLeast, OnLine, square}
use Rattle.apt_num.proofs.AtLeast.{at_least_squares}
use Rattle.apt_num.proofs.Squares.{size_neg}
use Rattle.apt_plane.specs.declared.figures.Pt.{Pt}
use Rattle.apt_plane.specs.declared.figures.Dir.{Dir}
use Rattle.apt_plane.specs.Vectors.{displacement, cross, length_squared}
use Rattle.apt_plane.proofs.Displacements.{cross_square, back_length}
use Rattle.apt_plane.proofs.Lengths.{plus, sum_of_lengths}
use Rattle.apt_stop.proofs.Onwards.{cross_step}
use Rattle.apt_stop.proofs.Leads.{rise_at_least, fall_at_least}
use Rattle.apt_stop.proofs.Far.{IsFar}

-- ---- away from the stop, a line: the end is at least 7 units across from the start

too_short : (n c m : ℕ) → 0 < n → 7 * 7 * n ≤ c * c → c * c ≤ n * m → m ≤ 25 → ⊥
too_short n c m some long short less = omega (arith, some, long, short, mul-le-mul_left n less)

across_short : (f v : Dir) (w : ℤ) → 0 < length_squared f → unsigned_abs w ≡ unsigned_abs (cross f v) → AtLeast w (pos 7) (length_squared f) → length_squared v ≤ 25 → ⊥
across_short f v w some same far less =
    let n = length_squared f in
    let square_far : 7 * 7 * n ≤ square (cross f v) = rw same at (((at_least_squares w 7 n).0 far).1) in
    too_short n (unsigned_abs (cross f v)) (length_squared v) some square_far (cross_square f v) less

pub away_from_line : (e : Pt) (f : Dir) (k : ℤ) (side : Sign) (p q : Pt) → 0 < length_squared f → IsFar side (cross f (displacement e p)) k (length_squared f)
    → OnLine (cross f (displacement e q)) k (length_squared f) (pos 1) → length_squared (displacement p q) ≤ 25 → ⊥
away_from_line e f k signs.Plus p q some far on less =
    let w = cross f (displacement p q) in
    across_short f (displacement p q) (neg_ℤ w) some (size_neg w) (fall_at_least _ _ _ (neg_ℤ k -ℤ pos 1) (k +ℤ pos 8) (pos 7) (length_squared f) (cross_step f e p q) (omega (arith, ints)) on.left far) less
away_from_line e f k signs.Minus p q some far on less =
    let w = cross f (displacement p q) in
    across_short f (displacement p q) w some refl (rise_at_least _ _ _ (k -ℤ pos 1) (neg_ℤ k +ℤ pos 8) (pos 7) (length_squared f) (cross_step f e p q) (omega (arith, ints)) on.right far) less
away_from_line e f k signs.Zero p q some far on less = absurd far

-- ---- a circle about c: the start is inside of it, or outside

step_plus : (c p q : Pt) → plus (displacement c p) (displacement p q) ≡ displacement c q
step_plus c p q = rw (step_part c.x p.x q.x, step_part c.y p.y q.y) refl
  where
    step_part : (c p q : ℤ) → (p -ℤ c) +ℤ (q -ℤ p) ≡ q -ℤ c
    step_part c p q = omega (arith, ints)

-- two sides of a triangle bound the third
pub by_two_ways : (c p q : Pt) (a b x : ℕ) → length_squared (displacement c p) + x ≤ a * a → length_squared (displacement p q) ≤ b * b → length_squared (displacement c q) + x ≤ (a + b) * (a + b)
by_two_ways c p q a b x first second =
    subst (λ (v : Dir). length_squared v + x ≤ (a + b) * (a + b)) (step_plus c p q) (sum_of_lengths (displacement c p) (displacement p q) a b x first second)

pub away_inside : (c : Pt) (r : ℕ) (p q : Pt) → 8 ≤ r → length_squared (displacement c p) < (r - 8) * (r - 8) → (r - 1) * (r - 1) ≤ length_squared (displacement c q) → length_squared (displacement p q) ≤ 25 → ⊥
away_inside c r p q large inside on less =
    let near = by_two_ways c p q (r - 8) 5 1 (omega (arith, inside)) (omega (arith, less)) in
    omega (arith, near, on, mul-le (r - 8 + 5) (r - 8 + 5) (r - 1) (r - 1) (omega (arith, large)) (omega (arith, large)))

pub away_outside : (c : Pt) (r : ℕ) (p q : Pt) → (r + 8) * (r + 8) < length_squared (displacement c p) → length_squared (displacement c q) ≤ (r + 1) * (r + 1) → length_squared (displacement p q) ≤ 25 → ⊥
away_outside c r p q outside on less =
    let near = by_two_ways c q p (r + 1) 5 0 (omega (arith, on)) (rw (back_length p q) (omega (arith, less))) in
    omega (arith, near, outside)
