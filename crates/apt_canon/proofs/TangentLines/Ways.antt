-- Which of the tangents it is: on which side it passes its circles, and which way it runs.
use Rattle.std.proofs.Common.{◌≡◌, ◌≢◌, ℕ, ◌+◌, ◌-◌, ◌*◌, ◌^◌, ◌≤◌, ◌<◌, ◌∙◌, Bool, true, false, ap, inl, inr, arith, ℤ, pos, neg_ℤ, ◌+ℤ◌, ◌-ℤ◌, ◌*ℤ◌, ◌<ℤ◌, unsigned_abs, Result, Ok, Err, IfOk}
use Rattle.std.proofs.Math.Nat.{mul-le-mul_left}
use Rattle.std.proofs.lemmas.Int.{ints}
use Rattle.std.proofs.lemmas.Bool.{cases_lt}
use Rattle.apt_num.specs.Sign.{square}
use Rattle.apt_num.proofs.Ring.{pos-*ℤ}
use Rattle.apt_num.proofs.RootLaws.{root-IsRoot}
use Rattle.apt_num.proofs.Squares.{root_le, square_le}
use Rattle.apt_num.proofs.Products.{plus_of}
use Rattle.apt_plane.specs.declared.figures.Pt.{Pt}
use Rattle.apt_plane.specs.declared.figures.Dir.{Dir}
use Rattle.apt_plane.specs.declared.figures.Line.{Line}
use Rattle.apt_plane.specs.declared.figures.Circ.{Circ}
use Rattle.apt_plane.specs.Vectors.{displacement, dot, length_squared}
use Rattle.apt_plane.specs.Ranges.{IsPoint, IsDir, IsLine, IsCircle}
use Rattle.apt_plane.proofs.Displacements.{dot_times}
use Rattle.apt_plane.proofs.Frames.{dot_in_frame}
use Rattle.apt_plane.proofs.Rounding.{moved_dot}
use Rattle.apt_plane.proofs.Heights.{length_squared_small}
use Rattle.apt_canon.specs.declared.FormFault.{FormFault}
use Rattle.apt_canon.specs.Scale.{times, IsNearLine}
use Rattle.apt_canon.specs.Tangents.{side_of_circle, falling, falling_dir, PassesBy}
use Rattle.apt_canon.proofs.Sides.{left_at, right_at}
use Rattle.apt_canon.proofs.TangentLines.Frame.{reach}
use Rattle.apt_canon.proofs.TangentLines.Laws.{divisor_apart, divisor_size}

-- ---- the side

to_right : (r : ℤ) → neg_ℤ (pos 1 *ℤ r) ≡ neg_ℤ r
to_right r = omega (arith, ints)

to_left : (r : ℤ) → neg_ℤ (neg_ℤ (pos 1) *ℤ r) ≡ r
to_left r = omega (arith, ints)

-- a line that touches a circle within two units passes it on the side that is named
pub passes : (left : Bool) (t : Line) (c : Circ) → IsCircle c → IsLine t → IsNearLine t (neg_ℤ (side_of_circle left *ℤ c.r)) (pos 2) c.c → PassesBy left t c
passes true t c is line near =
    right_at _ c.r (pos 2) (length_squared t.dir) (rw (to_right c.r) at near) (omega (arith, ints, is.least)) line.dir.length
passes false t c is line near =
    left_at _ c.r (pos 2) (length_squared t.dir) (rw (to_left c.r) at near) (omega (arith, ints, is.least)) line.dir.length

pub if_passes : (left : Bool) (c : Circ) (r : Result Line FormFault) → IsCircle c → IfOk r (λ t. IsLine t) → IfOk r (λ t. IsNearLine t (neg_ℤ (side_of_circle left *ℤ c.r)) (pos 2) c.c)
    → IfOk r (λ t. PassesBy left t c)
if_passes left c (Ok t) is line near = passes left t c is line near
if_passes left c (Err e) is line near = tt

-- ---- the way

-- the tangent between its touching points is at least one unit long
reach_least : (n s g : ℕ) → s < n → (n - s) * 2 ^ 60 < (g + 1) * (g + 1) → 2 ^ 30 ≤ g
reach_least n s g less high = elim (cases_lt g (2 ^ 30)) [
  | inl below ↦ absurd (omega (arith, high, square_le (g + 1) (2 ^ 30) (omega (arith, below))))
  | inr past ↦ past
]

rest_below : (n m rest : ℕ) → n ≤ 2 * (99000000 * 99000000) → 2 * rest * rest ≤ n * (m * m) → rest ≤ 99000000 * m
rest_below n m rest short h = root_le rest (99000000 * m) (omega (arith, h, mul-le-mul_left (m * m) short))

onwards_core : (m x : ℕ) (d rest : ℤ) → 0 < m → m ≤ x → pos m *ℤ d ≡ pos (99999000 * x) +ℤ rest → unsigned_abs rest ≤ 99000000 * m → pos 0 <ℤ d
onwards_core m x d rest positive long e short = plus_of m d (rw e (omega (arith, ints, positive, long, short)))

along_parts : (g n : ℕ) → pos 99999000 *ℤ (pos g *ℤ pos n) ≡ pos (99999000 * (g * n))
along_parts g n = ap (λ z. pos 99999000 *ℤ z) (pos-*ℤ g n) ∙ pos-*ℤ 99999000 (g * n)

-- the direction of a tangent runs on along the way that it starts from, where that is not all fall
pub falling_onwards : (a : Dir) (p : ℤ) → IsDir a → length_squared a ≤ 2 * (99000000 * 99000000) → square p < length_squared a → pos 0 <ℤ dot a (falling_dir a p)
falling_onwards a p is short less =
    let n = length_squared a in
    let m = n * 2 ^ 30 in
    let g = reach a p in
    let at = root-IsRoot ((n - square p) * 2 ^ 60) (omega (arith, length_squared_small a is)) in
    let rounded = moved_dot a (times (pos 99999000) (falling a p)) (pos m) (divisor_apart a is) in
    let along : dot a (times (pos 99999000) (falling a p)) ≡ pos (99999000 * (g * n)) =
    dot_times a (falling a p) (pos 99999000) ∙ ap (λ z. pos 99999000 *ℤ z) (dot_in_frame a (pos g) (neg_ℤ (p *ℤ pos (2 ^ 30)))) ∙ along_parts g n in
    let whole : pos m *ℤ dot a (falling_dir a p) ≡ pos (99999000 * (g * n)) +ℤ rounded.0 = rounded.1 ∙ ap (λ z. z +ℤ rounded.0) along in
    onwards_core m (g * n) (dot a (falling_dir a p)) rounded.0 (divisor_size a is)
    (omega (arith, mul-le-mul_left n (reach_least n (square p) g less at.high))) whole (rest_below n m (unsigned_abs rounded.0) short rounded.2)

-- ---- how far apart figures are

part_within : (x y : ℤ) → unsigned_abs x ≤ 50000000 → unsigned_abs y ≤ 49000000 → unsigned_abs (y -ℤ x) ≤ 99000000
part_within x y p q = omega (arith, ints, p, q)

-- a point in range and the centre of a circle
pub point_to_centre : (p : Pt) (c : Circ) → IsPoint p → IsCircle c → length_squared (displacement p c.c) ≤ 2 * (99000000 * 99000000)
point_to_centre p c is_p is =
    let x = part_within p.x c.c.x is_p.x (omega (arith, is.x)) in
    let y = part_within p.y c.c.y is_p.y (omega (arith, is.y)) in
    omega (arith, square_le _ 99000000 x, square_le _ 99000000 y)

pub centre_to_centre : (a b : Circ) → IsCircle a → IsCircle b → length_squared (displacement a.c b.c) ≤ 2 * (99000000 * 99000000)
centre_to_centre a b is_a is_b = point_to_centre a.c b is_a.centre is_b

-- what is not more and not the same is less
pub less_than : (n m : ℕ) → m ≤ n → n ≢ m → m < n
less_than n m h d = elim (cases_lt m n) [
  | inl below ↦ below
  | inr past ↦ absurd (d (omega (arith, h, past)))
]
