-- That a motion along a line leads onwards to where it meets a circle, seen from the circle's centre c: p is its start and q its end.
use Rattle.std.proofs.Common.{◌≡◌, ◌⊎◌, inl, inr, ℕ, zero, suc, ◌+◌, ◌*◌, ◌≤◌, ◌<◌, sym, subst, arith, ℤ, pos, negsuc, neg_ℤ, ◌+ℤ◌, ◌-ℤ◌, ◌*ℤ◌, ◌≤ℤ◌, ◌<ℤ◌, unsigned_abs}
use Rattle.std.proofs.lemmas.Int.{ints}
use Rattle.std.proofs.Math.Nat.{mul-le-mul_left}
use Rattle.std.proofs.lemmas.Nat.{mul-le}
use Rattle.std.proofs.lemmas.Bool.{cases_lt}
use Rattle.apt_num.specs.Sign.{square, AtLeast}
use Rattle.apt_num.proofs.Ring.{as_diff, diff-pos, diff-same, differences}
use Rattle.apt_num.proofs.Squares.{size_mul, size_neg, square_le}
use Rattle.apt_plane.specs.declared.figures.Pt.{Pt}
use Rattle.apt_plane.specs.declared.figures.Dir.{Dir}
use Rattle.apt_plane.specs.Vectors.{displacement, displacement_to, between, cross, dot, length_squared}
use Rattle.apt_plane.proofs.Displacements.{lagrange}
use Rattle.apt_stop.proofs.Reach.{outside_ahead, inside_ahead, outside_kept}

-- ---- the parts of the way
dot_parts : (a b cx cy px py qx qy : ℤ) → (a *ℤ (qx -ℤ px)) +ℤ (b *ℤ (qy -ℤ py)) ≡ ((a *ℤ (cx -ℤ px)) +ℤ (b *ℤ (cy -ℤ py))) +ℤ ((a *ℤ (qx -ℤ cx)) +ℤ (b *ℤ (qy -ℤ cy)))
dot_parts a b cx cy px py qx qy =
    rw (as_diff a, as_diff b, as_diff cx, as_diff cy, as_diff px, as_diff py, as_diff qx, as_diff qy) (simp differences (diff-same _ _ _ _ (omega arith)))

pub dot_step : (m : Dir) (c p q : Pt) → dot m (displacement p q) ≡ dot m (displacement p c) +ℤ dot m (displacement c q)
dot_step m c p q = dot_parts m.dx m.dy c.x c.y p.x p.y q.x q.y

dot_turn : (a b cx cy px py : ℤ) → (a *ℤ (px -ℤ cx)) +ℤ (b *ℤ (py -ℤ cy)) ≡ neg_ℤ ((a *ℤ (cx -ℤ px)) +ℤ (b *ℤ (cy -ℤ py)))
dot_turn a b cx cy px py = rw (as_diff a, as_diff b, as_diff cx, as_diff cy, as_diff px, as_diff py) (simp differences (diff-same _ _ _ _ (omega arith)))

pub dot_back : (m : Dir) (c p : Pt) → dot m (displacement c p) ≡ neg_ℤ (dot m (displacement p c))
dot_back m c p = dot_turn m.dx m.dy c.x c.y p.x p.y

cross_parts : (a b cx cy px py qx qy : ℤ) → (a *ℤ (qy -ℤ cy)) -ℤ (b *ℤ (qx -ℤ cx)) ≡ ((a *ℤ (py -ℤ cy)) -ℤ (b *ℤ (px -ℤ cx))) +ℤ ((a *ℤ (qy -ℤ py)) -ℤ (b *ℤ (qx -ℤ px)))
cross_parts a b cx cy px py qx qy =
    rw (as_diff a, as_diff b, as_diff cx, as_diff cy, as_diff px, as_diff py, as_diff qx, as_diff qy) (simp differences (diff-same _ _ _ _ (omega arith)))

pub cross_step : (m : Dir) (c p q : Pt) → cross m (displacement c q) ≡ cross m (displacement c p) +ℤ cross m (displacement p q)
cross_step m c p q = cross_parts m.dx m.dy c.x c.y p.x p.y q.x q.y

-- across the heading by at most 4 units
pub record Runs (m : Dir) (p q : Pt) : Type 0 where
  pub heading : 0 < length_squared m
  pub across : square (cross m (displacement p q)) ≤ 16 * length_squared m

-- k is from 0 up, or less than a unit
abbrev pub Onward : ℤ → ℕ → Type 0
Onward k n = (pos 0 ≤ℤ k) ⊎ (2 * square k ≤ n)

sizes_back : (a b c : ℤ) → a ≡ b +ℤ c → unsigned_abs b ≤ unsigned_abs a + unsigned_abs c
sizes_back a b c e = omega (arith, ints, e)

sizes_on : (a b c : ℤ) → a ≡ b +ℤ c → unsigned_abs a ≤ unsigned_abs b + unsigned_abs c
sizes_on a b c e = omega (arith, ints, e)

same_size : (a b : ℤ) → a ≡ neg_ℤ b → unsigned_abs a ≡ unsigned_abs b
same_size a b e = omega (arith, ints, e)

-- ---- from near the circle, 8 units before the centre
near_sum : (k l : ℤ) (n : ℕ) → 0 < n → AtLeast k (pos 8) n → Onward l n → pos 0 <ℤ (k +ℤ l)
near_sum (pos zero) l n some at on = absurd (omega (arith, at, some))
near_sum (pos (suc k)) (pos l) n some at on = omega (arith, ints)
near_sum (pos (suc k)) (negsuc l) n some at (inl on) = absurd (omega (arith, ints, on))
near_sum (pos (suc k)) (negsuc l) n some at (inr on) = elim (cases_lt (suc l) (suc k)) [
  | inl less ↦ omega (arith, ints, less)
  | inr past ↦ absurd (omega (arith, at, on, some, square_le (suc k) (suc l) past))
]
near_sum (negsuc k) l n some at on = absurd at

pub near_onwards : (m : Dir) (c p q : Pt) → 0 < length_squared m → AtLeast (dot m (displacement p c)) (pos 8) (length_squared m) → Onward (dot m (displacement c q)) (length_squared m)
    → pos 0 <ℤ dot m (displacement p q)
near_onwards m c p q some at on = subst (λ z. pos 0 <ℤ z) (sym (dot_step m c p q)) (near_sum (dot m (displacement p c)) (dot m (displacement c q)) (length_squared m) some at on)

-- ---- from outside, towards the centre: the contact lies before the centre, or less than a unit past it
outside_sum : (k l : ℤ) → pos 0 <ℤ k → (l <ℤ pos 0 → unsigned_abs l < unsigned_abs k) → pos 0 <ℤ (k +ℤ l)
outside_sum k (pos l) h less = omega (arith, ints, h)
outside_sum k (negsuc l) h less = omega (arith, ints, h, less (omega (arith, ints)))

pub outside_onwards : (m : Dir) (c p q : Pt) (r : ℕ) → Runs m p q → pos 0 <ℤ dot m (displacement p c)
    → (r + 8) * (r + 8) ≤ length_squared (displacement c p) → length_squared (displacement c q) ≤ (r + 1) * (r + 1) → pos 0 <ℤ dot m (displacement p q)
outside_onwards m c p q r is before far near =
    let u = displacement c p in
    let v = displacement c q in
    let step = cross m (displacement p q) in
    let same : unsigned_abs (dot m u) ≡ unsigned_abs (dot m (displacement p c)) = same_size (dot m u) (dot m (displacement p c)) (dot_back m c p) in
    let less : unsigned_abs (dot m v) < unsigned_abs (dot m u) =
    outside_ahead (length_squared m) (r + 1) (length_squared u) (length_squared v) (unsigned_abs (dot m u)) (unsigned_abs (dot m v)) (unsigned_abs (cross m u)) (unsigned_abs (cross m v)) (unsigned_abs step)
    is.heading (lagrange m u) (lagrange m v) (sizes_back (cross m v) (cross m u) step (cross_step m c p q)) is.across near (omega (arith, far)) in
    subst (λ z. pos 0 <ℤ z) (sym (dot_step m c p q)) (outside_sum (dot m (displacement p c)) (dot m v) before (λ h. omega (arith, less, same)))

-- ---- from inside: t is 8 less than the radius
inside_sum : (k l : ℤ) (n : ℕ) → Onward l n → 2 * (unsigned_abs k * unsigned_abs k) + n < 2 * (unsigned_abs l * unsigned_abs l) → pos 0 <ℤ (k +ℤ l)
inside_sum k l n (inr small) more = absurd (omega (arith, small, more))
inside_sum k (negsuc l) n (inl on) more = absurd (omega (arith, ints, on))
inside_sum k (pos l) n (inl on) more = elim (cases_lt (unsigned_abs k) l) [
  | inl less ↦ omega (arith, ints, less)
  | inr past ↦ absurd (omega (arith, more, square_le l (unsigned_abs k) past))
]

pub inside_onwards : (m : Dir) (c p q : Pt) (t : ℕ) → Runs m p q → Onward (dot m (displacement c q)) (length_squared m)
    → length_squared (displacement c p) ≤ t * t → (t + 7) * (t + 7) ≤ length_squared (displacement c q) → pos 0 <ℤ dot m (displacement p q)
inside_onwards m c p q t is on near far =
    let u = displacement c p in
    let v = displacement c q in
    let step = cross m (displacement p q) in
    let same : unsigned_abs (dot m u) ≡ unsigned_abs (dot m (displacement p c)) = same_size (dot m u) (dot m (displacement p c)) (dot_back m c p) in
    let more =
    inside_ahead (length_squared m) t (length_squared u) (length_squared v) (unsigned_abs (dot m u)) (unsigned_abs (dot m v)) (unsigned_abs (cross m u)) (unsigned_abs (cross m v)) (unsigned_abs step)
    is.heading (lagrange m u) (lagrange m v) (sizes_on (cross m v) (cross m u) step (cross_step m c p q)) is.across near far in
    subst (λ z. pos 0 <ℤ z) (sym (dot_step m c p q)) (inside_sum (dot m (displacement p c)) (dot m v) (length_squared m) on (rw same at more))

-- ---- outside, of every point of the way
between_dot : (a b cx cy px py qx qy : ℤ) (j k : ℕ) →
    (a *ℤ (((pos k *ℤ px) +ℤ (pos j *ℤ qx)) -ℤ (pos (j + k) *ℤ cx))) +ℤ (b *ℤ (((pos k *ℤ py) +ℤ (pos j *ℤ qy)) -ℤ (pos (j + k) *ℤ cy)))
    ≡ (pos (j + k) *ℤ ((a *ℤ (qx -ℤ cx)) +ℤ (b *ℤ (qy -ℤ cy)))) -ℤ (pos k *ℤ ((a *ℤ (qx -ℤ px)) +ℤ (b *ℤ (qy -ℤ py))))
between_dot a b cx cy px py qx qy j k =
    rw (as_diff a, as_diff b, as_diff cx, as_diff cy, as_diff px, as_diff py, as_diff qx, as_diff qy, diff-pos k, diff-pos j, diff-pos (j + k)) (simp differences (diff-same _ _ _ _ (omega arith)))

dot_at : (m : Dir) (c p q : Pt) (j k : ℕ) → dot m (displacement_to c (between p q j k)) ≡ (pos (j + k) *ℤ dot m (displacement c q)) -ℤ (pos k *ℤ dot m (displacement p q))
dot_at m c p q j k = between_dot m.dx m.dy c.x c.y p.x p.y q.x q.y j k

between_cross : (a b cx cy px py qx qy : ℤ) (j k : ℕ) →
    (a *ℤ (((pos k *ℤ py) +ℤ (pos j *ℤ qy)) -ℤ (pos (j + k) *ℤ cy))) -ℤ (b *ℤ (((pos k *ℤ px) +ℤ (pos j *ℤ qx)) -ℤ (pos (j + k) *ℤ cx)))
    ≡ (pos (j + k) *ℤ ((a *ℤ (qy -ℤ cy)) -ℤ (b *ℤ (qx -ℤ cx)))) -ℤ (pos k *ℤ ((a *ℤ (qy -ℤ py)) -ℤ (b *ℤ (qx -ℤ px))))
between_cross a b cx cy px py qx qy j k =
    rw (as_diff a, as_diff b, as_diff cx, as_diff cy, as_diff px, as_diff py, as_diff qx, as_diff qy, diff-pos k, diff-pos j, diff-pos (j + k)) (simp differences (diff-same _ _ _ _ (omega arith)))

cross_at : (m : Dir) (c p q : Pt) (j k : ℕ) → cross m (displacement_to c (between p q j k)) ≡ (pos (j + k) *ℤ cross m (displacement c q)) -ℤ (pos k *ℤ cross m (displacement p q))
cross_at m c p q j k = between_cross m.dx m.dy c.x c.y p.x p.y q.x q.y j k

-- the part along: l at the contact, w on the way, z at the point
low_part : (n k : ℕ) (z l w : ℤ) → z ≡ (pos n *ℤ l) -ℤ (pos k *ℤ w) → pos 0 <ℤ w → l ≤ℤ pos 0 → n * unsigned_abs l ≤ unsigned_abs z
low_part n k z (pos zero) w e ahead before = omega arith
low_part n k z (pos (suc l)) w e ahead before = absurd (omega (arith, ints, before))
low_part n k z (negsuc l) (pos w) e ahead before = omega (arith, ints, e)
low_part n k z (negsuc l) (negsuc w) e ahead before = absurd (omega (arith, ints, ahead))

along_kept : (n k M : ℕ) (z l w : ℤ) → z ≡ (pos n *ℤ l) -ℤ (pos k *ℤ w) → pos 0 <ℤ w → Onward (neg_ℤ l) M
    → 2 * (n * n * (unsigned_abs l * unsigned_abs l)) ≤ 2 * (unsigned_abs z * unsigned_abs z) + n * n * M
along_kept n k M z l w e ahead (inl before) = omega (arith, square_le (n * unsigned_abs l) (unsigned_abs z) (low_part n k z l w e ahead (omega (arith, ints, before))))
along_kept n k M z l w e ahead (inr small) = omega (arith, mul-le-mul_left (n * n) (rw (size_neg l) at small))

times_size : (n : ℕ) (a : ℤ) → unsigned_abs (pos n *ℤ a) ≡ n * unsigned_abs a
times_size n a = size_mul (pos n) a

across_kept : (n k : ℕ) (z a w : ℤ) → z ≡ (pos n *ℤ a) -ℤ (pos k *ℤ w) → k ≤ n → n * unsigned_abs a ≤ unsigned_abs z + n * unsigned_abs w
across_kept n k z a w e less =
    let sizes : unsigned_abs (pos n *ℤ a) ≤ unsigned_abs z + unsigned_abs (pos k *ℤ w) = omega (arith, ints, e) in
    omega (arith, times_size n a, times_size k w, sizes, mul-le k (unsigned_abs w) n (unsigned_abs w) less (omega arith))

pub outside_stays : (m : Dir) (c p q : Pt) (t : ℕ) → Runs m p q → pos 0 <ℤ dot m (displacement p q) → Onward (neg_ℤ (dot m (displacement c q))) (length_squared m)
    → (t + 7) * (t + 7) ≤ length_squared (displacement c q) → length_squared (displacement c q) ≤ (t + 9) * (t + 9) → 92 ≤ t
    → (j k : ℕ) → (j + k) * (j + k) * (t * t) ≤ length_squared (displacement_to c (between p q j k))
outside_stays m c p q t is ahead on far near large j k =
    let v = displacement c q in
    let x = displacement_to c (between p q j k) in
    let step = displacement p q in
    outside_kept (length_squared m) (j + k) t (length_squared v) (length_squared x) (unsigned_abs (dot m v)) (unsigned_abs (cross m v)) (unsigned_abs (dot m x)) (unsigned_abs (cross m x)) (unsigned_abs (cross m step))
    is.heading (lagrange m v) (lagrange m x) (along_kept (j + k) k (length_squared m) (dot m x) (dot m v) (dot m step) (dot_at m c p q j k) ahead on)
    (across_kept (j + k) k (cross m x) (cross m v) (cross m step) (cross_at m c p q j k) (omega arith)) is.across far near large
