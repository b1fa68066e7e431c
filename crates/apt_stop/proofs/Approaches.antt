-- A motion along a line to a stop beyond it runs in its sense.
use Rattle.std.proofs.Common.{◌≡◌, ℕ, suc, ◌*◌, ◌≤◌, ◌<◌, zero, arith, ℤ, pos, negsuc, ◌+ℤ◌, ◌-ℤ◌, ◌*ℤ◌, ◌<ℤ◌, neg_ℤ, unsigned_abs}
use Rattle.std.proofs.lemmas.Int.{ints}
use Rattle.std.proofs.lemmas.Nat.{mul-le, mul-lt}
use Rattle.std.proofs.Math.Nat.{mul-le-mul_left}
use Rattle.apt_num.specs.Sign.{AtLeast}
use Rattle.apt_num.proofs.Ring.{as_diff, diff-same, differences}
use Rattle.apt_num.proofs.Squares.{root_lt, size_neg, size_mul}
use Rattle.apt_plane.specs.declared.figures.Dir.{Dir}
use Rattle.apt_plane.specs.Ranges.{IsSense}
use Rattle.apt_plane.specs.Vectors.{cross, dot, length_squared}
use Rattle.apt_plane.proofs.Displacements.{square_length_squared, dot_square, times_parts}
use Rattle.apt_plane.proofs.Turned.{sense_twice}
use Rattle.apt_stop.specs.Nearness.{heading}

-- v by its parts along d and across it
parts : (dx dy ex ey vx vy : ℤ) →
    ((dx *ℤ dx) +ℤ (dy *ℤ dy)) *ℤ ((ex *ℤ vy) -ℤ (ey *ℤ vx))
    ≡ (((dx *ℤ vx) +ℤ (dy *ℤ vy)) *ℤ ((ex *ℤ dy) -ℤ (ey *ℤ dx))) +ℤ (((dx *ℤ vy) -ℤ (dy *ℤ vx)) *ℤ ((ex *ℤ dx) +ℤ (ey *ℤ dy)))
parts dx dy ex ey vx vy =
    rw (as_diff dx, as_diff dy, as_diff ex, as_diff ey, as_diff vx, as_diff vy) (simp differences (diff-same _ _ _ _ (omega arith)))

along_and_across : (d e v : Dir) → pos (length_squared d) *ℤ cross e v ≡ (dot d v *ℤ cross e d) +ℤ (cross d v *ℤ dot e d)
along_and_across d e v = rw (square_length_squared d) (parts d.dx d.dy e.dx e.dy v.dx v.dy)

-- of lengths: across by at most 4, and towards the stop by at least 7
across_less : (n m a t w : ℕ) → 0 < n → 0 < m → a * a ≤ 16 * n → t * t ≤ m * n → 49 * m ≤ w * w → a * t < n * w
across_less n m a t w n_positive m_positive p q r =
    let some : 0 < n * n * m = omega (arith, mul-lt 0 0 (n * n) m (omega (arith, mul-lt 0 0 n n n_positive n_positive)) m_positive) in
    root_lt (a * t) (n * w) (omega (arith, some, mul-le (a * a) (t * t) (16 * n) (m * n) p q, mul-le-mul_left (n * n) r))

-- a sum of which one part is smaller than the whole: the other has its sign
negative_part : (n : ℕ) (w s r : ℤ) → pos n *ℤ w ≡ s +ℤ r → unsigned_abs r < n * unsigned_abs w → w <ℤ pos 0 → s <ℤ pos 0
negative_part n (pos w) s r e h below = absurd (omega (arith, ints))
negative_part n (negsuc w) s r e h below = omega (arith, ints, e, h)

positive_part : (n : ℕ) (w s r : ℤ) → pos n *ℤ w ≡ s +ℤ r → unsigned_abs r < n * unsigned_abs w → pos 0 <ℤ w → pos 0 <ℤ s
positive_part n (pos w) s r e h above = omega (arith, ints, e, h)
positive_part n (negsuc w) s r e h above = absurd (omega (arith, ints))

-- at most 4 times the root to both sides
pub at_most_four : (a : ℤ) (n : ℕ) → AtLeast a (negsuc 3) n → AtLeast (neg_ℤ a) (negsuc 3) n → unsigned_abs a * unsigned_abs a ≤ 16 * n
at_most_four (pos zero) n p q = omega arith
at_most_four (pos (suc a)) n p q = omega (arith, q)
at_most_four (negsuc a) n p q = omega (arith, p)

-- at least 7 times the root
at_least_seven : (w : ℤ) (m : ℕ) → 0 < m → AtLeast w (pos 7) m → (pos 0 <ℤ w) × (49 * m ≤ unsigned_abs w * unsigned_abs w)
at_least_seven (pos zero) m h p = absurd (omega (arith, p))
at_least_seven (pos (suc w)) m h p = (omega (arith, ints), omega (arith, p))
at_least_seven (negsuc w) m h p = absurd p

-- a way that stays near a track and comes nearer to a stop by much
pub record Approach (d e v : Dir) : Type 0 where
  pub track : 0 < length_squared d
  pub stop : 0 < length_squared e
  pub left : AtLeast (cross d v) (negsuc 3) (length_squared d)
  pub right : AtLeast (neg_ℤ (cross d v)) (negsuc 3) (length_squared d)

sideways : (d e v : Dir) (w : ℤ) → Approach d e v → 49 * length_squared e ≤ unsigned_abs w * unsigned_abs w
    → unsigned_abs (cross d v *ℤ dot e d) < length_squared d * unsigned_abs w
sideways d e v w is far =
    rw (size_mul (cross d v) (dot e d))
    (across_less (length_squared d) (length_squared e) (unsigned_abs (cross d v)) (unsigned_abs (dot e d)) (unsigned_abs w) is.track is.stop (at_most_four (cross d v) (length_squared d) is.left is.right) (dot_square e d) far)

-- towards the stop's right, and towards its left
pub along-right : (d e v : Dir) → Approach d e v → AtLeast (neg_ℤ (cross e v)) (pos 7) (length_squared e) → (dot d v *ℤ cross e d) <ℤ pos 0
along-right d e v is p =
    let far = at_least_seven (neg_ℤ (cross e v)) (length_squared e) is.stop p in
    negative_part (length_squared d) (cross e v) (dot d v *ℤ cross e d) (cross d v *ℤ dot e d) (along_and_across d e v)
    (sideways d e v (cross e v) is (rw (size_neg (cross e v)) at far.1))
    (omega (arith, ints, far.0))

pub along-left : (d e v : Dir) → Approach d e v → AtLeast (cross e v) (pos 7) (length_squared e) → pos 0 <ℤ (dot d v *ℤ cross e d)
along-left d e v is p =
    let far = at_least_seven (cross e v) (length_squared e) is.stop p in
    positive_part (length_squared d) (cross e v) (dot d v *ℤ cross e d) (cross d v *ℤ dot e d) (along_and_across d e v) (sideways d e v (cross e v) is far.1) far.0

-- ---- in the sense of the motion
pub heading_cross : (sense : ℤ) (d e : Dir) → cross e (heading sense d) ≡ sense *ℤ cross e d
heading_cross sense d e = times_parts e.dx e.dy sense d.dx d.dy

-- one factor and the product tell the sign of the other
positive_of-negative : (s c : ℤ) → (s *ℤ c) <ℤ pos 0 → c <ℤ pos 0 → pos 0 <ℤ s
positive_of-negative s (pos c) p q = absurd (omega (arith, ints))
positive_of-negative (pos zero) (negsuc c) p q = absurd (omega (arith, ints))
positive_of-negative (pos (suc s)) (negsuc c) p q = omega (arith, ints)
positive_of-negative (negsuc s) (negsuc c) p q = absurd (omega (arith, ints))

positive_of-positive : (s c : ℤ) → pos 0 <ℤ (s *ℤ c) → pos 0 <ℤ c → pos 0 <ℤ s
positive_of-positive s (negsuc c) p q = absurd (omega (arith, ints))
positive_of-positive s (pos zero) p q = absurd (omega (arith, ints))
positive_of-positive (pos zero) (pos (suc c)) p q = absurd (omega (arith, ints))
positive_of-positive (pos (suc s)) (pos (suc c)) p q = omega (arith, ints)
positive_of-positive (negsuc s) (pos (suc c)) p q = absurd (omega (arith, ints))

pub in_sense-right : (sense s c : ℤ) → IsSense sense → (s *ℤ c) <ℤ pos 0 → (sense *ℤ c) <ℤ pos 0 → pos 0 <ℤ (sense *ℤ s)
in_sense-right sense s c is p q = positive_of-negative (sense *ℤ s) (sense *ℤ c) (rw (sense_twice sense s c is) p) q

pub in_sense-left : (sense s c : ℤ) → IsSense sense → pos 0 <ℤ (s *ℤ c) → pos 0 <ℤ (sense *ℤ c) → pos 0 <ℤ (sense *ℤ s)
in_sense-left sense s c is p q = positive_of-positive (sense *ℤ s) (sense *ℤ c) (rw (sense_twice sense s c is) p) q

-- and it is 0 only where the other number is
