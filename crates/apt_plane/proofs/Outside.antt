-- A point near a circle of the radius r lies outside another circle where it is farther from the axis than a point that does. The axis g leads from the centre of the first to that of the second.
use Rattle.std.proofs.Common.{refl, ◌≡◌, inl, inr, ℕ, ◌+◌, ◌-◌, ◌*◌, ◌≤◌, ◌<◌, ap, sym, subst, arith, ℤ, pos, ◌+ℤ◌, ◌-ℤ◌, ◌*ℤ◌, ◌≤ℤ◌, neg_ℤ, unsigned_abs}
use Rattle.std.proofs.Math.Nat.{mul-le-mul_left}
use Rattle.std.proofs.lemmas.Int.{ints}
use Rattle.std.proofs.lemmas.Nat.{mul-le}
use Rattle.std.proofs.lemmas.Bool.{cases_lt}
use Rattle.apt_num.specs.Sign.{signed_square}
use Rattle.apt_num.proofs.Ring.{as_diff, diff-pos, diff-same, differences}
use Rattle.apt_plane.specs.declared.figures.Dir.{Dir}
use Rattle.apt_plane.specs.Vectors.{cross, dot, length_squared}
use Rattle.apt_plane.proofs.Displacements.{square_length_squared, lagrange, dot_square}
use Rattle.apt_plane.proofs.AwayRows.{reverse, reverse_length}
use Rattle.apt_plane.proofs.Lengths.{plus, times, back_part, length_of_times, sum_of_lengths, chord, chord_long}
use Rattle.apt_plane.proofs.Nearby.{IsNearby}
use Rattle.apt_num.proofs.Moves.{IsUpTo, IsCrossing, moved}
use Rattle.apt_num.proofs.Carried.{carried}
use Rattle.apt_num.proofs.OnAxis.{on_axis}
use Rattle.apt_num.proofs.Rays.{ray}

-- the share of the axis that v has, over its length, is at most that of a
abbrev pub HasLessShare : Dir → Dir → Dir → Type 0
HasLessShare g a v = (signed_square (dot g v) *ℤ pos (length_squared a)) ≤ℤ (signed_square (dot g a) *ℤ pos (length_squared v))

-- v less m times g
abbrev pub less_times : ℕ → Dir → Dir → Dir
less_times m g v = record { dx = v.dx -ℤ (pos m *ℤ g.dx); dy = v.dy -ℤ (pos m *ℤ g.dy) }

-- ---- the radius of the track, twelve units less than that of the stop, the reach and the square of the distance of the centres
pub record AreMeeting (r q w G : ℕ) : Type 0 where
  pub least : 100 ≤ r
  pub reach : 8 ≤ w
  pub most : 4 * w ≤ r
  pub stop : w ≤ q
  pub meets : r * r + (q + 12) * (q + 12) ≤ G + 2 * (r * (q + 12))

-- v is m times the way to a point from the circle's outside edge to the reach inside
pub record IsOnChord (r w m : ℕ) (v : Dir) : Type 0 where
  pub some : 0 < m
  pub low : m * m * ((r - w) * (r - w)) ≤ length_squared v
  pub high : length_squared v ≤ m * m * ((r + 3) * (r + 3))

-- ---- lengths of differences
less_parts : (m a b c d : ℤ) → (((c -ℤ (m *ℤ a)) *ℤ (c -ℤ (m *ℤ a))) +ℤ ((d -ℤ (m *ℤ b)) *ℤ (d -ℤ (m *ℤ b)))) +ℤ ((pos 2 *ℤ m) *ℤ ((a *ℤ c) +ℤ (b *ℤ d)))
    ≡ ((m *ℤ m) *ℤ ((a *ℤ a) +ℤ (b *ℤ b))) +ℤ ((c *ℤ c) +ℤ (d *ℤ d))
less_parts m a b c d = rw (as_diff m, as_diff a, as_diff b, as_diff c, as_diff d, diff-pos 2) (simp differences (diff-same _ _ _ _ (omega arith)))

less_long : (m : ℕ) (g v : Dir) → pos (length_squared (less_times m g v)) +ℤ (pos (2 * m) *ℤ dot g v) ≡ (pos (m * m) *ℤ pos (length_squared g)) +ℤ pos (length_squared v)
less_long m g v = rw (← square_length_squared (less_times m g v), ← square_length_squared g, ← square_length_squared v) at (less_parts (pos m) g.dx g.dy v.dx v.dy)

-- ---- the circles far from each other
pub same_way : (a b c d : ℤ) → a ≡ c → b ≡ d → length_squared (record { dx = a; dy = b }) ≡ length_squared (record { dx = c; dy = d })
same_way a b c d e f = rw (e, f) refl

-- v is what is left, and m g
again : (m : ℕ) (g v : Dir) → length_squared (plus (less_times m g v) (times (pos m) g)) ≡ length_squared v
again m g v = same_way _ _ _ _ (back_part v.dx (pos m *ℤ g.dx)) (back_part v.dy (pos m *ℤ g.dy))

-- v is shorter by so much than m g
far_least : (r q w m G : ℕ) → 8 ≤ w → w ≤ q → 0 < m → (r + q) * (r + q) < G → (m * (q - w) + m * (r + 3)) * (m * (q - w) + m * (r + 3)) < m * m * G + 1
far_least r q w m G least stop some far =
    let short : q - w + (r + 3) ≤ r + q = omega (arith, least, stop) in
    omega (arith, mul-le-mul_left (m * m) far, mul-le-mul_left (m * m) (mul-le (q - w + (r + 3)) (q - w + (r + 3)) (r + q) (r + q) short short))

far_apart : (r q w m : ℕ) (g v : Dir) → AreMeeting r q w (length_squared g) → IsOnChord r w m v → (r + q) * (r + q) < length_squared g
    → m * (q - w) * (m * (q - w)) ≤ length_squared (less_times m g v)
far_apart r q w m g v is near far =
    let n = length_squared (less_times m g v) in
    elim (cases_lt n (m * (q - w) * (m * (q - w)))) [
      | inr fine ↦ fine
      | inl short ↦
          let both =
          sum_of_lengths (reverse (less_times m g v)) v (m * (q - w)) (m * (r + 3)) 1 (omega (arith, short, reverse_length (less_times m g v))) (omega (arith, near.high)) in
          absurd (omega (
            arith,
            both,
            far_least r q w m (length_squared g) is.reach is.stop near.some far,
            turned_round m g v,
            length_of_times (pos m) g,
          ))
    ]
  where
    turn_other : (c d : ℤ) → neg_ℤ (c -ℤ d) +ℤ c ≡ d
    turn_other c d = omega (arith, ints)

    turned_round : (m : ℕ) (g v : Dir) → length_squared (plus (reverse (less_times m g v)) v) ≡ length_squared (times (pos m) g)
    turned_round m g v = same_way _ _ _ _ (turn_other v.dx (pos m *ℤ g.dx)) (turn_other v.dy (pos m *ℤ g.dy))

-- the stop's circle inside the track
inside_first : (r q G : ℕ) → r * r + (q + 12) * (q + 12) ≤ G + 2 * (r * (q + 12)) → G + 2 * (r * q) < r * r + q * q → q ≤ r
inside_first r q G meets in_other = elim (cases_lt r q) [ inr fine ↦ fine | inl past ↦ absurd (omega (arith, meets, in_other, past)) ]

in_least : (d r q G : ℕ) → d + q ≡ r → G + 2 * (r * q) < r * r + q * q → G ≤ d * d
in_least d r q G e h = omega (arith, h, ap (λ n. n * n) e, ap (λ n. q * n) e)

in_whole : (r q w : ℕ) → w ≤ q → q ≤ r → q - w + (r - q) ≡ r - w
in_whole r q w h k = omega (arith, h, k)

square_sum : (m a b d : ℕ) → a + b ≡ d → (m * a + m * b) * (m * a + m * b) ≡ m * m * (d * d)
square_sum m a b d e = omega (arith, ap (λ n. m * m * (n * n)) e)

one_in_other : (r q w m : ℕ) (g v : Dir) → AreMeeting r q w (length_squared g) → IsOnChord r w m v → length_squared g + 2 * (r * q) < r * r + q * q
    → m * (q - w) * (m * (q - w)) ≤ length_squared (less_times m g v)
one_in_other r q w m g v is near in_other =
    let n = length_squared (less_times m g v) in
    let first = inside_first r q (length_squared g) is.meets in_other in
    let least = in_least (r - q) r q (length_squared g) (omega (arith, first)) in_other in
    elim (cases_lt n (m * (q - w) * (m * (q - w)))) [
      | inr fine ↦ fine
      | inl short ↦
          let both =
          sum_of_lengths (less_times m g v) (times (pos m) g) (m * (q - w)) (m * (r - q)) 1 (omega (arith, short))
          (omega (arith, length_of_times (pos m) g, mul-le-mul_left (m * m) least)) in
          absurd (omega (arith, both, again m g v, near.low, square_sum m (q - w) (r - q) (r - w) (in_whole r q w is.stop first)))
    ]

-- ---- the circles meet: J = r r + G - q q
abbrev pub share : ℕ → ℕ → ℕ → ℤ
share r q G = pos (r * r + G) -ℤ pos (q * q)

crossing : (r q G : ℕ) → G ≤ (r + q) * (r + q) → r * r + q * q ≤ G + 2 * (r * q) → IsCrossing r q G (share r q G)
crossing r q G high low = record { share = refl; high = high; low = low }

-- back along the ray, with r, q and w
ray_at : (c x v p m r q V G : ℕ) (F J : ℤ) → r ≡ x + (c + v) → q ≡ p + (c + v) → IsCrossing r q G J → IsUpTo r J F V
    → m * m * (x * x) ≤ V → V ≤ m * m * ((r + c) * (r + c)) → 0 < x → 0 < m → (pos (m * m * (p * p)) +ℤ (pos (2 * m) *ℤ F)) ≤ℤ pos (V + m * m * G)
ray_at c x v p m r q V G F J e f is up lo hi some one =
    ray c x v p m V G F J (subst (λ n. IsCrossing n (p + (c + v)) G J) e (subst (λ n. IsCrossing r n G J) f is)) (subst (λ n. IsUpTo n J F V) e up) lo
    (subst (λ n. V ≤ m * m * ((n + c) * (n + c))) e hi) some one

kept : (r q w m : ℕ) (g v : Dir) → AreMeeting r q w (length_squared g) → IsOnChord r w m v → length_squared g ≤ (r + q) * (r + q) → r * r + q * q ≤ length_squared g + 2 * (r * q)
    → IsUpTo r (share r q (length_squared g)) (dot g v) (length_squared v) → m * (q - w) * (m * (q - w)) ≤ length_squared (less_times m g v)
kept r q w m g v is near high low up =
    let G = length_squared g in
    let past =
    ray_at 3 (r - w) (w - 3) (q - w) m r q (length_squared v) G (dot g v) (share r q G) (omega (arith, is.reach, is.most, is.least)) (omega (arith, is.reach, is.stop)) (crossing r q G high low) up
    near.low near.high (omega (arith, is.most, is.least)) near.some in
    left_over (m * (q - w) * (m * (q - w))) (m * m * ((q - w) * (q - w))) (length_squared (less_times m g v)) (length_squared v) (m * m) G (pos (2 * m) *ℤ dot g v) (omega arith) past (less_long m g v)
  where
    left_over : (a b n V c G : ℕ) (z : ℤ) → a ≡ b → (pos b +ℤ z) ≤ℤ pos (V + c * G) → pos n +ℤ z ≡ (pos c *ℤ pos G) +ℤ pos V → a ≤ n
    left_over a b n V c G z e h f = omega (arith, ints, e, h, f)

-- ---- from a point that lies outside
start_share : (q A G n : ℕ) (f : ℤ) → pos n +ℤ (pos 2 *ℤ f) ≡ pos G +ℤ pos A → (q + 4) * (q + 4) ≤ n → ((pos 2 *ℤ f) +ℤ pos ((q + 4) * (q + 4))) ≤ℤ pos (A + G)
start_share q A G n f e h = omega (arith, ints, e, h)

moved_at : (p r q A G : ℕ) (f J : ℤ) → r ≡ p + 3 → IsCrossing r q G J → 97 ≤ p → p * p ≤ A → A ≤ (p + 6) * (p + 6)
    → ((pos 2 *ℤ f) +ℤ pos ((q + 4) * (q + 4))) ≤ℤ pos (A + G) → IsUpTo r J f A
moved_at p r q A G f J e is least lo hi v =
    subst (λ n. IsUpTo n J f A) (sym e) (moved p q A G f J (subst (λ n. IsCrossing n q G J) e is) least lo hi v)

-- a, at most three units from the circle and four or more outside the other
pub record IsOutside (r q : ℕ) (g a : Dir) : Type 0 where
  pub near : IsNearby (r - 3) a
  pub far : (q + 4) * (q + 4) ≤ length_squared (chord g a)

from_point : (r q : ℕ) (g a v : Dir) → 100 ≤ r → IsOutside r q g a → HasLessShare g a v → length_squared g ≤ (r + q) * (r + q) → r * r + q * q ≤ length_squared g + 2 * (r * q)
    → IsUpTo r (share r q (length_squared g)) (dot g v) (length_squared v)
from_point r q g a v least at far high low =
    let G = length_squared g in
    let some : 97 ≤ r - 3 = omega (arith, least) in
    carried (4 * (r * r)) (length_squared a) (length_squared v) (signed_square (dot g v)) (signed_square (dot g a)) (signed_square (share r q G))
    (omega (arith, at.near.low, mul-le-mul_left (r - 3) some, some)) far
    (moved_at (r - 3) r q (length_squared a) G (dot g a) (share r q G) (omega (arith, least)) (crossing r q G high low) some at.near.low at.near.high
    (start_share q (length_squared a) G (length_squared (chord g a)) (dot g a) (chord_long g a) at.far))

-- by a point that lies outside
pub outside_from : (r q w m : ℕ) (g a v : Dir) → AreMeeting r q w (length_squared g) → IsOnChord r w m v → IsOutside r q g a → HasLessShare g a v
    → m * (q - w) * (m * (q - w)) ≤ length_squared (less_times m g v)
outside_from r q w m g a v is near at far =
    let G = length_squared g in
    elim (cases_lt ((r + q) * (r + q)) G) [
      | inl apart ↦ far_apart r q w m g v is near apart
      | inr high ↦ elim (cases_lt (G + 2 * (r * q)) (r * r + q * q)) [
        | inl in_other ↦ one_in_other r q w m g v is near in_other
        | inr low ↦ kept r q w m g v is near high low (from_point r q g a v is.least at far high low)
      ]
    ]

-- ---- from a contact on the axis
pub record IsContact (r q : ℕ) (g e : Dir) : Type 0 where
  pub low : (r - 1) * (r - 1) ≤ length_squared e
  pub high : length_squared e ≤ (r + 1) * (r + 1)
  pub far : (q + 11) * (q + 11) ≤ length_squared (chord g e)
  pub ahead : pos 0 ≤ℤ dot g e
  pub across : 2 * (unsigned_abs (cross g e) * unsigned_abs (cross g e)) ≤ length_squared g

contact_share : (q A G n : ℕ) (f : ℤ) → pos n +ℤ (pos 2 *ℤ f) ≡ pos G +ℤ pos A → pos 0 ≤ℤ f → (q + 11) * (q + 11) ≤ n → 2 * unsigned_abs f + (q + 11) * (q + 11) ≤ A + G
contact_share q A G n f e some h = omega (arith, ints, e, some, h)

on_axis_at : (p r q A G f y V : ℕ) (F J : ℤ) → r ≡ p + 1 → IsCrossing r q G J → 99 ≤ p → p * p ≤ A → A ≤ (p + 2) * (p + 2) → G * A ≡ f * f + y * y → 2 * (y * y) ≤ G
    → 2 * f + (q + 11) * (q + 11) ≤ A + G → unsigned_abs F * unsigned_abs F ≤ G * V → IsUpTo r J F V
on_axis_at p r q A G f y V F J e is least lo hi whole across v k =
    subst (λ n. IsUpTo n J F V) (sym e) (on_axis p q A G f y V F J (subst (λ n. IsCrossing n q G J) e is) least lo hi whole across v k)

from_contact : (r q w : ℕ) (g e v : Dir) → AreMeeting r q w (length_squared g) → IsContact r q g e → length_squared g ≤ (r + q) * (r + q) → r * r + q * q ≤ length_squared g + 2 * (r * q)
    → IsUpTo r (share r q (length_squared g)) (dot g v) (length_squared v)
from_contact r q w g e v is at high low =
    let G = length_squared g in
    let up : r - 1 + 2 ≡ r + 1 = omega (arith, is.least) in
    on_axis_at (r - 1) r q (length_squared e) G (unsigned_abs (dot g e)) (unsigned_abs (cross g e)) (length_squared v) (dot g v) (share r q G) (omega (arith, is.least)) (crossing r q G high low)
    (omega (arith, is.least)) at.low (subst (λ n. length_squared e ≤ n * n) (sym up) at.high) (lagrange g e) at.across
    (contact_share q (length_squared e) G (length_squared (chord g e)) (dot g e) (chord_long g e) at.ahead at.far) (dot_square g v)

pub outside_contact : (r q w m : ℕ) (g e v : Dir) → AreMeeting r q w (length_squared g) → IsOnChord r w m v → IsContact r q g e
    → m * (q - w) * (m * (q - w)) ≤ length_squared (less_times m g v)
outside_contact r q w m g e v is near at =
    let G = length_squared g in
    elim (cases_lt ((r + q) * (r + q)) G) [
      | inl apart ↦ far_apart r q w m g v is near apart
      | inr high ↦ elim (cases_lt (G + 2 * (r * q)) (r * r + q * q)) [
        | inl in_other ↦ one_in_other r q w m g v is near in_other
        | inr low ↦ kept r q w m g v is near high low (from_contact r q w g e v is at high low)
      ]
    ]
