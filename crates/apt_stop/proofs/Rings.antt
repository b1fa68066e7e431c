-- How far from a centre a point is that is near a circle, or not near it.
use Rattle.std.proofs.Common.{◌≡◌, ◌⊎◌, inl, inr, ℕ, ◌+◌, ◌-◌, ◌*◌, ◌≤◌, ◌<◌, arith, Bool, true, false, ◌&&◌, pos, ◌+ℤ◌, ◌-ℤ◌}
use Rattle.std.specs.Prelude.{nat_le}
use Rattle.std.proofs.lemmas.Int.{ints}
use Rattle.std.proofs.lemmas.Bool.{and_parts, and_cases, leb-true, leb-false}
use Rattle.apt_num.specs.Sign.{square}
use Rattle.apt_num.proofs.Nearest.{not_negative}
use Rattle.apt_plane.specs.declared.figures.Pt.{Pt}
use Rattle.apt_plane.specs.Vectors.{displacement, length_squared}
use Rattle.apt_plane.proofs.OneRay.{size_down}
use Rattle.apt_canon.specs.Scale.{IsNearCircle}
use Rattle.apt_contact.specs.Meetings.{circle_about}

-- ---- at most a unit from the circle
less_one : (r : ℕ) → 1 ≤ r → pos r -ℤ pos 1 ≡ pos (r - 1)
less_one r some = omega (arith, ints)

pub near_least : (o : Pt) (r : ℕ) (p : Pt) → 1 ≤ r → IsNearCircle (circle_about o (pos r)) (pos 1) p → (r - 1) * (r - 1) ≤ length_squared (displacement o p)
near_least o r p some is = rw (less_one r some, not_negative (r - 1)) at is.outside

pub near_most : (o : Pt) (r : ℕ) (p : Pt) → IsNearCircle (circle_about o (pos r)) (pos 1) p → length_squared (displacement o p) ≤ (r + 1) * (r + 1)
near_most o r p is = rw (not_negative (r + 1)) at is.inside

-- ---- by the tests

abbrev pub is_in_ring : ℕ → ℕ → ℕ → Bool
is_in_ring r g n = nat_le (square (pos r -ℤ pos g)) n && nat_le n (square (pos r +ℤ pos g))

pub ring_true : (r g n : ℕ) → g ≤ r → is_in_ring r g n ≡ true → ((r - g) * (r - g) ≤ n) × (n ≤ (r + g) * (r + g))
ring_true r g n less e =
    let both = and_parts (nat_le (square (pos r -ℤ pos g)) n) (nat_le n (square (pos r +ℤ pos g))) e in
    (rw (size_down r g less) at (leb-true (square (pos r -ℤ pos g)) n both.0), leb-true n (square (pos r +ℤ pos g)) both.1)

pub ring_false : (r g n : ℕ) → g ≤ r → is_in_ring r g n ≡ false → (n < (r - g) * (r - g)) ⊎ ((r + g) * (r + g) < n)
ring_false r g n less e = elim (and_cases (nat_le (square (pos r -ℤ pos g)) n) (nat_le n (square (pos r +ℤ pos g))) e) [
  | inl below ↦ inl (rw (size_down r g less) at (leb-false (square (pos r -ℤ pos g)) n below))
  | inr past ↦ inr (leb-false n (square (pos r +ℤ pos g)) past)
]
