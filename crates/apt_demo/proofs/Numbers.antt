-- The numbers of the eight sizes of circles.
use Rattle.std.proofs.Common.{◌≡◌, ℕ, zero, suc, ◌+◌, ◌*◌, ◌/◌, ◌<◌, arith, true, false}
use Rattle.std.specs.Prelude.{ℤ, pos, negsuc, neg_ℤ, ◌+ℤ◌, ◌-ℤ◌, ◌*ℤ◌, nat_le, int_lt, ◌&&◌, Bool, if◌then◌else◌}
use Rattle.apt_num.specs.declared.Sign.{Sign}
use Rattle.apt_num.specs.declared.Sign.TheVariants as signs
use Rattle.apt_num.specs.Sign.{square, sign_of, root_sign_of, is_at_least}
use Rattle.apt_num.specs.Root.{root}
use Rattle.apt_words.specs.declared.Go.TheVariants as turns
use Rattle.apt_plane.specs.declared.figures.Dir.{Dir}
use Rattle.apt_plane.specs.Vectors.{cross, dot, length_squared, perp}
use Rattle.apt_canon.specs.Scale.{way, unit, nearest, times, sum, length_of}
use Rattle.apt_canon.specs.Circles.{depth, half_chord}
use Rattle.apt_offset.specs.Turns.{turn, opposite}
use Rattle.apt_offset.specs.Targets.{signed}
use Rattle.apt_contact.specs.declared.Meeting.{Meeting}
use Rattle.apt_contact.specs.Meetings.{by_sides, is_parallel, is_apart}
use Rattle.apt_startup.specs.StartUps.{way_or_right}
use Rattle.apt_stop.specs.Nearness.{heading}
use Rattle.apt_stop.specs.Choices.{is_by_axis}
use Rattle.apt_meaning.specs.Cuts.{lesser}

-- the direction of the line through a circle's centre
abbrev pub rightward : Dir
rightward = way (pos 100000) (pos 0)

-- a point that lies so from the centre is near the circle of a radius, near the line, and on a side of the line
abbrev pub is_near_round : ℤ → ℤ → Dir → Bool
is_near_round r g v = nat_le (square (r -ℤ g)) (length_squared v) && nat_le (length_squared v) (square (r +ℤ g))

abbrev pub is_near_line : ℤ → Dir → Bool
is_near_line g v =
    is_at_least (cross rightward v) (pos 0 -ℤ g) (length_squared rightward) && is_at_least (neg_ℤ (cross rightward v)) (neg_ℤ (pos 0) -ℤ g) (length_squared rightward)

abbrev pub side_to_line : Dir → Sign
side_to_line v = if is_near_line (pos 8) v then sign_of (pos 1 *ℤ dot v rightward) else root_sign_of (cross rightward v) (pos 0) (length_squared rightward)

abbrev pub is_past_line : Dir → Bool
is_past_line v = is_near_line (pos 8) v && is_by_axis (dot v rightward) (length_squared rightward)

-- where a cut from there ends, seen from the centre, which lies z away from the line's base
abbrev pub end_way : ℤ → Dir → Dir → Dir
end_way r z v =
    let g = depth rightward (cross rightward z) (pos 0) in
    let x = signed (opposite (side_to_line v)) (pos 1) *ℤ half_chord r g in
    nearest (times (pos 32) (sum (times x rightward) (times (neg_ℤ g) (perp rightward)))) (length_of rightward)

-- how a track meets the line, from whose base the centre lies z away
abbrev pub meeting_by : ℤ → Dir → Meeting
meeting_by r z = by_sides (root_sign_of (cross rightward z) (pos 0 +ℤ r) (length_squared rightward)) (root_sign_of (cross rightward z) (pos 0 -ℤ r) (length_squared rightward))

abbrev pub none : Dir
none = way (pos 0) (pos 0)

-- half a track of radius R, from the point a to the right of the centre to the point b to its right
pub record Half (R : ℕ) (a b : ℤ) : Type 0 where
  pub near : is_near_round (pos R) (pos 3) (way a (pos 0)) ≡ true
  pub past : is_past_line (way a (pos 0)) ≡ false
  pub ends : end_way (pos R) none (way a (pos 0)) ≡ way b (pos 0)

-- a circle of radius r, whose track has the radius R
pub record Size (r R : ℕ) : Type 0 where
  pub around : pos r -ℤ neg_ℤ (pos 25000) ≡ pos R
  pub room : int_lt (pos r -ℤ neg_ℤ (pos 25000)) (pos 100) ≡ false
  pub sag : lesser (pos R -ℤ ((pos r +ℤ pos 25000) -ℤ pos 8)) (pos (R / 4)) ≡ pos 8
  pub parallel : is_parallel (meeting_by (pos R) none) ≡ false
  pub apart : is_apart (meeting_by (pos R) none) ≡ false
  -- a tool an inch to the right of the circle comes to its track
  pub outside : sign_of ((pos r *ℤ pos r) -ℤ pos (length_squared (way (pos (r + 100000)) (pos 0)))) ≡ signs.Minus
  pub comes : nearest (times (pos R *ℤ unit) (way_or_right (way (pos (r + 100000)) (pos 0)))) (length_of (way_or_right (way (pos (r + 100000)) (pos 0)))) ≡ way (pos R) (pos 0)
  pub first_turn : turn (way (negsuc 74999) (pos 0)) (perp (way (pos R) (pos 0))) turns.Right ≡ signs.Plus
  pub second_turn : turn (heading (pos 1) (perp (way (neg_ℤ (pos R)) (pos 0)))) (perp (way (neg_ℤ (pos R)) (pos 0))) turns.Forward ≡ signs.Plus
  pub first_half : Half R (pos R) (neg_ℤ (pos R))
  pub second_half : Half R (neg_ℤ (pos R)) (pos R)

-- what holds of each of eight numbers
pub eight : (P : ℕ → Type 0) → P 0 → P 1 → P 2 → P 3 → P 4 → P 5 → P 6 → P 7 → (i : ℕ) → i < 8 → P i
eight P a b c d e f g h zero lt = a
eight P a b c d e f g h (suc zero) lt = b
eight P a b c d e f g h (suc (suc zero)) lt = c
eight P a b c d e f g h (suc (suc (suc zero))) lt = d
eight P a b c d e f g h (suc (suc (suc (suc zero)))) lt = e
eight P a b c d e f g h (suc (suc (suc (suc (suc zero))))) lt = f
eight P a b c d e f g h (suc (suc (suc (suc (suc (suc zero)))))) lt = g
eight P a b c d e f g h (suc (suc (suc (suc (suc (suc (suc zero))))))) lt = h
eight P a b c d e f g h (suc (suc (suc (suc (suc (suc (suc (suc i)))))))) lt = absurd (omega (arith, lt))

-- the radii of the eight circles, and of their tracks
abbrev pub round_radius : ℕ → ℕ
round_radius i = 100000 + 25000 * i

abbrev pub track_radius : ℕ → ℕ
track_radius i = 125000 + 25000 * i

pub sizes : (i : ℕ) → i < 8 → Size (round_radius i) (track_radius i)
unfolding root
sizes = eight (λ i. Size (round_radius i) (track_radius i)) (search) (search) (search) (search) (search) (search) (search) (search)
