-- Who governs a way that is met between a start s and an end e: b is the axis to which the motion may not come too near.
use Rattle.std.proofs.Common.{◌≡◌, ◌⊎◌, inl, inr, ℕ, zero, suc, ◌+◌, ◌*◌, ◌≤◌, ◌<◌, ◌∙◌, sym, arith, ℤ, pos, negsuc, neg_ℤ, ◌-ℤ◌, ◌*ℤ◌, ◌≤ℤ◌, ◌<ℤ◌, unsigned_abs}
use Rattle.std.proofs.Math.IntN.{*ℤ_comm}
use Rattle.std.proofs.lemmas.Int.{ints}
use Rattle.apt_plane.specs.declared.figures.Dir.{Dir}
use Rattle.apt_plane.specs.Vectors.{cross, dot, length_squared}
use Rattle.apt_plane.specs.Ranges.{IsSense}
use Rattle.apt_plane.proofs.Displacements.{lagrange, dot_square}
use Rattle.apt_num.proofs.Products.{sign_cases, side_cases, no_minus}
use Rattle.apt_plane.proofs.Turned.{turned_by, turned_back, back_plus, about_start, size_sense, sense_back, turned_other}
use Rattle.apt_plane.proofs.Around.{Cyc, cyc_on_a_way}
use Rattle.apt_num.proofs.Turning.{not_first, not_third}
use Rattle.apt_num.proofs.Farther.{IsFarther, IsHardlyNearer, farther_hardly, farther_of, on_ray, on_ray_behind}

-- v is at least as far from the axis b as a
abbrev pub IsFartherFrom : Dir → Dir → Dir → Type 0
IsFartherFrom b a v = IsFarther (dot b a) (length_squared a) (dot b v) (length_squared v)

abbrev pub IsHardlyNearerTo : Dir → Dir → Dir → Type 0
IsHardlyNearerTo b a v = IsHardlyNearer (dot b a) (length_squared a) (dot b v) (length_squared v)

-- across the axis by less than three quarters of a unit
abbrev pub IsHardlyAcross : ℤ → Dir → Dir → Type 0
IsHardlyAcross sense b e = 2 * (unsigned_abs (turned_by sense b e) * unsigned_abs (turned_by sense b e)) ≤ length_squared b

abbrev pub IsOnRay : ℤ → Dir → Dir → Type 0
IsOnRay sense b e = (pos 0 ≤ℤ dot b e) × IsHardlyAcross sense b e

pub whole : (sense : ℤ) (b e : Dir) → IsSense sense
    → length_squared b * length_squared e ≡ unsigned_abs (dot b e) * unsigned_abs (dot b e) + unsigned_abs (turned_by sense b e) * unsigned_abs (turned_by sense b e)
whole sense b e is = rw (size_sense sense (cross b e) is) (lagrange b e)

onwards : (n : ℕ) (c f g y z : ℤ) → pos n *ℤ c ≡ (f *ℤ z) -ℤ (y *ℤ g) → pos 0 ≤ℤ c → pos 0 ≤ℤ y → pos 0 ≤ℤ z → (pos (unsigned_abs y) *ℤ g) ≤ℤ (pos (unsigned_abs z) *ℤ f)
onwards n c f g (pos y) (pos z) e h p q = omega (arith, ints, e, no_minus (pos n) c (omega (arith, ints)) h, *ℤ_comm f (pos z))
onwards n c f g (negsuc y) z e h p q = absurd (omega (arith, ints, p))
onwards n c f g y (negsuc z) e h p q = absurd (omega (arith, ints, q))

abbrev IsAcross : ℤ → Dir → Dir → Dir → Type 0
IsAcross sense b a v = (0 < unsigned_abs (turned_by sense b v)) ⊎ ((0 < unsigned_abs (turned_by sense b a)) × (0 < length_squared v))

-- ---- on the same side of the axis, and further round
farther_ahead : (sense : ℤ) (b a v : Dir) → IsSense sense → 0 < length_squared b → pos 0 ≤ℤ turned_by sense b a → pos 0 ≤ℤ turned_by sense a v → pos 0 ≤ℤ turned_by sense b v → IsAcross sense b a v → IsFartherFrom b a v
farther_ahead sense b a v is some first turn second across =
    farther_of (length_squared b) (length_squared a) (length_squared v) (dot b a) (dot b v) (unsigned_abs (turned_by sense b a)) (unsigned_abs (turned_by sense b v)) some (whole sense b a is) (whole sense b v is) across
    (onwards (length_squared b) (turned_by sense a v) (dot b a) (dot b v) (turned_by sense b a) (turned_by sense b v) (about_start sense b a v) turn first second)

other_size : (sense : ℤ) (u v : Dir) → IsSense sense → unsigned_abs (turned_by (neg_ℤ sense) u v) ≡ unsigned_abs (turned_by sense u v)
other_size sense u v is = size_sense (neg_ℤ sense) (cross u v) (sense_back sense is) ∙ sym (size_sense sense (cross u v) is)

other_sign : (sense : ℤ) (u v : Dir) → turned_by sense u v ≤ℤ pos 0 → pos 0 ≤ℤ turned_by (neg_ℤ sense) u v
other_sign sense u v h = rw (turned_other sense v u, turned_back sense u v) (omega (arith, ints, h))

farther_behind : (sense : ℤ) (b a v : Dir) → IsSense sense → 0 < length_squared b → turned_by sense b a ≤ℤ pos 0 → pos 0 ≤ℤ turned_by sense v a → turned_by sense b v ≤ℤ pos 0 → IsAcross sense b a v → IsFartherFrom b a v
farther_behind sense b a v is some first turn second across =
    farther_ahead (neg_ℤ sense) b a v (sense_back sense is) some (other_sign sense b a first) (rw (turned_other sense v a) turn) (other_sign sense b v second)
    (rw (other_size sense b a is, other_size sense b v is) across)

-- ---- from and to the ray of the axis
pub hardly_from_ray : (sense : ℤ) (b e v : Dir) → IsSense sense → 0 < length_squared b → IsOnRay sense b e → IsHardlyNearerTo b e v
hardly_from_ray sense b e v is some on =
    on_ray (length_squared b) (length_squared e) (length_squared v) (dot b e) (unsigned_abs (turned_by sense b e)) (dot b v) some on.0 (whole sense b e is) on.1 (dot_square b v)

hardly_to_ray_behind : (sense : ℤ) (b a e : Dir) → IsSense sense → 0 < length_squared b → dot b e <ℤ pos 0 → IsHardlyAcross sense b e → IsHardlyNearerTo b a e
hardly_to_ray_behind sense b a e is some behind short =
    on_ray_behind (length_squared b) (length_squared a) (length_squared e) (dot b a) (dot b e) (unsigned_abs (turned_by sense b e)) some behind (dot_square b a) (whole sense b e is) short

-- ---- between the start and the end
sized : (z : ℤ) → pos 0 <ℤ z → 0 < unsigned_abs z
sized z h = omega (arith, ints, h)

sized_below : (z : ℤ) → z <ℤ pos 0 → 0 < unsigned_abs z
sized_below z h = omega (arith, ints, h)

not_below : (z : ℤ) → pos 0 <ℤ z → pos 0 ≤ℤ z
not_below z h = omega (arith, ints, h)

not_above : (z : ℤ) → z <ℤ pos 0 → z ≤ℤ pos 0
not_above z h = omega (arith, ints, h)

back_below : (sense : ℤ) (u v : Dir) → pos 0 ≤ℤ turned_by sense u v → turned_by sense v u ≤ℤ pos 0
back_below sense u v h = rw (turned_back sense u v) (omega (arith, ints, h))

back_above : (sense : ℤ) (u v : Dir) → turned_by sense u v ≤ℤ pos 0 → pos 0 ≤ℤ turned_by sense v u
back_above sense u v h = rw (turned_back sense u v) (omega (arith, ints, h))

-- where the end is met before the axis, a point of the way is governed by the start on the near side of the axis, and by the end on the other
pub governed : (sense : ℤ) (s e b x : Dir) → IsSense sense → 0 < length_squared b → 0 < length_squared x → Cyc s sense x e → Cyc s sense e b
    → ((pos 0 <ℤ turned_by sense b s) × IsFartherFrom b s x) ⊎ IsFartherFrom b e x
governed sense s e b x is some some_x way axis =
    let both = cyc_on_a_way sense s x e b is way axis in
    elim (side_cases (turned_by sense b x)) [
      | inl below ↦
          let two = not_first (turned_by sense b x) (turned_by sense x e) (turned_by sense e b) (not_above (turned_by sense b x) below) both.1 in
          inr (farther_behind sense b e x is some (back_below sense e b (not_below (turned_by sense e b) two.1)) (not_below (turned_by sense x e) two.0) (not_above (turned_by sense b x) below) (inl (sized_below (turned_by sense b x) below)))
      | inr above ↦
          let two = not_third (turned_by sense b s) (turned_by sense s x) (turned_by sense x b) (back_below sense b x above) both.0 in
          inl (two.0, farther_ahead sense b s x is some (not_below (turned_by sense b s) two.0) (not_below (turned_by sense s x) two.1) above (inr (sized (turned_by sense b s) two.0, some_x)))
    ]

-- ---- where nothing refuses
pub none_across : (z : ℤ) (n : ℕ) → z ≤ℤ pos 0 → pos 0 ≤ℤ z → 2 * (unsigned_abs z * unsigned_abs z) ≤ n
none_across (pos zero) n p q = omega arith
none_across (pos (suc m)) n p q = absurd (omega (arith, ints, p))
none_across (negsuc m) n p q = absurd (omega (arith, ints, q))

-- an end that is strictly nearer to the axis than the start is met before the axis, or is on its ray
pub away_reached : (sense : ℤ) (s e b : Dir) → IsSense sense → 0 < length_squared b → ¬ IsHardlyNearerTo b s e → (turned_by sense b e ≤ℤ pos 0) ⊎ IsHardlyAcross sense b e
    → Cyc s sense e b ⊎ IsOnRay sense b e
away_reached sense s e b is some nearer short = elim (side_cases (turned_by sense b e)) [
  | inl below ↦
      let meets : pos 0 <ℤ turned_by sense e b = back_plus sense b e below in
      elim (sign_cases (turned_by sense s e)) [
        | inl on ↦ inl (inl (on, meets))
        | inr round ↦ elim (sign_cases (turned_by sense b s)) [
          | inl ahead ↦ inl (inr (inl (meets, ahead)))
          | inr beyond ↦
              let farther : IsFartherFrom b s e = farther_behind sense b s e is some beyond (back_above sense s e round) (not_above (turned_by sense b e) below) (inl (sized_below (turned_by sense b e) below)) in
              absurd (nearer (farther_hardly (dot b s) (length_squared s) (dot b e) (length_squared e) farther))
        ]
      ]
  | inr above ↦
      let hardly : IsHardlyAcross sense b e = elim short [ inl none ↦ none_across (turned_by sense b e) (length_squared b) none above | inr near ↦ near ] in
      elim (side_cases (dot b e)) [ inl behind ↦ absurd (nearer (hardly_to_ray_behind sense b s e is some behind hardly)) | inr ahead ↦ inr (ahead, hardly) ]
]
