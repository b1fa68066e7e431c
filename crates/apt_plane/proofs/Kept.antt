-- What a motion that ends at a stop keeps of the stop: each way of it, by its start or by its end. s is the way to the start, e to the end, b the axis, p three units less than the radius.
use Rattle.std.proofs.Common.{◌≡◌, ◌⊎◌, inl, inr, ℕ, ◌+◌, ◌*◌, ◌≤◌, ◌<◌, subst, arith, ℤ, pos, negsuc, ◌+ℤ◌, ◌-ℤ◌, ◌*ℤ◌, unsigned_abs}
use Rattle.std.proofs.Math.Nat.{mul-le-mul_left}
use Rattle.std.proofs.lemmas.Int.{ints}
use Rattle.apt_num.specs.Sign.{AtLeast}
use Rattle.apt_num.proofs.Ring.{as_diff, diff-same, differences}
use Rattle.apt_num.proofs.Sums.{at_least-sum, at_least-weaker}
use Rattle.apt_plane.specs.declared.figures.Dir.{Dir}
use Rattle.apt_plane.specs.Vectors.{dot, length_squared}
use Rattle.apt_plane.specs.Ranges.{IsSense}
use Rattle.apt_plane.proofs.Displacements.{square_length_squared, dot_square, dot_swap}
use Rattle.apt_plane.proofs.Lengths.{plus, length_of_sum}
use Rattle.apt_plane.proofs.Nearby.{IsNearby, IsOnCircle, IsRoundedPoint}
use Rattle.apt_plane.proofs.Around.{Cyc}
use Rattle.apt_num.proofs.Farther.{farther_hardly}
use Rattle.apt_num.proofs.LineSteps.{SecondRounded, OneOnCircle, line_step, line_give}
use Rattle.apt_num.proofs.InsideSteps.{IsSeen, inside_step}
use Rattle.apt_num.proofs.InsideGive.{inside_give_step}
use Rattle.apt_plane.proofs.Governed.{IsFartherFrom, IsHardlyNearerTo, IsOnRay, hardly_from_ray, governed}

-- a motion along a circle that meets its stop before the axis, or on its ray
pub record IsStopped (p : ℕ) (sense : ℤ) (s e b : Dir) : Type 0 where
  pub turn : IsSense sense
  pub least : 97 ≤ p
  pub axis : 0 < length_squared b
  pub start : IsNearby p s
  pub end : IsOnCircle p e
  pub met : Cyc s sense e b ⊎ IsOnRay sense b e

rounded_some : (p : ℕ) (x : Dir) → IsRoundedPoint p x → 97 ≤ p → 0 < length_squared x
rounded_some p x is least = omega (arith, is.low, mul-le-mul_left p least, least)

to_rounded : (p : ℕ) (s x : Dir) → 97 ≤ p → IsNearby p s → IsRoundedPoint p x → SecondRounded p (length_squared s) (length_squared x)
to_rounded p s x least start rounded = record { least = least; low = start.low; high = start.high; end_low = rounded.low; end_high = rounded.high }

low_of : (p n : ℕ) → (p + 2) * (p + 2) ≤ n → p * p ≤ n
low_of p n h = omega (arith, h)

high_of : (p n : ℕ) → n ≤ (p + 4) * (p + 4) → n ≤ (p + 6) * (p + 6)
high_of p n h = omega (arith, h)

rounded_low : (p n : ℕ) → 97 ≤ p → 2 * ((p + 3) * (p + 3)) ≤ 2 * n + 3 * (p + 3) → p * p ≤ n
rounded_low p n least h = omega (arith, h, least)

rounded_high : (p n : ℕ) → 2 * n ≤ 2 * ((p + 3) * (p + 3)) + 3 * (p + 3) → n ≤ (p + 6) * (p + 6)
rounded_high p n h = omega (arith, h)

end_on_circle : (p : ℕ) (e x : Dir) → 97 ≤ p → IsOnCircle p e → IsRoundedPoint p x → OneOnCircle p (length_squared e) (length_squared x)
end_on_circle p e x least close rounded = record {
  least = least;
  low = low_of p (length_squared e) close.low;
  high = high_of p (length_squared e) close.high;
  end_low = rounded_low p (length_squared x) least rounded.low;
  end_high = rounded_high p (length_squared x) rounded.high;
  one = inl (close.high, close.low);
}

pub start_to_circle : (p : ℕ) (s e : Dir) → 97 ≤ p → IsNearby p s → IsOnCircle p e → OneOnCircle p (length_squared s) (length_squared e)
start_to_circle p s e least start close = record {
  least = least;
  low = start.low;
  high = start.high;
  end_low = low_of p (length_squared e) close.low;
  end_high = high_of p (length_squared e) close.high;
  one = inr (close.high, close.low);
}

-- by the start, or by the end with half a unit of give
by_either : (p : ℕ) (sense : ℤ) (s e b x : Dir) → IsStopped p sense s e b → Cyc s sense x e → IsRoundedPoint p x → IsFartherFrom b s x ⊎ IsHardlyNearerTo b e x
by_either p sense s e b x is way rounded = elim is.met [
  | inl axis ↦ elim (governed sense s e b x is.turn is.axis (rounded_some p x rounded is.least) way axis) [
    | inl start ↦ inl start.1
    | inr end ↦ inr (farther_hardly (dot b e) (length_squared e) (dot b x) (length_squared x) end)
  ]
  | inr ray ↦ inr (hardly_from_ray sense b e x is.turn is.axis ray)
]

-- ---- a line stop: what is left to it of a way v, in lengths of the axis, is the rest less the part of v along the axis
pub left_over : (rest f g : ℤ) → (rest -ℤ f) +ℤ (f -ℤ g) ≡ rest -ℤ g
left_over rest f g = omega (arith, ints)

eight : (h : ℤ) → (h -ℤ pos 8) +ℤ negsuc 3 ≡ h -ℤ pos 12
eight h = omega (arith, ints)

-- from the start at most 8 units past it and the end at most 1, no way is more than 12 past it; h is how far the stop's line is moved
pub line_kept : (p : ℕ) (sense rest h : ℤ) (s e b x : Dir) → IsStopped p sense s e b → AtLeast (rest -ℤ dot b s) (h -ℤ pos 8) (length_squared b) → AtLeast (rest -ℤ dot b e) (h -ℤ pos 1) (length_squared b)
    → Cyc s sense x e → IsRoundedPoint p x → AtLeast (rest -ℤ dot b x) (h -ℤ pos 12) (length_squared b)
line_kept p sense rest h s e b x is start end way rounded =
    let n = length_squared b in
    elim (by_either p sense s e b x is way rounded) [
      | inl far ↦
          let step = line_step p n (length_squared s) (length_squared x) (dot b s) (dot b x) (to_rounded p s x is.least is.start rounded) (dot_square b s) far in
          subst (λ (i : ℤ). AtLeast (rest -ℤ dot b x) i n) (eight h)
          (subst (λ (z : ℤ). AtLeast z ((h -ℤ pos 8) +ℤ negsuc 3) n) (left_over rest (dot b s) (dot b x)) (at_least-sum (rest -ℤ dot b s) (dot b s -ℤ dot b x) (h -ℤ pos 8) (negsuc 3) n start step))
      | inr far ↦
          let step = line_give p n (length_squared e) (length_squared x) (dot b e) (dot b x) (end_on_circle p e x is.least is.end rounded) (dot_square b e) (dot_square b x) far in
          at_least-weaker (rest -ℤ dot b x) ((h -ℤ pos 1) +ℤ negsuc 5) (h -ℤ pos 12) n (omega (arith, ints))
          (subst (λ (z : ℤ). AtLeast z ((h -ℤ pos 1) +ℤ negsuc 5) n) (left_over rest (dot b e) (dot b x)) (at_least-sum (rest -ℤ dot b e) (dot b e -ℤ dot b x) (h -ℤ pos 1) (negsuc 5) n end step))
    ]

-- ---- a circle stop, from inside: the axis is the way from its centre to that of the motion
along_parts : (a b c d : ℤ) → (a *ℤ (a +ℤ c)) +ℤ (b *ℤ (b +ℤ d)) ≡ ((a *ℤ a) +ℤ (b *ℤ b)) +ℤ ((c *ℤ a) +ℤ (d *ℤ b))
along_parts a b c d = rw (as_diff a, as_diff b, as_diff c, as_diff d) (simp differences (diff-same _ _ _ _ (omega arith)))

along_sum : (v b : Dir) → dot v (plus v b) ≡ pos (length_squared v) +ℤ dot b v
along_sum v b = rw (square_length_squared v) (along_parts v.dx v.dy b.dx b.dy)

order : (k : ℤ) (n m g : ℕ) (d f : ℤ) → d ≡ f → k ≡ (pos n +ℤ (pos 2 *ℤ d)) +ℤ pos g → k ≡ (pos n +ℤ pos g) +ℤ (pos 2 *ℤ f)
order k n m g d f e h = rw (← e) (omega (arith, ints, h))

sum_length : (v b : Dir) → pos (length_squared (plus v b)) ≡ (pos (length_squared v) +ℤ pos (length_squared b)) +ℤ (pos 2 *ℤ dot b v)
sum_length v b = order (pos (length_squared (plus v b))) (length_squared v) 0 (length_squared b) (dot v b) (dot b v) (dot_swap v b) (length_of_sum v b)

pub seen : (a v b : Dir) → IsSeen (length_squared a) (length_squared v) (length_squared b) (length_squared (plus a b)) (length_squared (plus v b)) (dot b a) (dot b v)
seen a v b = record {
  first = sum_length a b;
  second = sum_length v b;
  part = subst (λ (z : ℤ). unsigned_abs z * unsigned_abs z ≤ length_squared a * length_squared (plus a b)) (along_sum a b) (dot_square a (plus a b));
}

wider : (S n : ℕ) → n ≤ (S + 1 + 6) * (S + 1 + 6) → n ≤ (S + 12) * (S + 12)
wider S n h = omega (arith, h)

last_four : (S n : ℕ) → n ≤ (S + 8 + 4) * (S + 8 + 4) → n ≤ (S + 12) * (S + 12)
last_four S n h = omega (arith, h)

pub inside_kept : (p S : ℕ) (sense : ℤ) (s e b x : Dir) → IsStopped p sense s e b → length_squared (plus s b) ≤ (S + 8) * (S + 8) → length_squared (plus e b) ≤ (S + 1) * (S + 1) → 58 ≤ S
    → Cyc s sense x e → IsRoundedPoint p x → length_squared (plus x b) ≤ (S + 12) * (S + 12)
inside_kept p S sense s e b x is start end large way rounded = elim (by_either p sense s e b x is way rounded) [
  | inl far ↦
      last_four S (length_squared (plus x b))
      (inside_step p (length_squared s) (length_squared x) (length_squared b) (length_squared (plus s b)) (length_squared (plus x b)) (S + 8) (dot b s) (dot b x) (to_rounded p s x is.least is.start rounded) (seen s x b) far start (omega (arith, large)))
  | inr far ↦
      wider S (length_squared (plus x b))
      (inside_give_step p (length_squared e) (length_squared x) (length_squared b) (length_squared (plus e b)) (length_squared (plus x b)) (S + 1) (dot b e) (dot b x) (end_on_circle p e x is.least is.end rounded) (seen e x b) far end (omega arith))
]
