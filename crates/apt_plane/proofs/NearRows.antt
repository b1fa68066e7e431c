-- Near a stop, where nothing refuses: the end is met before the axis, or is on its ray.
use Rattle.std.proofs.Common.{◌≡◌, ◌⊎◌, inl, inr, ℕ, zero, suc, ◌+◌, ◌*◌, ◌≤◌, ◌<◌, arith, ℤ, pos, negsuc, ◌-ℤ◌, ◌*ℤ◌, ◌≤ℤ◌, ◌<ℤ◌, unsigned_abs}
use Rattle.std.proofs.Math.Nat.{mul-le-mul_left}
use Rattle.std.proofs.lemmas.Nat.{mul-le}
use Rattle.std.proofs.lemmas.Bool.{cases_lt}
use Rattle.std.proofs.lemmas.Int.{ints}
use Rattle.apt_num.proofs.Squares.{size_mul}
use Rattle.apt_plane.specs.declared.figures.Dir.{Dir}
use Rattle.apt_plane.specs.Vectors.{dot, length_squared}
use Rattle.apt_plane.specs.Ranges.{IsSense}
use Rattle.apt_plane.proofs.Displacements.{dot_square}
use Rattle.apt_num.proofs.Products.{side_cases, strict_each}
use Rattle.apt_plane.proofs.Turned.{turned_by, back_plus, about_start}
use Rattle.apt_plane.proofs.Nearby.{IsNearby, IsOnCircle}
use Rattle.apt_plane.proofs.Around.{Cyc}
use Rattle.apt_plane.proofs.Governed.{IsHardlyAcross, IsOnRay, whole, none_across}

-- the start is far across, the end hardly
outweighs : (B n m y f g z p : ℕ) → 0 < B → 64 * B < y * y → 2 * (z * z) ≤ B → f * f ≤ B * n → B * m ≡ g * g + z * z → n ≤ (p + 6) * (p + 6) → (p + 2) * (p + 2) ≤ m → 97 ≤ p → f * z < y * g
outweighs B n m y f g z p some far hardly fit is most least lo = elim (cases_lt (f * z) (y * g)) [
  | inl less ↦ less
  | inr past ↦
      let square : (y * g) * (y * g) ≤ (f * z) * (f * z) = mul-le (y * g) (y * g) (f * z) (f * z) past past in
      let upper : 2 * ((f * z) * (f * z)) ≤ B * n * B = omega (arith, mul-le (f * f) (2 * (z * z)) (B * n) B fit hardly) in
      let lower : 64 * B * (g * g) ≤ (y * g) * (y * g) = omega (arith, mul-le-mul_left (g * g) far) in
      let wide : B * ((p + 2) * (p + 2)) ≤ g * g + z * z = omega (arith, mul-le-mul_left B least, is) in
      let narrow : B * n ≤ B * ((p + 6) * (p + 6)) = mul-le-mul_left B most in
      let grown : (p + 6) * (p + 6) + 64 < 128 * ((p + 2) * (p + 2)) = omega (arith, mul-le-mul_left p lo) in
      absurd (omega (arith, square, upper, lower, mul-le-mul_left (128 * B) wide, mul-le-mul_left (64 * B) hardly, mul-le-mul_left B narrow, mul-le-mul_left (B * B) grown, mul-le 1 1 B B some some))
]

-- a product that is larger than another decides the sign of the difference
sign_by : (n : ℕ) (w a d : ℤ) → pos n *ℤ w ≡ a -ℤ d → d <ℤ pos 0 → unsigned_abs a < unsigned_abs d → pos 0 <ℤ w
sign_by n (pos zero) a d e h less = absurd (omega (arith, ints, e, h, less))
sign_by n (pos (suc m)) a d e h less = omega (arith, ints)
sign_by n (negsuc m) a d e h less = absurd (omega (arith, ints, e, h, less))

-- the start is more than 8 before the axis
pub record IsNearRow (p : ℕ) (sense : ℤ) (s e b : Dir) : Type 0 where
  pub turn : IsSense sense
  pub least : 97 ≤ p
  pub axis : 0 < length_squared b
  pub start : IsNearby p s
  pub end : IsOnCircle p e
  pub ahead : pos 0 <ℤ turned_by sense b s
  pub far : 64 * length_squared b < unsigned_abs (turned_by sense b s) * unsigned_abs (turned_by sense b s)
  pub hardly : (turned_by sense b e ≤ℤ pos 0) ⊎ IsHardlyAcross sense b e

behind : (p : ℕ) (sense : ℤ) (s e b : Dir) → IsNearRow p sense s e b → IsHardlyAcross sense b e → dot b e <ℤ pos 0 → pos 0 <ℤ turned_by sense s e
behind p sense s e b row hardly below =
    let y = unsigned_abs (turned_by sense b s) in
    let z = unsigned_abs (turned_by sense b e) in
    let less = outweighs (length_squared b) (length_squared s) (length_squared e) y (unsigned_abs (dot b s)) (unsigned_abs (dot b e)) z p row.axis row.far hardly (dot_square b s) (whole sense b e row.turn) row.start.high row.end.low row.least in
    sign_by (length_squared b) (turned_by sense s e) (dot b s *ℤ turned_by sense b e) (turned_by sense b s *ℤ dot b e) (about_start sense b s e) (strict_each (turned_by sense b s) (dot b e) row.ahead below)
    (rw (size_mul (dot b s) (turned_by sense b e), size_mul (turned_by sense b s) (dot b e)) less)

pub near_reached : (p : ℕ) (sense : ℤ) (s e b : Dir) → IsNearRow p sense s e b → Cyc s sense e b ⊎ IsOnRay sense b e
near_reached p sense s e b row = elim (side_cases (turned_by sense b e)) [
  | inl below ↦ inl (inr (inl (back_plus sense b e below, row.ahead)))
  | inr above ↦
      let hardly : IsHardlyAcross sense b e = elim row.hardly [ inl none ↦ none_across (turned_by sense b e) (length_squared b) none above | inr short ↦ short ] in
      elim (side_cases (dot b e)) [ inl back ↦ inl (inr (inr (row.ahead, behind p sense s e b row hardly back))) | inr on ↦ inr (on, hardly) ]
]
