-- Two points on one ray from a centre, both from one distance to another away from it, are at most as far apart as those.
use Rattle.std.proofs.Common.{refl, ◌≡◌, inl, inr, ℕ, ◌+◌, ◌-◌, ◌*◌, ◌≤◌, ◌<◌, ◌∙◌, ap, sym, subst, arith, ℤ, pos, ◌-ℤ◌, ◌*ℤ◌, unsigned_abs}
use Rattle.std.proofs.Math.Nat.{mul-le-mul_left}
use Rattle.std.proofs.lemmas.Int.{ints}
use Rattle.std.proofs.lemmas.Nat.{mul-le}
use Rattle.std.proofs.lemmas.Bool.{cases_lt}
use Rattle.apt_num.proofs.Ring.{as_diff, diff-pos, diff-same, differences}
use Rattle.apt_num.proofs.Squares.{root_le}
use Rattle.apt_plane.specs.declared.figures.Pt.{Pt}
use Rattle.apt_plane.specs.declared.figures.Dir.{Dir}
use Rattle.apt_plane.specs.Vectors.{Scaled, displacement_to, length_squared}
use Rattle.apt_plane.proofs.Lengths.{times, length_of_times}
use Rattle.apt_plane.proofs.Apart.{apart, AreNear}

-- a point is from one distance to another away from a centre
pub record IsInRing (c : Pt) (l h : ℕ) (s : Scaled) : Type 0 where
  pub some : 0 < s.m
  pub low : s.m * s.m * (l * l) ≤ length_squared (displacement_to c s)
  pub high : length_squared (displacement_to c s) ≤ s.m * s.m * (h * h)

-- p and p + z times a length, of the square V, from a up to a + b: z times it is at most b
ray_core : (a b p z V : ℕ) → a * a ≤ p * p * V → (p + z) * (p + z) * V ≤ (a + b) * (a + b) → z * z * V ≤ b * b
ray_core a b p z V low high = elim (cases_lt (b * b) (z * z * V)) [
  | inr fine ↦ fine
  | inl past ↦
      let more : b * b ≤ z * z * V = omega (arith, past) in
      let product : a * b ≤ p * z * V = root_le (a * b) (p * z * V) (omega (arith, mul-le (a * a) (b * b) (p * p * V) (z * z * V) low more)) in
      absurd (omega (arith, low, high, past, product))
]

size_up : (p r : ℕ) → p ≤ r → unsigned_abs (pos p -ℤ pos r) ≡ r - p
size_up p r h = omega (arith, ints, h)

pub size_down : (p r : ℕ) → r ≤ p → unsigned_abs (pos p -ℤ pos r) ≡ p - r
size_down p r h = omega (arith, ints, h)

-- whichever of two is the greater
either_core : (a b p r V : ℕ) → a * a ≤ p * p * V → p * p * V ≤ (a + b) * (a + b) → a * a ≤ r * r * V → r * r * V ≤ (a + b) * (a + b)
    → unsigned_abs (pos p -ℤ pos r) * unsigned_abs (pos p -ℤ pos r) * V ≤ b * b
either_core a b p r V plow phigh rlow rhigh = elim (cases_lt p r) [
  | inl less ↦
      let whole : r ≡ p + (r - p) = omega (arith, less) in
      rw (size_up p r (omega (arith, less))) (ray_core a b p (r - p) V plow (subst (λ n. n * n * V ≤ (a + b) * (a + b)) whole rhigh))
  | inr more ↦
      let whole : p ≡ r + (p - r) = omega (arith, more) in
      rw (size_down p r more) (ray_core a b r (p - r) V rlow (subst (λ n. n * n * V ≤ (a + b) * (a + b)) whole phigh))
]

-- ---- the way between them lies along the ray
ray_part : (m k q : ℕ) (x y c : ℤ) → y -ℤ (pos k *ℤ c) ≡ pos q *ℤ (x -ℤ (pos m *ℤ c)) → (pos k *ℤ x) -ℤ (pos m *ℤ y) ≡ (pos k -ℤ pos (m * q)) *ℤ (x -ℤ (pos m *ℤ c))
ray_part m k q x y c e = apart_part m k x y c ∙ ap (λ z. (pos k *ℤ (x -ℤ (pos m *ℤ c))) -ℤ (pos m *ℤ z)) e ∙ along_part m k q (x -ℤ (pos m *ℤ c))
  where
    apart_part : (m k : ℕ) (x y c : ℤ) → (pos k *ℤ x) -ℤ (pos m *ℤ y) ≡ (pos k *ℤ (x -ℤ (pos m *ℤ c))) -ℤ (pos m *ℤ (y -ℤ (pos k *ℤ c)))
    apart_part m k x y c = rw (as_diff x, as_diff y, as_diff c, diff-pos m, diff-pos k) (simp differences (diff-same _ _ _ _ (omega arith)))

    along_part : (m k q : ℕ) (v : ℤ) → (pos k *ℤ v) -ℤ (pos m *ℤ (pos q *ℤ v)) ≡ (pos k -ℤ pos (m * q)) *ℤ v
    along_part m k q v = rw (as_diff v, diff-pos m, diff-pos k, diff-pos q, diff-pos (m * q)) (simp differences (diff-same _ _ _ _ (omega arith)))

-- y is on the ray of x
pub record IsOnRayOf (c : Pt) (q : ℕ) (x y : Scaled) : Type 0 where
  pub at_x : y.x -ℤ (pos y.m *ℤ c.x) ≡ pos q *ℤ (x.x -ℤ (pos x.m *ℤ c.x))
  pub at_y : y.y -ℤ (pos y.m *ℤ c.y) ≡ pos q *ℤ (x.y -ℤ (pos x.m *ℤ c.y))

apart_along : (c : Pt) (q : ℕ) (x y : Scaled) → IsOnRayOf c q x y → apart y x ≡ times (pos y.m -ℤ pos (x.m * q)) (displacement_to c x)
apart_along c q x y on = rw (ray_part x.m y.m q x.x y.x c.x on.at_x, ray_part x.m y.m q x.y y.y c.y on.at_y) refl

length_along : (c : Pt) (q : ℕ) (x y : Scaled) → IsOnRayOf c q x y → length_squared (displacement_to c y) ≡ q * q * length_squared (displacement_to c x)
length_along c q x y on = rw (on.at_x, on.at_y) (length_of_times (pos q) (displacement_to c x))

low_by : (m k l V : ℕ) → m * m * (l * l) ≤ V → (m * k * l) * (m * k * l) ≤ k * k * V
low_by m k l V h = omega (arith, mul-le-mul_left (k * k) h)

high_by : (m k l w V : ℕ) → V ≤ m * m * ((l + w) * (l + w)) → k * k * V ≤ (m * k * l + m * k * w) * (m * k * l + m * k * w)
high_by m k l w V h = omega (arith, mul-le-mul_left (k * k) h)

low_of : (m k l q V : ℕ) → k * k * (l * l) ≤ q * q * V → (m * k * l) * (m * k * l) ≤ (m * q) * (m * q) * V
low_of m k l q V h = omega (arith, mul-le-mul_left (m * m) h)

high_of : (m k l w q V : ℕ) → q * q * V ≤ k * k * ((l + w) * (l + w)) → (m * q) * (m * q) * V ≤ (m * k * l + m * k * w) * (m * k * l + m * k * w)
high_of m k l w q V h = omega (arith, mul-le-mul_left (m * m) h)

pub near_on_ray : (c : Pt) (l w q : ℕ) (x y : Scaled) → IsInRing c l (l + w) x → IsInRing c l (l + w) y → IsOnRayOf c q x y → AreNear w y x
near_on_ray c l w q x y ring other on =
    let V = length_squared (displacement_to c x) in
    let low : y.m * y.m * (l * l) ≤ q * q * V = rw (length_along c q x y on) at other.low in
    let high : q * q * V ≤ y.m * y.m * ((l + w) * (l + w)) = rw (length_along c q x y on) at other.high in
    let apart_long : length_squared (apart y x) ≡ unsigned_abs (pos y.m -ℤ pos (x.m * q)) * unsigned_abs (pos y.m -ℤ pos (x.m * q)) * V =
    ap (λ (u : Dir). length_squared u) (apart_along c q x y on) ∙ length_of_times (pos y.m -ℤ pos (x.m * q)) (displacement_to c x) in
    record {
      some = other.some;
      other = ring.some;
      short =
          subst (λ n. n ≤ (x.m * y.m * w) * (x.m * y.m * w)) (sym apart_long)
          (either_core (x.m * y.m * l) (x.m * y.m * w) y.m (x.m * q) V (low_by x.m y.m l V ring.low) (high_by x.m y.m l w V ring.high) (low_of x.m y.m l q V low) (high_of x.m y.m l w q V high));
    }
