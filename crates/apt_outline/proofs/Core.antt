-- Along a segment, u grows by the dot product with an edge and g by the cross product: where both ends, both feet and the crossing are off, so is every point over the edge.
use Rattle.std.proofs.Common.{◌≡◌, ◌∙◌, subst, ◌⊎◌, inl, inr, ℕ, zero, suc, ◌+◌, ◌*◌, ◌≤◌, ◌<◌, arith, ℤ, pos, negsuc, ◌+ℤ◌, ◌-ℤ◌, ◌*ℤ◌, ◌≤ℤ◌, ◌<ℤ◌, unsigned_abs}
use Rattle.std.proofs.Math.Nat.{mul-le-mul_left}
use Rattle.std.proofs.lemmas.Int.{ints}
use Rattle.std.proofs.lemmas.Nat.{mul-le}
use Rattle.std.proofs.lemmas.Bool.{cases_lt}
use Rattle.apt_num.proofs.Ring.{as_diff, diff-pos, diff-same, differences}
use Rattle.apt_num.proofs.Squares.{root_le, size_mul, size_add}

-- of a point of the segment, by what the ends have
abbrev pub mean : ℤ → ℤ → ℕ → ℕ → ℤ
mean a b j k = (pos k *ℤ a) +ℤ (pos j *ℤ b)

abbrev pub square : ℤ → ℕ
square z = unsigned_abs z * unsigned_abs z

-- the ends of a segment: what each has along an edge and across it
pub record Ends : Type 0 where
  pub ua : ℤ
  pub ub : ℤ
  pub ga : ℤ
  pub gb : ℤ

-- every point is off the ends of an edge, the square of whose length is n; t is n times the square of the clearance
pub record AreOffEnds (x : Ends) (n t : ℕ) : Type 0 where
  pub start : (j k : ℕ) → 0 < j + k → (j + k) * (j + k) * t ≤ square (mean x.ua x.ub j k) + square (mean x.ga x.gb j k)
  pub end : (j k : ℕ) → 0 < j + k → (j + k) * (j + k) * t ≤ square (mean x.ua x.ub j k -ℤ pos (n * (j + k))) + square (mean x.ga x.gb j k)

-- a point is behind the edge's start, or beyond its end, or off its line
abbrev pub IsBesides : Ends → ℕ → ℕ → ℕ → ℕ → Type 0
IsBesides x n t j k = (mean x.ua x.ub j k ≤ℤ pos 0) ⊎ (pos (n * (j + k)) ≤ℤ mean x.ua x.ub j k) ⊎ ((j + k) * (j + k) * t ≤ square (mean x.ga x.gb j k))

-- ---- from one point to another
mix_means : (a b : ℤ) (s r j k i h : ℕ) → mean a b (s * j + r * i) (s * k + r * h) ≡ (pos s *ℤ mean a b j k) +ℤ (pos r *ℤ mean a b i h)
mix_means a b s r j k i h =
    rw (as_diff a, as_diff b, diff-pos (s * k + r * h), diff-pos (s * j + r * i), diff-pos s, diff-pos r, diff-pos j, diff-pos k, diff-pos i, diff-pos h)
    (simp differences (diff-same _ _ _ _ (omega arith)))

-- G below the root of t times M, H below the root of t times L: so is their mixture
mix_product : (G H M L t : ℕ) → G * G ≤ t * (M * M) → H * H ≤ t * (L * L) → G * H ≤ t * (M * L)
mix_product G H M L t p q = root_le (G * H) (t * (M * L)) (omega (arith, mul-le (G * G) (H * H) (t * (M * M)) (t * (L * L)) p q))

mix : (s r G H M L t : ℕ) → G * G ≤ t * (M * M) → H * H < t * (L * L) → 0 < r → (s * G + r * H) * (s * G + r * H) < t * ((s * M + r * L) * (s * M + r * L))
mix s r G H M L t p q some =
    let both = mix_product G H M L t p (omega (arith, q)) in
    let square_some : 1 ≤ r * r = omega (arith, mul-le 1 1 r r some some) in
    let less : H * H + 1 ≤ t * (L * L) = omega (arith, q) in
    omega (arith, mul-le-mul_left (s * s) p, mul-le-mul_left (r * r) less, mul-le-mul_left (2 * s * r) both, square_some)

size_of_mix : (s r : ℕ) (g h : ℤ) → unsigned_abs ((pos s *ℤ g) +ℤ (pos r *ℤ h)) ≤ s * unsigned_abs g + r * unsigned_abs h
size_of_mix s r g h = omega (arith, size_add (pos s *ℤ g) (pos r *ℤ h), size_mul (pos s) g, size_mul (pos r) h)

square_up : (a b : ℕ) → a ≤ b → a * a ≤ b * b
square_up a b h = mul-le a a b b h h

weights : (s r j k i h : ℕ) → (s * j + r * i) + (s * k + r * h) ≡ s * (j + k) + r * (i + h)
weights s r j k i h = omega arith

some_weight : (s r j k i h : ℕ) → 0 < r → 0 < i + h → 0 < (s * j + r * i) + (s * k + r * h)
some_weight s r j k i h p q = omega (arith, mul-le 1 1 r (i + h) p q)

-- a mixture that is over an end of the edge is off its line
mixed : (x : Ends) (t s r j k i h : ℕ) → 0 < r → 0 < i + h
    → square (mean x.ga x.gb j k) ≤ t * ((j + k) * (j + k)) → square (mean x.ga x.gb i h) < t * ((i + h) * (i + h))
    → ((s * j + r * i) + (s * k + r * h)) * ((s * j + r * i) + (s * k + r * h)) * t ≤ square (mean x.ga x.gb (s * j + r * i) (s * k + r * h)) → ⊥
mixed x t s r j k i h some many first second far =
    let g = mean x.ga x.gb j k in
    let f = mean x.ga x.gb i h in
    let below = mix s r (unsigned_abs g) (unsigned_abs f) (j + k) (i + h) t first second some in
    let up = square_up (unsigned_abs ((pos s *ℤ g) +ℤ (pos r *ℤ f))) (s * unsigned_abs g + r * unsigned_abs f) (size_of_mix s r g f) in
    let far2 = subst (λ (z : ℤ). ((s * j + r * i) + (s * k + r * h)) * ((s * j + r * i) + (s * k + r * h)) * t ≤ square z) (mix_means x.ga x.gb s r j k i h) far in
    let far3 = subst (λ (w : ℕ). w * w * t ≤ square ((pos s *ℤ g) +ℤ (pos r *ℤ f))) (weights s r j k i h) far2 in
    absurd (omega (arith, below, up, far3))

-- weights that lead to the start of the edge, and to its end
to_start : (u v : ℤ) → pos 0 <ℤ u → v ≤ℤ pos 0 → (pos (unsigned_abs v) *ℤ u) +ℤ (pos (unsigned_abs u) *ℤ v) ≡ pos 0
to_start (pos u) (pos zero) p q = omega (arith, ints)
to_start (pos u) (pos (suc v)) p q = absurd (omega (arith, ints, q))
to_start (pos u) (negsuc v) p q = omega (arith, ints)
to_start (negsuc u) v p q = absurd (omega (arith, ints, p))

zero_square : (z : ℤ) (a g : ℕ) → z ≡ pos 0 → a ≤ square z + g → a ≤ g
zero_square z a g e h = omega (arith, rw e at h)

at_start : (x : Ends) (n t : ℕ) → AreOffEnds x n t → (j k : ℕ) → 0 < j + k → mean x.ua x.ub j k ≡ pos 0 → (j + k) * (j + k) * t ≤ square (mean x.ga x.gb j k)
at_start x n t off j k some none = zero_square _ _ _ none (off.start j k some)

at_end : (x : Ends) (n t : ℕ) → AreOffEnds x n t → (j k : ℕ) → 0 < j + k → mean x.ua x.ub j k -ℤ pos (n * (j + k)) ≡ pos 0 → (j + k) * (j + k) * t ≤ square (mean x.ga x.gb j k)
at_end x n t off j k some none = zero_square _ _ _ none (off.end j k some)

-- how far beyond the end
rest_means : (a b : ℤ) (n s r j k i h : ℕ) →
    mean a b (s * j + r * i) (s * k + r * h) -ℤ pos (n * ((s * j + r * i) + (s * k + r * h)))
    ≡ (pos s *ℤ (mean a b j k -ℤ pos (n * (j + k)))) +ℤ (pos r *ℤ (mean a b i h -ℤ pos (n * (i + h))))
rest_means a b n s r j k i h =
    rw (
      as_diff a,
      as_diff b,
      diff-pos (s * k + r * h),
      diff-pos (s * j + r * i),
      diff-pos (n * ((s * j + r * i) + (s * k + r * h))),
      diff-pos (n * (j + k)),
      diff-pos (n * (i + h)),
      diff-pos s,
      diff-pos r,
      diff-pos j,
      diff-pos k,
      diff-pos i,
      diff-pos h,
    )
    (simp differences (diff-same _ _ _ _ (omega arith)))

to_end : (u v : ℤ) → u <ℤ pos 0 → pos 0 ≤ℤ v → (pos (unsigned_abs v) *ℤ u) +ℤ (pos (unsigned_abs u) *ℤ v) ≡ pos 0
to_end (pos u) v p q = absurd (omega (arith, ints, p))
to_end (negsuc u) (pos v) p q = omega (arith, ints)
to_end (negsuc u) (negsuc v) p q = absurd (omega (arith, ints, q))

size_some : (u : ℤ) → pos 0 <ℤ u → 0 < unsigned_abs u
size_some u h = omega (arith, ints, h)

size_less : (u : ℤ) → u <ℤ pos 0 → 0 < unsigned_abs u
size_less u h = omega (arith, ints, h)

less_than : (u v : ℤ) → u <ℤ v → (u -ℤ v) <ℤ pos 0
less_than u v h = omega (arith, ints, h)

not_less : (u v : ℤ) → v ≤ℤ u → pos 0 ≤ℤ (u -ℤ v)
not_less u v h = omega (arith, ints, h)

-- ---- a point over the edge and near its line, and a point that is no farther from the line: that one can't be besides
pub record IsOver (x : Ends) (n t j k : ℕ) : Type 0 where
  pub some : 0 < j + k
  pub behind : pos 0 <ℤ mean x.ua x.ub j k
  pub before : mean x.ua x.ub j k <ℤ pos (n * (j + k))
  pub near : square (mean x.ga x.gb j k) < t * ((j + k) * (j + k))

no_farther : (x : Ends) (t j k i h : ℕ) → 0 < j + k → square (mean x.ga x.gb j k) < t * ((j + k) * (j + k)) → unsigned_abs (mean x.ga x.gb i h) * (j + k) ≤ unsigned_abs (mean x.ga x.gb j k) * (i + h)
    → 0 < i + h → square (mean x.ga x.gb i h) < t * ((i + h) * (i + h))
no_farther x t j k i h some near less many =
    below (unsigned_abs (mean x.ga x.gb i h)) (unsigned_abs (mean x.ga x.gb j k)) (j + k) (i + h) t some many less near
  where
    below : (F G M L t : ℕ) → 0 < M → 0 < L → F * M ≤ G * L → G * G < t * (M * M) → F * F < t * (L * L)
    below F G M L t some many le near = elim (cases_lt (F * F) (t * (L * L))) [
      | inl fine ↦ fine
      | inr past ↦
          let up : G * G + 1 ≤ t * (M * M) = omega (arith, near) in
          absurd (omega (arith, square_up (F * M) (G * L) le, mul-le-mul_left (M * M) past, mul-le-mul_left (L * L) up, mul-le 1 1 L L many many))
    ]

pub not_besides : (x : Ends) (n t j k i h : ℕ) → AreOffEnds x n t → IsOver x n t j k → 0 < i + h
    → unsigned_abs (mean x.ga x.gb i h) * (j + k) ≤ unsigned_abs (mean x.ga x.gb j k) * (i + h) → IsBesides x n t i h → ⊥
not_besides x n t j k i h off over many less (inl behind) =
    let u = mean x.ua x.ub j k in
    let v = mean x.ua x.ub i h in
    let s = unsigned_abs v in
    let r = unsigned_abs u in
    let some = size_some u over.behind in
    mixed x t s r j k i h some many (omega (arith, over.near)) (no_farther x t j k i h over.some over.near less many)
    (at_start x n t off (s * j + r * i) (s * k + r * h) (some_weight s r j k i h some many) (mix_means x.ua x.ub s r j k i h ∙ to_start u v over.behind behind))
not_besides x n t j k i h off over many less (inr (inl beyond)) =
    let u = mean x.ua x.ub j k -ℤ pos (n * (j + k)) in
    let v = mean x.ua x.ub i h -ℤ pos (n * (i + h)) in
    let s = unsigned_abs v in
    let r = unsigned_abs u in
    let before = less_than (mean x.ua x.ub j k) (pos (n * (j + k))) over.before in
    let some = size_less u before in
    mixed x t s r j k i h some many (omega (arith, over.near)) (no_farther x t j k i h over.some over.near less many)
    (at_end x n t off (s * j + r * i) (s * k + r * h) (some_weight s r j k i h some many)
    (rest_means x.ua x.ub n s r j k i h ∙ to_end u v before (not_less (mean x.ua x.ub i h) (pos (n * (i + h))) beyond)))
not_besides x n t j k i h off over many less (inr (inr far)) = absurd (omega (arith, far, no_farther x t j k i h over.some over.near less many))

-- ---- of all points one is nearest to the line: where it crosses it, else an end
abbrev pub AreOpposite : ℤ → ℤ → Type 0
AreOpposite (pos zero) b = ⊥
AreOpposite (pos (suc a)) (pos b) = ⊥
AreOpposite (pos (suc a)) (negsuc b) = Unit {0}
AreOpposite (negsuc a) (pos zero) = ⊥
AreOpposite (negsuc a) (pos (suc b)) = Unit {0}
AreOpposite (negsuc a) (negsuc b) = ⊥

-- both ends, and where they are on opposite sides of the line the crossing, are besides
pub record AreBesides (x : Ends) (n t : ℕ) : Type 0 where
  pub start : IsBesides x n t 0 1
  pub end : IsBesides x n t 1 0
  pub crossing : AreOpposite x.ga x.gb → IsBesides x n t (unsigned_abs x.ga) (unsigned_abs x.gb)

-- on one side of the line, the sizes are as the numbers
one_side : (a b : ℤ) (j k : ℕ) → (AreOpposite a b → ⊥) → unsigned_abs (mean a b j k) ≡ k * unsigned_abs a + j * unsigned_abs b
one_side (pos zero) (pos b) j k one = omega (arith, ints)
one_side (pos zero) (negsuc b) j k one = omega (arith, ints)
one_side (pos (suc a)) (pos b) j k one = omega (arith, ints)
one_side (pos (suc a)) (negsuc b) j k one = absurd (one tt)
one_side (negsuc a) (pos zero) j k one = omega (arith, ints)
one_side (negsuc a) (pos (suc b)) j k one = absurd (one tt)
one_side (negsuc a) (negsuc b) j k one = omega (arith, ints)

opposite_or : (a b : ℤ) → AreOpposite a b ⊎ (AreOpposite a b → ⊥)
opposite_or (pos zero) b = inr (λ p. p)
opposite_or (pos (suc a)) (pos b) = inr (λ p. p)
opposite_or (pos (suc a)) (negsuc b) = inl tt
opposite_or (negsuc a) (pos zero) = inr (λ p. p)
opposite_or (negsuc a) (pos (suc b)) = inl tt
opposite_or (negsuc a) (negsuc b) = inr (λ p. p)

-- at the crossing nothing is left
pub at_crossing : (a b : ℤ) → AreOpposite a b → mean a b (unsigned_abs a) (unsigned_abs b) ≡ pos 0
at_crossing (pos zero) b p = absurd p
at_crossing (pos (suc a)) (pos b) p = absurd p
at_crossing (pos (suc a)) (negsuc b) p = omega (arith, ints)
at_crossing (negsuc a) (pos zero) p = absurd p
at_crossing (negsuc a) (pos (suc b)) p = omega (arith, ints)
at_crossing (negsuc a) (negsuc b) p = absurd p

pub crossing_some : (a b : ℤ) → AreOpposite a b → 0 < unsigned_abs a + unsigned_abs b
crossing_some (pos zero) b p = absurd p
crossing_some (pos (suc a)) b p = omega (arith, ints)
crossing_some (negsuc a) b p = omega (arith, ints)

no_size : (z : ℤ) (m n : ℕ) → z ≡ pos 0 → unsigned_abs z * m ≤ n
no_size z m n e = rw e (omega arith)

-- the ends by themselves
mean_start : (a b : ℤ) → mean a b 0 1 ≡ a
mean_start a b = omega (arith, ints)

mean_end : (a b : ℤ) → mean a b 1 0 ≡ b
mean_end a b = omega (arith, ints)

start_least : (a b : ℤ) (j k : ℕ) → (AreOpposite a b → ⊥) → unsigned_abs a ≤ unsigned_abs b → unsigned_abs (mean a b 0 1) * (j + k) ≤ unsigned_abs (mean a b j k) * (0 + 1)
start_least a b j k one less = rw (mean_start a b, one_side a b j k one) (omega (arith, mul-le-mul_left j less))

end_least : (a b : ℤ) (j k : ℕ) → (AreOpposite a b → ⊥) → unsigned_abs b ≤ unsigned_abs a → unsigned_abs (mean a b 1 0) * (j + k) ≤ unsigned_abs (mean a b j k) * (1 + 0)
end_least a b j k one less = rw (mean_end a b, one_side a b j k one) (omega (arith, mul-le-mul_left k less))

-- so no point is over the edge and near its line
pub none_over : (x : Ends) (n t j k : ℕ) → AreOffEnds x n t → AreBesides x n t → IsOver x n t j k → ⊥
none_over x n t j k off besides over = elim (opposite_or x.ga x.gb) [
  | inl across ↦
      not_besides x n t j k (unsigned_abs x.ga) (unsigned_abs x.gb) off over (crossing_some x.ga x.gb across)
      (no_size _ (j + k) _ (at_crossing x.ga x.gb across)) (besides.crossing across)
  | inr one ↦ elim (cases_lt (unsigned_abs x.gb) (unsigned_abs x.ga)) [
    | inl less ↦ not_besides x n t j k 1 0 off over (omega arith) (end_least x.ga x.gb j k one (omega (arith, less))) besides.end
    | inr less ↦ not_besides x n t j k 0 1 off over (omega arith) (start_least x.ga x.gb j k one less) besides.start
  ]
]
