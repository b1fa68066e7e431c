-- A segment and an edge whose boxes are apart.
use Rattle.std.proofs.Common.{Bool, IsTrue, true, false, true≢false, ◌≡◌, ◌↔◌, ◌∙◌, sym, ◌⊎◌, inl, inr, ℕ, ◌+◌, ◌*◌, ◌≤◌, ◌<◌, arith, ℤ, pos, negsuc, ◌+ℤ◌, ◌-ℤ◌, ◌*ℤ◌, ◌≤ℤ◌, int_le, unsigned_abs}
use Rattle.std.specs.Int.{int_min, int_max}
use Rattle.std.proofs.lemmas.Int.{ints, clamps}
use Rattle.std.proofs.lemmas.Nat.{mul-le}
use Rattle.apt_num.proofs.Ring.{as_diff, diff-pos, diff-same, differences, between_ge, between_le}
use Rattle.apt_plane.specs.declared.figures.Pt.{Pt}
use Rattle.apt_plane.specs.Vectors.{between, length_squared}
use Rattle.apt_plane.specs.Distances.{EveryPoint}
use Rattle.apt_plane.proofs.RingLaws.{length_at_most, negative_at_most}
use Rattle.apt_outline.specs.Boxes.{IsAhead, AreOff, AreBoxesOff}
use Rattle.apt_outline.specs.Clearances.{AreApart, displacement_scaled}

abbrev mean : ℤ → ℤ → ℕ → ℕ → ℤ
mean a b j k = (pos k *ℤ a) +ℤ (pos j *ℤ b)

times_sum : (m : ℕ) (p r : ℤ) → pos m *ℤ (p +ℤ r) ≡ (pos m *ℤ p) +ℤ (pos m *ℤ r)
times_sum m p r = rw (as_diff p, as_diff r, diff-pos m) (simp differences (diff-same _ _ _ _ (omega arith)))

back : (m : ℕ) (p r x : ℤ) → (pos m *ℤ (p +ℤ r)) ≤ℤ x → (pos m *ℤ p) ≤ℤ (x -ℤ (pos m *ℤ r))
back m p r x h = omega (arith, ints, rw (times_sum m p r) at h)

mean_out : (m l n : ℕ) (p q : ℤ) → (pos n *ℤ (pos m *ℤ p)) +ℤ (pos l *ℤ (pos m *ℤ q)) ≡ pos m *ℤ mean p q l n
mean_out m l n p q = rw (as_diff p, as_diff q, diff-pos m, diff-pos l, diff-pos n) (simp differences (diff-same _ _ _ _ (omega arith)))

rest_out : (m l n : ℕ) (x r : ℤ) → pos (l + n) *ℤ (x -ℤ (pos m *ℤ r)) ≡ (pos (l + n) *ℤ x) -ℤ (pos (m * (l + n)) *ℤ r)
rest_out m l n x r = rw (as_diff x, as_diff r, diff-pos m, diff-pos (l + n), diff-pos (m * (l + n))) (simp differences (diff-same _ _ _ _ (omega arith)))

-- so is every point between, times both weights
ahead : (r a b p q : ℤ) (j k l n : ℕ) → IsAhead r a b p q → (pos ((j + k) * (l + n)) *ℤ r) ≤ℤ ((pos (l + n) *ℤ mean a b j k) -ℤ (pos (j + k) *ℤ mean p q l n))
ahead r a b p q j k l n is =
    let x = mean a b j k in
    let over_p = back (j + k) p r x (between_ge a b (p +ℤ r) j k is.first_first is.second_first) in
    let over_q = back (j + k) q r x (between_ge a b (q +ℤ r) j k is.first_second is.second_second) in
    let both = rw (mean_out (j + k) l n p q, rest_out (j + k) l n x r) at (between_le (pos (j + k) *ℤ p) (pos (j + k) *ℤ q) (x -ℤ (pos (j + k) *ℤ r)) l n over_p over_q) in
    omega (arith, ints, both)

square_over : (r m : ℕ) (x y : ℤ) → (pos m *ℤ pos r) ≤ℤ (y -ℤ x) → m * m * (r * r) ≤ unsigned_abs (x -ℤ y) * unsigned_abs (x -ℤ y)
square_over r m x y h =
    let up : m * r ≤ unsigned_abs (x -ℤ y) = omega (arith, ints, h) in
    omega (arith, mul-le _ _ _ _ up up)

square_under : (r m : ℕ) (x y : ℤ) → (pos m *ℤ pos r) ≤ℤ (x -ℤ y) → m * m * (r * r) ≤ unsigned_abs (x -ℤ y) * unsigned_abs (x -ℤ y)
square_under r m x y h =
    let up : m * r ≤ unsigned_abs (x -ℤ y) = omega (arith, ints, h) in
    omega (arith, mul-le _ _ _ _ up up)

swapped : (a b r : ℕ) (z : ℤ) → (pos (a * b) *ℤ pos r) ≤ℤ z → (pos (b * a) *ℤ pos r) ≤ℤ z
swapped a b r z h = omega (arith, ints, h)

-- by how much their points differ on one axis
on_axis : (r : ℕ) (a b p q : ℤ) (j k l n : ℕ) → AreOff (pos r) a b p q
    → (j + k) * (l + n) * ((j + k) * (l + n)) * (r * r)
    ≤ unsigned_abs ((pos (j + k) *ℤ mean p q l n) -ℤ (pos (l + n) *ℤ mean a b j k)) * unsigned_abs ((pos (j + k) *ℤ mean p q l n) -ℤ (pos (l + n) *ℤ mean a b j k))
on_axis r a b p q j k l n (inl is) = square_over r ((j + k) * (l + n)) (pos (j + k) *ℤ mean p q l n) (pos (l + n) *ℤ mean a b j k) (ahead (pos r) a b p q j k l n is)
on_axis r a b p q j k l n (inr is) = square_under r ((j + k) * (l + n)) (pos (j + k) *ℤ mean p q l n) (pos (l + n) *ℤ mean a b j k) (swapped (l + n) (j + k) r _ (ahead (pos r) p q a b l n j k is))

some_product : (m n : ℕ) → 0 < m → 0 < n → 0 < m * n
some_product m n p q = omega (arith, mul-le 1 1 m n p q)

pub boxes_far : (r : ℤ) (a b p q : Pt) → AreBoxesOff r a b p q → EveryPoint a b (λ s. EveryPoint p q (AreApart r s))
boxes_far (pos r) a b p q (inl is) = λ j k some l n many.
    (length_at_most ((j + k) * (l + n)) r (length_squared (displacement_scaled (between a b j k) (between p q l n)))).1 (omega (arith, on_axis r a.x b.x p.x q.x j k l n is))
boxes_far (pos r) a b p q (inr is) = λ j k some l n many.
    (length_at_most ((j + k) * (l + n)) r (length_squared (displacement_scaled (between a b j k) (between p q l n)))).1 (omega (arith, on_axis r a.y b.y p.y q.y j k l n is))
boxes_far (negsuc r) a b p q off = λ j k some l n many.
    negative_at_most ((j + k) * (l + n)) r (length_squared (displacement_scaled (between a b j k) (between p q l n))) (some_product (j + k) (l + n) some many)

-- ---- from the tests
pub first_holds : (b : Bool) (P Q : Type 0) → b ≡ true → IsTrue b ↔ P → IsTrue b ↔ (P ⊎ Q)
first_holds b P Q e is = (λ yes. inl (is.0 yes), λ any. e)

pub either : (b d : Bool) (P Q : Type 0) → b ≡ false → IsTrue b ↔ P → IsTrue d ↔ Q → IsTrue d ↔ (P ⊎ Q)
either b d P Q e is other = (λ yes. inr (other.0 yes), λ any. second any)
  where
    second : P ⊎ Q → IsTrue d
    second (inl p) = absurd (true≢false (sym (is.1 p) ∙ e))
    second (inr q) = other.1 q

le_true : (x y : ℤ) → x ≤ℤ y → int_le x y ≡ true
le_true x y h = grind (arith, ints)

pub ahead_tells : (a b p q r m n : ℤ) → m ≡ int_min a b → n ≡ int_max p q → IsTrue (int_le r (m -ℤ n)) ↔ IsAhead r a b p q
ahead_tells a b p q r m n e f = (
  λ yes. record {
    first_first = omega (arith, ints, clamps, e, f, yes);
    first_second = omega (arith, ints, clamps, e, f, yes);
    second_first = omega (arith, ints, clamps, e, f, yes);
    second_second = omega (arith, ints, clamps, e, f, yes);
  },
  λ is. le_true r (m -ℤ n) (omega (arith, ints, clamps, e, f, is.first_first, is.first_second, is.second_first, is.second_second)),
)

pub least_small : (a b m : ℤ) (n : ℕ) → m ≡ int_min a b → unsigned_abs a ≤ n → unsigned_abs b ≤ n → unsigned_abs m ≤ n
least_small a b m n e p q = omega (arith, ints, clamps, e, p, q)

pub greatest_small : (a b m : ℤ) (n : ℕ) → m ≡ int_max a b → unsigned_abs a ≤ n → unsigned_abs b ≤ n → unsigned_abs m ≤ n
greatest_small a b m n e p q = omega (arith, ints, clamps, e, p, q)
