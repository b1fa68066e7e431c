-- The order of directions round a centre, as the code tells it.
use Rattle.std.proofs.Common.{refl, ◌≡◌, ◌↔◌, ◌⊎◌, ℕ, ◌<◌, true, false, IsTrue, true≢false, sym, arith, ℤ, pos, neg_ℤ, ◌*ℤ◌, ◌<ℤ◌, int_lt, inl, inr, Bool}
use Rattle.std.specs.Prelude.{nat_lt}
use Rattle.std.specs.Bool.{Decides}
use Rattle.std.proofs.lemmas.Int.{ints}
use Rattle.std.proofs.lemmas.Bool.Decides.{Decides-eqb, Decides-ltb, Decides-and, Decides-or, Decides-like}
use Rattle.apt_plane.specs.declared.figures.Dir.{Dir}
use Rattle.apt_plane.specs.Vectors.{cross}
use Rattle.apt_plane.specs.Ranges.{IsSense}
use Rattle.apt_plane.specs.Order.{turn_class, ComesBefore, is_earlier, is_before}

-- a number by the sense of a turn
pub kept : (sense z : ℤ) → IsSense sense → ¬ (sense <ℤ pos 0) → z ≡ sense *ℤ z
kept sense z (inl e) p = rw e (omega (arith, ints))
kept sense z (inr e) p = absurd (p (omega (arith, ints)))

pub negated : (sense z : ℤ) → IsSense sense → sense <ℤ pos 0 → neg_ℤ z ≡ sense *ℤ z
negated sense z (inl e) p = absurd (omega (arith, ints))
negated sense z (inr e) p = rw e (omega (arith, ints))

is_positive : (z : ℤ) → IsTrue (int_lt (pos 0) z) ↔ (pos 0 <ℤ z)
is_positive z = (λ t. grind (arith, ints), λ p. grind (arith, ints))

-- ---- the order as a test

earlier_tells : (a b : ℕ) (z : ℤ) → Decides (is_earlier a b z) ((a < b) ⊎ ((a ≡ b) × ((a ≡ 1) ⊎ (a ≡ 3)) × (pos 0 <ℤ z)))
earlier_tells a b z =
    Decides-or (nat_lt a b) _ (Decides-ltb a b)
    (Decides-like _ (λ p. (p.0.0, p.0.1, p.1)) (λ p. ((p.0, p.1), p.2))
    (Decides-and _ _ (Decides-and _ _ (Decides-eqb a b) (Decides-or _ _ (Decides-eqb a 1) (Decides-eqb a 3))) (is_positive z)))

pub before_tells : (s u v : Dir) (sense : ℤ) → IsTrue (is_before s sense u v) ↔ ComesBefore s sense u v
before_tells s u v sense = earlier_tells (turn_class s sense u) (turn_class s sense v) (sense *ℤ cross u v)

pub order_told : (r : Bool) (s u v : Dir) (sense : ℤ) → r ≡ is_before s sense u v → IsTrue r ↔ ComesBefore s sense u v
order_told r s u v sense e = rw e (before_tells s u v sense)

decided : (b : Bool) (P : Type 0) → IsTrue b ↔ P → P ⊎ (¬ P)
decided true P tells = inl (tells.0 refl)
decided false P tells = inr (λ is. absurd (true≢false (sym (tells.1 is))))

pub comes_or_not : (s : Dir) (sense : ℤ) (u v : Dir) → ComesBefore s sense u v ⊎ (¬ ComesBefore s sense u v)
comes_or_not s sense u v = decided (is_before s sense u v) (ComesBefore s sense u v) (before_tells s u v sense)
