-- Two of three numbers are positive: so it is with the cross products of three directions, taken in a round, that are met in turn.
use Rattle.std.proofs.Common.{◌≡◌, ◌⊎◌, inl, inr, arith, ℤ, pos, neg_ℤ, ◌+ℤ◌, ◌*ℤ◌, ◌≤ℤ◌, ◌<ℤ◌}
use Rattle.std.proofs.lemmas.Int.{ints}
use Rattle.apt_num.proofs.Products.{sign_cases, both_plus, both_minus, one_each, other_each}

-- at least two of three numbers are positive
abbrev pub Two : ℤ → ℤ → ℤ → Type 0
Two a b d = ((pos 0 <ℤ a) × (pos 0 <ℤ b)) ⊎ (((pos 0 <ℤ b) × (pos 0 <ℤ d)) ⊎ ((pos 0 <ℤ d) × (pos 0 <ℤ a)))

-- ---- and one that isn't
pub not_first : (a b d : ℤ) → a ≤ℤ pos 0 → Two a b d → (pos 0 <ℤ b) × (pos 0 <ℤ d)
not_first a b d h (inl p) = absurd (omega (arith, ints, p))
not_first a b d h (inr (inl p)) = p
not_first a b d h (inr (inr p)) = absurd (omega (arith, ints, p))

pub not_second : (a b d : ℤ) → b ≤ℤ pos 0 → Two a b d → (pos 0 <ℤ d) × (pos 0 <ℤ a)
not_second a b d h (inl p) = absurd (omega (arith, ints, p))
not_second a b d h (inr (inl p)) = absurd (omega (arith, ints, p))
not_second a b d h (inr (inr p)) = p

pub not_third : (a b d : ℤ) → d ≤ℤ pos 0 → Two a b d → (pos 0 <ℤ a) × (pos 0 <ℤ b)
not_third a b d h (inl p) = p
not_third a b d h (inr (inl p)) = absurd (omega (arith, ints, p))
not_third a b d h (inr (inr p)) = absurd (omega (arith, ints, p))

-- ---- of four directions s, u, v and w: a, b and d are the cross products of s u, u v and v s, e, f, g and h those of v w, w s, u w and s v
opposite : (d h : ℤ) → h ≡ neg_ℤ d → pos 0 <ℤ h → pos 0 <ℤ d → ⊥
opposite d h e p q = omega (arith, ints)

first : (a b d e f g h : ℤ) → ((a *ℤ e) +ℤ (d *ℤ g)) ≡ (f *ℤ b) → h ≡ neg_ℤ d → pos 0 <ℤ a → pos 0 <ℤ b → pos 0 <ℤ h → pos 0 <ℤ e → Two a g f
first a b d e f g h plu neg pa pb ph pe = elim (sign_cases f) [
  | inl pf ↦ inr (inr (pf, pa))
  | inr nf ↦ elim (sign_cases g) [
    | inl pg ↦ inl (pa, pg)
    | inr ng ↦ absurd (omega (arith, ints, plu, both_plus a e pa pe, both_minus d g (omega (arith, ints)) ng, one_each f b nf (omega (arith, ints))))
  ]
]

second : (a b d e f g h : ℤ) → ((a *ℤ e) +ℤ (d *ℤ g)) ≡ (f *ℤ b) → pos 0 <ℤ b → pos 0 <ℤ d → pos 0 <ℤ e → pos 0 <ℤ f → Two a g f
second a b d e f g h plu pb pd pe pf = elim (sign_cases a) [
  | inl pa ↦ inr (inr (pf, pa))
  | inr na ↦ elim (sign_cases g) [
    | inl pg ↦ inr (inl (pg, pf))
    | inr ng ↦ absurd (omega (arith, ints, plu, both_plus f b pf pb, one_each a e na (omega (arith, ints)), other_each d g (omega (arith, ints)) ng))
  ]
]

pub two_after : (a b d e f g h : ℤ) → ((a *ℤ e) +ℤ (d *ℤ g)) ≡ (f *ℤ b) → h ≡ neg_ℤ d → Two a b d → Two h e f → Two a g f
two_after a b d e f g h plu neg (inl (pa, pb)) (inl (ph, pe)) = first a b d e f g h plu neg pa pb ph pe
two_after a b d e f g h plu neg (inl (pa, pb)) (inr (inl (pe, pf))) = inr (inr (pf, pa))
two_after a b d e f g h plu neg (inl (pa, pb)) (inr (inr (pf, ph))) = inr (inr (pf, pa))
two_after a b d e f g h plu neg (inr (inl (pb, pd))) (inl (ph, pe)) = absurd (opposite d h neg ph pd)
two_after a b d e f g h plu neg (inr (inl (pb, pd))) (inr (inl (pe, pf))) = second a b d e f g h plu pb pd pe pf
two_after a b d e f g h plu neg (inr (inl (pb, pd))) (inr (inr (pf, ph))) = absurd (opposite d h neg ph pd)
two_after a b d e f g h plu neg (inr (inr (pd, pa))) (inl (ph, pe)) = absurd (opposite d h neg ph pd)
two_after a b d e f g h plu neg (inr (inr (pd, pa))) (inr (inl (pe, pf))) = inr (inr (pf, pa))
two_after a b d e f g h plu neg (inr (inr (pd, pa))) (inr (inr (pf, ph))) = absurd (opposite d h neg ph pd)

pub two_round : (a b d : ℤ) → Two a b d → Two b d a
two_round a b d (inl p) = inr (inr p)
two_round a b d (inr (inl p)) = inl p
two_round a b d (inr (inr p)) = inr (inl p)

pub two_swap : (a b d : ℤ) → Two a b d → Two b a d
two_swap a b d (inl p) = inl (p.1, p.0)
two_swap a b d (inr (inl p)) = inr (inr (p.1, p.0))
two_swap a b d (inr (inr p)) = inr (inl (p.1, p.0))

-- not of the negated numbers too
pub two_one_way : (a b d e f g : ℤ) → e ≡ neg_ℤ a → f ≡ neg_ℤ b → g ≡ neg_ℤ d → Two a b d → Two e f g → ⊥
two_one_way a b d e f g p q r (inl x) (inl y) = omega (arith, ints, x, y)
two_one_way a b d e f g p q r (inl x) (inr (inl y)) = omega (arith, ints, x, y)
two_one_way a b d e f g p q r (inl x) (inr (inr y)) = omega (arith, ints, x, y)
two_one_way a b d e f g p q r (inr (inl x)) (inl y) = omega (arith, ints, x, y)
two_one_way a b d e f g p q r (inr (inl x)) (inr (inl y)) = omega (arith, ints, x, y)
two_one_way a b d e f g p q r (inr (inl x)) (inr (inr y)) = omega (arith, ints, x, y)
two_one_way a b d e f g p q r (inr (inr x)) (inl y) = omega (arith, ints, x, y)
two_one_way a b d e f g p q r (inr (inr x)) (inr (inl y)) = omega (arith, ints, x, y)
two_one_way a b d e f g p q r (inr (inr x)) (inr (inr y)) = omega (arith, ints, x, y)
