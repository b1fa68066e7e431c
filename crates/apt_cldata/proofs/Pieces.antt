-- Four or eight bytes that are appended one by one.
use Rattle.std.proofs.Common.{◌≡◌, ℕ, List, [], ◌∷◌, ◌++◌, refl, ap}

pub eight_more : (xs : List ℕ) (a b c d e f g h : ℕ) →
    (((((((xs ++ a ∷ []) ++ b ∷ []) ++ c ∷ []) ++ d ∷ []) ++ e ∷ []) ++ f ∷ []) ++ g ∷ []) ++ h ∷ [] ≡ xs ++ a ∷ b ∷ c ∷ d ∷ e ∷ f ∷ g ∷ h ∷ []
eight_more [] a b c d e f g h = refl
eight_more (x ∷ xs) a b c d e f g h = ap (λ ys. x ∷ ys) (eight_more xs a b c d e f g h)

pub four_more : (xs : List ℕ) (a b c d : ℕ) → (((xs ++ a ∷ []) ++ b ∷ []) ++ c ∷ []) ++ d ∷ [] ≡ xs ++ a ∷ b ∷ c ∷ d ∷ []
four_more [] a b c d = refl
four_more (x ∷ xs) a b c d = ap (λ ys. x ∷ ys) (four_more xs a b c d)
