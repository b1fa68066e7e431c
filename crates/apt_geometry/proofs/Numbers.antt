-- Lines and circles have no other numbers of arguments.
use Rattle.std.specs.Prelude.{◌≡◌, ℕ, ◌<◌, ◌≤◌, List, [], ◌∷◌, length, None, refl}
use Rattle.std.proofs.Common.{arith}
use Rattle.apt_lexis.specs.declared.token.Token.{Token}
use Rattle.apt_geometry.specs.Figures.{line, circle}

pub no_line_of_one : (n : List ℕ) (args : List (List Token)) → length args < 2 → line n args ≡ None
no_line_of_one n [] h = refl
no_line_of_one n (a ∷ []) h = refl
no_line_of_one n (a ∷ b ∷ args) h = absurd (omega arith)

pub no_line_of_five : (n : List ℕ) (args : List (List Token)) → length args ≡ 5 → line n args ≡ None
no_line_of_five n [] h = absurd (omega arith)
no_line_of_five n (a ∷ []) h = absurd (omega arith)
no_line_of_five n (a ∷ b ∷ []) h = absurd (omega arith)
no_line_of_five n (a ∷ b ∷ c ∷ []) h = absurd (omega arith)
no_line_of_five n (a ∷ b ∷ c ∷ d ∷ []) h = absurd (omega arith)
no_line_of_five n (a ∷ b ∷ c ∷ d ∷ e ∷ []) h = refl
no_line_of_five n (a ∷ b ∷ c ∷ d ∷ e ∷ f ∷ args) h = absurd (omega arith)

pub no_line_of_seven : (n : List ℕ) (args : List (List Token)) → 7 ≤ length args → line n args ≡ None
no_line_of_seven n [] h = absurd (omega arith)
no_line_of_seven n (a ∷ []) h = absurd (omega arith)
no_line_of_seven n (a ∷ b ∷ []) h = absurd (omega arith)
no_line_of_seven n (a ∷ b ∷ c ∷ []) h = absurd (omega arith)
no_line_of_seven n (a ∷ b ∷ c ∷ d ∷ []) h = absurd (omega arith)
no_line_of_seven n (a ∷ b ∷ c ∷ d ∷ e ∷ []) h = refl
no_line_of_seven n (a ∷ b ∷ c ∷ d ∷ e ∷ f ∷ []) h = absurd (omega arith)
no_line_of_seven n (a ∷ b ∷ c ∷ d ∷ e ∷ f ∷ g ∷ args) h = refl

pub no_circle_of_two : (n : List ℕ) (args : List (List Token)) → length args < 3 → circle n args ≡ None
no_circle_of_two n [] h = refl
no_circle_of_two n (a ∷ []) h = refl
no_circle_of_two n (a ∷ b ∷ []) h = refl
no_circle_of_two n (a ∷ b ∷ c ∷ args) h = absurd (omega arith)

pub no_circle_of_five : (n : List ℕ) (args : List (List Token)) → length args ≡ 5 → circle n args ≡ None
no_circle_of_five n [] h = refl
no_circle_of_five n (a ∷ []) h = refl
no_circle_of_five n (a ∷ b ∷ []) h = refl
no_circle_of_five n (a ∷ b ∷ c ∷ []) h = absurd (omega arith)
no_circle_of_five n (a ∷ b ∷ c ∷ d ∷ []) h = absurd (omega arith)
no_circle_of_five n (a ∷ b ∷ c ∷ d ∷ e ∷ []) h = refl
no_circle_of_five n (a ∷ b ∷ c ∷ d ∷ e ∷ f ∷ args) h = absurd (omega arith)

pub no_circle_of_seven : (n : List ℕ) (args : List (List Token)) → 7 ≤ length args → circle n args ≡ None
no_circle_of_seven n [] h = refl
no_circle_of_seven n (a ∷ []) h = refl
no_circle_of_seven n (a ∷ b ∷ []) h = refl
no_circle_of_seven n (a ∷ b ∷ c ∷ []) h = absurd (omega arith)
no_circle_of_seven n (a ∷ b ∷ c ∷ d ∷ []) h = absurd (omega arith)
no_circle_of_seven n (a ∷ b ∷ c ∷ d ∷ e ∷ []) h = refl
no_circle_of_seven n (a ∷ b ∷ c ∷ d ∷ e ∷ f ∷ []) h = absurd (omega arith)
no_circle_of_seven n (a ∷ b ∷ c ∷ d ∷ e ∷ f ∷ g ∷ args) h = refl
