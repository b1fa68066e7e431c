-- The condition of IF, by the last two tokens of its first argument.
use Rattle.std.specs.Prelude.{◌≡◌, ℕ, ◌≤◌, List, [], ◌∷◌, ◌++◌, length, Option, Some, None, refl}
use Rattle.std.proofs.Common.{ap, ◌∙◌, arith, append_assoc, length-append}
use Rattle.apt_words.specs.Options.{◌>>=◌}
use Rattle.apt_lexis.specs.declared.token.Token.{Token}
use Rattle.apt_lexis.specs.declared.token.Token.TheVariants as tokens
use Rattle.apt_shapes.specs.Flow.{condition, label_of}

-- the tokens before a label, and the label
abbrev pub Condition : Type 0
Condition = List Token × List ℕ

abbrev behind : Token → Option Condition → Option Condition
behind t o = o >>= λ c. Some (t ∷ c.0, c.1)

abbrev pub with_label : List Token → Option (List ℕ) → Option Condition
with_label front o = o >>= λ l. Some (front, l)

behind_label : (t : Token) (front : List Token) (o : Option (List ℕ)) → behind t (with_label front o) ≡ with_label (t ∷ front) o
behind_label t front None = refl
behind_label t front (Some l) = refl

condition_of_one : (t : Token) → condition (t ∷ []) ≡ None
condition_of_one (tokens.Word w) = refl
condition_of_one (tokens.Name n) = refl
condition_of_one (tokens.Number n) = refl
condition_of_one tokens.Equals = refl
condition_of_one tokens.Slash = refl
condition_of_one tokens.Comma = refl
condition_of_one tokens.Open = refl
condition_of_one tokens.Close = refl
condition_of_one tokens.Plus = refl
condition_of_one tokens.Minus = refl
condition_of_one tokens.Star = refl

condition_of_two : (a b : Token) → condition (a ∷ b ∷ []) ≡ with_label [] (label_of a b)
condition_of_two (tokens.Word w) b = ap (behind (tokens.Word w)) (condition_of_one b)
condition_of_two (tokens.Name n) b = ap (behind (tokens.Name n)) (condition_of_one b)
condition_of_two (tokens.Number n) b = ap (behind (tokens.Number n)) (condition_of_one b)
condition_of_two tokens.Equals b = ap (behind tokens.Equals) (condition_of_one b)
condition_of_two tokens.Slash b = ap (behind tokens.Slash) (condition_of_one b)
condition_of_two tokens.Comma b = ap (behind tokens.Comma) (condition_of_one b)
condition_of_two tokens.Open b = ap (behind tokens.Open) (condition_of_one b)
condition_of_two tokens.Close (tokens.Word w) = refl
condition_of_two tokens.Close (tokens.Name l) = refl
condition_of_two tokens.Close (tokens.Number n) = refl
condition_of_two tokens.Close tokens.Equals = refl
condition_of_two tokens.Close tokens.Slash = refl
condition_of_two tokens.Close tokens.Comma = refl
condition_of_two tokens.Close tokens.Open = refl
condition_of_two tokens.Close tokens.Close = refl
condition_of_two tokens.Close tokens.Plus = refl
condition_of_two tokens.Close tokens.Minus = refl
condition_of_two tokens.Close tokens.Star = refl
condition_of_two tokens.Plus b = ap (behind tokens.Plus) (condition_of_one b)
condition_of_two tokens.Minus b = ap (behind tokens.Minus) (condition_of_one b)
condition_of_two tokens.Star b = ap (behind tokens.Star) (condition_of_one b)

condition_of_three : (t u v : Token) (ts : List Token) → condition (t ∷ u ∷ v ∷ ts) ≡ behind t (condition (u ∷ v ∷ ts))
condition_of_three (tokens.Word w) u v ts = refl
condition_of_three (tokens.Name n) u v ts = refl
condition_of_three (tokens.Number n) u v ts = refl
condition_of_three tokens.Equals u v ts = refl
condition_of_three tokens.Slash u v ts = refl
condition_of_three tokens.Comma u v ts = refl
condition_of_three tokens.Open u v ts = refl
condition_of_three tokens.Close (tokens.Word w) v ts = refl
condition_of_three tokens.Close (tokens.Name n) v ts = refl
condition_of_three tokens.Close (tokens.Number n) v ts = refl
condition_of_three tokens.Close tokens.Equals v ts = refl
condition_of_three tokens.Close tokens.Slash v ts = refl
condition_of_three tokens.Close tokens.Comma v ts = refl
condition_of_three tokens.Close tokens.Open v ts = refl
condition_of_three tokens.Close tokens.Close v ts = refl
condition_of_three tokens.Close tokens.Plus v ts = refl
condition_of_three tokens.Close tokens.Minus v ts = refl
condition_of_three tokens.Close tokens.Star v ts = refl
condition_of_three tokens.Plus u v ts = refl
condition_of_three tokens.Minus u v ts = refl
condition_of_three tokens.Star u v ts = refl

condition_of_more : (t : Token) (ts : List Token) → 2 ≤ length ts → condition (t ∷ ts) ≡ behind t (condition ts)
condition_of_more t [] h = absurd (omega arith)
condition_of_more t (u ∷ []) h = absurd (omega arith)
condition_of_more t (u ∷ v ∷ ts) h = condition_of_three t u v ts

condition_of_end : (front : List Token) (a b : Token) → condition (front ++ a ∷ b ∷ []) ≡ with_label front (label_of a b)
condition_of_end [] a b = condition_of_two a b
condition_of_end (t ∷ front) a b =
    condition_of_more t (front ++ a ∷ b ∷ []) (omega (arith, length-append front (a ∷ b ∷ [])))
    ∙ ap (behind t) (condition_of_end front a b) ∙ behind_label t front (label_of a b)

-- no tokens
pub no_condition_in_none : (ts : List Token) → length ts ≡ 0 → condition ts ≡ None
no_condition_in_none [] h = refl
no_condition_in_none (t ∷ ts) h = absurd (omega arith)

-- one token
pub no_condition_in_one : (ts rest : List Token) (t : Token) → ts ≡ rest ++ t ∷ [] → length rest ≡ 0 → condition ts ≡ None
no_condition_in_one ts [] t e h = ap condition e ∙ condition_of_one t
no_condition_in_one ts (u ∷ rest) t e h = absurd (omega arith)

-- two tokens or more
pub condition_by_end : (ts rest front : List Token) (a b : Token) → ts ≡ rest ++ b ∷ [] → rest ≡ front ++ a ∷ [] → condition ts ≡ with_label front (label_of a b)
condition_by_end ts rest front a b e f =
    ap condition (e ∙ ap (λ r. r ++ b ∷ []) f ∙ append_assoc front (a ∷ []) (b ∷ [])) ∙ condition_of_end front a b
