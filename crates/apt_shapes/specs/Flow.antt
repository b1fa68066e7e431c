-- The shapes of macros, loops and jumps.
use Rattle.std.specs.Prelude.{ℕ, ◌&&◌, not, Bool, true, List, [], ◌∷◌, map, Option, Some, None}
use Rattle.std.specs.List.{list_any}
use Rattle.std.proofs.Common.{bytes_eq}
use Rattle.apt_words.specs.declared.body.Body.{Body}
use Rattle.apt_words.specs.declared.body.Body.TheVariants as bodies
use Rattle.apt_words.specs.Options.{◌>>=◌, only_if}
use Rattle.apt_words.specs.Trees.{Tree}
use Rattle.apt_lexis.specs.declared.token.Token.{Token}
use Rattle.apt_lexis.specs.declared.token.Token.TheVariants as tokens
use Rattle.apt_expr.specs.Expressions.{expression}
use Rattle.apt_geometry.specs.Arguments.{name}

-- ---- macros

-- n=e
abbrev pub argument : List Token → Option (List ℕ × Tree)
argument (tokens.Name n ∷ tokens.Equals ∷ ts) = expression ts >>= λ e. Some (n, e)
argument _ = None

-- a parameter: n, or n=e with its default
abbrev pub parameter : List Token → Option (List ℕ × Option Tree)
parameter (tokens.Name n ∷ []) = Some (n, None)
parameter ts = argument ts >>= λ a. Some (a.0, Some a.1)

abbrev pub parameters : List (List Token) → Option (List (List ℕ × Option Tree))
parameters [] = Some []
parameters (a ∷ args) = parameter a >>= λ p. parameters args >>= λ ps. Some (p ∷ ps)

-- no name stands twice
abbrev pub differ : List (List ℕ) → Bool
differ [] = true
differ (n ∷ ns) = not (list_any (bytes_eq n) ns) && differ ns

abbrev pub names_of : List (List ℕ × Option Tree) → List (List ℕ)
names_of ps = map (λ p. p.0) ps

-- MACRO/ and a list of parameters, which differ
abbrev pub macro : List ℕ → List (List Token) → Option Body
macro n args = parameters args >>= λ ps. only_if (differ (names_of ps)) (bodies.Macro n ps)

abbrev pub arguments_in : List (List Token) → Option (List (List ℕ × Tree))
arguments_in [] = Some []
arguments_in (a ∷ args) = argument a >>= λ p. arguments_in args >>= λ ps. Some (p ∷ ps)

-- CALL/m and a list of n=e
abbrev pub call : List (List Token) → Option Body
call (m ∷ args) = name m >>= λ m. arguments_in args >>= λ ps. Some (bodies.Call m ps)
call _ = None

-- ---- jumps

-- JUMPTO/label
abbrev pub jumpto : List (List Token) → Option Body
jumpto (l ∷ []) = name l >>= λ l. Some (bodies.Jumpto l)
jumpto _ = None

-- the label behind a closing parenthesis
abbrev pub label_of : Token → Token → Option (List ℕ)
label_of tokens.Close (tokens.Name l) = Some l
label_of _ _ = None

-- an expression, the parenthesis that closes it and a label
abbrev pub condition : List Token → Option (List Token × List ℕ)
condition (tokens.Close ∷ tokens.Name l ∷ []) = Some ([], l)
condition [] = None
condition (t ∷ ts) = condition ts >>= λ c. Some (t ∷ c.0, c.1)

-- IF (e) label,label,label, from behind its first parenthesis
abbrev pub if_in : List (List Token) → Option Body
if_in (a ∷ b ∷ c ∷ []) =
    condition a >>= λ cond. expression cond.0 >>= λ e. name b >>= λ b. name c >>= λ c. Some (bodies.If e cond.1 b c)
if_in _ = None
