-- Lists of tokens by their parts between operators.
use Rattle.std.specs.Prelude.{ℕ, ◌+◌, ◌-◌, ◌==◌, List, [], ◌∷◌, Option, Some, None, if◌then◌else◌}
use Rattle.apt_words.specs.declared.expr.Op.{Op}
use Rattle.apt_words.specs.declared.expr.Op.TheVariants as ops
use Rattle.apt_lexis.specs.declared.token.Token.{Token}
use Rattle.apt_lexis.specs.declared.token.Token.TheVariants as tokens
use Rattle.apt_expr.specs.declared.parts.Rank.{Rank}
use Rattle.apt_expr.specs.declared.parts.Rank.TheVariants as ranks

-- the operators of each rank
abbrev pub operator : Rank → Token → Option Op
operator ranks.Additive tokens.Plus = Some ops.Add
operator ranks.Additive tokens.Minus = Some ops.Sub
operator ranks.Multiplicative tokens.Star = Some ops.Mul
operator ranks.Multiplicative tokens.Slash = Some ops.Div
operator _ _ = None

-- the first part, and each operator with the part behind it
pub record Parts : Type 0 where
  pub first : List Token
  pub others : List (Op × List Token)

-- how many parentheses are open behind a token
abbrev pub open_behind : Token → ℕ → ℕ
open_behind tokens.Open depth = depth + 1
open_behind tokens.Close depth = depth - 1
open_behind _ depth = depth

-- an operator of the rank outside of parentheses
abbrev pub outer : Rank → ℕ → Token → Option Op
outer rank depth t = if depth == 0 then operator rank t else None

abbrev pub with_token : Token → Option Op → Parts → Parts
with_token t None parts = record { first = t ∷ parts.first; others = parts.others }
with_token t (Some op) parts = record { first = []; others = (op, parts.first) ∷ parts.others }

-- the parts between the operators of a rank that stand outside of parentheses, where so many are open
abbrev pub parts_at : ℕ → Rank → List Token → Parts
parts_at depth rank [] = record { first = []; others = [] }
parts_at depth rank (t ∷ ts) = with_token t (outer rank depth t) (parts_at (open_behind t depth) rank ts)

abbrev pub parts : Rank → List Token → Parts
parts rank ts = parts_at 0 rank ts
