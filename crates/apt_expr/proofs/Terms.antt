-- The first term of a list of tokens and its factors, from an operator on.
use Rattle.std.proofs.Common.{◌≡◌, List, [], ◌∷◌, refl, arith}
use Rattle.std.specs.Prelude.{Some, None}
use Rattle.apt_words.specs.declared.expr.Op.{Op}
use Rattle.apt_lexis.specs.declared.token.Token.{Token}
use Rattle.apt_lexis.specs.declared.token.Token.TheVariants as tokens
use Rattle.apt_expr.specs.declared.parts.Rank.TheVariants as ranks
use Rattle.apt_expr.specs.Operands.{Parts, parts, operator}

-- the factors of the first term
abbrev pub factors : List Token → Parts
factors ts = parts ranks.Multiplicative (parts ranks.Additive ts).first

pub factor_behind : (t : Token) (ts : List Token) (op : Op) → operator ranks.Multiplicative t ≡ Some op → (factors (t ∷ ts)).others ≡ (op, (factors ts).first) ∷ (factors ts).others
factor_behind tokens.Star ts op e = grind arith
factor_behind tokens.Slash ts op e = grind arith
factor_behind _ ts op e = absurd (grind arith)

pub terms_kept : (t : Token) (ts : List Token) (op : Op) → operator ranks.Multiplicative t ≡ Some op → (parts ranks.Additive (t ∷ ts)).others ≡ (parts ranks.Additive ts).others
terms_kept tokens.Star ts op e = refl
terms_kept tokens.Slash ts op e = refl
terms_kept _ ts op e = absurd (grind arith)

-- behind the last factor stands no other
pub no_factors : (t : Token) (ts : List Token) → operator ranks.Multiplicative t ≡ None → (factors (t ∷ ts)).first ≡ [] → (factors (t ∷ ts)).others ≡ []
no_factors tokens.Star ts e none = absurd (grind arith)
no_factors tokens.Slash ts e none = absurd (grind arith)
no_factors tokens.Plus ts e none = refl
no_factors tokens.Minus ts e none = refl
no_factors _ ts e none = absurd (grind arith)

-- a term ends with its last factor
pub term_ends : (t : Token) (ts : List Token) → operator ranks.Multiplicative t ≡ None → (factors (t ∷ ts)).first ≡ [] → (parts ranks.Additive (t ∷ ts)).first ≡ []
term_ends tokens.Star ts e none = absurd (grind arith)
term_ends tokens.Slash ts e none = absurd (grind arith)
term_ends tokens.Plus ts e none = refl
term_ends tokens.Minus ts e none = refl
term_ends _ ts e none = absurd (grind arith)

pub term_behind : (t : Token) (ts : List Token) (op : Op) → operator ranks.Additive t ≡ Some op → (parts ranks.Additive (t ∷ ts)).others ≡ (op, (parts ranks.Additive ts).first) ∷ (parts ranks.Additive ts).others
term_behind tokens.Plus ts op e = grind arith
term_behind tokens.Minus ts op e = grind arith
term_behind _ ts op e = absurd (grind arith)

-- behind the last term stands no other
pub no_terms : (t : Token) (ts : List Token) → operator ranks.Additive t ≡ None → (parts ranks.Additive (t ∷ ts)).first ≡ [] → (parts ranks.Additive (t ∷ ts)).others ≡ []
no_terms tokens.Plus ts e none = absurd (grind arith)
no_terms tokens.Minus ts e none = absurd (grind arith)
no_terms _ ts e none = absurd (grind arith)
