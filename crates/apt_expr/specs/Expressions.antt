-- The expression of a list of tokens: an optional minus and terms between plus and minus; a term is factors between times and divided by;
-- a factor is a number, a name, an expression in parentheses, or SQRTF or ABSF of one. There are at most 32 nested parentheses and 64 operators.
use Rattle.std.specs.Prelude.{ℕ, suc, nat_le, List, [], ◌∷◌, Option, Some, None, option_map}
use Rattle.apt_words.specs.declared.expr.Op.{Op}
use Rattle.apt_words.specs.declared.word.Word.{Word}
use Rattle.apt_words.specs.declared.word.Word.TheVariants as words
use Rattle.apt_words.specs.Options.{◌>>=◌, only_if}
use Rattle.apt_words.specs.Trees.{Tree, Num, Name, Neg, Bin, Root, Abs, operators}
use Rattle.apt_lexis.specs.declared.token.Token.{Token}
use Rattle.apt_lexis.specs.declared.token.Token.TheVariants as tokens
use Rattle.apt_expr.specs.declared.parts.Rank.TheVariants as ranks
use Rattle.apt_expr.specs.Operands.{parts}

abbrev pub most_operators : ℕ
most_operators = 64

abbrev pub most_parentheses : ℕ
most_parentheses = 32

-- what a list of tokens means as a part of an expression, none where it can't be one
abbrev pub Reader : Type 0
Reader = List Token → Option Tree

-- an operator with its operands, within the limit
abbrev pub binary : Op → Tree → Tree → Option Tree
binary op a b = only_if (nat_le (operators (Bin op a b)) most_operators) (Bin op a b)

-- operators of one rank go from left to right
abbrev pub from_left : Reader → Option Tree → List (Op × List Token) → Option Tree
from_left read first [] = first
from_left read first ((op, part) ∷ more) = from_left read (first >>= λ a. read part >>= λ b. binary op a b) more

abbrev pub term_by : Reader → Reader
term_by factor ts = let p = parts ranks.Multiplicative ts in from_left factor (factor p.first) p.others

-- a minus before the first term belongs to that term
abbrev pub sum_by : Reader → Reader
sum_by factor (tokens.Minus ∷ ts) = let p = parts ranks.Additive ts in from_left (term_by factor) (option_map Neg (term_by factor p.first)) p.others
sum_by factor ts = let p = parts ranks.Additive ts in from_left (term_by factor) (term_by factor p.first) p.others

-- the tokens before the parenthesis that closes them
abbrev pub inside : List Token → Option (List Token)
inside [] = None
inside (tokens.Close ∷ []) = Some []
inside (t ∷ ts) = inside ts >>= λ more. Some (t ∷ more)

abbrev pub function : Word → Tree → Option Tree
function words.Sqrtf t = Some (Root t)
function words.Absf t = Some (Abs t)
function _ t = None

-- a factor in which so many parentheses may be nested
abbrev pub factor_of : ℕ → Reader
factor_of n (tokens.Number v ∷ []) = Some (Num v)
factor_of n (tokens.Name name ∷ []) = Some (Name name)
factor_of (suc n) (tokens.Open ∷ ts) = inside ts >>= sum_by (factor_of n)
factor_of (suc n) (tokens.Word w ∷ tokens.Open ∷ ts) = inside ts >>= sum_by (factor_of n) >>= function w
factor_of _ _ = None

abbrev pub expression_in : ℕ → Reader
expression_in n ts = sum_by (factor_of n) ts

unfoldable pub expression : Reader
expression ts = expression_in most_parentheses ts
