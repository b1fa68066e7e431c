-- The values of the parts of an expression on a stack, the latest first.
use Rattle.std.specs.Prelude.{ℕ, ℤ, pos, neg_ℤ, nat_lt, List, [], ◌∷◌, length, Result, Ok, if◌then◌else◌}
use Rattle.apt_words.specs.Chains.{◌>>=◌}
use Rattle.apt_words.specs.declared.Case.{Case}
use Rattle.apt_words.specs.declared.expr.Op.{Op}
use Rattle.apt_words.specs.declared.expr.Op.TheVariants as ops
use Rattle.apt_words.specs.declared.postfix.Item.{Item}
use Rattle.apt_words.specs.declared.postfix.Item.TheVariants as marks
use Rattle.apt_scalar.specs.Scalars.{in_range, apply, square_root, size}
use Rattle.apt_scalar.specs.Meanings.{Names, Parameters, scalar_named}

abbrev pub room : ℕ
room = 65

-- a full stack stays as it is
abbrev pub pushed : ℤ → List ℤ → List ℤ
pushed v vs = if nat_lt (length vs) room then v ∷ vs else vs

-- an empty stack gives 0
abbrev pub top : List ℤ → ℤ
top [] = pos 0
top (v ∷ vs) = v

abbrev pub below : List ℤ → List ℤ
below [] = []
below (v ∷ vs) = vs

abbrev pub with_value : Result ℤ Case → List ℤ → Result (List ℤ) Case
with_value r vs = r >>= λ v. Ok (pushed v vs)

-- the latest value is left of a number
abbrev pub beside : Op → ℤ → List ℤ → Result ℤ Case
beside op v vs = in_range v >>= apply op (top vs)

abbrev pub behind : Names → Parameters → Item → List ℤ → Result (List ℤ) Case
behind names parameters (marks.Num v) vs = with_value (in_range v) vs
behind names parameters (marks.Name name) vs = with_value (scalar_named names parameters name) vs
behind names parameters marks.Neg vs = with_value (Ok (neg_ℤ (top vs))) (below vs)
behind names parameters marks.Root vs = with_value (square_root (top vs)) (below vs)
behind names parameters marks.Abs vs = with_value (Ok (size (top vs))) (below vs)
behind names parameters (marks.Bin op) vs = with_value (apply op (top (below vs)) (top vs)) (below (below vs))
behind names parameters (marks.AddNum v) vs = with_value (beside ops.Add v vs) (below vs)
behind names parameters (marks.SubNum v) vs = with_value (beside ops.Sub v vs) (below vs)
behind names parameters (marks.MulNum v) vs = with_value (beside ops.Mul v vs) (below vs)
behind names parameters (marks.DivNum v) vs = with_value (beside ops.Div v vs) (below vs)

abbrev pub behind_all : Names → Parameters → List Item → List ℤ → Result (List ℤ) Case
behind_all names parameters [] vs = Ok vs
behind_all names parameters (p ∷ ps) vs = behind names parameters p vs >>= behind_all names parameters ps

abbrev pub value_behind : Names → Parameters → List Item → Result ℤ Case
value_behind names parameters ps = behind_all names parameters ps [] >>= λ vs. Ok (top vs)
