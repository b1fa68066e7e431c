-- The value of an expression, or its first refusal: the left operand before the right, operands before their operator.
use Rattle.std.specs.Prelude.{ℤ, neg_ℤ, Result, Ok}
use Rattle.apt_words.specs.Chains.{◌>>=◌}
use Rattle.apt_words.specs.Trees.{Tree, Num, Name, Neg, Bin, Root, Abs}
use Rattle.apt_words.specs.declared.Case.{Case}
use Rattle.apt_scalar.specs.Scalars.{in_range, apply, square_root, size}
use Rattle.apt_scalar.specs.Meanings.{Names, Parameters, scalar_named}

abbrev pub value_of : Names → Parameters → Tree → Result ℤ Case
value_of names parameters (Num v) = in_range v
value_of names parameters (Name name) = scalar_named names parameters name
value_of names parameters (Neg t) = value_of names parameters t >>= λ v. Ok (neg_ℤ v)
value_of names parameters (Bin op a b) = value_of names parameters a >>= λ x. value_of names parameters b >>= λ y. apply op x y
value_of names parameters (Root t) = value_of names parameters t >>= square_root
value_of names parameters (Abs t) = value_of names parameters t >>= λ v. Ok (size v)
