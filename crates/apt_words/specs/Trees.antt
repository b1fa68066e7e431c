-- Expressions, as contracts see them.
use Rattle.std.specs.Prelude.{ℕ, ◌+◌, ℤ, List}
use Rattle.apt_words.specs.declared.expr.Op.{Op}

-- a number in millionths, a name, a minus before an operand, two operands, a square root, a size
pub data Tree : Type 0 where
  Num : ℤ → Tree
  Name : List ℕ → Tree
  Neg : Tree → Tree
  Bin : Op → Tree → Tree → Tree
  Root : Tree → Tree
  Abs : Tree → Tree

-- how many operators stand between two operands
abbrev pub operators : Tree → ℕ
operators (Num v) = 0
operators (Name name) = 0
operators (Neg t) = operators t
operators (Bin op a b) = operators a + operators b + 1
operators (Root t) = operators t
operators (Abs t) = operators t
