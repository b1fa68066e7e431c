-- Trees one behind another, the latest first.
use Rattle.std.specs.Prelude.{◌≡◌, ℕ, ◌+◌, ◌≤◌, ℤ, Bool, true, false, Option, Some, None, List, [], ◌∷◌, ◌++◌, length}
use Rattle.apt_words.specs.declared.postfix.Item.{Item}
use Rattle.apt_words.specs.declared.postfix.Item.TheVariants as marks
use Rattle.apt_words.specs.Trees.{Tree, Num, operators}
use Rattle.apt_words.specs.TreeParts.{parts, latest}

-- how many operands a part has
abbrev pub arity : Item → ℕ
arity (marks.Num v) = 0
arity (marks.Name name) = 0
arity marks.Neg = 1
arity marks.Root = 1
arity marks.Abs = 1
arity (marks.Bin op) = 2
arity (marks.AddNum v) = 1
arity (marks.SubNum v) = 1
arity (marks.MulNum v) = 1
arity (marks.DivNum v) = 1

-- a name, or an operator of one operand
abbrev pub is_simple : Item → Bool
is_simple (marks.Name name) = true
is_simple marks.Neg = true
is_simple marks.Root = true
is_simple marks.Abs = true
is_simple _ = false

abbrev pub below : List Tree → List Tree
below [] = []
below (t ∷ ts) = ts

abbrev pub all_parts : List Tree → List Item
all_parts [] = []
all_parts (t ∷ ts) = all_parts ts ++ parts t []

abbrev pub with_latest : Option ℤ → List Tree → List Tree
with_latest None ts = ts
with_latest (Some v) ts = Num v ∷ ts

-- the latest tree is no number, where none stands apart
abbrev pub is_settled : Option ℤ → List Tree → Bool
is_settled None (Num v ∷ ts) = false
is_settled _ ts = true

-- one tree more, with so many operators
pub record Grown (n : ℕ) (before now : List Tree) : Type 0 where
  pub others : below now ≡ before
  pub taller : length now ≡ length before + 1
  pub counted : n ≡ operators (latest now)
  pub few : n ≤ 64
