-- Trees as lists of their parts, operands before their operators.
use Rattle.std.specs.Prelude.{◌≡◌, ℕ, ℤ, pos, List, [], ◌∷◌, Option, Some, None, refl}
use Rattle.std.proofs.Common.{◌∙◌, ap}
use Rattle.apt_words.specs.declared.expr.Op.{Op}
use Rattle.apt_words.specs.declared.expr.Op.TheVariants as ops
use Rattle.apt_words.specs.declared.postfix.Item.{Item}
use Rattle.apt_words.specs.declared.postfix.Item.TheVariants as marks
use Rattle.apt_words.specs.Trees.{Tree, Num, Name, Neg, Bin, Root, Abs}

-- an operator with a number to its right
abbrev pub with_number : Op → ℤ → Item
with_number ops.Add v = marks.AddNum v
with_number ops.Sub v = marks.SubNum v
with_number ops.Mul v = marks.MulNum v
with_number ops.Div v = marks.DivNum v

-- the parts of a right operand with its operator, where those of other trees than numbers are given, and more behind them
abbrev pub right : Op → Tree → List Item → List Item → List Item
right op (Num v) others more = with_number op v ∷ more
right op _ others more = others

-- the parts of a tree, and more behind them
abbrev pub parts : Tree → List Item → List Item
parts (Num v) more = marks.Num v ∷ more
parts (Name name) more = marks.Name name ∷ more
parts (Neg t) more = parts t (marks.Neg ∷ more)
parts (Root t) more = parts t (marks.Root ∷ more)
parts (Abs t) more = parts t (marks.Abs ∷ more)
parts (Bin op a b) more = parts a (right op b (parts b (marks.Bin op ∷ more)) more)

abbrev pub on_one : (Tree → Tree) → List Tree → List Tree
on_one f [] = []
on_one f (t ∷ ts) = f t ∷ ts

abbrev pub on_two : Op → List Tree → List Tree
on_two op (b ∷ a ∷ ts) = Bin op a b ∷ ts
on_two op _ = []

-- the trees behind a part, the latest first
abbrev pub after : Item → List Tree → List Tree
after (marks.Num v) ts = Num v ∷ ts
after (marks.Name name) ts = Name name ∷ ts
after marks.Neg ts = on_one Neg ts
after marks.Root ts = on_one Root ts
after marks.Abs ts = on_one Abs ts
after (marks.Bin op) ts = on_two op ts
after (marks.AddNum v) ts = on_two ops.Add (Num v ∷ ts)
after (marks.SubNum v) ts = on_two ops.Sub (Num v ∷ ts)
after (marks.MulNum v) ts = on_two ops.Mul (Num v ∷ ts)
after (marks.DivNum v) ts = on_two ops.Div (Num v ∷ ts)

abbrev pub trees : List Item → List Tree → List Tree
trees [] ts = ts
trees (p ∷ ps) ts = trees ps (after p ts)

abbrev pub latest : List Tree → Tree
latest [] = Num (pos 0)
latest (t ∷ ts) = t

abbrev pub built : List Item → List Tree → Tree
built ps ts = latest (trees ps ts)

pub after-with_number : (op : Op) (v : ℤ) (ts : List Tree) → after (with_number op v) ts ≡ on_two op (Num v ∷ ts)
after-with_number ops.Add v ts = refl
after-with_number ops.Sub v ts = refl
after-with_number ops.Mul v ts = refl
after-with_number ops.Div v ts = refl

trees-right : (op : Op) (b : Tree) (others more : List Item) (a : Tree) (ts : List Tree)
    → trees others (a ∷ ts) ≡ trees more (Bin op a b ∷ ts) → trees (right op b others more) (a ∷ ts) ≡ trees more (Bin op a b ∷ ts)
trees-right op (Num v) others more a ts e = ap (trees more) (after-with_number op v (a ∷ ts))
trees-right op (Name name) others more a ts e = e
trees-right op (Neg t) others more a ts e = e
trees-right op (Bin p t u) others more a ts e = e
trees-right op (Root t) others more a ts e = e
trees-right op (Abs t) others more a ts e = e

pub trees-parts : (t : Tree) (more : List Item) (ts : List Tree) → trees (parts t more) ts ≡ trees more (t ∷ ts)
trees-parts (Num v) more ts = refl
trees-parts (Name name) more ts = refl
trees-parts (Neg t) more ts = trees-parts t _ ts
trees-parts (Root t) more ts = trees-parts t _ ts
trees-parts (Abs t) more ts = trees-parts t _ ts
trees-parts (Bin op a b) more ts = trees-parts a _ ts ∙ trees-right op b _ more a ts (trees-parts b _ (a ∷ ts))

-- the name that a tree is
abbrev pub lone_name : Tree → Option (List ℕ)
lone_name (Name name) = Some name
lone_name _ = None
