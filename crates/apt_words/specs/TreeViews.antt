-- The tree of an expression.
use Rattle.std.specs.Prelude.{[]}
use Rattle.apt_words.specs.declared.expr.Node.{Node}
use Rattle.apt_words.specs.declared.expr.Node.TheVariants as nodes
use Rattle.apt_words.specs.Trees.{Tree, Num, Name, Neg}
use Rattle.apt_words.specs.TreeParts.{built}

abbrev pub tree_of : Node → Tree
tree_of (nodes.Num v) = Num v
tree_of (nodes.Minus v) = Neg (Num v)
tree_of (nodes.Name name) = Name name
tree_of (nodes.Postfix ps) = built ps.value.items.items []
