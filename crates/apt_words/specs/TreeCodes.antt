-- Trees as lists of their parts, by which the prover tells trees apart.
use Rattle.std.specs.Prelude.{List, []}
use Rattle.std.proofs.Common.{ap}
use Rattle.std.specs.Coded.{Coded, code_by, coded_list}
use Rattle.apt_words.specs.declared.postfix.Item.{Item}
use Rattle.apt_words.specs.contracts.postfix.Item as part
use Rattle.apt_words.specs.Trees.{Tree}
use Rattle.apt_words.specs.TreeParts.{parts, built, latest, trees-parts}

abbrev pub tree_code : Coded Tree
tree_code = code_by (List Item) (coded_list part.the_row.coded) (λ t. parts t []) (λ ps. built ps []) (λ t. ap latest (trees-parts t [] []))
