-- Small expressions, which the checker reads.
use Rattle.std.specs.Prelude.{◌≡◌, ℕ, pos, List, Option, Some, None, Ok, Err, codes}
use Rattle.std.proofs.Common.{refl}
use Rattle.apt_words.specs.Vocabulary.{word_of}
use Rattle.apt_words.specs.declared.expr.Op.TheVariants as ops
use Rattle.apt_words.specs.Trees.{Tree, Num, Name, Neg, Bin, Root, Abs}
use Rattle.apt_lexis.specs.Tokens.{Tokens, tokens_of}
use Rattle.apt_expr.specs.Expressions.{expression}

abbrev of_tokens : Tokens → Option Tree
of_tokens (Ok ts) = expression ts
of_tokens (Err cause) = None

abbrev tree : List ℕ → Option Tree
tree text = of_tokens (tokens_of text)

abbrev number : ℕ → Tree
number n = Num (pos n)

from_left_to_right : tree (codes "1-2+3") ≡ Some (Bin ops.Add (Bin ops.Sub (number 1000000) (number 2000000)) (number 3000000))
unfolding expression word_of
from_left_to_right = refl

minus_of_the_first_term : tree (codes "-A*B-C") ≡ Some (Bin ops.Sub (Neg (Bin ops.Mul (Name (codes "A")) (Name (codes "B")))) (Name (codes "C")))
unfolding expression word_of
minus_of_the_first_term = refl

functions : tree (codes "SQRTF(A)/ABSF((-1))") ≡ Some (Bin ops.Div (Root (Name (codes "A"))) (Abs (Neg (number 1000000))))
unfolding expression word_of
functions = refl

two_operators : tree (codes "A*-B") ≡ None
unfolding expression word_of
two_operators = refl

not_closed : tree (codes "(A") ≡ None
unfolding expression word_of
not_closed = refl

closed_twice : tree (codes "(A)+(B))") ≡ None
unfolding expression word_of
closed_twice = refl

two_factors : tree (codes "(A)(B)") ≡ None
unfolding expression word_of
two_factors = refl

vocabulary_word : tree (codes "POINT+1") ≡ None
unfolding expression word_of
vocabulary_word = refl
