-- Parts joined from left to right.
use Rattle.std.specs.Prelude.{◌≡◌, List, [], ◌∷◌, None, refl}
use Rattle.apt_words.specs.declared.expr.Op.{Op}
use Rattle.apt_lexis.specs.declared.token.Token.{Token}
use Rattle.apt_expr.specs.Expressions.{Reader, from_left}

pub none_stays : (read : Reader) (others : List (Op × List Token)) → from_left read None others ≡ None
none_stays read [] = refl
none_stays read ((op, part) ∷ more) = none_stays read more
