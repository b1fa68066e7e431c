use Rattle.std.proofs.Common.{◌∙◌, ap, bytes_eq}
use Rattle.std.specs.List.{find}
use Rattle.apt_words.specs.Vocabulary.{spelling}
use Rattle.apt_words.proofs.Alike.{found_alike}
use Rattle.apt_words.proofs.word.word_spelled.Goals as goal

pub returns : goal.returns
returns c =
    c.word_in.ensures
    ∙ ap (λ ws. find (λ w. bytes_eq (spelling w) c.args.text.now) ws) c.alike.ensures
    ∙ found_alike c.args.text.now _ _ c.in_ok-initial.ensures.cases.0
