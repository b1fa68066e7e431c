use Rattle.std.proofs.Common.{◌≡◌, ap, ◌∙◌}
use Rattle.apt_words.specs.Vocabulary.{word_of}
use Rattle.apt_words.proofs.Words.{spelled}
use Rattle.apt_words.proofs.word.word_of.Goals as goal

pub returns-clause-spelled : goal.returns-clause-spelled
returns-clause-spelled c =
    let e : c.word_spelled.result ≡ word_of c.args.symbol.now = c.word_spelled.ensures ∙ ap word_of c.as_bytes.ensures.value in
    λ w. rw e (spelled c.args.symbol.now w)
