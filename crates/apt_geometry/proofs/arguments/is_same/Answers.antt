use Rattle.std.proofs.Common.{sym, ◌∙◌}
use denote.Enum.Bare.{same_true, true_same}
use Rattle.apt_words.specs.contracts.word.Word.{the_type}
use Rattle.apt_geometry.proofs.SameWords.{same_word}
use Rattle.apt_geometry.proofs.arguments.is_same.Goals as goal

pub returns : goal.returns
returns c =
    same_word c.args.word c.args.said c.eq.result
    ((λ e. same_true the_type tt c.args.word c.args.said (sym c.eq.ensures ∙ e)), λ e. c.eq.ensures ∙ true_same the_type c.args.word c.args.said e)
