use Rattle.std.proofs.Common.{subst}
use Rattle.apt_words.specs.Answers.{IsDueAs}
use Rattle.apt_cldata.specs.Reading.{fault_in}
use Rattle.apt_cldata.proofs.Laws.{each_again}
use Rattle.apt_clreader.proofs.reader.read.Goals as goal

pub returns-clause-all : goal.returns-clause-all
returns-clause-all c = λ rs is of.
    subst (λ due. IsDueAs (λ v. v.items) fault_in due c.read_value.result) (each_again c.args.bytes.now rs is of) c.read_value.ensures
