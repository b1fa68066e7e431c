use Rattle.apt_words.proofs.Alike.{of_two, of_three, of_four, of_five, of_six}
use Rattle.apt_words.proofs.word.starts_of.Goals as goal

pub returns-in-2-clause-some : goal.returns-in-2-clause-some
returns-in-2-clause-some c = rw c.in-2.is of_two

pub returns-in-3-clause-some : goal.returns-in-3-clause-some
returns-in-3-clause-some c = rw c.in-3.is of_three

pub returns-in-4-clause-some : goal.returns-in-4-clause-some
returns-in-4-clause-some c = rw c.in-4.is of_four

pub returns-in-5-clause-some : goal.returns-in-5-clause-some
returns-in-5-clause-some c = rw c.in-5.is of_five

pub returns-in-6-clause-some : goal.returns-in-6-clause-some
returns-in-6-clause-some c = rw c.in-6.is of_six
