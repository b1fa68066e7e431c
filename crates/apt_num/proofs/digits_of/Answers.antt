use Rattle.std.proofs.lemmas.Nat.{le_or_l}
use Rattle.apt_num.proofs.digits_of.Goals as goal

pub returns : goal.returns
returns c = le_or_l _ _
