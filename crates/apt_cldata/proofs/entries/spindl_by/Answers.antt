use Rattle.std.proofs.Common.{arith}
use Rattle.std.proofs.lemmas.Bool.Decides.{nat_tests}
use Rattle.apt_cldata.proofs.Counts.{spindl_few, spindl_many}
use Rattle.apt_cldata.proofs.entries.spindl_by.Goals.{in_default-via-then-words-lt2, in_default-via-else-words-lt2+else-words-lt3}
use Rattle.apt_cldata.proofs.entries.spindl_by.Goals as goal

pub returns-in_default : goal.returns-in_default
returns-in_default c =
    elim c.in_default.branch [ in_default-via-then-words-lt2 w ↦ spindl_few c.args.words.now (grind (arith, nat_tests)) | in_default-via-else-words-lt2+else-words-lt3 w ↦ spindl_many c.args.words.now (grind (arith, nat_tests)) ]
