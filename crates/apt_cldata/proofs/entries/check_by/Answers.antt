use Rattle.std.proofs.Common.{rules, ◌∙◌, arith}
use Rattle.std.specs.Prelude.{FitsSigned}
use Rattle.std.specs.Int.{w64}
use Rattle.std.proofs.lemmas.Int.{to_z-of_z}
use Rattle.apt_cldata.proofs.Surfaces.{check_six}
use Rattle.apt_cldata.proofs.entries.check_by.Goals as goal

pub returns-in-len6 : goal.returns-in-len6
returns-in-len6 c =
    let f0 : FitsSigned w64 c.number.result = search rules in
    let f1 : FitsSigned w64 c.number-in-len6.result = search rules in
    let f2 : FitsSigned w64 c.number-in-len6-2.result = search rules in
    let f3 : FitsSigned w64 c.number-in-len6-3.result = search rules in
    let f4 : FitsSigned w64 c.number-in-len6-4.result = search rules in
    let f5 : FitsSigned w64 c.number-in-len6-5.result = search rules in
    simp to_z-of_z at c.check_at.ensures ∙ check_six c.args.words.now _ c.number.result c.number-in-len6.result c.number-in-len6-2.result c.number-in-len6-3.result c.number-in-len6-4.result c.number-in-len6-5.result (omega arith) (omega arith) c.number.ensures c.number-in-len6.ensures c.number-in-len6-2.ensures c.number-in-len6-3.ensures c.number-in-len6-4.ensures c.number-in-len6-5.ensures
