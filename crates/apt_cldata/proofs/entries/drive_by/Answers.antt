use Rattle.std.proofs.Common.{rules, ◌∙◌, arith}
use Rattle.std.specs.Prelude.{FitsSigned}
use Rattle.std.specs.Int.{w64}
use Rattle.std.proofs.lemmas.Int.{to_z-of_z}
use Rattle.apt_cldata.proofs.Surfaces.{drive_seven}
use Rattle.apt_cldata.proofs.entries.drive_by.Goals as goal

pub returns-in-len7 : goal.returns-in-len7
returns-in-len7 c =
    let f0 : FitsSigned w64 c.number.result = search rules in
    let f1 : FitsSigned w64 c.number-in-len7.result = search rules in
    let f2 : FitsSigned w64 c.number-in-len7-2.result = search rules in
    let f3 : FitsSigned w64 c.number-in-len7-3.result = search rules in
    let f4 : FitsSigned w64 c.number-in-len7-4.result = search rules in
    let f5 : FitsSigned w64 c.number-in-len7-5.result = search rules in
    let f6 : FitsSigned w64 c.number-in-len7-6.result = search rules in
    simp to_z-of_z at c.drive_at.ensures ∙ drive_seven c.args.words.now _ c.number.result c.number-in-len7.result c.number-in-len7-2.result c.number-in-len7-3.result c.number-in-len7-4.result c.number-in-len7-5.result c.number-in-len7-6.result (omega arith) (omega arith) c.number.ensures c.number-in-len7.ensures c.number-in-len7-2.ensures c.number-in-len7-3.ensures c.number-in-len7-4.ensures c.number-in-len7-5.ensures c.number-in-len7-6.ensures
