use Rattle.std.proofs.Common.{rules, sym, ◌∙◌, arith}
use Rattle.std.specs.Prelude.{FitsSigned}
use Rattle.std.specs.Int.{w64}
use Rattle.std.proofs.lemmas.Int.{to_z-of_z}
use Rattle.apt_cldata.proofs.Triples.{one_triple}
use Rattle.apt_cldata.proofs.entries.positions_by.Goals as goal

pub returns-in-Ok : goal.returns-in-Ok
returns-in-Ok c =
    let x : FitsSigned w64 c.number.result = search rules in
    let y : FitsSigned w64 c.number-in-len3.result = search rules in
    let z : FitsSigned w64 c.number-in-len3-2.result = search rules in
    let e = simp to_z-of_z at c.position_by.ensures in
    rw c.one.ensures (one_triple c.args.words.now _ c.number.result c.number-in-len3.result c.number-in-len3-2.result c.in-Ok.position (omega arith) (omega arith) c.number.ensures c.number-in-len3.ensures c.number-in-len3-2.ensures (sym c.in-Ok.is ∙ e))
