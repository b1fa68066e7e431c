use Rattle.std.proofs.Common.{rules, sym, ◌∙◌, arith}
use Rattle.std.specs.Prelude.{FitsSigned}
use Rattle.std.specs.Int.{w64}
use Rattle.std.proofs.lemmas.Int.{to_z-of_z}
use Rattle.std.proofs.lemmas.Bool.Decides.{nat_tests}
use Rattle.apt_cldata.proofs.Triples.{triples_more, triples_left, triples_short}
use Rattle.apt_cldata.proofs.entries.many_positions.Goals as goal

pub triples-preserved : goal.triples-preserved
triples-preserved c =
    let x : FitsSigned w64 c.number.result = search rules in
    let y : FitsSigned w64 c.number-in-len3-up.result = search rules in
    let z : FitsSigned w64 c.number-in-len3-up-2.result = search rules in
    let rest = c.triples.rest.now in
    let e = simp to_z-of_z at c.position_by.ensures in
    let more = triples_more c.triples.list.items c.triples.i rest _ c.number.result c.number-in-len3-up.result c.number-in-len3-up-2.result c.in-Ok.position (omega arith) c.number.ensures c.number-in-len3-up.ensures c.number-in-len3-up-2.ensures (sym c.in-Ok.is ∙ e) in
    record {
      read = rw (c.push_reserved.ensures.items) (more ∙ c.triples.invariant.read);
      place = omega (arith, triples_left rest (omega arith));
      room = omega (arith, triples_left rest (omega arith), c.push_reserved.ensures.len, c.push_reserved.ensures.capacity);
    }

pub returns-else-is_empty : goal.returns-else-is_empty
returns-else-is_empty c = sym (triples_short c.triples.list.items c.triples.i c.triples.rest.now (grind (arith, nat_tests)) (omega arith)) ∙ c.triples.invariant.read
