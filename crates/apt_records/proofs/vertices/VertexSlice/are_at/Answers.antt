use Rattle.std.proofs.Common.{rules, ◌∙◌, sym, ap, arith, int_eq, w64}
use Rattle.std.specs.Prelude.{FitsSigned}
use Rattle.std.specs.List.{list_all}
use Rattle.std.proofs.lemmas.Bool.{true≢false}
use Rattle.std.proofs.lemmas.Bool.Decides.{nat_tests}
use Rattle.std.proofs.lemmas.Int.{to_z-of_z}
use Rattle.apt_records.specs.declared.record.Position.{Position}
use Rattle.apt_records.proofs.Heights.{none_level, same_at, none_at}
use Rattle.apt_records.proofs.vertices.VertexSlice.are_at.Goals.{then-is_empty, else-is_empty}
use Rattle.apt_records.proofs.vertices.VertexSlice.are_at.Goals as goal

pub returns-then-is_same : goal.returns-then-is_same
returns-then-is_same c =
    let s = c.self.inside in
    let z = c.args.z in
    let all = ap (list_all (λ (p : Position). int_eq p.z z)) c.self.view_is in
    let behind = rw (to_z-of_z w64 z c.ranges.z) at c.are_at.ensures in
    behind ∙ elim c.if-is_empty.branch [
      | then-is_empty w ↦ let e = sym c.is_empty.ensures ∙ w.if-is_empty.true in sym (none_level z s.z s.level.now s.apart.now (grind (arith, nat_tests, e)))
      | else-is_empty w ↦
          let f : FitsSigned w64 s.z = search rules in
          let same = rw (to_z-of_z w64 s.z f, to_z-of_z w64 z c.ranges.z) at w.is_same.ensures in
          sym (same_at z s.z s.level.now s.apart.now (sym same ∙ sym w.value-is ∙ c.if-is_same.true))
    ] ∙ all

pub returns-else-is_same : goal.returns-else-is_same
returns-else-is_same c =
    let s = c.self.inside in
    let z = c.args.z in
    let all = ap (list_all (λ (p : Position). int_eq p.z z)) c.self.view_is in
    elim c.if-is_empty.branch [
      | then-is_empty w ↦ absurd (true≢false (sym w.if-is_empty.true ∙ sym w.value-is ∙ c.if-is_same.false))
      | else-is_empty w ↦
          let e = sym c.is_empty.ensures ∙ w.if-is_empty.false in
          let f : FitsSigned w64 s.z = search rules in
          let same = rw (to_z-of_z w64 s.z f, to_z-of_z w64 z c.ranges.z) at w.is_same.ensures in
          c.if-is_same.false ∙ sym (none_at z s.z s.level.now s.apart.now (grind (arith, nat_tests, e)) (sym same ∙ sym w.value-is ∙ c.if-is_same.false)) ∙ all
    ]
