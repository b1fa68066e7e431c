use Rattle.std.proofs.Common.{rules, ◌≡◌, ◌∙◌, List, subst, sym, ap, false, int_eq, w64}
use Rattle.std.specs.Prelude.{FitsSigned}
use Rattle.std.specs.List.{list_all}
use Rattle.std.proofs.lemmas.Int.{to_z-of_z}
use Rattle.apt_records.specs.declared.record.Position.{Position}
use Rattle.apt_records.specs.declared.record.Record.{Record}
use Rattle.apt_meaning.specs.Expectations.{VerticesAt, Meets}
use Rattle.apt_job.specs.Fronts.{points_at}
use Rattle.apt_job.proofs.InFront.{one_height, not_one_height}
use Rattle.apt_job.proofs.fronts.vertices_at.Goals as goal

pub returns-then-are_at : goal.returns-then-are_at
returns-then-are_at c =
    let z = c.args.start.z in
    let ps = c.all-all.result in
    let f : FitsSigned w64 z = search rules in
    let at = rw (to_z-of_z w64 z f) at c.are_at.ensures in
    let level = sym c.all-all.ensures ∙ one_height z ps (sym at ∙ c.if-are_at.true) in
    subst (λ (r : Record). Meets (VerticesAt z) r (points_at ps)) (sym c.in-Contour.is) level

pub returns-else-are_at : goal.returns-else-are_at
returns-else-are_at c = λ m.
    let z = c.args.start.z in
    let ps = c.in-Contour.vertices in
    let f : FitsSigned w64 z = search rules in
    let at = rw (to_z-of_z w64 z f) at c.are_at.ensures in
    let e : list_all (λ p. int_eq p.z z) ps ≡ false = ap (λ (ps : List Position). list_all (λ p. int_eq p.z z) ps) (sym c.all-all.ensures) ∙ sym at ∙ c.if-are_at.false in
    let met = subst (λ (r : Record). Meets (VerticesAt z) r m.0) c.in-Contour.is m.1 in
    not_one_height z ps m.0 e met
