use Rattle.std.proofs.Common.{refl, FitsSigned, w64}
use Rattle.std.proofs.lemmas.Int.{to_z-of_z}
use Rattle.apt_plane.specs.Distances.{IsOver}
use Rattle.apt_plane.proofs.SegmentLaws.{holds_by}
use Rattle.apt_plane.proofs.RingLaws.{all_over_line}
use Rattle.apt_certify.proofs.Edges.{none_tells, end_untrue}
use Rattle.apt_certify.proofs.Faulty.{untrue}
use Rattle.apt_certify.proofs.onwards.stays_over.Goals as goal

pub returns-then-not-is_at_least : goal.returns-then-not-is_at_least
returns-then-not-is_at_least c =
    let a = c.args in
    let lo : FitsSigned w64 a.lo = c.ranges.lo in
    end_untrue (IsOver a.surface.now a.lo) a.p a.q (untrue _ (simp to_z-of_z at c.if-not-is_at_least.ensures))

pub returns-in-Line : goal.returns-in-Line
returns-in-Line c =
    let a = c.args in
    let lo : FitsSigned w64 a.lo = c.ranges.lo in
    let end = holds_by _ _ c.if-not-is_at_least.false (simp to_z-of_z at c.is_at_least.ensures) in
    (λ _. all_over_line a.surface.now c.in-Line.field-0 a.lo a.p a.q c.in-Line.is c.requires.here end, λ _. refl)

pub returns-in-Circ : goal.returns-in-Circ
returns-in-Circ c =
    let a = c.args in
    let lo : FitsSigned w64 a.lo = c.ranges.lo in
    none_tells a.surface.now c.in-Circ.circle a.lo a.p a.q c.nearer_foot.result c.is_none.result c.in-Circ.is c.is_none.ensures
    (simp to_z-of_z at c.nearer_foot.ensures.none) (simp to_z-of_z at c.nearer_foot.ensures.some)
