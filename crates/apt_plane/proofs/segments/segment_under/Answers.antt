use Rattle.std.proofs.Common.{refl, inl, inr, FitsSigned, w64}
use Rattle.std.proofs.lemmas.Int.{to_z-of_z}
use Rattle.apt_plane.specs.Distances.{IsUnder}
use Rattle.apt_plane.specs.Segments.{start_spot, end_spot}
use Rattle.apt_plane.proofs.SegmentLaws.{holds_by, fails_by, end_not_all}
use Rattle.apt_plane.proofs.RingLaws.{all_under}
use Rattle.apt_plane.proofs.segments.segment_under.Goals as goal

pub returns-then-not-is_under-clause-all : goal.returns-then-not-is_under-clause-all
returns-then-not-is_under-clause-all c =
    let a = c.args in
    let fits : FitsSigned w64 a.hi = c.ranges.hi in
    let start = fails_by _ _ c.if-not-is_under.true (simp to_z-of_z at c.is_under.ensures) in
    end_not_all (IsUnder a.surface.now a.hi) a.p a.q start_spot (inl (refl, start))

pub returns-then-not-is_under-2-clause-all : goal.returns-then-not-is_under-2-clause-all
returns-then-not-is_under-2-clause-all c =
    let a = c.args in
    let fits : FitsSigned w64 a.hi = c.ranges.hi in
    let start = holds_by _ _ c.if-not-is_under.false (simp to_z-of_z at c.is_under.ensures) in
    let end = fails_by _ _ c.if-not-is_under-2.true (simp to_z-of_z at c.is_under-else-not-is_under.ensures) in
    end_not_all (IsUnder a.surface.now a.hi) a.p a.q end_spot (inr (refl, start, end))

pub returns-else-not-is_under-2-clause-all : goal.returns-else-not-is_under-2-clause-all
returns-else-not-is_under-2-clause-all c =
    let a = c.args in
    let fits : FitsSigned w64 a.hi = c.ranges.hi in
    let start = holds_by _ _ c.if-not-is_under.false (simp to_z-of_z at c.is_under.ensures) in
    let end = holds_by _ _ c.if-not-is_under-2.false (simp to_z-of_z at c.is_under-else-not-is_under.ensures) in
    (λ e. all_under a.surface.now a.hi a.p a.q start end, λ all. refl)
