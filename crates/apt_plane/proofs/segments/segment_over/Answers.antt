use Rattle.std.proofs.Common.{refl, FitsSigned, w64}
use Rattle.std.proofs.lemmas.Int.{to_z-of_z}
use Rattle.apt_plane.specs.Distances.{IsOver}
use Rattle.apt_plane.specs.Segments.{start_spot, end_spot}
use Rattle.apt_plane.proofs.SegmentLaws.{holds_by, fails_by, start_tells, end_tells, not_all}
use Rattle.apt_plane.proofs.RingLaws.{all_over_line, all_over_circle, foot_tells}
use Rattle.apt_plane.proofs.segments.segment_over.Goals as goal

pub returns-then-not-is_over-clause-all : goal.returns-then-not-is_over-clause-all
returns-then-not-is_over-clause-all c =
    let a = c.args in
    let fits : FitsSigned w64 a.lo = c.ranges.lo in
    let start = fails_by _ _ c.if-not-is_over.true (simp to_z-of_z at c.is_over.ensures) in
    not_all a.surface.now (IsOver a.surface.now a.lo) a.p a.q start_spot (start_tells a.surface.now (IsOver a.surface.now a.lo) a.p a.q start)

pub returns-then-not-is_over-clause-first : goal.returns-then-not-is_over-clause-first
returns-then-not-is_over-clause-first c =
    let a = c.args in
    let fits : FitsSigned w64 a.lo = c.ranges.lo in
    let start = fails_by _ _ c.if-not-is_over.true (simp to_z-of_z at c.is_over.ensures) in
    start_tells a.surface.now (IsOver a.surface.now a.lo) a.p a.q start

pub returns-then-not-is_over-2-clause-all : goal.returns-then-not-is_over-2-clause-all
returns-then-not-is_over-2-clause-all c =
    let a = c.args in
    let fits : FitsSigned w64 a.lo = c.ranges.lo in
    let start = holds_by _ _ c.if-not-is_over.false (simp to_z-of_z at c.is_over.ensures) in
    let end = fails_by _ _ c.if-not-is_over-2.true (simp to_z-of_z at c.is_over-2.ensures) in
    not_all a.surface.now (IsOver a.surface.now a.lo) a.p a.q end_spot (end_tells a.surface.now (IsOver a.surface.now a.lo) a.p a.q start end)

pub returns-then-not-is_over-2-clause-first : goal.returns-then-not-is_over-2-clause-first
returns-then-not-is_over-2-clause-first c =
    let a = c.args in
    let fits : FitsSigned w64 a.lo = c.ranges.lo in
    let start = holds_by _ _ c.if-not-is_over.false (simp to_z-of_z at c.is_over.ensures) in
    let end = fails_by _ _ c.if-not-is_over-2.true (simp to_z-of_z at c.is_over-2.ensures) in
    end_tells a.surface.now (IsOver a.surface.now a.lo) a.p a.q start end

pub returns-in-Line-clause-all : goal.returns-in-Line-clause-all
returns-in-Line-clause-all c =
    let a = c.args in
    let fits : FitsSigned w64 a.lo = c.ranges.lo in
    let start = holds_by _ _ c.if-not-is_over.false (simp to_z-of_z at c.is_over.ensures) in
    let end = holds_by _ _ c.if-not-is_over-2.false (simp to_z-of_z at c.is_over-2.ensures) in
    (λ e. all_over_line a.surface.now c.in-Line.field-0 a.lo a.p a.q c.in-Line.is start end, λ all. refl)

pub returns-in-Some-clause-all : goal.returns-in-Some-clause-all
returns-in-Some-clause-all c =
    let a = c.args in
    let fits : FitsSigned w64 a.lo = c.ranges.lo in
    let foot = simp to_z-of_z at (rw c.in-Some.is at c.nearer_foot.ensures.some) in
    not_all a.surface.now (IsOver a.surface.now a.lo) a.p a.q c.in-Some.spot (foot_tells a.surface.now c.in-Circ.circle a.lo a.p a.q c.in-Some.spot c.in-Circ.is foot)

pub returns-in-Some-clause-first : goal.returns-in-Some-clause-first
returns-in-Some-clause-first c =
    let a = c.args in
    let fits : FitsSigned w64 a.lo = c.ranges.lo in
    let foot = simp to_z-of_z at (rw c.in-Some.is at c.nearer_foot.ensures.some) in
    foot_tells a.surface.now c.in-Circ.circle a.lo a.p a.q c.in-Some.spot c.in-Circ.is foot

pub returns-in-None-clause-all : goal.returns-in-None-clause-all
returns-in-None-clause-all c =
    let a = c.args in
    let fits : FitsSigned w64 a.lo = c.ranges.lo in
    let over = simp to_z-of_z at (rw c.in-None.is at c.nearer_foot.ensures.none) refl in
    (λ e. all_over_circle a.surface.now c.in-Circ.circle a.lo a.p a.q c.in-Circ.is over, λ all. refl)
