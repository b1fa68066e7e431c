use Rattle.std.proofs.Common.{refl, arith, inr, FitsSigned, w64}
use Rattle.std.proofs.lemmas.Int.{ints, to_z-of_z}
use Rattle.apt_plane.specs.Distances.{about, InBand}
use Rattle.apt_plane.specs.Segments.{start_spot, end_spot}
use Rattle.apt_plane.proofs.SegmentLaws.{holds_by, fails_by, start_tells, end_tells, not_all}
use Rattle.apt_plane.proofs.RingLaws.{all_in_ring, foot_outside}
use Rattle.apt_plane.proofs.rings.segment_in_ring.Goals as goal

pub returns-then-not-is_in_ring-clause-all : goal.returns-then-not-is_in_ring-clause-all
returns-then-not-is_in_ring-clause-all c =
    let a = c.args in
    let start = fails_by _ _ c.if-not-is_in_ring.true c.is_in_ring.ensures in
    not_all (about a.c) (InBand (about a.c) a.band) a.p a.q start_spot (start_tells (about a.c) (InBand (about a.c) a.band) a.p a.q start)

pub returns-then-not-is_in_ring-2-clause-all : goal.returns-then-not-is_in_ring-2-clause-all
returns-then-not-is_in_ring-2-clause-all c =
    let a = c.args in
    let start = holds_by _ _ c.if-not-is_in_ring.false c.is_in_ring.ensures in
    let end = fails_by _ _ c.if-not-is_in_ring-2.true c.is_in_ring-else-not-is_in_ring.ensures in
    not_all (about a.c) (InBand (about a.c) a.band) a.p a.q end_spot (end_tells (about a.c) (InBand (about a.c) a.band) a.p a.q start end)

pub returns-then-not-is_in_ring-2-clause-first : goal.returns-then-not-is_in_ring-2-clause-first
returns-then-not-is_in_ring-2-clause-first c =
    let a = c.args in
    let start = holds_by _ _ c.if-not-is_in_ring.false c.is_in_ring.ensures in
    let end = fails_by _ _ c.if-not-is_in_ring-2.true c.is_in_ring-else-not-is_in_ring.ensures in
    end_tells (about a.c) (InBand (about a.c) a.band) a.p a.q start end

pub returns-in-Some-clause-all : goal.returns-in-Some-clause-all
returns-in-Some-clause-all c =
    let a = c.args in
    let flo : FitsSigned w64 a.band.lo = omega (arith, ints) in
    let start = holds_by _ _ c.if-not-is_in_ring.false c.is_in_ring.ensures in
    let end = holds_by _ _ c.if-not-is_in_ring-2.false c.is_in_ring-else-not-is_in_ring.ensures in
    let foot = simp to_z-of_z at (rw c.in-Some.is at c.nearer_foot.ensures.some) in
    not_all (about a.c) (InBand (about a.c) a.band) a.p a.q c.in-Some.spot (inr (foot_outside a.c a.p a.q a.band c.in-Some.spot start end foot))

pub returns-in-Some-clause-first : goal.returns-in-Some-clause-first
returns-in-Some-clause-first c =
    let a = c.args in
    let flo : FitsSigned w64 a.band.lo = omega (arith, ints) in
    let start = holds_by _ _ c.if-not-is_in_ring.false c.is_in_ring.ensures in
    let end = holds_by _ _ c.if-not-is_in_ring-2.false c.is_in_ring-else-not-is_in_ring.ensures in
    let foot = simp to_z-of_z at (rw c.in-Some.is at c.nearer_foot.ensures.some) in
    inr (foot_outside a.c a.p a.q a.band c.in-Some.spot start end foot)

pub returns-in-None-clause-all : goal.returns-in-None-clause-all
returns-in-None-clause-all c =
    let a = c.args in
    let flo : FitsSigned w64 a.band.lo = omega (arith, ints) in
    let start = holds_by _ _ c.if-not-is_in_ring.false c.is_in_ring.ensures in
    let end = holds_by _ _ c.if-not-is_in_ring-2.false c.is_in_ring-else-not-is_in_ring.ensures in
    let over = simp to_z-of_z at (rw c.in-None.is at c.nearer_foot.ensures.none) refl in
    (λ e. all_in_ring a.c a.p a.q a.band start end over, λ all. refl)
