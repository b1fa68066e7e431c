use Rattle.std.proofs.Common.{arith, FitsSigned, w64}
use Rattle.std.proofs.lemmas.Int.{ints, to_z-of_z}
use Rattle.std.proofs.lemmas.Result.{IfErr-weaker}
use Rattle.apt_num.specs.declared.Sign.TheVariants as signs
use Rattle.apt_plane.specs.Distances.{EveryPoint}
use Rattle.apt_plane.specs.Segments.{IsFirstEnd, IsFirstOff}
use Rattle.apt_plane.proofs.SegmentLaws.{end_is_first}
use Rattle.apt_offset.specs.Edges.{IsWithinEdge}
use Rattle.apt_offset.proofs.Spots.{is_none, is_first}
use Rattle.apt_offset.proofs.edges.overruns.Goals as goal

pub returns-in-Plus-clause-none : goal.returns-in-Plus-clause-none
returns-in-Plus-clause-none c =
    let a = c.args in
    let fits : FitsSigned w64 a.band.hi = omega (arith, ints) in
    rw c.in-Plus.is (is_none c.segment_under.result c.off.result (EveryPoint a.p a.q (IsWithinEdge a.check.now a.band signs.Plus)) c.off.ensures (simp to_z-of_z at c.segment_under.ensures.all))

pub returns-in-Plus-clause-first : goal.returns-in-Plus-clause-first
returns-in-Plus-clause-first c =
    let a = c.args in
    let fits : FitsSigned w64 a.band.hi = omega (arith, ints) in
    let under = IsWithinEdge a.check.now a.band signs.Plus in
    rw c.in-Plus.is (is_first c.segment_under.result c.off.result (λ s. IsFirstOff a.check.now under a.p a.q s) c.off.ensures
    (IfErr-weaker c.segment_under.result (λ s. IsFirstEnd under a.p a.q s) (λ s. IsFirstOff a.check.now under a.p a.q s) (λ s end. end_is_first a.check.now under a.p a.q s end) (simp to_z-of_z at c.segment_under.ensures.first)))

pub returns-in-Minus-clause-none : goal.returns-in-Minus-clause-none
returns-in-Minus-clause-none c =
    let a = c.args in
    let fits : FitsSigned w64 a.band.lo = omega (arith, ints) in
    rw c.in-Minus.is (is_none c.segment_over.result c.off-in-Minus.result (EveryPoint a.p a.q (IsWithinEdge a.check.now a.band signs.Minus)) c.off-in-Minus.ensures (simp to_z-of_z at c.segment_over.ensures.all))

pub returns-in-Minus-clause-first : goal.returns-in-Minus-clause-first
returns-in-Minus-clause-first c =
    let a = c.args in
    let fits : FitsSigned w64 a.band.lo = omega (arith, ints) in
    rw c.in-Minus.is (is_first c.segment_over.result c.off-in-Minus.result (λ s. IsFirstOff a.check.now (IsWithinEdge a.check.now a.band signs.Minus) a.p a.q s) c.off-in-Minus.ensures (simp to_z-of_z at c.segment_over.ensures.first))
