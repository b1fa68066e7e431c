use Rattle.std.proofs.Common.{arith, pos, negsuc}
use Rattle.std.proofs.lemmas.Int.{ints}
use Rattle.std.proofs.lemmas.List.{drop_more, drop_all}
use Rattle.apt_certify.proofs.Past.{none_walked, walk_on, walk_done, walked_here}
use Rattle.apt_certify.proofs.deviations.deviations_from.Goals as goal

pub vertices-init : goal.vertices-init
vertices-init c =
    let a = c.args in (
      none_walked a.track.now (pos 1) a.start a.vertices.now _ c.further-most.result.over (omega (arith, ints)) c.further-most.ensures.over c.requires.start c.requires.moves c.requires.vertices,
      none_walked a.track.now (negsuc 0) a.start a.vertices.now _ c.further-most.result.under (omega (arith, ints)) c.further-most.ensures.under c.requires.start c.requires.moves c.requires.vertices,
      c.further-most.ensures.reaches,
    )

pub onwards-most-requires-clause-reaches : goal.onwards-most-requires-clause-reaches
onwards-most-requires-clause-reaches c = c.vertices.invariant.2

pub onwards-most-requires-clause-start : goal.onwards-most-requires-clause-start
onwards-most-requires-clause-start c = c.vertices.invariant.0.point

pub onwards-most-requires-clause-end : goal.onwards-most-requires-clause-end
onwards-most-requires-clause-end c =
    let a = c.args in
    let walked = rw (drop_more a.vertices.now c.vertices.q-index (record { x = pos 0; y = pos 0 }) c.vertices-test.true) at c.vertices.invariant.0 in
    walked.points.0

pub onwards-most-requires-clause-over : goal.onwards-most-requires-clause-over
onwards-most-requires-clause-over c = walked_here c.args.track.now (pos 1) c.args.start c.args.vertices.now c.vertices.at _ _ c.vertices.invariant.0

pub onwards-most-requires-clause-under : goal.onwards-most-requires-clause-under
onwards-most-requires-clause-under c = walked_here c.args.track.now (negsuc 0) c.args.start c.args.vertices.now c.vertices.at _ _ c.vertices.invariant.1

pub vertices-preserved : goal.vertices-preserved
vertices-preserved c =
    let a = c.args in
    let walked = rw (drop_more a.vertices.now c.vertices.q-index (record { x = pos 0; y = pos 0 }) c.vertices-test.true) at c.vertices.invariant in
    let more = c.onwards-most.ensures in (
      walk_on a.track.now (pos 1) a.start a.vertices.now c.vertices.at _ _ _ c.onwards-most.result.over more.over walked.0,
      walk_on a.track.now (negsuc 0) a.start a.vertices.now c.vertices.at _ _ _ c.onwards-most.result.under more.under walked.1,
      more.reaches,
    )

pub returns : goal.returns
returns c =
    let a = c.args in
    let walked = rw (drop_all c.vertices.q-index a.vertices.now c.vertices-test.false) at c.vertices.invariant in record {
      reaches = walked.2;
      over = walk_done a.track.now (pos 1) a.start a.vertices.now c.vertices.at _ walked.0;
      under = walk_done a.track.now (negsuc 0) a.start a.vertices.now c.vertices.at _ walked.1;
    }
