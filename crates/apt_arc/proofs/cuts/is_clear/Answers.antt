use Rattle.std.proofs.Common.{FitsSigned, w64}
use Rattle.std.proofs.lemmas.Int.{to_z-of_z}
use Rattle.apt_arc.proofs.Clear.{none_tells, answer_is}
use Rattle.apt_arc.proofs.Tracks.{point_near, radius_fits, inner_fits, ends_over}
use Rattle.apt_arc.proofs.cuts.is_clear.Goals as goal

pub nearer_foot-requires-clause-start : goal.nearer_foot-requires-clause-start
nearer_foot-requires-clause-start c = point_near c.args.track.now c.args.a c.requires.track c.requires.start

pub nearer_foot-requires-clause-end : goal.nearer_foot-requires-clause-end
nearer_foot-requires-clause-end c = point_near c.args.track.now c.args.b c.requires.track c.requires.end

pub nearer_foot-requires-clause-start_over : goal.nearer_foot-requires-clause-start_over
nearer_foot-requires-clause-start_over c =
    let a = c.args in
    let radius = radius_fits a.track.now c.requires.track in
    let sag : FitsSigned w64 a.sag = c.ranges.sag in
    let inner = inner_fits a.track.now a.sag c.requires.track c.requires.sag in
    simp to_z-of_z (ends_over a.track.now a.sag a.a c.requires.track c.requires.sag c.requires.start)

pub nearer_foot-requires-clause-end_over : goal.nearer_foot-requires-clause-end_over
nearer_foot-requires-clause-end_over c =
    let a = c.args in
    let radius = radius_fits a.track.now c.requires.track in
    let sag : FitsSigned w64 a.sag = c.ranges.sag in
    let inner = inner_fits a.track.now a.sag c.requires.track c.requires.sag in
    simp to_z-of_z (ends_over a.track.now a.sag a.b c.requires.track c.requires.sag c.requires.end)

pub returns-clause-clear : goal.returns-clause-clear
returns-clause-clear c =
    let a = c.args in
    let radius = radius_fits a.track.now c.requires.track in
    let sag : FitsSigned w64 a.sag = c.ranges.sag in
    let inner = inner_fits a.track.now a.sag c.requires.track c.requires.sag in
    none_tells a.track.now a.sag a.a a.b c.nearer_foot.result c.is_none.result c.is_none.ensures (simp to_z-of_z at c.nearer_foot.ensures.none) (simp to_z-of_z at c.nearer_foot.ensures.some)

pub returns-clause-value : goal.returns-clause-value
returns-clause-value c = answer_is c.args.track.now c.args.sag c.args.a c.args.b c.is_none.result (returns-clause-clear c)
