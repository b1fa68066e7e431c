use Rattle.apt_records.specs.declared.record.Record.TheVariants as records
use Rattle.apt_meaning.specs.Motions.{has_track}
use Rattle.apt_job.specs.Fronts.{points_at}
use Rattle.apt_job.proofs.InFront.{next_if, cut_said, two_said, cut_departs}
use Rattle.apt_job.proofs.fronts.cut.Goals as goal

pub returns-in_default-contour-clause-said : goal.returns-in_default-contour-clause-said
returns-in_default-contour-clause-said c =
    let drive = c.in-Some.behind_drive in
    let check = c.in-Some-check.behind_check in
    cut_departs c.args.m.now c.args.legs c.args.records.now drive.rest.now check.rest.now
    (points_at drive.vertices) (points_at check.vertices) c.in-Some.ensures c.in-Some-check.ensures c.in_default-contour.ensures

pub returns-in-One-clause-said : goal.returns-in-One-clause-said
returns-in-One-clause-said c =
    let drive = c.in-Some.behind_drive in
    let check = c.in-Some-check.behind_check in
    let first = c.in-Some-contour.first in
    cut_said c.args.m.now c.args.legs c.args.records.now drive.rest.now check.rest.now first.rest.now
    (points_at drive.vertices) (points_at check.vertices) (points_at first.vertices) c.in-One.is c.in-Some.ensures c.in-Some-check.ensures c.in-Some-contour.ensures

pub returns-in-Some-contour-2-clause-said : goal.returns-in-Some-contour-2-clause-said
returns-in-Some-contour-2-clause-said c =
    let drive = c.in-Some.behind_drive in
    let check = c.in-Some-check.behind_check in
    let first = c.in-Some-contour.first in
    let second = c.in-Some-contour-2.second in
    two_said c.args.m.now c.args.legs c.args.records.now drive.rest.now check.rest.now first.rest.now second.rest.now
    (points_at drive.vertices) (points_at check.vertices) (points_at first.vertices) (points_at second.vertices) c.in-Two.is c.in-Some.ensures c.in-Some-check.ensures
    c.in-Some-contour.ensures c.in-Some-contour-2.ensures

pub check-requires-clause-track : goal.check-requires-clause-track
check-requires-clause-track c =
    let m = c.args.m.now in
    let drive = c.in-Some.behind_drive in
    (next_if (has_track m) (records.Drive m.drive m.side m.sense) c.args.records.now (points_at drive.vertices) drive.rest.now c.in-Some.ensures).0
