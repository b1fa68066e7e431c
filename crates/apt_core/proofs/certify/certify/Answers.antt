use Rattle.std.proofs.lemmas.Result.{err_from_is_err_and}
use Rattle.apt_core.specs.Request.{four_names}
use Rattle.apt_core.specs.Inputs.{files_on}
use Rattle.apt_core.proofs.Judging.{stopped_certifies, judged_certifies}
use Rattle.apt_core.proofs.certify.certify.Goals as goal

pub returns-in_err-evidence : goal.returns-in_err-evidence
returns-in_err-evidence g c =
    let error = err_from_is_err_and c.from_residual.result c.from_residual.ensures.1 in
    let e = c.in_err-evidence.ensures in
    rw (error.1, error.2) (stopped_certifies (four_names c.args.names) (files_on g.H.Shelf c.args.shelf.now) (files_on g.H.Shelf c.evidence_of.new.shelf) _ e.read e.stopped)

pub returns : goal.returns
returns g c =
    let e = c.in_ok-evidence.ensures in
    let is = e.evidence in
    judged_certifies (four_names c.args.names) c.in_ok-evidence.evidence.text.items is.0 is.1 is.2 (files_on g.H.Shelf c.args.shelf.now) (files_on g.H.Shelf c.evidence_of.new.shelf) _ e.read is.3
    (c.judge_evidence.ensures is.0 is.1 is.2 is.4)
