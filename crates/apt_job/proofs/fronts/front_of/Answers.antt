use Rattle.apt_certify.proofs.Faulty.{untrue}
use Rattle.apt_job.specs.Fronts.{points_at}
use Rattle.apt_job.proofs.InFront.{departs_later}
use Rattle.apt_job.proofs.fronts.front_of.Goals as goal

pub returns-in-Err-clause-taken : goal.returns-in-Err-clause-taken
returns-in-Err-clause-taken c = λ here is.
    let behind = c.in-Some.behind in
    departs_later here c.args.step.now c.args.effect.now c.args.records.now behind.rest.now (points_at behind.vertices) c.in-Err.fitting is
    (untrue _ c.if-is_silent.ensures) c.in-Some.ensures c.in-Err.ensures.said
