use Rattle.apt_job.proofs.InAndOut.{jobs_tell}
use Rattle.apt_job.proofs.Walks.{jobs_are_said, entry_told}
use Rattle.apt_job.proofs.walk.jobs.Goals as goal

pub returns-clause-said : goal.returns-clause-said
returns-clause-said c = jobs_are_said c.args.steps.now c.args.records.items c.jobs_value.result c.jobs_value.ensures.jobs

pub returns-clause-entry_at : goal.returns-clause-entry_at
returns-clause-entry_at c = entry_told c.args.steps.now c.args.records.items c.jobs_value.result c.jobs_value.ensures.jobs c.jobs_value.ensures.entry

pub returns-clause-in_and_out : goal.returns-clause-in_and_out
returns-clause-in_and_out c = jobs_tell c.args.records.items c.jobs_value.result (jobs_are_said c.args.steps.now c.args.records.items c.jobs_value.result c.jobs_value.ensures.jobs)
