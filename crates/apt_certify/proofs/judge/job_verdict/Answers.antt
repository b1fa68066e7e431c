use Rattle.std.proofs.Common.{FitsSigned, w8}
use Rattle.std.proofs.lemmas.Int.{to_z-of_z}
use Rattle.apt_certify.proofs.Single.{sense_fits, of_points}
use Rattle.apt_certify.proofs.judge.job_verdict.Goals as goal

pub returns-clause-verdict : goal.returns-clause-verdict
returns-clause-verdict c =
    let sign : FitsSigned w8 c.args.job.now.out_sign = sense_fits c.args.job.now.out_sign c.requires.out_sign in
    of_points c.args.job.now c.all.result.now c.path_verdict.result c.all.ensures (simp to_z-of_z at c.path_verdict.ensures.verdict)
