use Rattle.std.proofs.lemmas.Result.{err_from_is_err_and}
use Rattle.apt_core.proofs.TapeRuns.{run_goes_on, run_stays}
use Rattle.apt_core.proofs.intake.ResultTapeRunControlErrorIntake.with.Goals as goal

pub returns-in_err-self-clause-has : goal.returns-in_err-self-clause-has
returns-in_err-self-clause-has g c =
    let error = err_from_is_err_and c.from_residual.result c.from_residual.ensures.1 in
    λ begun front run. rw (error.1, error.2) (run_stays g.T.Taker.has begun front c.args.piece.now _ (rw c.in_err-self.was at run))

pub returns-clause-has : goal.returns-clause-has
returns-clause-has g c = λ begun front run. run_goes_on g.T.Taker.has begun front c.args.piece.now c.in_ok-self.field-0 c.feed.result c.feed.ensures.run (rw c.in_ok-self.was at run)
