use Rattle.std.proofs.lemmas.Result.{err_from_is_err_and}
use Rattle.apt_tape.proofs.Runs.{run_refused}
use Rattle.apt_tape.proofs.run.TapeRun.feed.Goals as goal

pub returns-in_err-reader-clause-run : goal.returns-in_err-reader-clause-run
returns-in_err-reader-clause-run g c =
    let error = err_from_is_err_and c.from_residual.result c.from_residual.ensures.1 in
    λ none circles code front run. rw (error.1, error.2) (run_refused (g.T.Taker.has none) circles code front c.args.piece.now c.args.self _ run c.in_err-reader.ensures.whole)
