use Rattle.std.proofs.lemmas.Result.{err_from_is_err_and}
use Rattle.apt_words.specs.Answers.{IsFault}
use Rattle.apt_cldata.specs.Reading.{read_of, fault_in}
use Rattle.apt_core.proofs.Intakes.{holds_whole}
use Rattle.apt_core.proofs.intake.records_of.Goals as goal

pub returns-in_err-run-clause-value : goal.returns-in_err-run-clause-value
returns-in_err-run-clause-value c =
    let error = err_from_is_err_and c.from_residual.result c.from_residual.ensures.1 in
    λ cl run. rw (error.1, error.2) (holds_whole (λ file. IsFault fault_in (read_of file) c.in_err-run.field-0.0) cl (rw c.in_err-run.was at run))
