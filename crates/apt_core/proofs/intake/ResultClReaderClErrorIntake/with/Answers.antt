use Rattle.std.proofs.lemmas.Result.{err_from_is_err_and}
use Rattle.apt_words.specs.Answers.{IsFault}
use Rattle.apt_cldata.specs.Reading.{read_of, fault_in}
use Rattle.apt_core.proofs.Intakes.{holds_still}
use Rattle.apt_core.proofs.intake.ResultClReaderClErrorIntake.with.Goals as goal

pub returns-in_err-self-clause-has : goal.returns-in_err-self-clause-has
returns-in_err-self-clause-has c =
    let error = err_from_is_err_and c.from_residual.result c.from_residual.ensures.1 in
    λ begun front run. rw (error.1, error.2) (holds_still (λ file. IsFault fault_in (read_of file) c.in_err-self.field-0.0) front c.args.piece.now (rw c.in_err-self.was at run))
