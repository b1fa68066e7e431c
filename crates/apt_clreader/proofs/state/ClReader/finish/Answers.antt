use Rattle.std.proofs.Common.{◌+◌, length, sym, subst}
use Rattle.std.proofs.lemmas.Result.{err_from_is_err_and}
use Rattle.apt_words.specs.Answers.{IsFault, IsDueAs}
use Rattle.apt_cldata.specs.Reading as spec
use Rattle.apt_cldata.specs.declared.error.ClCause.TheVariants as causes
use Rattle.apt_cldata.specs.declared.error.ClError.TheVariants as errors
use Rattle.apt_clreader.specs.declared.state.Part.TheVariants as parts
use Rattle.apt_clreader.specs.Begun.{IsBegun}
use Rattle.apt_clreader.proofs.FirstLaws.{cut_is_fault}
use Rattle.apt_clreader.proofs.HeldLaws.{record_of_file, head_of_file, none_of_file}
use Rattle.apt_clreader.proofs.state.ClReader.finish.Goals as goal

pub returns-in-Records-clause-value : goal.returns-in-Records-clause-value
returns-in-Records-clause-value c = λ file stands.
    let reader = c.args.self in
    let cut : IsBegun parts.Records reader.records.items reader.at reader.end reader.held.items = subst (λ p. IsBegun p reader.records.items reader.at reader.end reader.held.items) c.in-Records.is reader.begun in
    record_of_file reader file (errors.Bad reader.end causes.Truncated) stands c.in-Records.is (cut_is_fault (spec.first_of (length reader.records.items + 1) reader.at reader.held.items) reader.end cut.0 cut.1)

pub returns-in_err-read_head-in-Head-clause-value : goal.returns-in_err-read_head-in-Head-clause-value
returns-in_err-read_head-in-Head-clause-value c = λ file stands.
    let reader = c.args.self in
    let e = c.in_err-read_head-in-Head.field-0.0 in
    let fails = subst (λ b. IsFault spec.fault_in (spec.head_in b) e) c.deref.ensures.value c.in_err-read_head-in-Head.ensures.value in
    let error = err_from_is_err_and c.from_residual.result c.from_residual.ensures.1 in
    rw (error.1) (subst (IsFault spec.fault_in (spec.read_of file)) (sym error.2) (head_of_file reader file e stands c.in-Head.is fails))

pub returns-in-Nothing-clause-value : goal.returns-in-Nothing-clause-value
returns-in-Nothing-clause-value c = λ file stands.
    subst (λ due. IsDueAs (λ v. v.items) spec.fault_in due c.check_count.result) (sym (none_of_file c.args.self file stands c.in-Nothing.is)) c.check_count.ensures.value
