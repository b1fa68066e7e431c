use Rattle.std.proofs.Common.{[], sym, subst}
use Rattle.std.proofs.lemmas.Result.{err_from_is_err_and}
use Rattle.apt_words.specs.Answers.{IsFault}
use Rattle.apt_cldata.specs.Reading as spec
use Rattle.apt_clreader.proofs.HeldLaws.{fault_of_file}
use Rattle.apt_clreader.proofs.reader.read_value.Goals as goal

pub returns-in_err-feed : goal.returns-in_err-feed
returns-in_err-feed c =
    let e = c.in_err-feed.field-0.0 in
    let error = err_from_is_err_and c.from_residual.result c.from_residual.ensures.1 in
    rw (error.1) (subst (IsFault spec.fault_in (spec.read_of c.args.bytes.now)) (sym error.2) (fault_of_file c.args.bytes.now e (c.in_err-feed.ensures.stands [] c.new.ensures.stands)))
